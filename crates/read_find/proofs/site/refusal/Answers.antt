-- A refusal has nothing but its number.
use mathlib.Core.Path.{refl}
use Rattle.layout.specs.Answers.{number_of, place_of, value_or}
use Rattle.layout.specs.Chunks.{sited}
use Rattle.read_find.proofs.site.refusal.Goals as goal

pub returns : goal.returns
unfolding sited number_of place_of value_or
returns c = refl
