-- By computation.
use mathlib.Core.Path.{refl}
use Rattle.layout.specs.Answers.{number_of, place_of, value_or}
use Rattle.layout.specs.Place.{placed}
use Rattle.ask_place.proofs.told.Goals as goal

pub returns : goal.returns
unfolding placed number_of place_of value_or
returns c = refl
