-- `effective` at the variant that the match found.
use mathlib.Core.Path.{sym, ap}
use Rattle.layout.specs.Records.{SecondTable}
use Rattle.layout.specs.Place.{becomes, effective}
use Rattle.ask_place.proofs.choose.effective_table.Goals as goal

pub returns-in-Some : goal.returns-in-Some
unfolding effective
returns-in-Some c = sym (ap (λ (s : SecondTable). effective s c.args.table) c.in-Some.is)

pub returns-in-None : goal.returns-in-None
unfolding effective becomes
returns-in-None c = sym (ap (λ (s : SecondTable). effective s c.args.table) c.in-None.is)
