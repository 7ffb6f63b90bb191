-- `value_of` at the variant that the match found.
use mathlib.Core.Path.{sym, ap}
use Rattle.c_row.specs.Rows.{value_of}
use Rattle.c_row.proofs.row.value_of.Goals as goal

pub returns-in-None : goal.returns-in-None
unfolding value_of
returns-in-None c = sym (ap value_of c.in-None.is)

pub returns-in-Some : goal.returns-in-Some
unfolding value_of
returns-in-Some c = sym (ap value_of c.in-Some.is)
