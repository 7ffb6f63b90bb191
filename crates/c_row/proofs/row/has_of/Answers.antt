-- `has_of` at the variant that the match found.
use mathlib.Core.Path.{sym, ap}
use Rattle.c_row.specs.Rows.{has_of}
use Rattle.c_row.proofs.row.has_of.Goals as goal

pub returns-in-None : goal.returns-in-None
unfolding has_of
returns-in-None c = sym (ap has_of c.in-None.is)

pub returns-in-Some : goal.returns-in-Some
unfolding has_of
returns-in-Some c = sym (ap has_of c.in-Some.is)
