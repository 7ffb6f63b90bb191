-- `edition_number` at the variant that the match found.
use mathlib.Core.Path.{sym, ap}
use Rattle.c_row.specs.Rows.{edition_number}
use Rattle.c_row.proofs.row.edition_number.Goals as goal

pub returns-in-First : goal.returns-in-First
unfolding edition_number
returns-in-First c = sym (ap edition_number c.in-First.is)

pub returns-in-Second : goal.returns-in-Second
unfolding edition_number
returns-in-Second c = sym (ap edition_number c.in-Second.is)
