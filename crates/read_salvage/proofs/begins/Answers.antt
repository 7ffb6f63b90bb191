-- Fewer than four bytes have no CSEG.
use mathlib.Core.Path.{sym, ◌∙◌}
use native.Mathlib.Omega.{arith}
use borrow.Author.Tests.{lt-leb}
use Rattle.read_salvage.proofs.Alone.{short_none}
use Rattle.read_salvage.proofs.begins.Goals as goal

pub returns-else-entry-ge4 : goal.returns-else-entry-ge4
returns-else-entry-ge4 c = lt-leb 4 _ (omega arith) ∙ sym (short_none _ (omega arith))
