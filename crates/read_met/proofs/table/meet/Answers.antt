-- The word is stored with the bits of the mark; one law says all that follows.
use borrow.Author.Rules.{rules}
use Rattle.read_met.proofs.Meetings.{meeting}
use Rattle.read_met.proofs.table.meet.Goals as goal

pub returns : goal.returns
returns c = meeting c.args.table.now c.args.mark (search rules) _ c.bits_of.ensures
