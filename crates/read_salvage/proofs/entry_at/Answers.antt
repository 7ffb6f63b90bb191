-- Bytes before the next CSEG are one entry; else CSEG stands at i, the piece goes on to the next one, and its first part is the entry.
use Rattle.read_salvage.proofs.Letters.{cseg_letters}
use Rattle.read_salvage.proofs.Steps.{next_here, entry_rest, entry_piece}
use borrow.Author.Rules.{rules}
use Rattle.read_salvage.proofs.entry_at.Goals as goal

pub returns-then-i-start : goal.returns-then-i-start
returns-then-i-start c = entry_rest _ _ _ (search rules) c.next_cseg-start.ensures

pub next_cseg-e-requires : goal.next_cseg-e-requires
next_cseg-e-requires c =
    let a = c.args in
    (cseg_letters a.i a.body.now (next_here _ _ _ c.next_cseg-start.ensures (search rules) (search rules))).long

pub returns : goal.returns
returns c =
    let d = c in
    entry_piece _ _ _ c.judge_piece.result.size c.judge_piece.result.kind (next_here _ _ _ d.next_cseg-start.ensures (search rules) (search rules)) d.next_cseg-e.ensures c.judge_piece.ensures
