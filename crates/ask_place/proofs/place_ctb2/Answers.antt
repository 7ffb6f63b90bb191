-- One law for each way out. A Ctb2 with no bad byte has limits that are notes.
use mathlib.Core.Path.{◌∙◌}
use Rattle.ask_place.proofs.Ways.{answers, placed_none, note_some, placed_bad, placed_set}
use Rattle.ask_place.proofs.Choosing.{table_of_ctb2, limits_made}
use Rattle.ask_place.proofs.place_ctb2.Goals as goal

pub returns-then-is_bad_number : goal.returns-then-is_bad_number
returns-then-is_bad_number c = c.refusal.ensures ∙ answers (placed_none _ _ _ _ _ _ c.is_bad_number.ensures c.if-is_bad_number.true)

pub returns-then-bad-lt-SECOND_RECORD : goal.returns-then-bad-lt-SECOND_RECORD
returns-then-bad-lt-SECOND_RECORD c =
    c.refusal-then-bad-lt-SECOND_RECORD.ensures ∙ answers (placed_bad _ _ _ _ _ _ c.is_bad_number.ensures c.if-is_bad_number.false _ c.first_bad_of-bad.ensures c.if-bad-lt-SECOND_RECORD.true)

pub place_by-requires : goal.place_by-requires
place_by-requires c =
    let a = c.args in
    (note_some a.root a.note _ c.is_bad_number.ensures c.if-is_bad_number.false, limits_made _ _ _ _ c.first_bad_of-bad.ensures c.if-bad-lt-SECOND_RECORD.false _ _ c.set_of_ctb2-set.ensures)

pub returns : goal.returns
returns c =
    c.place_by.ensures
    ∙ answers (placed_set _ _ _ _ _ _ c.is_bad_number.ensures c.if-is_bad_number.false _ c.first_bad_of-bad.ensures c.if-bad-lt-SECOND_RECORD.false _ _ c.set_of_ctb2-set.ensures (table_of_ctb2 _ _ _ _ c.set_of_ctb2-set.ensures))
