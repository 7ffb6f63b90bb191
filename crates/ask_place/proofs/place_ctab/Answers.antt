-- One law for each way out. A Ctab with no bad byte has limits that are notes, and a table that becomes another.
use mathlib.Core.Path.{◌∙◌}
use Rattle.ask_place.proofs.Ways.{answers, placed_none, note_some, placed_bad, placed_set}
use Rattle.ask_place.proofs.Choosing.{set_of_ctab, table_of_ctab, limits_made, table_made}
use Rattle.ask_place.proofs.place_ctab.Goals as goal

pub returns-then-is_bad_number : goal.returns-then-is_bad_number
returns-then-is_bad_number c = c.refusal.ensures ∙ answers (placed_none _ _ _ _ _ _ c.is_bad_number.ensures c.if-is_bad_number.true)

pub returns-then-bad-lt-HELD : goal.returns-then-bad-lt-HELD
returns-then-bad-lt-HELD c =
    c.refusal-then-bad-lt-HELD.ensures ∙ answers (placed_bad _ _ _ _ _ _ c.is_bad_number.ensures c.if-is_bad_number.false _ c.first_bad_of-bad.ensures c.if-bad-lt-HELD.true)

pub effective_table-table-requires : goal.effective_table-table-requires
effective_table-table-requires c = table_made _ _ _ c.first_bad_of-bad.ensures c.if-bad-lt-HELD.false _ c.set_at-set.ensures

pub place_by-requires : goal.place_by-requires
place_by-requires c =
    let a = c.args in
    (note_some a.root a.note _ c.is_bad_number.ensures c.if-is_bad_number.false, limits_made _ _ _ _ c.first_bad_of-bad.ensures c.if-bad-lt-HELD.false a.note _ (set_of_ctab _ _ _ _ c.set_at-set.ensures))

pub returns : goal.returns
returns c =
    c.place_by.ensures
    ∙ answers (placed_set _ _ _ _ _ _ c.is_bad_number.ensures c.if-is_bad_number.false _ c.first_bad_of-bad.ensures c.if-bad-lt-HELD.false _ _ (set_of_ctab _ _ _ _ c.set_at-set.ensures) (table_of_ctab _ _ _ _ c.set_at-set.ensures _ c.effective_table-table.ensures))
