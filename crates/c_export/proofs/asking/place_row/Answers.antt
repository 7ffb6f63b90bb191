-- The record that the row stands for, by the edition that the match found.
use mathlib.Core.Path.{sym, ◌∙◌}
use Rattle.ask_place.proofs.Ways.{answers}
use Rattle.ask_place.proofs.Laid.{placed_first, placed_second}
use Rattle.c_export.proofs.asking.place_row.Goals as goal

pub returns-in-First : goal.returns-in-First
returns-in-First c =
    let t = c in
    c.place_first.ensures ∙ answers (sym (placed_first _ _ _ _ _ _ (sym t.edition_by.ensures ∙ t.in-First.is)))

pub returns-in-Second : goal.returns-in-Second
returns-in-Second c =
    let t = c in
    c.place_second.ensures ∙ answers (sym (placed_second _ _ _ _ _ _ (sym t.edition_by.ensures ∙ t.in-Second.is)))
