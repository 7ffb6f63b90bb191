-- The record is asked of its bytes, by the edition that the match found.
use mathlib.Core.Path.{refl, sym, ◌∙◌}
use Rattle.layout.specs.Records.{second_in}
use Rattle.ask_place.proofs.Ways.{answers}
use Rattle.ask_place.proofs.Laid.{placed_laid, placed_second}
use Rattle.ask_place.proofs.place_note.Goals as goal

pub returns-in-First : goal.returns-in-First
returns-in-First c =
    c.place_ctab.ensures ∙ answers (sym (placed_laid _ _ _ _ _ _ (sym c.in-First.is ∙ c.edition_of.ensures) c.bytes_of-b.ensures c.second_of.ensures))

pub returns-in-Second : goal.returns-in-Second
returns-in-Second c =
    let r = c.args.r in
    c.place_ctb2.ensures
    ∙ answers (sym (placed_second _ _ _ _ (second_in r) 0 refl ∙ placed_laid _ _ r _ _ _ (sym c.in-Second.is ∙ c.edition_of.ensures) c.bytes_of-b.ensures refl))
