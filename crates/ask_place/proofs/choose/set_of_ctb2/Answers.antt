-- One law for each way out.
use mathlib.Core.Path.{◌∙◌}
use Rattle.ask_place.proofs.Choosing.{set_low, set_high, set_middle}
use Rattle.ask_place.proofs.choose.set_of_ctb2.Goals as goal

pub returns-then-note-b : goal.returns-then-note-b
returns-then-note-b c = c.set_at.ensures ∙ set_low _ _ c.if-note-b.true

pub returns-then-b-note : goal.returns-then-b-note
returns-then-b-note c = c.set_at-then-b-note.ensures ∙ set_high _ _ c.if-note-b.false c.if-b-note.true

pub returns : goal.returns
returns c = c.set_at-2.ensures ∙ set_middle _ _ c.if-note-b.false c.if-b-note.false
