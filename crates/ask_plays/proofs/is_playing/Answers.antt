-- The first mask decides where its bit is not set, and else the second.
use Rattle.ask_plays.proofs.Masks.{root_mask_lem, chord_mask_lem, root_unset, root_set}
use Rattle.ask_plays.proofs.is_playing.Goals as goal

pub returns-then-roots-root-ne1 : goal.returns-then-roots-root-ne1
returns-then-roots-root-ne1 c = root_unset _ _ _ _ _ (root_mask_lem _ _ _ _ c.byte.ensures.0 c.byte-2.ensures.0) c.if-roots-root-ne1.true

pub returns : goal.returns
returns c =
    root_set _ _ _ _ _ (root_mask_lem _ _ _ _ c.byte.ensures.0 c.byte-2.ensures.0) c.if-roots-root-ne1.false _
    (chord_mask_lem _ _ _ _ c.byte-3.ensures.0 c.word_at.ensures.0)
