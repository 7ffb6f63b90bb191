-- The numbers of a sound group, which stands within the body.
use native.Mathlib.Omega.{arith}
use Rattle.layout.proofs.Bodies.{group_there}
use Rattle.read_find.proofs.FindLaws.{standing_is}
use Rattle.read_find.proofs.standing_at.Goals as goal

pub word_at-length-requires : goal.word_at-length-requires
word_at-length-requires c = let t = group_there _ 0 _ _ _ _ _ c.requires.0 c.requires.1 in omega (arith, t.1.0, t.1.1)

pub word_at-requires : goal.word_at-requires
word_at-requires c = let t = group_there _ 0 _ _ _ _ _ c.requires.0 c.requires.1 in omega (arith, t.1.0, t.1.1)

pub ctab_place-requires : goal.ctab_place-requires
ctab_place-requires c = let t = group_there _ 0 _ _ _ _ _ c.requires.0 c.requires.1 in omega (arith, t.1.0, t.1.1, c.word_at-length.ensures.0)

pub returns : goal.returns
returns c = rw c.ctab_place.ensures (standing_is _ _ _ _ _ _ _ c.requires.1 c.word_at-length.ensures.0 c.word_at.ensures.0)
