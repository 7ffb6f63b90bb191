-- What is still to be looked at are the sections from number `counter` on, which stands at `place`.
use mathlib.Core.Path.{refl, sym}
use native.Mathlib.Omega.{arith}
use Rattle.layout.specs.Style.{section_tagged}
use Rattle.read_style.proofs.SectionLaws.{place_start, place_next, seen_here, seen_next, seen_none}
use Rattle.read_style.proofs.is_seen.Goals as goal

pub loop-init : goal.loop-init
unfolding section_tagged
loop-init c = (place_start _ _ c.requires.0, refl)

pub returns-then-word_at-tag : goal.returns-then-word_at-tag
returns-then-word_at-tag c =
    let l = c.loop in
    let p = c.requires in
    sym (seen_here _ _ _ _ l.invariant.1 _ _ l.invariant.0 c.word_at.ensures.1.0 c.word_at.ensures.1.1 p.1.1 (omega arith) c.if-word_at-tag.true)

pub loop-preserved : goal.loop-preserved
loop-preserved c =
    let l = c.loop in
    let p = c.requires in (
      place_next _ _ _ l.invariant.0 _ c.word_at-in-loop.ensures.0,
      seen_next _ _ _ _ l.invariant.1 _ _ l.invariant.0 c.word_at.ensures.1.0 c.word_at.ensures.1.1 p.1.1 (omega arith) c.if-word_at-tag.false,
    )

pub returns : goal.returns
returns c = sym (seen_none _ _ _ _ c.loop.invariant.1 (omega arith))
