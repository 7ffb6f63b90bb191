-- An empty payload, and the contents that are cut out.
use Prim.Native.Nat.{ℕ, ◌+◌, ◌≤◌}
use mathlib.Core.Path.{◌≡◌, refl, sym, ◌∙◌}
use mathlib.Core.List.{List}
use native.Mathlib.Omega.{arith}
use lib.ListN.{length, length-take, length-drop}
use Rattle.layout.specs.Bytes.{word, four, CSEG}
use Rattle.layout.specs.Group.{head_fault}
use Rattle.layout.proofs.Heads.{head_sound}
use Rattle.layout.proofs.Groups.{cseg_tag, group_empty, group_unsound, group_sound}
use Rattle.layout.proofs.GroupPlaces.{contents_place}
use Rattle.read_group.proofs.judge_headed.Goals as goal

module _ (p : List ℕ) (h : head_fault p 0 CSEG ≡ 0) where
  within : 8 + word p 4 ≤ length p
  within = omega (arith, (head_sound p 0 CSEG h).1)

  -- the header as the laws of a group have it
  headed : 0 ≡ head_fault p 0 (four 0x43534547)
  headed = rw cseg_tag (sym h)

pub word_at-length-requires : goal.word_at-length-requires
word_at-length-requires c = omega (arith, within _ c.requires)

pub returns-then-length-eq0 : goal.returns-then-length-eq0
returns-then-length-eq0 c =
    sym (group_empty _ _ (headed _ c.requires) refl _ c.word_at-length.ensures.0 c.if-length-eq0.true)

pub slice_bounds-judge_contents-count : goal.slice_bounds-judge_contents-count
slice_bounds-judge_contents-count c = omega (arith, within _ c.requires)

pub slice_bounds-judge_contents-start : goal.slice_bounds-judge_contents-start
slice_bounds-judge_contents-start c = omega (arith, within _ c.requires)

pub slice_bounds-judge_contents-end : goal.slice_bounds-judge_contents-end
slice_bounds-judge_contents-end c =
    omega (arith, within _ c.requires, c.word_at-length.ensures.0)

pub overflow_add-result : goal.overflow_add-result
overflow_add-result c =
    let is = sym c.judge_contents.ensures ∙ c.in-Err.is in
    omega (arith, rw (length-take, length-drop) at (contents_place _ _ _ is))

pub returns-in-Err : goal.returns-in-Err
returns-in-Err c =
    let is = sym c.judge_contents.ensures ∙ c.in-Err.is in
    sym (group_unsound _ _ (headed _ c.requires) refl _ c.word_at-length.ensures.0 c.if-length-eq0.false _ _ is)

pub returns-in-Ok : goal.returns-in-Ok
returns-in-Ok c =
    let is = sym c.judge_contents.ensures ∙ c.in-Ok.is in
    sym (group_sound _ _ (headed _ c.requires) refl _ c.word_at-length.ensures.0 c.if-length-eq0.false _ _ _ _ is)
