-- The names before i keep the rules, are all different, and are known by where they end and by their bits; one law for each way out.
use native.Mathlib.Omega.{arith}
use mathlib.Core.Path.{◌≡◌, sym, ◌∙◌}
use mathlib.Core.Bool.{false}
use borrow.Author.Rules.{rules}
use borrow.Author.Tests.{ne_eqb}
use lib.ListN.{take, length-take, length-drop}
use Rattle.layout.specs.Lists.{has}
use Rattle.read_names.specs.Parts.{part, cuts}
use Rattle.read_names.proofs.Signs.{unmet_new}
use Rattle.read_names.proofs.Rules.{inside_low, inside_high, ends_grow, kept_none, kept_more, text_long, text_bytes, text_size, text_again, text_sound}
use Rattle.read_names.proofs.is_sound_text.Goals as goal
use Rattle.read_names.proofs.is_sound_text.Goals.{else-with-met-via-then-with-met+else-is_again, else-with-met-via-else-with-met}

pub returns-then-t-gt-TEXT : goal.returns-then-t-gt-TEXT
returns-then-t-gt-TEXT c = sym (text_long _ (omega arith))

pub loop-i-init : goal.loop-i-init
loop-i-init c = (omega arith, (omega arith, (omega arith, (search rules, kept_none _))))

pub returns-in_default : goal.returns-in_default
returns-in_default c = sym (text_bytes _ _ _ _ c.loop-i.invariant.1.1.1.1 c.in_default.ensures)

pub returns-then-e-i : goal.returns-then-e-i
returns-then-e-i c = sym (text_size _ _ _ _ c.loop-i.invariant.1.1.1.1 _ c.in-Some.ensures.0 (inside_low 1 16 _ (omega arith)))

pub returns-then-e-i-gt-NAME : goal.returns-then-e-i-gt-NAME
returns-then-e-i-gt-NAME c = sym (text_size _ _ _ _ c.loop-i.invariant.1.1.1.1 _ c.in-Some.ensures.0 (inside_high 1 16 _ (omega arith)))

pub bit_of-requires : goal.bit_of-requires
bit_of-requires c = rw (length-take, length-drop) (omega (arith, c.in-Some.ensures.0.from, c.in-Some.ensures.0.within))

pub is_again-requires : goal.is_again-requires
is_again-requires c = c.loop-i.invariant.1.1.1.1.placed

pub returns-then-is_again : goal.returns-then-is_again
returns-then-is_again c = sym (text_again _ _ _ _ c.loop-i.invariant.1.1.1.1 _ c.in-Some.ensures.0 (sym c.is_again.ensures ∙ c.if-is_again.true))

pub loop-i-preserved : goal.loop-i-preserved
loop-i-preserved c =
    let a = c.args in
    let l = c.loop-i in
    let k = l.invariant.1.1.1.1 in
    let h = c.in-Some.ensures in
    let f : has (cuts a.t.now 0 (take l.m l.ends)) (part a.t.now l.i c.in-Some.e) ≡ false =
    elim c.else-with-met.branch [
      | else-with-met-via-then-with-met+else-is_again w ↦ sym w.is_again.ensures ∙ w.if-is_again.false
      | else-with-met-via-else-with-met w ↦ unmet_new _ _ k.bits _ _ c.bit_of.ensures (ne_eqb _ _ w.if-with-met.false)
    ] in
    let n = kept_more _ _ _ _ k _ h.0 h.1 (omega arith) (omega arith) f _ c.bit_of.ensures in
    (omega (arith, h.0.within), (omega arith, (omega arith, (search rules, rw (ends_grow l.ends l.m c.in-Some.e (omega arith)) n))))

pub returns : goal.returns
returns c = sym (text_sound _ _ _ _ c.loop-i.invariant.1.1.1.1 (omega arith) (omega arith) (omega arith))
