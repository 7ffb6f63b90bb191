-- One law for each way out; the table says whether an earlier Ctab has the channel.
use Prim.Native.Nat.{ℕ}
use mathlib.Core.Path.{◌≡◌, refl, ap, sym, ◌∙◌}
use mathlib.Core.List.{List}
use native.Mathlib.Omega.{arith}
use Rattle.layout.specs.declared.edition.Edition.{Edition}
use Rattle.layout.specs.Editions.{size}
use Rattle.layout.specs.Ranges.{first_out}
use Rattle.layout.proofs.Heads.{head_within}
use Rattle.layout.proofs.Ctabs.{turn_at, ctab_over, ctab_head, ctab_size, ctab_out, ctab_last, channel_held}
use Rattle.layout.proofs.Editions.{size_some}
use Rattle.std.proofs.lemmas.Result.{err_from_is_err_and}
use Rattle.read_bytes.proofs.Headed.{head_fine, head_faulty, head_told}
use Rattle.read_group.proofs.CtabSeen.{ctab_seen}
use borrow.Author.Rules.{rules}
use Rattle.read_group.proofs.ctabs.ctab_turn.Goals as goal

-- The count that the edition tells is the size of its record.
sized : (e : Edition) (s : List ℕ) (at w k : ℕ) → w ≡ size e → k ≡ first_out e s at (size e) → k ≡ first_out e s at w
sized e s at w k h l = l ∙ ap (first_out e s at) (sym h)

pub returns-then-is_over : goal.returns-then-is_over
returns-then-is_over c = turn_at _ _ _ _ _ _ c.ctab_place-at.ensures (ctab_over _ _ _ _ _ (sym c.is_over.ensures ∙ c.if-is_over.true))

pub check_head-requires : goal.check_head-requires
check_head-requires c = (search rules, c.tag_of.ensures.1)

pub returns-in_err-check_head : goal.returns-in_err-check_head
returns-in_err-check_head c =
    let p = err_from_is_err_and c.from_residual.result c.from_residual.ensures.1 in
    let q = sym c.in_err-check_head.ensures in
    rw (p.1, p.2) (head_told _ _ _ q ∙ turn_at _ _ _ _ _ _ c.ctab_place-at.ensures
    (ctab_head _ _ _ _ _ (sym c.is_over.ensures ∙ c.if-is_over.false) _ _ c.tag_of.ensures.0 refl (head_faulty _ _ _ q).0))

pub word_at-requires : goal.word_at-requires
word_at-requires c = omega (arith, head_within _ _ _ _ refl (head_fine _ _ _ (sym c.in_ok-check_head.ensures)))

pub returns-then-word_at-size : goal.returns-then-word_at-size
returns-then-word_at-size c =
    turn_at _ _ _ _ _ _ c.ctab_place-at.ensures
    (ctab_size _ _ _ _ _ (sym c.is_over.ensures ∙ c.if-is_over.false) _ _ c.tag_of.ensures.0 refl (head_fine _ _ _ (sym c.in_ok-check_head.ensures)) _ c.size_of-size.ensures
    (λ e. c.if-word_at-size.true (c.word_at.ensures.0 ∙ e)))

pub first_out-k-requires : goal.first_out-k-requires
first_out-k-requires c =
    omega (arith, c.size_of-size.ensures, head_within _ _ _ _ refl (head_fine _ _ _ (sym c.in_ok-check_head.ensures)), sym c.word_at.ensures.0 ∙ c.if-word_at-size.false)

pub returns-then-k-size : goal.returns-then-k-size
returns-then-k-size c =
    turn_at _ _ _ _ _ _ c.ctab_place-at.ensures
    (ctab_out _ _ _ _ _ (sym c.is_over.ensures ∙ c.if-is_over.false) _ _ c.tag_of.ensures.0 refl (head_fine _ _ _ (sym c.in_ok-check_head.ensures)) _ c.size_of-size.ensures
    (sym c.word_at.ensures.0 ∙ c.if-word_at-size.false) _ (sized _ _ _ _ _ c.size_of-size.ensures c.first_out-k.ensures) (omega arith))

pub byte-channel-requires : goal.byte-channel-requires
byte-channel-requires c =
    omega (arith, head_within _ _ _ _ refl (head_fine _ _ _ (sym c.in_ok-check_head.ensures)), sym c.word_at.ensures.0 ∙ c.if-word_at-size.false, size_some c.args.edition _ c.size_of-size.ensures)

pub bounds-seen-channel : goal.bounds-seen-channel
bounds-seen-channel c =
    rw c.byte-channel.ensures.0 (channel_held _ _ _ _ _ c.size_of-size.ensures (sized _ _ _ _ _ c.size_of-size.ensures c.first_out-k.ensures) c.if-k-size.false)

pub returns-then-seen-channel : goal.returns-then-seen-channel
returns-then-seen-channel c =
    let long = sym c.word_at.ensures.0 ∙ c.if-word_at-size.false in
    turn_at _ _ _ _ _ _ c.ctab_place-at.ensures
    (ctab_last _ _ _ _ _ (sym c.is_over.ensures ∙ c.if-is_over.false) _ _ c.tag_of.ensures.0 refl (head_fine _ _ _ (sym c.in_ok-check_head.ensures)) _ c.size_of-size.ensures
    long _ (sized _ _ _ _ _ c.size_of-size.ensures c.first_out-k.ensures) (omega arith) _
    (ctab_seen _ _ _ _ _ _ _ c.byte-channel.ensures.0 (c.requires.1.each _
    (rw c.byte-channel.ensures.0 (channel_held _ _ _ _ _ c.size_of-size.ensures (sized _ _ _ _ _ c.size_of-size.ensures c.first_out-k.ensures) c.if-k-size.false)) ∙ c.if-seen-channel.true)))

pub returns : goal.returns
returns c =
    turn_at _ _ _ _ _ _ c.ctab_place-at.ensures
    (ctab_last _ _ _ _ _ (sym c.is_over.ensures ∙ c.if-is_over.false) _ _ c.tag_of.ensures.0 refl (head_fine _ _ _ (sym c.in_ok-check_head.ensures)) _ c.size_of-size.ensures
    (sym c.word_at.ensures.0 ∙ c.if-word_at-size.false) _ (sized _ _ _ _ _ c.size_of-size.ensures c.first_out-k.ensures) (omega arith) _
    (ctab_seen _ _ _ _ _ _ _ c.byte-channel.ensures.0 (c.requires.1.each _
    (rw c.byte-channel.ensures.0 (channel_held _ _ _ _ _ c.size_of-size.ensures (sized _ _ _ _ _ c.size_of-size.ensures c.first_out-k.ensures) c.if-k-size.false)) ∙ c.if-seen-channel.false)))
