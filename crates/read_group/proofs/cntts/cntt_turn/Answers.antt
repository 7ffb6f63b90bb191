-- One law for each way out; the two tables give the Cntt's fault.
use mathlib.Core.Path.{refl, sym, ◌∙◌}
use native.Mathlib.Omega.{arith}
use borrow.Author.Tests.{not-true, not-false}
use Rattle.layout.specs.Group.{cntt_turn}
use Rattle.layout.proofs.Heads.{head_within}
use Rattle.layout.proofs.Cntts.{cntt_over, cntt_head, cntt_size, cntt_channel_given, cntt_value_given, cntt_fault_lem, cntt_last, channel_over, channel_in_lem}
use Rattle.std.proofs.lemmas.Result.{err_from_is_err_and}
use Rattle.read_bytes.proofs.Headed.{head_fine, head_faulty, head_told}
use Rattle.read_group.proofs.CnttLaws.{fault_at}
use Rattle.read_group.proofs.cntts.cntt_turn.Goals as goal

pub returns-then-at-c : goal.returns-then-at-c
unfolding cntt_turn
returns-then-at-c c = sym (cntt_over _ _ _ _ _ _ c.if-at-c.true)

pub returns-in_err-check_head : goal.returns-in_err-check_head
unfolding cntt_turn
returns-in_err-check_head c =
    let p = err_from_is_err_and c.from_residual.result c.from_residual.ensures.1 in
    let q = sym c.in_err-check_head.ensures in
    rw (p.1, p.2) (head_told _ _ _ q ∙ sym (cntt_head _ _ _ _ _ _ c.if-at-c.false _ refl (head_faulty _ _ _ q).0))

pub word_at-requires : goal.word_at-requires
word_at-requires c = omega (arith, head_within _ _ _ _ refl (head_fine _ _ _ (sym c.in_ok-check_head.ensures)))

pub returns-then-word_at-ne-CNTT_BYTES : goal.returns-then-word_at-ne-CNTT_BYTES
unfolding cntt_turn
returns-then-word_at-ne-CNTT_BYTES c =
    sym (cntt_size _ _ _ _ _ _ c.if-at-c.false _ refl (head_fine _ _ _ (sym c.in_ok-check_head.ensures)) (λ e. c.if-word_at-ne-CNTT_BYTES.true (c.word_at.ensures.0 ∙ e)))

pub byte-channel-requires : goal.byte-channel-requires
byte-channel-requires c =
    omega (arith, head_within _ _ _ _ refl (head_fine _ _ _ (sym c.in_ok-check_head.ensures)), sym c.word_at.ensures.0 ∙ c.if-word_at-ne-CNTT_BYTES.false)

pub returns-then-channel-gt15 : goal.returns-then-channel-gt15
unfolding cntt_turn
returns-then-channel-gt15 c =
    sym (cntt_channel_given _ _ _ _ _ _ c.if-at-c.false _ refl (head_fine _ _ _ (sym c.in_ok-check_head.ensures)) (sym c.word_at.ensures.0 ∙ c.if-word_at-ne-CNTT_BYTES.false)
    (channel_over _ (rw c.byte-channel.ensures.0 at c.if-channel-gt15.true)))

pub byte-requires : goal.byte-requires
byte-requires c =
    omega (arith, head_within _ _ _ _ refl (head_fine _ _ _ (sym c.in_ok-check_head.ensures)), sym c.word_at.ensures.0 ∙ c.if-word_at-ne-CNTT_BYTES.false)

pub returns-then-not-is_cntt_value : goal.returns-then-not-is_cntt_value
unfolding cntt_turn
returns-then-not-is_cntt_value c =
    sym (cntt_value_given _ _ _ _ _ _ c.if-at-c.false _ refl (head_fine _ _ _ (sym c.in_ok-check_head.ensures)) (sym c.word_at.ensures.0 ∙ c.if-word_at-ne-CNTT_BYTES.false)
    (channel_in_lem _ (rw c.byte-channel.ensures.0 at c.if-channel-gt15.false)) (rw c.byte.ensures.0 at (sym c.is_cntt_value.ensures ∙ not-true _ c.if-not-is_cntt_value.true-raw)))

pub returns-in_err-check_channel : goal.returns-in_err-check_channel
unfolding cntt_turn
returns-in_err-check_channel c =
    let low = rw c.byte-channel.ensures.0 at c.if-channel-gt15.false in
    let pre = c.requires in
    let p = err_from_is_err_and c.from_residual-in_err-check_channel.result c.from_residual-in_err-check_channel.ensures.1 in
    let q = sym c.in_err-check_channel.ensures in
    rw (p.1, p.2) (head_told _ _ _ q ∙ sym (cntt_fault_lem _ _ _ _ _ _ c.if-at-c.false _ refl (head_fine _ _ _ (sym c.in_ok-check_head.ensures)) (sym c.word_at.ensures.0 ∙ c.if-word_at-ne-CNTT_BYTES.false)
    (channel_in_lem _ low) (rw c.byte.ensures.0 at (sym c.is_cntt_value.ensures ∙ not-false _ c.if-not-is_cntt_value.false-raw)) _
    (fault_at _ _ _ _ _ _ _ (pre.1.0.each _ (omega arith)) (pre.1.1.each _ (omega arith)) _ c.byte-channel.ensures.0) (head_faulty _ _ _ q).0))

pub returns : goal.returns
unfolding cntt_turn
returns c =
    let low = rw c.byte-channel.ensures.0 at c.if-channel-gt15.false in
    let pre = c.requires in
    sym (cntt_last _ _ _ _ _ _ c.if-at-c.false _ refl (head_fine _ _ _ (sym c.in_ok-check_head.ensures)) (sym c.word_at.ensures.0 ∙ c.if-word_at-ne-CNTT_BYTES.false)
    (channel_in_lem _ low) (rw c.byte.ensures.0 at (sym c.is_cntt_value.ensures ∙ not-false _ c.if-not-is_cntt_value.false-raw)) _
    (fault_at _ _ _ _ _ _ _ (pre.1.0.each _ (omega arith)) (pre.1.1.each _ (omega arith)) _ c.byte-channel.ensures.0) (head_fine _ _ _ (sym c.in_ok-check_channel.ensures)))
