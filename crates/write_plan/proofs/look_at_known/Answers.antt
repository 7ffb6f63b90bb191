-- One law for each way out. The record is that of the bytes lent, its edition the one given.
use mathlib.Core.Path.{sym, ap, ◌∙◌}
use native.Mathlib.Omega.{arith}
use Rattle.std.proofs.lemmas.Result.{err_from_is_err_and}
use Rattle.layout.specs.Records.{channel_of, record_with, record_of}
use Rattle.write_plan.specs.Checking.{larger}
use Rattle.write_plan.proofs.Bits.{bit_set, bit_unset, or_shift}
use Rattle.layout.proofs.BytesBack.{edition_made}
use Rattle.write_plan.proofs.Down.{larger_is}
use Rattle.write_plan.proofs.Made.{second_made, position_made, bad_placed}
use Rattle.read_record.proofs.Same.{unlike_told, alike_told}
use Rattle.write_plan.proofs.Looking.{looked_stays, looked_unlike, looked_bad, channel_shift, looked_again, looked_on, size_most, count_most, after_stays, after_refused, after_on}
use Rattle.write_plan.proofs.look_at_known.Goals as goal

-- A refusal that came before stays:
-- nothing is looked at, and nothing is laid down.
pub returns-in_err-x : goal.returns-in_err-x
returns-in_err-x c =
    let p = err_from_is_err_and c.from_residual.result c.from_residual.ensures.1 in
    rw (p.1, p.2) (sym (looked_stays _ _ _ _ _ c.in_err-x.was), after_stays _ _ _ _ _ c.in_err-x.was)

pub returns-then-ne : goal.returns-then-ne
returns-then-ne c =
    let like = c in
    let known = like in
    let a = known.args in
    let e =
    looked_unlike _ _ _ _ _ known.in_ok-x.was a.edition _ (sym (edition_made a.b.now a.second a.position a.edition)) like.edition_due-due.ensures _ like.place_of-place.ensures
    (unlike_told _ _ _ c.ne.ensures c.if-ne.true) in
    (sym e, after_refused _ _ _ _ _ _ e)

pub returns-then-k-held_of : goal.returns-then-k-held_of
returns-then-k-held_of c =
    let bad = c in
    let like = bad in
    let known = like in
    let a = known.args in
    let e =
    looked_bad _ _ _ _ _ known.in_ok-x.was a.edition _ (sym (edition_made a.b.now a.second a.position a.edition)) like.edition_due-due.ensures _ like.place_of-place.ensures
    (alike_told _ _ _ bad.ne.ensures bad.if-ne.false) _ (bad_placed a.b.now a.second a.position a.edition _ bad.first_bad_of-k.ensures) (omega (arith, c.held_of.ensures)) in
    (sym e, after_refused _ _ _ _ _ _ e)

pub overflow_shr-x : goal.overflow_shr-x
overflow_shr-x c =
    let o = c in
    let a = o.args in
    channel_shift a.edition a.b.now a.second _ o.first_bad_of-k.ensures (omega (arith, o.held_of.ensures, o.if-k-held_of.false))

pub returns-then-x-channel-eq1 : goal.returns-then-x-channel-eq1
unfolding channel_of record_of record_with
returns-then-x-channel-eq1 c =
    let o = c in
    let bad = o in
    let like = bad in
    let known = like in
    let a = known.args in
    let e =
    looked_again _ _ _ _ _ known.in_ok-x.was a.edition _ (sym (edition_made a.b.now a.second a.position a.edition)) like.edition_due-due.ensures _ like.place_of-place.ensures
    (alike_told _ _ _ bad.ne.ensures bad.if-ne.false) _ (bad_placed a.b.now a.second a.position a.edition _ bad.first_bad_of-k.ensures) (omega (arith, o.held_of.ensures, o.if-k-held_of.false))
    (bit_set _ _ c.if-x-channel-eq1.true) in
    (sym e, after_refused _ _ _ _ _ _ e)

pub chunks_size-requires : goal.chunks_size-requires
chunks_size-requires c =
    let count = c in
    omega (arith, count.cntt_count-count.ensures, count_most count.first_only-own.result)

pub overflow_add-result-2 : goal.overflow_add-result-2
overflow_add-result-2 c =
    let count = c in
    let like = count in
    let start = like in
    let most = size_most like.edition_due-due.result start.args.edition start.args.second (alike_told _ _ _ count.ne.ensures count.if-ne.false) in
    let own = rw (← count.first_only-own.ensures) at most in
    let more = rw (← count.cntt_count-count.ensures) at own in
    omega (arith, start.requires.1.0, (start.requires.1.1 _ start.in_ok-x.was).0, c.chunks_size.ensures, more)

pub overflow_shl-result : goal.overflow_shl-result
overflow_shl-result c =
    let o = c in
    let a = o.args in
    channel_shift a.edition a.b.now a.second _ o.first_bad_of-k.ensures (omega (arith, o.held_of.ensures, o.if-k-held_of.false))

pub overflow_add-result-3 : goal.overflow_add-result-3
overflow_add-result-3 c =
    let count = c in
    let start = count in
    omega (arith, start.requires.1.0, (start.requires.1.1 _ start.in_ok-x.was).1, count.cntt_count-count.ensures, count_most count.first_only-own.result)

pub returns : goal.returns
unfolding channel_of record_of record_with
returns c =
    let laid = c in
    let at = laid in
    let count = at in
    let fresh = count in
    let o = fresh in
    let bad = o in
    let like = bad in
    let known = like in
    let a = known.args in
    let second = count.first_only-own.ensures ∙ sym (second_made a.b.now a.second a.position a.edition) in
    let position = at.first_only-at.ensures ∙ sym (position_made a.b.now a.second a.position a.edition) in
    let e =
    looked_on _ _ _ _ _ known.in_ok-x.was a.edition _ (sym (edition_made a.b.now a.second a.position a.edition)) like.edition_due-due.ensures _ like.place_of-place.ensures
    (alike_told _ _ _ bad.ne.ensures bad.if-ne.false) _ (bad_placed a.b.now a.second a.position a.edition _ bad.first_bad_of-k.ensures) (omega (arith, o.held_of.ensures, o.if-k-held_of.false))
    (bit_unset _ _ fresh.if-x-channel-eq1.false) _ (or_shift known.in_ok-x.x.seen _ (channel_shift a.edition a.b.now a.second _ bad.first_bad_of-k.ensures (omega (arith, o.held_of.ensures, o.if-k-held_of.false))))
    _ second _ position _ count.cntt_count-count.ensures _ c.chunks_size.ensures _ (c.max.ensures ∙ (larger_is _ _ ∙ ap (larger known.in_ok-x.x.reach) laid.lay_down-claim.ensures.0)) in
    (sym e, after_on _ _ _ _ _ e _ second _ position _ laid.lay_down-claim.ensures.1)
