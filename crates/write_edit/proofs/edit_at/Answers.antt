-- One law for each way out; what is lent to the record's writer is the body from its place on.
use mathlib.Core.Path.{sym, ap, ◌∙◌}
use native.Mathlib.Omega.{arith}
use lib.ListN.{length}
use Rattle.layout.specs.Records.{channel_of}
use Rattle.layout.proofs.Editions.{held_spare, size_least}
use Rattle.layout.proofs.Records.{laid_length}
use Rattle.write_chunks.proofs.Stored.{held_within, held_length, held_cut}
use Rattle.read_record.proofs.Same.{unlike_told, alike_told}
use Rattle.write_edit.proofs.Editing.{own_edition, at_other, at_unlike, at_locked, at_out, at_put}
use borrow.Author.Rules.{rules}
use Rattle.write_edit.proofs.edit_at.Goals as goal

pub returns-then-source-channel : goal.returns-then-source-channel
unfolding channel_of
returns-then-source-channel c = at_other _ _ _ _ _ _ _ c.answer.ensures c.if-source-channel.true

pub returns-then-ne : goal.returns-then-ne
unfolding channel_of
returns-then-ne c =
    at_unlike _ _ _ _ _ _ c.if-source-channel.false _ c.edition_of-own.ensures _ c.answer-then-ne.ensures (unlike_told _ _ _ c.ne.ensures c.if-ne.true)

-- byte 10 is one of the record's
pub overflow_add-lock : goal.overflow_add-lock
overflow_add-lock c = let start = c in omega (arith, c.requires, size_least c.args.edition)

pub bounds-s-at : goal.bounds-s-at
bounds-s-at c = let start = c in omega (arith, c.requires, size_least c.args.edition)

pub returns-then-is_kept : goal.returns-then-is_kept
unfolding channel_of
returns-then-is_kept c =
    at_locked _ _ _ _ _ _ c.if-source-channel.false _ c.edition_of-own.ensures _ c.answer-then-is_kept.ensures (alike_told _ _ _ c.ne.ensures c.if-ne.false) (sym c.if-is_kept.true ∙ c.is_kept.ensures)

pub first_out_held-k-requires : goal.first_out_held-k-requires
first_out_held-k-requires c =
    let a = c.args in
    omega (arith, held_spare a.edition, ap length c.bytes_of-b.ensures, laid_length a.new)

pub returns-then-k-n : goal.returns-then-k-n
unfolding channel_of
returns-then-k-n c =
    at_out _ _ _ _ _ _ c.if-source-channel.false _ c.edition_of-own.ensures (alike_told _ _ _ c.ne.ensures c.if-ne.false) (sym c.if-is_kept.false ∙ c.is_kept.ensures) _ c.bytes_of-b.ensures _ c.held_of-n.ensures
    _ (rw (← c.held_of-n.ensures) at c.first_out_held-k.ensures) _ c.answer-then-k-n.ensures c.if-k-n.true

pub slice_bounds-b-end : goal.slice_bounds-b-end
slice_bounds-b-end c =
    let a = c.args in
    held_within a.new a.edition _ _ c.bytes_of-b.ensures (own_edition a.edition c.edition_of-own.result a.new (alike_told _ _ _ c.ne.ensures c.if-ne.false) c.edition_of-own.ensures) c.held_of-n.ensures

pub slice_bounds-put_held-end-2 : goal.slice_bounds-put_held-end-2
slice_bounds-put_held-end-2 c =
    let a = c.args in
    held_cut a.new a.edition _ _ c.bytes_of-b.ensures (own_edition a.edition c.edition_of-own.result a.new (alike_told _ _ _ c.ne.ensures c.if-ne.false) c.edition_of-own.ensures) c.held_of-n.ensures

pub put_held-requires : goal.put_held-requires
put_held-requires c =
    let a = c.args in
    (held_length a.new a.edition _ _ c.bytes_of-b.ensures (own_edition a.edition c.edition_of-own.result a.new (alike_told _ _ _ c.ne.ensures c.if-ne.false) c.edition_of-own.ensures) c.held_of-n.ensures, search rules)

pub returns : goal.returns
unfolding channel_of
returns c =
    at_put _ _ _ _ _ _ c.if-source-channel.false _ c.edition_of-own.ensures (alike_told _ _ _ c.ne.ensures c.if-ne.false) (sym c.if-is_kept.false ∙ c.is_kept.ensures) _ c.bytes_of-b.ensures _ c.held_of-n.ensures
    _ (rw (← c.held_of-n.ensures) at c.first_out_held-k.ensures) _ c.put_held.new.out c.answer-2.ensures c.if-k-n.false (omega (arith, c.requires)) c.put_held.ensures
