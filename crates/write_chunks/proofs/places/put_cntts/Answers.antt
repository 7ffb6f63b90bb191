-- After k turns the first k Cntts stand in the buffer; k goes up to n.
use Rattle.write_plan.proofs.Down.{cntts_none}
use Rattle.write_chunks.proofs.Putting.{putting_start, putting_end, cntts_on}
use borrow.Author.Rules.{rules}
use Rattle.write_chunks.proofs.places.put_cntts.Goals as goal

pub loop-k-init : goal.loop-k-init
loop-k-init c = putting_start _ _ _ _ (cntts_none _)

pub loop-k-preserved : goal.loop-k-preserved
loop-k-preserved c =
    let put = c in
    let l = put in
    cntts_on _ _ _ _ l.requires.1 _ _ l.loop-k.invariant (search rules) put.put_cntt.new.out put.put_cntt.ensures

pub returns : goal.returns
returns c = putting_end _ _ _ _ _ _ c.loop-k.invariant (search rules)
