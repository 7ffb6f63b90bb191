-- After i turns the Ctabs of the first i records stand in the buffer; i goes up to n.
use Rattle.write_chunks.proofs.Putting.{putting_end, ctabs_start}
use Rattle.c_write.proofs.Taking.{taking_on, taking_next, row_there}
use borrow.Author.Rules.{rules}
use Rattle.c_write.proofs.put_row_ctabs.Goals as goal

pub loop-i-init : goal.loop-i-init
loop-i-init c = ctabs_start _ c.args.edition _ _ _

pub put_row_ctab-requires : goal.put_row_ctab-requires
put_row_ctab-requires c =
    let l = c in
    let start = l in
    let p = start.requires in
    (search rules, taking_on _ _ start.args.edition _ _ p.0 p.1.0 p.1.1 _ _ l.loop-i.invariant (search rules) _ (row_there start.args.flat.now l.loop-i.i))

pub loop-i-preserved : goal.loop-i-preserved
loop-i-preserved c =
    let put = c in
    let l = put in
    let start = l in
    let p = start.requires in
    taking_next _ _ start.args.edition _ _ p.0 p.1.0 p.1.1 _ _ l.loop-i.invariant (search rules) _ (row_there start.args.flat.now l.loop-i.i) _ put.put_row_ctab.ensures

pub returns : goal.returns
returns c = putting_end _ _ _ _ _ _ c.loop-i.invariant (search rules)
