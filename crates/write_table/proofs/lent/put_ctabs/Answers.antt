-- One Ctab more stands at its place; at their number all do.
use native.Mathlib.Omega.{arith}
use Rattle.layout.proofs.Ctabs.{place_before}
use Rattle.layout.specs.Write.{first_edition}
use Rattle.write_chunks.proofs.Putting.{ctabs_start, ctabs_next, putting_end, ctabs}
use Rattle.write_table.proofs.lent.put_ctabs.Goals as goal

pub loop-i-init : goal.loop-i-init
loop-i-init c = ctabs_start c.args.table.now (first_edition c.args.table.now) c.args.out.now c.args.at c.args.n

pub put_record-requires : goal.put_record-requires
put_record-requires c =
    let a = c.args in
    rw (← c.requires.1.0 c.loop-i.i c.loop-i-test.true)
    (omega (arith, place_before (first_edition a.table.now) a.at c.loop-i.i a.n c.loop-i-test.true, c.requires.1.1, c.loop-i.invariant.long))

pub loop-i-preserved : goal.loop-i-preserved
loop-i-preserved c =
    let a = c.args in
    let e = c.requires.1.0 c.loop-i.i c.loop-i-test.true in
    ctabs_next a.table.now (first_edition a.table.now) a.out.now a.at a.n c.requires.0 c.requires.1.0 c.requires.1.1 c.loop-i.out c.loop-i.i c.loop-i.invariant c.loop-i-test.true
    c.put_record.new.out (rw e c.put_record.ensures)

pub returns : goal.returns
returns c = putting_end (ctabs c.args.table.now) c.args.out.now c.args.at c.args.n c.loop-i.out c.loop-i.i c.loop-i.invariant c.loop-i-test.false
