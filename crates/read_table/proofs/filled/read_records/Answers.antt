-- A record is stored where the last one ended, and at the plan's count the table is what the plan has promised.
use mathlib.Core.Path.{◌≡◌, ap, ◌∙◌}
use native.Mathlib.Omega.{arith}
use Rattle.read_table.specs.Reading.{told_of, planned_record}
use Rattle.read_table.proofs.RecordLaws.{filled_none, filled_next, none_read, all_read}
use Rattle.read_table.proofs.filled.read_records.Goals.{in-Ok+else-loop-i-test, in_default}
use Rattle.read_table.proofs.filled.read_records.Goals as goal

pub loop-i-init : goal.loop-i-init
loop-i-init c = filled_none (planned_record c.args.s.now c.in-Ok.reading) c.args.table.now

pub loop-i-preserved : goal.loop-i-preserved
loop-i-preserved c =
    let f = planned_record c.args.s.now c.in-Ok.reading in
    rw (c.record_at.ensures, c.loop-i.invariant) (filled_next f c.loop-i.i c.args.table.now (omega (arith, c.in-Ok.ensures.fits, c.loop-i-test.true)))

pub returns : goal.returns
returns c =
    let s = c.args.s.now in
    let ys = c.args.table.now in
    elim c.match-plan.branch [
      | in-Ok+else-loop-i-test w ↦
          let e : w.loop-i.i ≡ w.in-Ok.reading.count = omega (arith, w.loop-i.auto.i-end, w.loop-i-test.false) in
          rw (w.table-is, w.loop-i.invariant, e) (all_read s c.args.group ys w.in-Ok.reading c.counted.result w.in-Ok.ensures (c.counted.ensures ∙ ap told_of w.plan-is))
      | in_default w ↦ rw w.table-is (none_read s c.args.group ys c.plan_records-plan.result c.counted.result c.plan_records-plan.ensures w.in_default.not-Ok (c.counted.ensures ∙ ap told_of w.plan-is))
    ]
