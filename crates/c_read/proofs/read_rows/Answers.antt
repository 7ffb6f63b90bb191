-- After i turns the first i records that the plan names lie at the start, and the bytes behind them are as they were.
use native.Mathlib.Omega.{arith}
use mathlib.Core.Path.{refl, ap, ◌∙◌}
use Rattle.layout.specs.Lists.{rows}
use Rattle.read_table.specs.Reading.{told_of, planned_record}
use Rattle.read_table.proofs.Plans.{planned_within}
use Rattle.c_read.proofs.Laid.{laid_none, laid_last, room_left}
use Rattle.c_read.proofs.RowsRead.{from_next, from_length, count_lent, rows_read, none_read}
use Rattle.c_read.proofs.read_rows.Goals.{in-Ok+else-loop-i-test, in_default}
use Rattle.c_read.proofs.read_rows.Goals as goal

pub loop-i-init : goal.loop-i-init
loop-i-init c =
    let a = c.args in
    (omega arith, (refl, laid_none (rows (planned_record a.s.now c.in-Ok.reading) 0 c.in-Ok.reading.count) a.flat.now))

pub overflow_mul-at : goal.overflow_mul-at
overflow_mul-at c =
    let a = c.args in
    let w = count_lent a.s.now a.flat.now a.group _ c.row_count.ensures c.in-Ok.reading c.in-Ok.ensures in
    omega arith

pub slice_bounds-put_row-count : goal.slice_bounds-put_row-count
slice_bounds-put_row-count c =
    let a = c.args in
    let w = count_lent a.s.now a.flat.now a.group _ c.row_count.ensures c.in-Ok.reading c.in-Ok.ensures in
    let v = c.loop-i.invariant.1.0 in
    omega arith

pub record_at-requires : goal.record_at-requires
record_at-requires c = omega (arith, planned_within _ _ _ _ c.in-Ok.ensures _ c.loop-i-test.true)

pub put_row-requires : goal.put_row-requires
put_row-requires c =
    let a = c.args in
    let l = c.loop-i in
    let w = count_lent a.s.now a.flat.now a.group _ c.row_count.ensures c.in-Ok.reading c.in-Ok.ensures in
    room_left l.i c.in-Ok.reading.count a.flat.now l.flat l.invariant.1.0 c.loop-i-test.true w

pub loop-i-preserved : goal.loop-i-preserved
loop-i-preserved c =
    let a = c.args in
    let l = c.loop-i in
    let f = planned_record a.s.now c.in-Ok.reading in
    let n = c.in-Ok.reading.count in
    let w = count_lent a.s.now a.flat.now a.group _ c.row_count.ensures c.in-Ok.reading c.in-Ok.ensures in
    let q = from_next f n l.i a.flat.now l.flat c.loop-i-test.true w l.invariant.1.1 _ _ c.record_at.ensures c.put_row.ensures in
    (omega (arith, c.loop-i-test.true), (from_length f n l.i a.flat.now l.flat c.loop-i-test.true w l.invariant.1.1 _ q, q))

pub returns : goal.returns
returns c =
    let a = c.args in
    elim c.match-plan.branch [
      | in-Ok+else-loop-i-test w ↦
          rw w.flat-is (rows_read a.s.now a.flat.now a.group _ c.row_count.ensures w.in-Ok.reading w.in-Ok.ensures _ (c.counted.ensures ∙ ap told_of w.plan-is) _
          (laid_last _ _ _ _ _ w.loop-i.invariant.1.1 w.loop-i.invariant.0 w.loop-i-test.false))
      | in_default w ↦
          rw w.flat-is (none_read a.s.now a.flat.now a.group _ c.row_count.ensures _ c.plan_records-plan.ensures w.in_default.not-Ok _ (c.counted.ensures ∙ ap told_of w.plan-is))
    ]
