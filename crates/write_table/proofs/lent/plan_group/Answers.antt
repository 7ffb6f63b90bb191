-- The state after i records is what they come to, and at their number the plan is the definition's.
use mathlib.Core.Path.{◌≡◌, ap, sym, ◌∙◌}
use native.Mathlib.Omega.{arith}
use native.Mathlib.Numerals.{add-one}
use Prim.Native.Nat.{ℕ, ◌≤◌}
use mathlib.Core.List.{List}
use lib.ListN.{length}
use borrow.Author.Rules.{rules}
use Rattle.std.specs.Prelude.{Ok}
use Rattle.std.proofs.lemmas.Result.{err_from_is_err_and}
use Rattle.write_plan.specs.declared.Checked.{Checked}
use Rattle.write_plan.specs.declared.Taken.{Taken}
use Rattle.write_plan.specs.Checking.{begun, records_in, taken_at, plan_of}
use Rattle.write_plan.proofs.Looking.{plan_stays}
use Rattle.write_plan.proofs.Length.{looking, records_within}
use Rattle.write_table.proofs.lent.plan_group.Goals as goal

pub loop-i-init : goal.loop-i-init
unfolding taken_at
loop-i-init c = c.begin-x.ensures

pub returns-in_err-n : goal.returns-in_err-n
unfolding taken_at
returns-in_err-n c =
    let p = err_from_is_err_and c.from_residual.result c.from_residual.ensures.1 in
    rw (p.1, p.2) (sym (plan_stays _ _ _ _ 0 _ (omega arith) (sym (ap (λ (t : Taken). t.checked) c.begin-x.ensures) ∙ c.in_err-n.was)))

-- the plan asks for no more records than are lent
in_table : (text : List ℕ) (many count : ℕ) (x : Taken) (y : Checked) → x ≡ begun text many count → x.checked ≡ Ok y → y.records ≤ many
unfolding records_in
in_table text many count x y e is = omega (arith, records_within text many count, ap (λ (t : Taken). records_in t.checked) e, ap records_in is)

pub bounds-table-i : goal.bounds-table-i
bounds-table-i c = omega (arith, in_table _ _ _ _ _ c.begin-x.ensures c.in_ok-n.was, c.loop-i-test.true)

pub offset_bounds-table-i : goal.offset_bounds-table-i
offset_bounds-table-i c = let l = in_table _ _ _ _ _ c.begin-x.ensures c.in_ok-n.was in search rules

pub look_at-x-requires : goal.look_at-x-requires
look_at-x-requires c =
    let l = in_table _ _ _ _ _ c.begin-x.ensures c.in_ok-n.was in
    rw c.loop-i.invariant (looking c.args.text.now (length c.args.table.now) c.args.count c.args.table.now c.loop-i.i (omega (arith, c.loop-i-test.true)))

pub loop-i-preserved : goal.loop-i-preserved
unfolding taken_at
loop-i-preserved c =
    rw (c.look_at-x.ensures, c.loop-i.invariant, add-one c.loop-i.i)

pub returns : goal.returns
unfolding plan_of records_in
returns c =
    let e = ap (λ (t : Taken). records_in t.checked) c.begin-x.ensures in
    let n = ap records_in c.in_ok-n.was in
    let z : c.loop-i.i ≡ records_in c.begin-x.result.checked = omega (arith, c.loop-i.auto.i-end, c.loop-i-test.false, n) in
    rw (c.plan_for.ensures, c.loop-i.invariant, z, e)
