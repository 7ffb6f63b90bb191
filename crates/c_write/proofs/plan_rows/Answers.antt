-- After i turns x is what the first i records come to; i goes up to their number.
use mathlib.Core.Path.{sym, ◌∙◌}
use native.Mathlib.Omega.{arith}
use Rattle.std.proofs.lemmas.Result.{err_from_is_err_and}
use Rattle.c_write.proofs.Taking.{looking_start, start_refused, looking_lent, looking_on, looking_next, looking_refused, looking_end, row_there}
use borrow.Author.Rules.{rules}
use Rattle.c_write.proofs.plan_rows.Goals as goal

pub returns-in_err-x : goal.returns-in_err-x
returns-in_err-x c =
    let p = err_from_is_err_and c.from_residual.result c.from_residual.ensures.1 in
    rw (p.1, p.2) (sym (start_refused _ _ _ _ _ c.row_count.ensures c.begin-start.ensures _ _ c.in_err-x.was))

pub loop-i-init : goal.loop-i-init
loop-i-init c = looking_start _ _ _ _ _ c.row_count.ensures c.begin-start.ensures _ c.in_ok-x.was

pub overflow_mul-at : goal.overflow_mul-at
overflow_mul-at c = let l = looking_lent _ _ _ _ _ _ _ c.loop-i.invariant in omega (arith, l)

pub overflow_add-at : goal.overflow_add-at
overflow_add-at c = let l = looking_lent _ _ _ _ _ _ _ c.loop-i.invariant in omega (arith, l)

pub slice_bounds-look_at_row-end : goal.slice_bounds-look_at_row-end
slice_bounds-look_at_row-end c = let l = looking_lent _ _ _ _ _ _ _ c.loop-i.invariant in omega (arith, l)

pub look_at_row-requires : goal.look_at_row-requires
look_at_row-requires c =
    let inv = c.loop-i.invariant in
    let l = looking_lent _ _ _ _ _ _ _ inv in
    (search rules, looking_on _ _ _ _ _ _ _ inv (omega (arith, l)))

-- the records with the one just looked at, which is refused
pub returns-in_err-x-2 : goal.returns-in_err-x-2
returns-in_err-x-2 c =
    let p = err_from_is_err_and c.from_residual-in_err-x-2.result c.from_residual-in_err-x-2.ensures.1 in
    let next = looking_next _ _ _ _ _ _ _ c.loop-i.invariant _ _ _ (search rules) (search row_there) c.look_at_row.ensures in
    rw (p.1, p.2) (sym (looking_refused _ _ _ _ _ _ _ next _ _ c.in_err-x-2.was))

-- .. or is not
pub loop-i-preserved : goal.loop-i-preserved
loop-i-preserved c =
    looking_next _ _ _ _ _ _ _ c.loop-i.invariant _ _ _ (search rules) (search row_there) (sym c.in_ok-x-2.was ∙ c.look_at_row.ensures.0, c.look_at_row.ensures.1)

pub returns : goal.returns
returns c = looking_end _ _ _ _ _ _ _ c.loop-i.invariant _ _ (search rules) c.plan_for.ensures
