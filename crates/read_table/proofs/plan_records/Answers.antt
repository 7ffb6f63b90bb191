-- The group, then the room: one law for each way out.
use mathlib.Core.Path.{sym}
use native.Mathlib.Omega.{arith}
use Rattle.std.proofs.lemmas.Result.{err_from_is_err_and}
use Rattle.read_find.proofs.AskLaws.{told_found, group_there_is}
use Rattle.read_table.proofs.Plans.{read_refused, read_short, planned_all}
use Rattle.read_table.proofs.plan_records.Goals as goal

pub returns-in_err-x : goal.returns-in_err-x
returns-in_err-x c =
    let p = err_from_is_err_and c.from_residual.result c.from_residual.ensures.1 in
    rw (p.1, p.2) (read_refused _ _ _ _ (sym c.in_err-x.ensures))

pub returns-then-room-x : goal.returns-then-room-x
returns-then-room-x c = read_short _ _ _ _ (group_there_is _ _ _ _ (told_found _ _ _ (sym c.in_ok-x.ensures))) (omega arith)

pub returns : goal.returns
returns c = planned_all _ _ _ _ (group_there_is _ _ _ _ (told_found _ _ _ (sym c.in_ok-x.ensures))) (omega arith)
