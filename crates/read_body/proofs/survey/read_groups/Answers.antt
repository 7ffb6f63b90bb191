-- The limit, the groups but for their names, and then the names.
use mathlib.Core.Path.{sym}
use native.Mathlib.Omega.{arith}
use Rattle.layout.proofs.Runs.{not_ended}
use Rattle.layout.proofs.Accepted.{body_over}
use Rattle.read_body.proofs.TurnLaws.{names_again, names_apart}
use Rattle.read_body.proofs.survey.read_groups.Goals as goal

pub returns-then-s-gt-BODY : goal.returns-then-s-gt-BODY
returns-then-s-gt-BODY c = record { run = sym (body_over _ (omega arith)); known = λ n e. not_ended _ _ n e }

pub returns-then-k-groups : goal.returns-then-k-groups
returns-then-k-groups c = rw c.wide.ensures (names_again _ _ _ (omega arith) c.enter_groups-run.ensures _ c.first_again-k.ensures (omega arith))

pub returns : goal.returns
returns c = names_apart _ _ _ (omega arith) c.enter_groups-run.ensures _ c.first_again-k.ensures (omega arith)
