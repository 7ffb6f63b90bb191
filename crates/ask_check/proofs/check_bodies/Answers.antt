-- What was found in both bodies, told; where the record is there, the comparison.
use mathlib.Core.Path.{sym, ap, ◌∙◌}
use Rattle.std.specs.Prelude.{Err}
use native.Mathlib.Omega.{arith}
use Rattle.ask_check.proofs.Verdicts.{at_within}
use Rattle.ask_check.proofs.Answers.{bodies_before, bodies_after, bodies_without, bodies_at}
use Rattle.ask_check.proofs.check_bodies.Goals as goal

pub compare-requires : goal.compare-requires
compare-requires c =
    omega (arith, c.size_of.ensures, at_within _ _ _ _ _ _ (sym c.in-Ok.ensures))

pub returns-in-Err-InBefore : goal.returns-in-Err-InBefore
returns-in-Err-InBefore c =
    c.denied.ensures ∙ bodies_before _ _ _ _ _ _ (sym c.in-Err-InBefore.ensures ∙ ap Err c.in-Err-InBefore.field-0-is)

pub returns-in-Err-InAfter : goal.returns-in-Err-InAfter
returns-in-Err-InAfter c =
    c.denied-in-Err-InAfter.ensures ∙ bodies_after _ _ _ _ _ _ (sym c.in-Err-InAfter.ensures ∙ ap Err c.in-Err-InAfter.field-0-is)

pub returns-in-Err-Nowhere : goal.returns-in-Err-Nowhere
returns-in-Err-Nowhere c =
    c.denied-in-Err-Nowhere.ensures ∙ bodies_without _ _ _ _ _ (sym c.in-Err-Nowhere.ensures ∙ ap Err c.in-Err-Nowhere.field-0-is)

pub returns-in-Ok : goal.returns-in-Ok
returns-in-Ok c =
    c.compare.ensures ∙ bodies_at _ _ _ _ _ _ _ (sym c.in-Ok.ensures) c.size_of.ensures
