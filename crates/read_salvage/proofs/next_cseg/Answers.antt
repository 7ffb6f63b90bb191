-- No CSEG stands from `from` on below k. Where none stands at k, the byte three places on says how many places more have none; k goes up to the end.
use native.Mathlib.Omega.{arith}
use mathlib.Core.Path.{sym, ◌∙◌}
use Rattle.read_salvage.proofs.Letters.{tail_none, skip_none}
use borrow.Author.Rules.{rules}
use Rattle.read_salvage.proofs.next_cseg.Goals as goal

pub returns-then-s-lt4 : goal.returns-then-s-lt4
returns-then-s-lt4 c = record { from = search rules; within = search rules; none = tail_none _ _ 0 (omega arith) (λ j a b. absurd (omega arith)); here = λ l. absurd (omega arith) }

pub loop-k-init : goal.loop-k-init
loop-k-init c = (search rules, search rules, λ j a b. absurd (omega arith))

pub returns-then-is_cseg : goal.returns-then-is_cseg
returns-then-is_cseg c = record { from = search rules; within = search rules; none = search rules; here = λ _. sym c.is_cseg.ensures ∙ c.if-is_cseg.true }

pub loop-k-preserved : goal.loop-k-preserved
loop-k-preserved c =
    let d = c in
    (search rules, search rules, skip_none _ _ _ _ c.skip-k.ensures d.loop-k.invariant.2 (sym d.is_cseg.ensures ∙ d.if-is_cseg.false))

pub returns : goal.returns
returns c = record { from = search rules; within = search rules; none = tail_none _ _ _ (omega arith) c.loop-k.invariant.2; here = λ l. absurd (omega arith) }
