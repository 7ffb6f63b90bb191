-- One law for each way out.
use mathlib.Core.Path.{sym, ◌∙◌}
use Rattle.ask_place.proofs.Ways.{fixed_always, fixed_bypass, fixed_else}
use Rattle.ask_place.proofs.choose.is_fixed.Goals as goal

pub returns-then-rule-eq-THIRD : goal.returns-then-rule-eq-THIRD
returns-then-rule-eq-THIRD c = sym (fixed_always _ _ c.if-rule-eq-THIRD.true)

pub returns-then-is_bypass : goal.returns-then-is_bypass
returns-then-is_bypass c = sym (fixed_bypass _ _ c.if-rule-eq-THIRD.false (sym c.is_bypass.ensures ∙ c.if-is_bypass.true))

pub returns : goal.returns
returns c = sym (fixed_else _ _ c.if-rule-eq-THIRD.false (sym c.is_bypass.ensures ∙ c.if-is_bypass.false))
