-- Field by field, two of them as numbers.
use mathlib.Core.Path.{◌≡◌, ap₂}
use Prim.Native.Nat.{ℕ}
use Rattle.c_export.specs.declared.answer.Check.{Check}
use Rattle.c_export.proofs.checking.check_of.Goals as goal

fields : (number place unlike : ℕ) {a b c d : ℕ} → a ≡ b → c ≡ d
    → ◌≡◌ {A = Check} (record { number = number; place = place; which = a; yes = c; unlike = unlike }) (record { number = number; place = place; which = b; yes = d; unlike = unlike })
fields number place unlike p q = ap₂ (λ x y. record { number = number; place = place; which = x; yes = y; unlike = unlike }) p q

pub returns : goal.returns
returns c = fields _ _ _ c.which_number-n.ensures c.yes_number-yes.ensures
