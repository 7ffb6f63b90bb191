-- What a verdict denies under a condition, exactly and with a number above 0, is given so in the answer that the caller has in hand.
use Prim.Native.Nat.{ℕ, ◌<◌}
use mathlib.Core.Path.{◌≡◌, refl, ap}
use native.Mathlib.Omega.{arith}
use Rattle.layout.specs.declared.answer.Which.{Which}
use Rattle.layout.specs.declared.answer.Which.TheVariants.{Neither}
use Rattle.layout.specs.Check.{Verdict, Denied, Yes, No, checked}
use Rattle.law_checked.specs.Refused.{GivenOf}

module _ (P : Which → ℕ → ℕ → Type 0) (above : (which : Which) (number place : ℕ) → P which number place → 0 < number) where
  pub given_of : (v : Verdict) → ((which : Which) (number place : ℕ) → v ≡ Denied which number place → P which number place)
      → ((which : Which) (number place : ℕ) → P which number place → v ≡ Denied which number place) → GivenOf P (checked v).which (checked v).number (checked v).place
  unfolding checked
  given_of v only always =
      record {
        accepts = accepts v only;
        only = tells v only;
        always = λ w n p h. let q = always w n p h in (ap (λ (x : Verdict). (checked x).which) q, (ap (λ (x : Verdict). (checked x).number) q, ap (λ (x : Verdict). (checked x).place) q));
      }
    where
      accepts : (u : Verdict) → ((which : Which) (number place : ℕ) → u ≡ Denied which number place → P which number place)
          → (checked u).number ≡ 0 → ((checked u).place ≡ 0) × ((checked u).which ≡ Neither)
      accepts (Denied which number place) f z = absurd (omega (arith, above which number place (f which number place refl), z))
      accepts Yes f z = (refl, refl)
      accepts (No k) f z = (refl, refl)

      tells : (u : Verdict) → ((which : Which) (number place : ℕ) → u ≡ Denied which number place → P which number place)
          → ((checked u).number ≡ 0 → ⊥) → P (checked u).which (checked u).number (checked u).place
      tells (Denied which number place) f z = f which number place refl
      tells Yes f z = absurd (z refl)
      tells (No k) f z = absurd (z refl)
