-- What the answer in a caller's hand says of the verdict: yes, or accepted and no.
use Prim.Native.Nat.{ℕ, ◌<◌}
use mathlib.Core.Path.{◌≡◌, refl, sym, ap, ◌∙◌}
use mathlib.Core.Bool.{true, false, true≢false}
use native.Mathlib.Omega.{arith}
use Rattle.layout.specs.declared.answer.Checked.{Checked}
use Rattle.layout.specs.declared.answer.Which.{Which}
use Rattle.layout.specs.Check.{Verdict, Denied, Yes, No, checked}

pub said_yes : (v : Verdict) (r : Checked) → r ≡ checked v → r.yes ≡ true → v ≡ Yes
unfolding checked
said_yes (Denied w n p) r e h = absurd (true≢false (sym h ∙ ap (λ (x : Checked). x.yes) e))
said_yes Yes r e h = refl
said_yes (No k) r e h = absurd (true≢false (sym h ∙ ap (λ (x : Checked). x.yes) e))

pub is_said_yes : (v : Verdict) (r : Checked) → r ≡ checked v → v ≡ Yes → r.yes ≡ true
unfolding checked
is_said_yes v r e h = ap (λ (x : Checked). x.yes) (e ∙ ap checked h)

-- a refusal has a number above 0
module _ (v : Verdict) (above : (which : Which) (number place : ℕ) → v ≡ Denied which number place → 0 < number) (r : Checked) (e : r ≡ checked v) where
  pub said_no : r.number ≡ 0 → r.yes ≡ false → v ≡ No r.unlike
  unfolding checked
  said_no z h = go v refl
    where
      go : (u : Verdict) → v ≡ u → v ≡ No r.unlike
      go (Denied w n p) q = absurd (omega (arith, above w n p q, sym z ∙ ap (λ (x : Checked). x.number) (e ∙ ap checked q)))
      go Yes q = absurd (true≢false (sym (ap (λ (x : Checked). x.yes) (e ∙ ap checked q)) ∙ h))
      go (No k) q = q ∙ ap No (sym (ap (λ (x : Checked). x.unlike) (e ∙ ap checked q)))

pub is_said_no : (v : Verdict) (r : Checked) (k : ℕ) → r ≡ checked v → v ≡ No k → (r.number ≡ 0) × ((r.yes ≡ false) × (r.unlike ≡ k))
unfolding checked
is_said_no v r k e h = let q = e ∙ ap checked h in (ap (λ (x : Checked). x.number) q, (ap (λ (x : Checked). x.yes) q, ap (λ (x : Checked). x.unlike) q))

-- on refusal the other fields are 0
pub says_nothing : (v : Verdict) (r : Checked) → r ≡ checked v → (r.number ≡ 0 → ⊥) → (r.yes ≡ false) × (r.unlike ≡ 0)
unfolding checked
says_nothing (Denied w n p) r e z = (ap (λ (x : Checked). x.yes) e, ap (λ (x : Checked). x.unlike) e)
says_nothing Yes r e z = absurd (z (ap (λ (x : Checked). x.number) e))
says_nothing (No k) r e z = absurd (z (ap (λ (x : Checked). x.number) e))
