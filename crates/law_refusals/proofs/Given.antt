-- What is told of an answer is told of the number and place that a caller has in hand.
use Prim.Native.Nat.{ℕ}
use mathlib.Core.Path.{◌≡◌, ap, ◌∙◌}
use native.Mathlib.Omega.{arith}
use Rattle.layout.specs.Answers.{Answer, refused, granted, number_of, place_of}
use Rattle.law_refusals.specs.Given.{GivenUnder}
use Rattle.law_refusals.proofs.Told.{AnswerTold}
use Rattle.law_refusals.proofs.Above.{Above}

-- the number and place of an answer
pub given : {A : Type 0} (P : ℕ → ℕ → Type 0) → Above P → (a : Answer A) → AnswerTold P a → ((n p : ℕ) → P n p → a ≡ refused n p)
    → (number place : ℕ) → number ≡ number_of a → place ≡ place_of a → GivenUnder P number place
unfolding number_of place_of
given {A = A} P above a told answers number place e f =
    record { accepts = accepts a told e f; only = only a told e f; always = λ n p h. let q = answers n p h in (e ∙ ap number_of q, f ∙ ap place_of q) }
  where
    accepts : (b : Answer A) → AnswerTold P b → number ≡ number_of b → place ≡ place_of b → number ≡ 0 → place ≡ 0
    accepts (refused k at) h i j z = absurd (omega (arith, above k at h))
    accepts (granted x) h i j z = j

    only : (b : Answer A) → AnswerTold P b → number ≡ number_of b → place ≡ place_of b → (number ≡ 0 → ⊥) → P number place
    only (refused k at) h i j z = rw (i, j) h
    only (granted x) h i j z = absurd (z i)
