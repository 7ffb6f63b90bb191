-- What demand 1 says of one answer (document 01, "Numbers of refusal": "each answer carries a number and a place ..; 0 accepts, at place 0").
use Rattle.std.specs.Prelude.{ℕ, ◌≡◌}

-- 0 accepts, at place 0; another number is given, with its place, under the condition of its row: only there, and always there
pub record GivenUnder (Condition : ℕ → ℕ → Type 0) (number place : ℕ) : Type 0 where
  pub accepts : number ≡ 0 → place ≡ 0
  pub only : (number ≡ 0 → ⊥) → Condition number place
  pub always : (n p : ℕ) → Condition n p → (number ≡ n) × (place ≡ p)
