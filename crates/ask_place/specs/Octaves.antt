-- Octaves: the remainder by an octave, and the note that documents 01 ("Placing a note") and 02 (§3) name for a value under the limits.
use Rattle.std.specs.Prelude.{ℕ, ◌+◌, ◌-◌, ◌%◌, ◌<◌, ◌≤◌, ◌≡◌, ◌⊎◌, true, false, ℤ, pos, negsuc, ◌+ℤ◌, ◌*ℤ◌}
use Rattle.std.specs.Int.Signed.{lt_z}

-- 0 to 11 also below zero
unfoldable pub remainder : ℤ → ℕ
remainder (pos a) = a % 12
remainder (negsuc a) = 11 - a % 12

-- n is an octave of the value v: n = v + 12·k for an integer k
pub record Octave (v : ℤ) (n : ℕ) : Type 0 where
  pub by : ℤ
  pub is : pos n ≡ v +ℤ pos 12 *ℤ by

-- n is the note of the value v under the limits
pub record Sounds (v : ℤ) (low high n : ℕ) : Type 0 where
  pub reaches : low ≤ n
  pub meets : n ≤ high
  pub octave : Octave v n
  -- "inside the limits this value is the answer"
  pub inside : lt_z v (pos low) ≡ false → lt_z (pos high) v ≡ false → v ≡ pos n
  -- "below, the smallest note above by octaves that reaches the low limit"
  pub smallest : lt_z v (pos low) ≡ true → (m : ℕ) → Octave v m → low ≤ m → n ≤ m
  -- "above, the largest below by octaves that meets the high limit"
  pub largest : lt_z (pos high) v ≡ true → (m : ℕ) → Octave v m → m ≤ high → m ≤ n

-- no octave of the value v lies within both limits
abbrev pub NoneWithin : ℤ → ℕ → ℕ → Type 0
NoneWithin v low high = (m : ℕ) → low ≤ m → m ≤ high → Octave v m → ⊥

-- how far two notes lie apart
abbrev pub apart : ℕ → ℕ → ℕ
apart a b = a - b + (b - a)

-- n is "the octave of it within 0 to 127 that is nearest to the low limit, the lower of two equally near" (document 02, §3)
pub record Nearest (v : ℤ) (low n : ℕ) : Type 0 where
  pub note : n ≤ 127
  pub octave : Octave v n
  pub nearest : (m : ℕ) → m ≤ 127 → Octave v m → (apart n low < apart m low) ⊎ ((apart n low ≡ apart m low) × (n ≤ m))

-- n is the answer for the value v under the limits: the note that document 01 names, and "when no octave of the value lies within the limits" the nearest
pub data Answers (v : ℤ) (low high n : ℕ) : Type 0 where
  within : Sounds v low high n → Answers v low high n
  elsewhere : NoneWithin v low high → Nearest v low n → Answers v low high n
