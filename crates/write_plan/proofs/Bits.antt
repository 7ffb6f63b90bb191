-- Bits of a number: one bit is set, and the others are as they were.
use Prim.Native.Nat.{ℕ, zero, suc, ◌*◌, ◌/◌, ◌%◌, ◌^◌, max, ◌<◌}
use mathlib.Core.Path.{◌≡◌, refl, sym, ap, ◌∙◌}
use mathlib.Core.Bool.{true, false}
use native.Mathlib.Omega.{arith}
use native.Mathlib.Nat.{pow-suc, pow-succ', div-one, zero-div, div-div-eq-div-mul}
use lib.Bits.{bit_or, or_step}
use lib.Dec.{eqb}
use borrow.Author.Tests.{eq-eqb, ne_eqb}
use Rattle.layout.specs.Plays.{bit}
use Rattle.read_names.proofs.Words.{or_half, one_bit}

-- bit k as a number
abbrev digit : ℕ → ℕ → ℕ
digit n k = n / 2 ^ k % 2

digit_suc : (n k : ℕ) → digit n (suc k) ≡ digit (n / 2) k
digit_suc n k = ap (λ (m : ℕ). m % 2) (ap (λ (m : ℕ). n / m) (pow-succ' 2 k) ∙ sym (div-div-eq-div-mul n 2 (2 ^ k)))

or_digit : (k a b : ℕ) → digit (bit_or a b) k ≡ max (digit a k) (digit b k)
or_digit zero a b = rw (div-one (bit_or a b), div-one a, div-one b) (omega (arith, or_step a b))
or_digit (suc k) a b = rw (digit_suc (bit_or a b) k, digit_suc a k, digit_suc b k, or_half a b) (or_digit k (a / 2) (b / 2))

-- a power of two has the one bit
one_half : (c : ℕ) → 2 ^ suc c / 2 ≡ 2 ^ c
one_half c = let e : 2 ^ suc c ≡ 2 ^ c * 2 = pow-suc 2 c in omega (arith, e)

pow_own : (c : ℕ) → digit (2 ^ c) c ≡ 1
pow_own zero = refl
pow_own (suc c) = rw (digit_suc (2 ^ suc c) c, one_half c) (pow_own c)

pow_other : (c k : ℕ) → (k ≡ c → ⊥) → digit (2 ^ c) k ≡ 0
pow_other zero zero d = absurd (d refl)
pow_other zero (suc k) d = rw (digit_suc 1 k, zero-div (2 ^ k)) refl
pow_other (suc c) zero d = let e : 2 ^ suc c ≡ 2 ^ c * 2 = pow-suc 2 c in rw (div-one (2 ^ suc c)) (omega (arith, e))
pow_other (suc c) (suc k) d = rw (digit_suc (2 ^ suc c) k, one_half c) (pow_other c k (λ e. d (ap suc e)))

module _ (s c : ℕ) where
  pub bit_own : bit (bit_or s (2 ^ c)) c ≡ true
  unfolding bit
  bit_own = eq-eqb (digit (bit_or s (2 ^ c)) c) 1 (omega (arith, or_digit c s (2 ^ c), pow_own c))

  pub bit_other : (k : ℕ) → (k ≡ c → ⊥) → bit (bit_or s (2 ^ c)) k ≡ bit s k
  unfolding bit
  bit_other k d =
      let e : digit (bit_or s (2 ^ c)) k ≡ digit s k = omega (arith, or_digit k s (2 ^ c), pow_other c k d) in
      ap (λ (n : ℕ). eqb n 1) e

pub bit_none : (k : ℕ) → bit 0 k ≡ false
unfolding bit
bit_none k = rw (zero-div (2 ^ k)) refl

-- ---- as the code has them

pub bit_set : (n k : ℕ) → n / 2 ^ k % 2 ≡ 1 → bit n k ≡ true
unfolding bit
bit_set n k h = eq-eqb (n / 2 ^ k % 2) 1 h

pub bit_unset : (n k : ℕ) → (n / 2 ^ k % 2 ≡ 1 → ⊥) → bit n k ≡ false
unfolding bit
bit_unset n k h = ne_eqb (n / 2 ^ k % 2) 1 h

pub or_shift : (n k : ℕ) → k < 64 → bit_or n ((1 * 2 ^ k) % 18446744073709551616) ≡ bit_or n (2 ^ k)
or_shift n k l = ap (bit_or n) (one_bit k l)
