-- A number in decimal: its digits are those that `io::decimal` makes, and they are at most k where the number is below ten to the power of k.
use Prim.Native.Nat.{ℕ, zero, suc, ◌+◌, ◌-◌, ◌/◌, ◌%◌, ◌^◌, ◌≤◌, ◌<◌}
use mathlib.Core.Path.{◌≡◌, refl, ap, ◌∙◌}
use mathlib.Core.Bool.{Bool, true, false}
use mathlib.Core.List.{List, [], ◌∷◌}
use native.Mathlib.Omega.{arith}
use native.Mathlib.Nat.{pow-suc, pow-le-pow_right}
use native.Mathlib.Decide.{dec_lt}
use lib.Dec.{ltb}
use lib.ListN.{length, length-append}
use borrow.Author.Tests.{lt-ltb, le-ltb}
use Rattle.layout.specs.Scan.{first_of, first}
use Rattle.layout.specs.Listing.{numeral, places, decimal}
use Rattle.io.specs.Digits.{last_digits, IsDigitCount}

-- ---- the fewest digits

module _ (p : ℕ → Bool) where
  -- the first that passes is at most any that does
  of_most : (n k i : ℕ) → k ≤ i → p i ≡ true → first_of p k n ≤ i
  unfolding first_of
  of_most zero k i h t = h
  of_most (suc n) k i h t = go (p k) refl (λ l. of_most n (suc k) i l t)
    where
      go : (b : Bool) → p k ≡ b → (suc k ≤ i → first_of p (suc k) n ≤ i) → first_of p k (suc n) ≤ i
      go true e more = rw e h
      go false e more = rw e (more (apart (dec_lt k i)))
        where
          apart : Dec (k < i) → suc k ≤ i
          apart (yes l) = l
          apart (no l) = absurd (let z : k ≡ i = omega arith in let y : ◌≡◌ {A = ℕ} 0 1 = cc in omega arith)

  -- .. and no less than r where none before r passes
  of_least : (n k r : ℕ) → r ≤ k + n → ((i : ℕ) → k ≤ i → i < r → p i ≡ false) → r ≤ first_of p k n
  unfolding first_of
  of_least zero k r h f = omega arith
  of_least (suc n) k r h f = go (p k) refl (of_least n (suc k) r (omega arith) (λ i l g. f i (omega arith) g))
    where
      go : (b : Bool) → p k ≡ b → r ≤ first_of p (suc k) n → r ≤ first_of p k (suc n)
      go false e more = rw e more
      go true e more = rw e (here (dec_lt k r))
        where
          here : Dec (k < r) → r ≤ k
          here (no l) = omega arith
          here (yes l) = absurd (let q = f k (omega arith) l in let y : ◌≡◌ {A = ℕ} 0 1 = cc in omega arith)

-- a number is below ten to its own power
below_power : (k : ℕ) → k < 10 ^ k
below_power zero = omega arith
below_power (suc k) = rw (pow-suc 10 k) (omega (arith, below_power k))

places_most : (n k : ℕ) → 1 ≤ k → n < 10 ^ k → places n ≤ k
unfolding places first
places_most n k h l = of_most (λ j. ltb n (10 ^ j)) (n + 1 - 1) 1 k h (lt-ltb n (10 ^ k) l)

fewest_least : (n r : ℕ) → IsDigitCount 10 1 n r → r ≤ places n
unfolding places first
fewest_least n r f = of_least (λ j. ltb n (10 ^ j)) (n + 1 - 1) 1 r (few (dec_lt 1 r)) none
  where
    few : Dec (1 < r) → r ≤ 1 + (n + 1 - 1)
    few (yes l) = omega (arith, f.2 l, below_power (r - 1))
    few (no l) = omega (arith, f.0)

    none : (i : ℕ) → 1 ≤ i → i < r → ltb n (10 ^ i) ≡ false
    none i h l =
        let a : 10 ^ (r - 1) ≤ n = f.2 (omega arith) in
        let b : 10 ^ i ≤ 10 ^ (r - 1) = pow-le-pow_right (omega arith) (omega arith) in
        le-ltb n (10 ^ i) (omega arith)

fewest_is : (n r : ℕ) → IsDigitCount 10 1 n r → r ≡ places n
fewest_is n r f = omega (arith, places_most n r f.0 f.1, fewest_least n r f)

-- ---- the digits

numeral_digits : (k n : ℕ) → last_digits 10 k n ≡ numeral k n
unfolding numeral
numeral_digits zero n = refl
numeral_digits (suc k) n = rw (lt-ltb (n % 10) 10 (omega arith), numeral_digits k (n / 10))

numeral_length : (k n : ℕ) → length (numeral k n) ≡ k
unfolding numeral
numeral_length zero n = refl
numeral_length (suc k) n = omega (arith, length-append (numeral k (n / 10)) ((0x30 + n % 10) ∷ []), numeral_length k (n / 10))

-- the digits that were made
pub decimal_made : (n r : ℕ) (made : List ℕ) → IsDigitCount 10 1 n r → made ≡ last_digits 10 r n → made ≡ decimal n
unfolding decimal
decimal_made n r made f e = e ∙ (numeral_digits r n ∙ ap (λ k. numeral k n) (fewest_is n r f))

-- how many there are at most
pub decimal_most : (n k : ℕ) → 1 ≤ k → n < 10 ^ k → length (decimal n) ≤ k
unfolding decimal
decimal_most n k h l = omega (arith, numeral_length (places n) n, places_most n k h l)
