-- Bits that are set stay set: laws of `or` on numbers, and a bit as a shift gives it.
use Prim.Native.Nat.{ℕ, zero, suc, ◌+◌, ◌*◌, ◌/◌, ◌%◌, ◌^◌, max, ◌<◌}
use native.Mathlib.Omega.{arith}
use native.Mathlib.Nat.{pow-suc, one-mul}
use mathlib.Core.Path.{◌≡◌, refl, sym, ap, ◌∙◌}
use lib.Pow.{pow_mono, shl_exact}
use lib.Bits.{bit_or, or_step, or_comm, or_self}

pub or_half : (a b : ℕ) → bit_or a b / 2 ≡ bit_or (a / 2) (b / 2)
or_half a b = omega (arith, or_step a b)

or_odd : (a b : ℕ) → bit_or a b % 2 ≡ max (a % 2) (b % 2)
or_odd a b = omega (arith, or_step a b)

max_three : (x y z : ℕ) → max (max x y) z ≡ max x (max y z)
max_three x y z = omega arith

or_below : (k a b c : ℕ) → a < 2 ^ k → b < 2 ^ k → c < 2 ^ k → bit_or (bit_or a b) c ≡ bit_or a (bit_or b c)
or_below zero a b c h i j =
    let x : a ≡ 0 = omega arith in
    let y : b ≡ 0 = omega arith in
    let z : c ≡ 0 = omega arith in
    rw (x, y, z) refl
or_below (suc k) a b c h i j =
    let e : 2 ^ suc k ≡ 2 ^ k * 2 = pow-suc 2 k in
    or_step (bit_or a b) c
    ∙ (rw (or_half a b, or_odd a b, or_below k (a / 2) (b / 2) (c / 2) (omega (arith, e)) (omega (arith, e)) (omega (arith, e)), max_three (a % 2) (b % 2) (c % 2)) (rw (← (or_half b c), ← (or_odd b c)) (sym (or_step a (bit_or b c)))))

small : (n : ℕ) → n < 2 ^ n
small zero = omega arith
small (suc n) = let e : 2 ^ suc n ≡ 2 ^ n * 2 = pow-suc 2 n in omega (arith, e, small n)

pub or_assoc : (a b c : ℕ) → bit_or (bit_or a b) c ≡ bit_or a (bit_or b c)
or_assoc a b c =
    let k = a + b + c in
    or_below k a b c (omega (arith, small a, pow_mono {i = a} {j = k} (omega arith))) (omega (arith, small b, pow_mono {i = b} {j = k} (omega arith))) (omega (arith, small c, pow_mono {i = c} {j = k} (omega arith)))

-- what was set is set, and what is set stays so
pub or_again : (v p : ℕ) → bit_or (bit_or v p) p ≡ bit_or v p
or_again v p = or_assoc v p p ∙ ap (bit_or v) (or_self p)

pub or_kept : (v p q : ℕ) → bit_or v q ≡ v → bit_or (bit_or v p) q ≡ bit_or v p
or_kept v p q h = or_assoc v p q ∙ (ap (bit_or v) (or_comm p q) ∙ (sym (or_assoc v q p) ∙ ap (λ (x : ℕ). bit_or x p) h))

-- a bit as a shift gives it
pub one_bit : (k : ℕ) → k < 64 → (1 * 2 ^ k) % 18446744073709551616 ≡ 2 ^ k
one_bit k l = shl_exact {a = 1} 1 k 64 (omega arith) (omega arith) ∙ one-mul (2 ^ k)
