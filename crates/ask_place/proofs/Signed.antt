-- Small signed numbers: a difference of two natural numbers, how far a sum or a difference goes, and what the bits of an i32 read as.
use Prim.Native.Nat.{ℕ, zero, suc, ◌+◌, ◌-◌, ◌≤◌, ◌<◌}
use mathlib.Core.Path.{◌≡◌, refl, sym, ◌∙◌, ap}
use mathlib.Core.Bool.{Bool, true, false, cond}
use native.Mathlib.Omega.{arith}
use borrow.Author.Tests.{lt-ltb, le-ltb, ltb-true, ltb-false}
use lib.Dec.{ltb}
use lib.IntN.{ℤ, pos, negsuc, neg_ℤ, sub_ℕ, ◌+ℤ◌, ◌-ℤ◌}
use lib.Signed.{mag, lt_z}
use mir.Syntax.{w32}
use mir.Val.{SFits, to_z, of_z}
use mir.Facts.{to_z_pos, to_z-of_z}

-- what cannot be
pub never : {X : Type 0} → ◌≡◌ {A = ℕ} 0 1 → X
never h = absurd (omega arith)

-- ---- a difference of two natural numbers

module _ (a b : ℕ) where
  pub sub_up : b ≤ a → sub_ℕ a b ≡ pos (a - b)
  sub_up h = simp le-ltb

  pub sub_down : a < b → sub_ℕ a b ≡ negsuc (b - suc a)
  sub_down h = simp lt-ltb

  -- the difference is a natural number
  pub sub_is : (n : ℕ) → pos n ≡ sub_ℕ a b → n + b ≡ a
  sub_is n = go (ltb a b) refl
    where
      go : (t : Bool) → ltb a b ≡ t → pos n ≡ cond t (negsuc (b - suc a)) (pos (a - b)) → n + b ≡ a
      go true h e = never (cc)
      go false h e = let z : a - b ≡ n = cc in omega (arith, ltb-false a b h)

  -- the difference compared with a natural number
  module _ (c : ℕ) where
    pub sub_lt : lt_z (sub_ℕ a b) (pos c) ≡ true → a < c + b
    sub_lt = go (ltb a b) refl
      where
        go : (t : Bool) → ltb a b ≡ t → lt_z (cond t (negsuc (b - suc a)) (pos (a - b))) (pos c) ≡ true → a < c + b
        go true h e = omega (arith, ltb-true a b h)
        go false h e = omega (arith, ltb-false a b h, ltb-true (a - b) c e)

    pub sub_ge : lt_z (sub_ℕ a b) (pos c) ≡ false → c + b ≤ a
    sub_ge = go (ltb a b) refl
      where
        go : (t : Bool) → ltb a b ≡ t → lt_z (cond t (negsuc (b - suc a)) (pos (a - b))) (pos c) ≡ false → c + b ≤ a
        go true h e = never (cc)
        go false h e = omega (arith, ltb-false a b h, ltb-false (a - b) c e)

    pub lt_sub : lt_z (pos c) (sub_ℕ a b) ≡ true → c + b < a
    lt_sub = go (ltb a b) refl
      where
        go : (t : Bool) → ltb a b ≡ t → lt_z (pos c) (cond t (negsuc (b - suc a)) (pos (a - b))) ≡ true → c + b < a
        go true h e = never (cc)
        go false h e = omega (arith, ltb-false a b h, ltb-true c (a - b) e)

-- equal differences
pub sub_same : (a b c d : ℕ) → a + d ≡ c + b → sub_ℕ a b ≡ sub_ℕ c d
sub_same a b c d e = go (ltb a b) refl
  where
    go : (t : Bool) → ltb a b ≡ t → sub_ℕ a b ≡ sub_ℕ c d
    go true h = let z = ltb-true a b h in sub_down a b z ∙ (ap negsuc (omega arith) ∙ sym (sub_down c d (omega arith)))
    go false h = let z = ltb-false a b h in sub_up a b z ∙ (ap pos (omega arith) ∙ sym (sub_up c d (omega arith)))

pub pos_pos : (a b : ℕ) → pos a -ℤ pos b ≡ sub_ℕ a b
pos_pos a zero = rw (sub_up a 0 (omega arith)) (ap pos (omega arith))
pos_pos a (suc b) = refl

pub negsuc_pos : (a b : ℕ) → negsuc a -ℤ pos b ≡ negsuc (a + b)
negsuc_pos a zero = rw (sub_down 0 (suc a) (omega arith)) (ap negsuc (omega arith))
negsuc_pos a (suc b) = ap negsuc (omega arith)

-- ---- how far

mag_subℕ : (a b : ℕ) → mag (sub_ℕ a b) ≤ a + b
mag_subℕ a b = go (ltb a b)
  where
    go : (t : Bool) → mag (cond t (negsuc (b - suc a)) (pos (a - b))) ≤ a + b
    go true = omega arith
    go false = omega arith

pub mag_add : (x y : ℤ) → mag (x +ℤ y) ≤ mag x + mag y + 1
mag_add (pos a) (pos b) = omega arith
mag_add (pos a) (negsuc b) = omega (arith, mag_subℕ a (suc b))
mag_add (negsuc a) (pos b) = omega (arith, mag_subℕ b (suc a))
mag_add (negsuc a) (negsuc b) = omega arith

mag_neg : (x : ℤ) → mag (neg_ℤ x) ≤ mag x + 1
mag_neg (pos zero) = omega arith
mag_neg (pos (suc n)) = omega arith
mag_neg (negsuc n) = omega arith

pub mag_sub : (x y : ℤ) → mag (x -ℤ y) ≤ mag x + mag y + 2
mag_sub x y = omega (arith, mag_add x (neg_ℤ y), mag_neg y)

-- ---- the bits of an i32

pub u8_reads : (n : ℕ) → n < 256 → to_z w32 n ≡ pos n
u8_reads n h = to_z_pos w32 (omega arith)

pub fits : (z : ℤ) → mag z < 65536 → SFits w32 z
fits z h = record { sfits = omega arith }

pub reads_back : (z : ℤ) → mag z < 65536 → to_z w32 (of_z w32 z) ≡ z
reads_back z h = to_z-of_z (fits z h)
