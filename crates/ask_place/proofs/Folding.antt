-- Folding by remainders is the folding of the definitions: the machine's remainder below zero, the ways out of folding, and what is then heard.
use Prim.Native.Nat.{ℕ, zero, suc, ◌+◌, ◌-◌, ◌*◌, ◌/◌, ◌%◌, ◌≤◌, ◌<◌}
use mathlib.Core.Path.{◌≡◌, refl, sym, ◌∙◌, ap}
use mathlib.Core.Bool.{Bool, true, false}
use native.Mathlib.Omega.{arith}
use borrow.Author.Tests.{ltb-true, ltb-false}
use lib.Dec.{T}
use lib.IntN.{ℤ, pos, negsuc, neg_ℤ, nat_abs, ◌+ℤ◌, ◌-ℤ◌}
use lib.Signed.{mag, lt_z, rem_z, quot_z, non_neg}
use mir.Syntax.{w32}
use mir.Val.{SFits, to_z, of_z}
use Rattle.layout.specs.Place.{octaves, folded, nearest, heard}
use Rattle.ask_place.specs.Octaves.{remainder}
use Rattle.ask_place.proofs.Signed.{never, sub_same, sub_up, sub_down, pos_pos, negsuc_pos, mag_sub, fits, u8_reads, reads_back}

-- ---- the remainder that the machine gives

pub rem_small : (x : ℤ) → mag (rem_z x (pos 12)) < 12
rem_small (pos a) = omega arith
rem_small (negsuc a) = go (suc a % 12) (omega arith)
  where
    go : (m : ℕ) → m < 12 → mag (neg_ℤ (pos m)) < 12
    go zero h = omega arith
    go (suc m) h = omega arith

pub quot_small : (x : ℤ) → mag (quot_z x (pos 12)) ≤ mag x + 1
quot_small (pos a) = omega arith
quot_small (negsuc a) = go (suc a / 12) (omega arith)
  where
    go : (q : ℕ) → q ≤ suc a → mag (neg_ℤ (pos q)) ≤ a + 1
    go zero h = omega arith
    go (suc q) h = omega arith

-- below zero an octave is added
pub rem_below : (x : ℤ) → lt_z (rem_z x (pos 12)) (pos 0) ≡ true → rem_z x (pos 12) +ℤ pos 12 ≡ pos (remainder x)
unfolding remainder
rem_below (pos a) h = let z = ltb-true (a % 12) 0 h in never (omega arith)
rem_below (negsuc a) h = go (suc a % 12) refl h
  where
    go : (m : ℕ) → suc a % 12 ≡ m → lt_z (neg_ℤ (pos m)) (pos 0) ≡ true → neg_ℤ (pos m) +ℤ pos 12 ≡ pos (11 - a % 12)
    go zero e h = never (cc)
    go (suc m) e h = sub_up 12 (suc m) (omega arith) ∙ ap pos (omega arith)

pub rem_above : (x : ℤ) → lt_z (rem_z x (pos 12)) (pos 0) ≡ false → rem_z x (pos 12) ≡ pos (remainder x)
unfolding remainder
rem_above (pos a) h = refl
rem_above (negsuc a) h = go (suc a % 12) refl h
  where
    go : (m : ℕ) → suc a % 12 ≡ m → lt_z (neg_ℤ (pos m)) (pos 0) ≡ false → neg_ℤ (pos m) ≡ pos (11 - a % 12)
    go zero e h = ap pos (omega arith)
    go (suc m) e h = never (cc)

pub remainder_small : (x : ℤ) → remainder x < 12
unfolding remainder
remainder_small (pos a) = omega arith
remainder_small (negsuc a) = omega arith

-- a remainder that a call gave reads back
pub rest_reads : (x m : ℤ) → m ≡ pos (remainder x) → to_z w32 (of_z w32 m) ≡ pos (remainder x)
rest_reads x m e = rw e (reads_back (pos (remainder x)) (omega (arith, remainder_small x)))

-- how far a value lies past a limit: the bits of the difference fit, read back near, and its remainder reads back
module _ (v : ℤ) (n : ℕ) (hv : mag v < 4096) (hn : n < 256) where
  abbrev past : ℤ
  past = to_z w32 (of_z w32 v) -ℤ to_z w32 n

  is_past : past ≡ v -ℤ pos n
  is_past = rw (reads_back v (omega arith), u8_reads n hn)

  near : mag (v -ℤ pos n) < 8192
  near = omega (arith, mag_sub v (pos n))

  past_reads : to_z w32 (of_z w32 past) ≡ v -ℤ pos n
  past_reads = rw is_past (reads_back (v -ℤ pos n) (omega (arith, near)))

  pub past_fits : SFits w32 past
  past_fits = rw is_past (fits (v -ℤ pos n) (omega (arith, near)))

  pub past_near : mag (to_z w32 (of_z w32 past)) < 8192
  past_near = rw past_reads near

  pub past_rest : (m : ℤ) → m ≡ pos (remainder (to_z w32 (of_z w32 past))) → to_z w32 (of_z w32 m) ≡ pos (remainder (v -ℤ pos n))
  past_rest m e = rest_reads (v -ℤ pos n) m (rw past_reads at e)

  -- .. and raises the limit to a natural number
  pub past_sum : (m : ℤ) → m ≡ pos (remainder (to_z w32 (of_z w32 past))) → to_z w32 n +ℤ to_z w32 (of_z w32 m) ≡ pos (n + remainder (v -ℤ pos n))
  past_sum m e = rw (u8_reads n hn, past_rest m e)

-- ---- the ways out of folding

pub fold_below : (v : ℤ) (low high : ℕ) → lt_z v (pos low) ≡ true → folded v low high ≡ pos low +ℤ pos (remainder (v -ℤ pos low))
unfolding folded remainder octaves
fold_below (pos a) low high h =
    let z = ltb-true a low h in
    rw (h, pos_pos low a, pos_pos a low, sub_up low a (omega arith), sub_down a low) (ap pos (omega arith))
fold_below (negsuc a) low high h = rw (negsuc_pos a low, sub_up (12 * ((low + suc a + 11) / 12)) (suc a) (omega arith)) (ap pos (omega arith))

pub fold_above : (v : ℤ) (low high : ℕ) → lt_z v (pos low) ≡ false → lt_z (pos high) v ≡ true → folded v low high ≡ pos high -ℤ pos (remainder (pos high -ℤ v))
unfolding folded remainder octaves
fold_above (pos a) low high g h =
    let z = ltb-true high a h in
    rw (g, h, pos_pos a high, pos_pos high a, sub_up a high (omega arith), sub_down high a)
    (pos_pos a (12 * ((a - high + 11) / 12))
    ∙ (sub_same a (12 * ((a - high + 11) / 12)) high (11 - (a - suc high) % 12) (omega arith) ∙ sym (pos_pos high (11 - (a - suc high) % 12))))
fold_above (negsuc a) low high g h = never (cc)

module _ (v : ℤ) (low high : ℕ) where
  pub fold_inside : lt_z v (pos low) ≡ false → lt_z (pos high) v ≡ false → folded v low high ≡ v
  unfolding folded
  fold_inside g h = rw (g, h)

  -- how far folding goes
  pub folded_small : mag v < 4096 → low < 256 → high < 256 → mag (folded v low high) < 8192
  folded_small hv hl hh = go (lt_z v (pos low)) refl
    where
      above : (t : Bool) → lt_z v (pos low) ≡ false → lt_z (pos high) v ≡ t → mag (folded v low high) < 8192
      above true g h = rw (fold_above v low high g h) (omega (arith, mag_sub (pos high) (pos (remainder (pos high -ℤ v))), remainder_small (pos high -ℤ v)))
      above false g h = rw (fold_inside g h) (omega arith)

      go : (t : Bool) → lt_z v (pos low) ≡ t → mag (folded v low high) < 8192
      go true h = rw (fold_below v low high h) (omega (arith, remainder_small (v -ℤ pos low)))
      go false h = above (lt_z (pos high) v) h refl

  -- ---- what is heard

  module _ (n : ℤ) (e : n ≡ folded v low high) where
    pub heard_low : lt_z n (pos low) ≡ true → heard v low high ≡ nearest v low
    unfolding heard
    heard_low h = rw (← e, h)

    module _ (g : lt_z n (pos low) ≡ false) where
      pub heard_high : lt_z (pos high) n ≡ true → heard v low high ≡ nearest v low
      unfolding heard
      heard_high h = rw (← e, g, h)

      pub heard_note : lt_z (pos high) n ≡ false → heard v low high ≡ nat_abs n
      unfolding heard
      heard_note h = rw (← e, g, h)

-- what lies within the limits is a byte
pub within_byte : (n : ℤ) (low high : ℕ) → high < 256 → lt_z n (pos low) ≡ false → lt_z (pos high) n ≡ false → T (non_neg n) × (nat_abs n < 256)
within_byte (pos a) low high hh g h = (tt, omega (arith, ltb-false high a h))
within_byte (negsuc a) low high hh g h = never (cc)
