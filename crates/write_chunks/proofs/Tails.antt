-- Bytes stored from a start on, and a tail that is lent on: what is lent, and what stands there when it is back.
use Prim.Native.Nat.{ℕ, zero, suc, ◌+◌, ◌-◌, ◌≤◌, ◌<◌}
use mathlib.Core.Path.{◌≡◌, refl, sym, ◌∙◌, ap}
use mathlib.Core.List.{List, [], ◌∷◌, ◌++◌, append-nil}
use native.Mathlib.Omega.{arith}
use native.Mathlib.Nat.{not-suc-le-zero, le_of_suc-le-suc}
use native.Mathlib.Numerals.{add-one}
use lib.ListN.{length, get_or, set, take, drop, length-drop, take-append-drop}
use lib.Seq.{take_all, take_at, drop_at, drop-length, drop-drop, length-take-le}
use borrow.Rule.Slice.PartMut.{mid_of, put_mid, Post-is}
use Rattle.layout.specs.Edit.{replaced}

-- ---- bytes b stored one after the other over d

fill_suc : (n : ℕ) (b d : List ℕ) → n < length b → n < length d → set (take n b ++ drop n d) n (get_or b n 0) ≡ take (suc n) b ++ drop (suc n) d
fill_suc n [] d h l = absurd (not-suc-le-zero h)
fill_suc n (y ∷ b) [] h l = absurd (not-suc-le-zero l)
fill_suc zero (y ∷ b) (x ∷ d) h l = refl
fill_suc (suc n) (y ∷ b) (x ∷ d) h l = ap (λ (t : List ℕ). y ∷ t) (fill_suc n b d (le_of_suc-le-suc h) (le_of_suc-le-suc l))

pub fill_next : (n : ℕ) (b d : List ℕ) → n < length b → n < length d → set (take n b ++ drop n d) n (get_or b n 0) ≡ take (n + 1) b ++ drop (n + 1) d
fill_next n b d h l = rw (add-one n) (fill_suc n b d h l)

pub fill_end : (n : ℕ) (b d : List ℕ) → n ≤ length b → length b ≤ n → take n b ++ drop n d ≡ b ++ drop (length b) d
fill_end n b d h l = let z : n ≡ length b = omega arith in rw (z, take_all (length b) b (omega arith))

-- ---- the tail of xs from a on, where h stands before it

module _ (h old xs : List ℕ) (a : ℕ) (e : length h ≡ a) (l : a ≤ length xs) (q : xs ≡ h ++ drop a old) where
  -- what is lent
  pub tail_is : mid_of a (length xs - a) xs ≡ drop a old
  tail_is =
      let t : drop a xs ≡ drop a old = ap (drop a) q ∙ drop_at h (drop a old) a e in
      ap (take (length xs - a)) t ∙ take_all (length xs - a) (drop a old) (omega (arith, length-drop a xs, ap length t))

  -- what stands there when the tail is back as ys
  pub tail_put : (ys : List ℕ) → put_mid a (length xs - a) xs ys ≡ h ++ ys
  tail_put ys =
      ap (λ (p : List ℕ). take a xs ++ (ys ++ p)) (Post-is a (length xs) xs l ∙ drop-length xs) ∙
      (ap (λ (p : List ℕ). take a xs ++ p) (append-nil ys) ∙ ap (λ (p : List ℕ). p ++ ys) (ap (take a) q ∙ take_at h (drop a old) a e))

  -- .. and where the tail was given the bytes b at its start
  pub tail_written : (b ys : List ℕ) (n : ℕ) → length b ≡ n → ys ≡ b ++ drop n (mid_of a (length xs - a) xs) → put_mid a (length xs - a) xs ys ≡ h ++ (b ++ drop (a + n) old)
  tail_written b ys n z w = tail_put ys ∙ ap (λ (p : List ℕ). h ++ p) (w ∙ ap (λ (p : List ℕ). b ++ p) (ap (drop n) tail_is ∙ drop-drop n a old))

-- ---- bytes in place of those that stand at a place

pub tail_replaced : (old b ys : List ℕ) (at n : ℕ) → at ≤ length old → length b ≡ n → ys ≡ b ++ drop n (mid_of at (length old - at) old) → put_mid at (length old - at) old ys ≡ replaced old at b
unfolding replaced
tail_replaced old b ys at n l z w =
    let q : old ≡ take at old ++ drop at old = sym (take-append-drop at old) in
    let y : at + n ≡ at + length b = omega arith in
    tail_written (take at old) old old at (length-take-le at old l) l q b ys n z w ∙ ap (λ (k : ℕ). take at old ++ (b ++ drop k old)) y
