-- CSEG at a place of the body, letter by letter, and how far on the next CSEG can stand.
use Prim.Native.Nat.{ℕ, ◌+◌, ◌≤◌, ◌<◌}
use native.Mathlib.Omega.{arith}
use native.Mathlib.Decide.{dec_lt}
use mathlib.Core.Path.{◌≡◌, sym, ap, ◌∙◌}
use mathlib.Core.Bool.{true, false}
use mathlib.Core.List.{List}
use lib.ListN.{length, get_or, drop, length-drop}
use lib.Seq.{get_or-drop}
use Rattle.layout.specs.Bytes.{tag_at, tagged, four}
use Rattle.layout.specs.Salvage.{cseg}
use Rattle.layout.proofs.Groups.{cseg_tag}
use Rattle.read_salvage.specs.Entries.{Skip, Next}
use Rattle.read_salvage.proofs.Cseg.{not_so, cseg_is}

-- CSEG stands at k of s
pub record Letters (s : List ℕ) (k : ℕ) : Type 0 where
  pub long : k + 4 ≤ length s
  pub l₀ : get_or s k 0 ≡ 67
  pub l₁ : get_or s (k + 1) 0 ≡ 83
  pub l₂ : get_or s (k + 2) 0 ≡ 69
  pub l₃ : get_or s (k + 3) 0 ≡ 71

-- CSEG at the start of what is left from k on: its letters at k
pub cseg_letters : (k : ℕ) (s : List ℕ) → cseg (drop k s) ≡ true → Letters s k
cseg_letters k s e =
    let q = cseg_is (drop k s) e in
    let z : k + 0 ≡ k = omega arith in
    record {
      long = omega (arith, length-drop k s, ap length q);
      l₀ = rw z at (sym (get_or-drop k s 0 0) ∙ ap (λ (t : List ℕ). get_or t 0 0) q);
      l₁ = sym (get_or-drop k s 1 0) ∙ ap (λ (t : List ℕ). get_or t 1 0) q;
      l₂ = sym (get_or-drop k s 2 0) ∙ ap (λ (t : List ℕ). get_or t 2 0) q;
      l₃ = sym (get_or-drop k s 3 0) ∙ ap (λ (t : List ℕ). get_or t 3 0) q;
    }

-- .. and the tag at k is what is asked for
pub cseg_tagged : (k : ℕ) (s : List ℕ) → tagged s k (four 0x43534547) ≡ cseg (drop k s)
unfolding cseg tagged tag_at
cseg_tagged k s = rw cseg_tag

-- ---- the search

-- none stands from i on below k, and fewer than four bytes are left at k: none stands from i on
pub tail_none : (s : List ℕ) (i k : ℕ) → length s ≤ k + 3 → ((j : ℕ) → j < k → i ≤ j → cseg (drop j s) ≡ false)
    → (j : ℕ) → j < length s → i ≤ j → cseg (drop j s) ≡ false
tail_none s i k h f j l b = go (dec_lt j k)
  where
    go : Dec (j < k) → cseg (drop j s) ≡ false
    go (yes m) = f j m b
    go (no m) = not_so _ (λ e. let t = cseg_letters j s e in omega arith)

-- none stands from i on below k, none at k, and the byte three places on lets n places pass
pub skip_none : (s : List ℕ) (i k n : ℕ) → Skip (get_or s (k + 3) 0) n → ((j : ℕ) → j < k → i ≤ j → cseg (drop j s) ≡ false) → cseg (drop k s) ≡ false
    → (j : ℕ) → j < k + n → i ≤ j → cseg (drop j s) ≡ false
skip_none s i k n p f h j l b = go (dec_lt j k) (dec_lt k j) (dec_lt (k + 1) j) (dec_lt (k + 2) j)
  where
    go : Dec (j < k) → Dec (k < j) → Dec (k + 1 < j) → Dec (k + 2 < j) → cseg (drop j s) ≡ false
    go (yes m) c d t = f j m b
    go (no m) (no c) d t = let q : j ≡ k = omega arith in rw q h
    go (no m) (yes c) (no d) t =
        let q : j + 2 ≡ k + 3 = omega arith in
        not_so _ (λ e. p.not_e (omega arith) (rw q at (cseg_letters j s e).l₂))
    go (no m) (yes c) (yes d) (no t) =
        let q : j + 1 ≡ k + 3 = omega arith in
        not_so _ (λ e. p.not_s (omega arith) (rw q at (cseg_letters j s e).l₁))
    go (no m) (yes c) (yes d) (yes t) =
        let q : j ≡ k + 3 = omega (arith, p.most) in
        not_so _ (λ e. p.not_c (omega arith) (rw q at (cseg_letters j s e).l₀))

-- CSEG cannot overlap itself: after one at i, the search may go on four places later
pub next_after : (s : List ℕ) (i e : ℕ) → cseg (drop i s) ≡ true → Next s (i + 4) e → Next s (i + 1) e
next_after s i e c n =
    record { from = omega (arith, n.from); within = n.within; none = λ k a b. go k a b (dec_lt k (i + 4)) (dec_lt (i + 1) k) (dec_lt (i + 2) k); here = n.here }
  where
    at : Letters s i
    at = cseg_letters i s c

    go : (k : ℕ) → k < e → i + 1 ≤ k → Dec (k < i + 4) → Dec (i + 1 < k) → Dec (i + 2 < k) → cseg (drop k s) ≡ false
    go k a b (no m) d t = n.none k a (omega arith)
    go k a b (yes m) (no d) t = let q : k ≡ i + 1 = omega arith in rw q (not_so _ (λ h. let z = (cseg_letters (i + 1) s h).l₀ in omega (arith, at.l₁, z)))
    go k a b (yes m) (yes d) (no t) = let q : k ≡ i + 2 = omega arith in rw q (not_so _ (λ h. let z = (cseg_letters (i + 2) s h).l₀ in omega (arith, at.l₂, z)))
    go k a b (yes m) (yes d) (yes t) = let q : k ≡ i + 3 = omega arith in rw q (not_so _ (λ h. let z = (cseg_letters (i + 3) s h).l₀ in omega (arith, at.l₃, z)))
