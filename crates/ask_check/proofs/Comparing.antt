-- One comparison in two stretches, before the record and behind it: outside it a place is unlike where the bytes differ, inside it none is.
use Prim.Native.Nat.{ℕ, zero, suc, ◌+◌, ◌-◌, ◌≤◌, ◌<◌, min}
use mathlib.Core.Path.{◌≡◌, refl, sym, ap, ◌∙◌}
use mathlib.Core.Bool.{Bool, true, false, cond, not}
use mathlib.Core.List.{List}
use native.Mathlib.Decide.{dec_lt}
use native.Mathlib.Omega.{arith}
use lib.ListN.{length, get_or}
use borrow.Author.Tests.{lt-ltb, le-ltb, le-leb, lt-leb, eq-eqb, ne_eqb}
use Rattle.layout.specs.Scan.{first_of, first}
use Rattle.layout.specs.Check.{unlike_at, first_unlike, compared, checked}
use Rattle.layout.proofs.Scans.{first_next, first_passed, first_none, first_cut, first_on, first_alike}
use Rattle.ask_check.specs.Apart.{apart_at, SameFrom}
use Rattle.ask_check.specs.Told.{told}

-- ---- the first number from k on, by what the test says from there

alike_of : (p q : ℕ → Bool) (n k : ℕ) → ((i : ℕ) → k ≤ i → i < k + n → p i ≡ q i) → first_of p k n ≡ first_of q k n
unfolding first_of
alike_of p q zero k h = refl
alike_of p q (suc n) k h = rw (h k (omega arith) (omega arith)) (ap (λ (x : ℕ). cond (q k) k x) (alike_of p q n (suc k) (λ i l m. h i (omega arith) (omega arith))))

-- none below k passes, and from there on the tests say the same
first_from : (p q : ℕ → Bool) (k e : ℕ) → k ≤ e → ((i : ℕ) → i < k → p i ≡ false) → ((i : ℕ) → k ≤ i → i < e → p i ≡ q i) → first p 0 e ≡ first q k e
unfolding first
first_from p q k e l none h =
    first_on p 0 k e (omega arith) l (omega (arith, first_none p k none))
    ∙ alike_of p q (e - k) k (λ i a b. h i a (omega arith))

-- one place more: none of i + 1 differs where none of i did and this does not
pub same_more : (s t : List ℕ) (k n m i : ℕ) → (n ≡ 0 → SameFrom s t k i) → (m ≡ 0 → get_or s (k + i) 0 ≡ get_or t (k + i) 0) → n + m ≡ 0 → SameFrom s t k (i + 1)
unfolding apart_at
same_more s t k n m i h e z j l = go (dec_lt j i)
  where
    go : Dec (j < i) → apart_at s t (k + j) ≡ false
    go (yes a) = h (omega arith) j a
    go (no a) = let y : j ≡ i = omega arith in rw y (ap not (eq-eqb _ _ (e (omega arith))))

-- n places that are the same are passed over
pub first_past : (s t : List ℕ) (k n e : ℕ) → k + n ≤ e → SameFrom s t k n → first (apart_at s t) k e ≡ first (apart_at s t) (k + n) e
first_past s t k zero e l h = let z : k + 0 ≡ k = omega arith in rw z
first_past s t k (suc n) e l h =
    let y : k + 0 ≡ k = omega arith in
    let z : k + 1 + n ≡ k + suc n = omega arith in
    first_next (apart_at s t) k e (omega arith) (rw y at (h 0 (omega arith)))
    ∙ rw z at (first_past s t (k + 1) n e (omega arith) (λ j m. let w : k + 1 + j ≡ k + suc j = omega arith in rw w (h (suc j) (omega arith))))

-- ---- a place before the record, in it, and behind it

module _ (s t : List ℕ) (at n : ℕ) where
  ahead : (k : ℕ) → k < at → unlike_at s t at n k ≡ apart_at s t k
  unfolding unlike_at apart_at
  ahead k l = rw (lt-ltb k at l)

  inside : (k : ℕ) → at ≤ k → k < at + n → unlike_at s t at n k ≡ false
  unfolding unlike_at
  inside k l m = rw (le-ltb k at l, lt-leb (at + n) k m)

  behind : (k : ℕ) → at + n ≤ k → unlike_at s t at n k ≡ apart_at s t k
  unfolding unlike_at apart_at
  behind k l = rw (le-ltb k at (omega arith), le-leb (at + n) k l)

  -- ---- the ways out of the comparison, which stops at `stop` and goes on behind the record

  module _ (stop end : ℕ) (e : end ≡ min (length s) (length t)) (h : stop ≡ min at end) where
    -- before the record
    unlike_ahead : first (unlike_at s t at n) 0 stop ≡ first (apart_at s t) 0 stop
    unlike_ahead = first_alike (unlike_at s t at n) (apart_at s t) stop (λ i l. ahead i (omega arith))

    pub found_ahead : (k : ℕ) → k ≡ first (apart_at s t) 0 stop → k < stop → k ≡ first_unlike s t at n
    unfolding first_unlike
    found_ahead k is l =
        let is_same : first (unlike_at s t at n) 0 stop ≡ k = unlike_ahead ∙ sym is in
        rw (← e) (sym (first_cut (unlike_at s t at n) 0 stop end (omega arith) (omega arith) (omega (arith, is_same)) ∙ is_same))

    -- no place before the record
    module _ (k : ℕ) (is : k ≡ first (apart_at s t) 0 stop) (l : stop ≤ k) where
      none_ahead : (i : ℕ) → i < stop → unlike_at s t at n i ≡ false
      none_ahead i u = first_passed (unlike_at s t at n) stop i (omega (arith, unlike_ahead, is))

      none_before : (i : ℕ) → i < at + n → i < end → unlike_at s t at n i ≡ false
      none_before i u v = go (dec_lt i at)
        where
          go : Dec (i < at) → unlike_at s t at n i ≡ false
          go (yes d) = none_ahead i (omega arith)
          go (no d) = inside i (omega arith) u

      -- .. and the shorter ends in the record, or before it
      pub ends_first : end ≤ at + n → end ≡ first_unlike s t at n
      unfolding first_unlike
      ends_first u = rw (← e) (sym (first_none (unlike_at s t at n) end (λ i v. none_before i (omega arith) v)))

      -- .. or the first is looked for behind it
      pub found_behind : at + n < end → first (apart_at s t) (at + n) end ≡ first_unlike s t at n
      unfolding first_unlike
      found_behind u =
          rw (← e) (sym (first_from (unlike_at s t at n) (apart_at s t) (at + n) end (omega arith) (λ i v. none_before i v (omega arith)) (λ i v w. behind i v)))

  -- ---- the answer

  pub unlike_long : (k : ℕ) → k ≡ first_unlike s t at n → (length s ≡ length t → ⊥) → told false k ≡ checked (compared s t at n)
  unfolding compared checked
  unlike_long k e h = rw (ne_eqb (length s) (length t) h) (rw e)

  pub unlike_there : (k : ℕ) → k ≡ first_unlike s t at n → length s ≡ length t → k < length s → told false k ≡ checked (compared s t at n)
  unfolding compared checked
  unlike_there k e h l = rw (eq-eqb (length s) (length t) h) (rw (← e) (rw (lt-leb (length s) k l)))

  pub alike_there : (k : ℕ) → k ≡ first_unlike s t at n → length s ≡ length t → length s ≤ k → told true 0 ≡ checked (compared s t at n)
  unfolding compared checked
  alike_there k e h l = rw (eq-eqb (length s) (length t) h) (rw (← e) (rw (le-leb (length s) k l)))
