-- What a comparison says: the first place that passes the test is unlike and none before it is; where there is none the two are alike outside, and the way back from each.
use Prim.Native.Nat.{ℕ, ◌+◌, ◌<◌, ◌≤◌, min}
use mathlib.Core.Path.{◌≡◌, refl, sym, ◌∙◌}
use mathlib.Core.Bool.{Bool, true, false, cond, not, ◌&&◌, ◌||◌, false≢true, true≢false}
use mathlib.Core.List.{List}
use native.Mathlib.Omega.{arith}
use native.Mathlib.Decide.{dec_lt}
use lib.Dec.{ltb, leb, eqb}
use lib.ListN.{length, get_or, get_or-eq_default}
use borrow.Author.Tests.{ltb-true, ltb-false, leb-true, leb-false, eqb-true, eqb-false, le-leb, lt-leb, eq-eqb, ne_eqb}
use Rattle.layout.specs.Check.{Yes, No, unlike_at, first_unlike, compared}
use Rattle.layout.proofs.Scans.{first_passed, first_stands, first_within, first_none, first_is}
use Rattle.law_checked.specs.Alike.{Outside, ahead, behind, AlikeOutside, UnlikeAt, another_byte, before_ends, after_ends, FirstUnlike}

module _ (s t : List ℕ) (at n : ℕ) where
  -- ---- the test at one place

  module _ (k : ℕ) where
    test_unlike : unlike_at s t at n k ≡ true → Outside at n k × (get_or s k 0 ≡ get_or t k 0 → ⊥)
    unfolding unlike_at
    test_unlike e = go (ltb k at) (leb (at + n) k) (eqb (get_or s k 0) (get_or t k 0)) refl refl refl e
      where
        go : (a b c : Bool) → ltb k at ≡ a → leb (at + n) k ≡ b → eqb (get_or s k 0) (get_or t k 0) ≡ c → (a || b) && not c ≡ true → Outside at n k × (get_or s k 0 ≡ get_or t k 0 → ⊥)
        go true b true h i j q = absurd (false≢true q)
        go true b false h i j q = (ahead (ltb-true _ _ h), eqb-false _ _ j)
        go false true true h i j q = absurd (false≢true q)
        go false true false h i j q = (behind (leb-true _ _ i), eqb-false _ _ j)
        go false false c h i j q = absurd (false≢true q)

    test_same : unlike_at s t at n k ≡ false → Outside at n k → get_or s k 0 ≡ get_or t k 0
    unfolding unlike_at
    test_same e o = go (ltb k at) (leb (at + n) k) (eqb (get_or s k 0) (get_or t k 0)) refl refl refl e o
      where
        go : (a b c : Bool) → ltb k at ≡ a → leb (at + n) k ≡ b → eqb (get_or s k 0) (get_or t k 0) ≡ c → (a || b) && not c ≡ false → Outside at n k → get_or s k 0 ≡ get_or t k 0
        go a b true h i j q o = eqb-true _ _ j
        go true b false h i j q o = absurd (true≢false q)
        go false true false h i j q o = absurd (true≢false q)
        go false false false h i j q (ahead l) = absurd (omega (arith, ltb-false k at h))
        go false false false h i j q (behind l) = absurd (omega (arith, leb-false (at + n) k i))

    unlike_test : Outside at n k → (get_or s k 0 ≡ get_or t k 0 → ⊥) → unlike_at s t at n k ≡ true
    unlike_test o d = go (unlike_at s t at n k) refl
      where
        go : (b : Bool) → unlike_at s t at n k ≡ b → b ≡ true
        go true e = refl
        go false e = absurd (d (test_same e o))

    same_test : (Outside at n k → get_or s k 0 ≡ get_or t k 0) → unlike_at s t at n k ≡ false
    same_test f = go (unlike_at s t at n k) refl
      where
        go : (b : Bool) → unlike_at s t at n k ≡ b → b ≡ false
        go true e = let u = test_unlike e in absurd (u.1 (f u.0))
        go false e = refl

  -- ---- the first place

  abbrev shorter : ℕ
  shorter = min (length s) (length t)

  first_same : (k : ℕ) → k < first_unlike s t at n → Outside at n k → get_or s k 0 ≡ get_or t k 0
  unfolding first_unlike
  first_same k l = test_same k (first_passed (unlike_at s t at n) shorter k l)

  first_unlike_lem : first_unlike s t at n < shorter → Outside at n (first_unlike s t at n) × (get_or s (first_unlike s t at n) 0 ≡ get_or t (first_unlike s t at n) 0 → ⊥)
  unfolding first_unlike
  first_unlike_lem l = test_unlike (first_unlike s t at n) (first_stands (unlike_at s t at n) shorter l)

  first_short : first_unlike s t at n ≤ shorter
  unfolding first_unlike
  first_short = first_within (unlike_at s t at n) shorter

  first_at : (k : ℕ) → k < shorter → Outside at n k → (get_or s k 0 ≡ get_or t k 0 → ⊥)
      → ((i : ℕ) → i < k → Outside at n i → get_or s i 0 ≡ get_or t i 0) → first_unlike s t at n ≡ k
  unfolding first_unlike
  first_at k l o d f = first_is (unlike_at s t at n) shorter k l (unlike_test k o d) (λ i h. same_test i (f i h))

  first_end : ((i : ℕ) → i < shorter → Outside at n i → get_or s i 0 ≡ get_or t i 0) → first_unlike s t at n ≡ shorter
  unfolding first_unlike
  first_end f = first_none (unlike_at s t at n) shorter (λ i h. same_test i (f i h))

  -- ---- yes

  pub yes_is : compared s t at n ≡ Yes → AlikeOutside s t at n
  unfolding compared
  yes_is e = go (eqb (length s) (length t)) (leb (length s) (first_unlike s t at n)) refl refl e
    where
      everywhere : length s ≡ length t → length s ≤ first_unlike s t at n → (k : ℕ) → Outside at n k → Dec (k < length s) → get_or s k 0 ≡ get_or t k 0
      everywhere q l k o (yes h) = first_same k (omega arith) o
      everywhere q l k o (no h) = get_or-eq_default s 0 {n = k} (omega arith) ∙ sym (get_or-eq_default t 0 {n = k} (omega arith))

      go : (a b : Bool) → eqb (length s) (length t) ≡ a → leb (length s) (first_unlike s t at n) ≡ b → cond (a && b) Yes (No (first_unlike s t at n)) ≡ Yes → AlikeOutside s t at n
      go true true h i q = record { long = eqb-true _ _ h; same = λ k o. everywhere (eqb-true _ _ h) (leb-true _ _ i) k o (dec_lt k (length s)) }
      go true false h i q = absurd (let z : ◌≡◌ {A = ℕ} 0 1 = cc in omega arith)
      go false b h i q = absurd (let z : ◌≡◌ {A = ℕ} 0 1 = cc in omega arith)

  pub is_yes : AlikeOutside s t at n → compared s t at n ≡ Yes
  unfolding compared
  is_yes a =
      let l = a.long in
      let f = first_end (λ i _ o. a.same i o) in
      rw (eq-eqb (length s) (length t) l, le-leb (length s) (first_unlike s t at n) (omega arith))

  -- ---- no

  pub no_is : (k : ℕ) → compared s t at n ≡ No k → FirstUnlike s t at n k
  unfolding compared
  no_is k e = go (eqb (length s) (length t)) (leb (length s) (first_unlike s t at n)) refl refl e
    where
      here : (length s ≡ length t → length s ≤ first_unlike s t at n → ⊥)
          → Dec (first_unlike s t at n < shorter) → Dec (length s < length t) → Dec (length t < length s) → UnlikeAt s t at n (first_unlike s t at n)
      here f (yes l) a b = let u = first_unlike_lem l in another_byte (omega arith) (omega arith) u.0 u.1
      here f (no l) (yes a) b = before_ends (omega (arith, first_short)) (omega (arith, first_short))
      here f (no l) (no a) (yes b) = after_ends (omega (arith, first_short)) (omega (arith, first_short))
      here f (no l) (no a) (no b) = absurd (f (omega arith) (omega (arith, first_short)))

      unlike : first_unlike s t at n ≡ k → (length s ≡ length t → length s ≤ first_unlike s t at n → ⊥) → FirstUnlike s t at n k
      unlike q f = rw (← q) (record { here = here f (dec_lt (first_unlike s t at n) shorter) (dec_lt (length s) (length t)) (dec_lt (length t) (length s)); earlier = first_same })

      go : (a b : Bool) → eqb (length s) (length t) ≡ a → leb (length s) (first_unlike s t at n) ≡ b → cond (a && b) Yes (No (first_unlike s t at n)) ≡ No k → FirstUnlike s t at n k
      go true true h i q = absurd (let z : ◌≡◌ {A = ℕ} 0 1 = cc in omega arith)
      go true false h i q = unlike (cc) (λ _ l. omega (arith, leb-false (length s) (first_unlike s t at n) i))
      go false b h i q = unlike (cc) (λ l _. eqb-false (length s) (length t) h l)

  pub is_no : (k : ℕ) → FirstUnlike s t at n k → compared s t at n ≡ No k
  unfolding compared
  is_no k u = go u.here u.earlier
    where
      go : UnlikeAt s t at n k → ((i : ℕ) → i < k → Outside at n i → get_or s i 0 ≡ get_or t i 0) → compared s t at n ≡ No k
      go (another_byte a b o d) f = rw (first_at k (omega arith) o d f) (rw (lt-leb (length s) k a) (either (eqb (length s) (length t))))
        where
          either : (b : Bool) → cond (b && false) Yes (No k) ≡ No k
          either true = refl
          either false = refl
      go (before_ends a b) f =
          let q : first_unlike s t at n ≡ k = first_end (λ i l. f i (omega arith)) ∙ omega arith in
          rw (q, ne_eqb (length s) (length t) (λ e. absurd (omega arith)))
      go (after_ends a b) f =
          let q : first_unlike s t at n ≡ k = first_end (λ i l. f i (omega arith)) ∙ omega arith in
          rw (q, ne_eqb (length s) (length t) (λ e. absurd (omega arith)))
