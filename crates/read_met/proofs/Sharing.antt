-- One of n groups shares a name with a text exactly where a name of the text is one of theirs: groups first or names first is the same question.
use Prim.Native.Nat.{ℕ, ◌<◌}
use native.Mathlib.Omega.{arith}
use native.Mathlib.Decide.{dec_lt}
use mathlib.Core.Path.{◌≡◌, refl, sym, ap, ◌∙◌}
use mathlib.Core.Bool.{Bool, true, false, ◌||◌, or-true, false≢true}
use mathlib.Core.List.{List, [], ◌∷◌}
use lib.Dec.{ltb}
use borrow.Author.Tests.{lt-ltb, le-ltb}
use Rattle.layout.specs.Lists.{same, has, any}
use Rattle.layout.specs.Scan.{first}
use Rattle.layout.specs.Sdec.{names, shares}
use Rattle.layout.specs.Body.{group_place, text_at, sharing}
use Rattle.layout.specs.Asked.{group_named}
use Rattle.layout.proofs.Scans.{first_within, first_stands, first_passed, first_none, first_alike}
use Rattle.read_names.proofs.Compare.{same_comm}
use Rattle.read_met.specs.Before.{taken}

-- ---- two lists of names

crossed : (a b c d : Bool) → ((a || b) || (c || d)) ≡ ((a || c) || (b || d))
crossed true b c d = refl
crossed false true c d = sym (or-true c)
crossed false false c d = refl

none_had : (us : List (List ℕ)) → any (has []) us ≡ false
unfolding any has
none_had [] = refl
none_had (u ∷ us) = none_had us

one_had : (t : List ℕ) (ts us : List (List ℕ)) → any (has (t ∷ ts)) us ≡ has us t || any (has ts) us
unfolding any has
one_had t ts [] = refl
one_had t ts (u ∷ us) = rw (one_had t ts us, same_comm t u) (crossed (same u t) (has ts u) (has us t) (any (has ts) us))

had_either : (ts us : List (List ℕ)) → any (has us) ts ≡ any (has ts) us
unfolding any
had_either [] us = sym (none_had us)
had_either (t ∷ ts) us = rw (had_either ts us) (sym (one_had t ts us))

-- ---- two tests on n numbers

module _ (n : ℕ) where
  some_below : (p : ℕ → Bool) (k : ℕ) → k < n → p k ≡ true → first p 0 n < n
  some_below p k l h = go (dec_lt (first p 0 n) n)
    where
      go : Dec (first p 0 n < n) → first p 0 n < n
      go (yes a) = a
      go (no a) = absurd (false≢true (sym (first_passed p n k (omega arith)) ∙ h))

  none_passes : (p : ℕ → Bool) → (first p 0 n < n → ⊥) → (k : ℕ) → k < n → p k ≡ false
  none_passes p h k l = first_passed p n k (omega (arith, first_within p n))

  below_either : (p q : ℕ → Bool) → ltb (first (λ k. p k || q k) 0 n) n ≡ ltb (first p 0 n) n || ltb (first q 0 n) n
  below_either p q = go (dec_lt (first p 0 n) n) (dec_lt (first q 0 n) n)
    where
      go : Dec (first p 0 n < n) → Dec (first q 0 n < n) → ltb (first (λ k. p k || q k) 0 n) n ≡ ltb (first p 0 n) n || ltb (first q 0 n) n
      go (yes a) d =
          rw (lt-ltb (first p 0 n) n a) (lt-ltb (first (λ k. p k || q k) 0 n) n (some_below (λ k. p k || q k) (first p 0 n) a (rw (first_stands p n a) refl)))
      go (no a) (yes b) =
          rw (lt-ltb (first q 0 n) n b, or-true (ltb (first p 0 n) n))
          (lt-ltb (first (λ k. p k || q k) 0 n) n (some_below (λ k. p k || q k) (first q 0 n) b (rw (first_stands q n b) (or-true (p (first q 0 n))))))
      go (no a) (no b) =
          rw (le-ltb (first p 0 n) n (omega arith), le-ltb (first q 0 n) n (omega arith))
          (le-ltb (first (λ k. p k || q k) 0 n) n (omega (arith, first_none (λ k. p k || q k) n (λ k l. rw (none_passes p a k l, none_passes q b k l) refl))))

  -- a number passes for one of the names where for one of the names a number passes
  below_any : (q : ℕ → List ℕ → Bool) (us : List (List ℕ)) → ltb (first (λ k. any (q k) us) 0 n) n ≡ any (λ u. ltb (first (λ k. q k u) 0 n) n) us
  unfolding any
  below_any q [] = le-ltb (first (λ k. false) 0 n) n (omega (arith, first_none (λ k. false) n (λ k l. refl)))
  below_any q (u ∷ us) = below_either (λ k. q k u) (λ k. any (q k) us) ∙ ap (λ (b : Bool). ltb (first (λ k. q k u) 0 n) n || b) (below_any q us)

-- ---- the groups before

pub sharing_taken : (s : List ℕ) (n at : ℕ) → ltb (sharing s n at) n ≡ any (taken s n) (names (text_at s at))
unfolding sharing shares taken group_named
sharing_taken s n at =
    let us = names (text_at s at) in
    let q : ℕ → List ℕ → Bool = λ k. has (names (text_at s (group_place s k))) in
    ap (λ (k : ℕ). ltb k n) (first_alike (λ k. any (has us) (names (text_at s (group_place s k)))) (λ k. any (q k) us) n (λ k l. had_either (names (text_at s (group_place s k))) us))
    ∙ below_any n q us
