-- The hypotheses of locality for bytes that are written out, by tests that compute.
use Prim.Native.Nat.{ℕ, zero, suc}
use native.Mathlib.Nat.{le_of_suc-le-suc, not-suc-le-zero}
use mathlib.Core.Path.{◌≡◌}
use mathlib.Core.Bool.{Bool, true, false, not, ◌&&◌, ◌||◌, false≢true, and-eq-true_iff}
use mathlib.Core.List.{List, [], ◌∷◌, ◌++◌}
use lib.Seq.{drop-nil}
use borrow.Author.Tests.{not-true}
use Rattle.layout.specs.Salvage.{cseg}
use Rattle.read_salvage.specs.Cut.{Free}
use Rattle.read_salvage.proofs.Cseg.{Apart, not_so, no_cseg}
use Rattle.law_salvage.specs.Salvage.{NoneCompleted}
use Rattle.law_salvage.proofs.Starts.{apart_none}

-- CSEG stands nowhere in s
unfoldable pub free : List ℕ → Bool
free [] = true
free (b ∷ s) = not (cseg (b ∷ s)) && free s

pub free_by : (s : List ℕ) → free s ≡ true → Free s
unfolding free
free_by [] e k = rw drop-nil (not_so _ no_cseg)
free_by (b ∷ s) e zero = not-true _ ((and-eq-true_iff (not (cseg (b ∷ s))) (free s)).0 e).0
free_by (b ∷ s) e (suc k) = free_by s ((and-eq-true_iff (not (cseg (b ∷ s))) (free s)).0 e).1 k

-- no CSEG begun in xs is completed by ys
unfoldable pub apart : List ℕ → List ℕ → Bool
apart [] ys = true
apart (x ∷ xs) ys = (not (cseg (x ∷ xs ++ ys)) || cseg (x ∷ xs)) && apart xs ys

implied : (p q : Bool) → not p || q ≡ true → p ≡ true → q ≡ true
implied true q e h = e
implied false q e h = absurd (false≢true h)

apart_by : (xs ys : List ℕ) → apart xs ys ≡ true → Apart xs ys
unfolding apart
apart_by [] ys e k h c = absurd (not-suc-le-zero h)
apart_by (x ∷ xs) ys e zero h c = implied _ _ ((and-eq-true_iff (not (cseg (x ∷ xs ++ ys)) || cseg (x ∷ xs)) (apart xs ys)).0 e).0 c
apart_by (x ∷ xs) ys e (suc k) h c = apart_by xs ys ((and-eq-true_iff (not (cseg (x ∷ xs ++ ys)) || cseg (x ∷ xs)) (apart xs ys)).0 e).1 k (le_of_suc-le-suc h) c

pub none_by : (xs ys : List ℕ) → apart xs ys ≡ true → NoneCompleted xs ys
none_by xs ys t = apart_none xs ys (apart_by xs ys t)
