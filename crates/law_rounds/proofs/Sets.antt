-- A list with one element set: what then holds of each element.
use Prim.Native.Nat.{ℕ, ◌<◌}
use mathlib.Core.Path.{◌≡◌, ap, ◌∙◌}
use mathlib.Core.List.{List}
use native.Mathlib.Omega.{arith}
use native.Mathlib.Decide.{dec_lt}
use lib.ListN.{length, get_or, set, length-set}
use lib.Seq.{get_or-set_same, get_or-set_other}

-- what holds of the new element and of every old one holds of each
pub set_each : {A : Type 0} (P : A → Type 0) (l : List A) (i : ℕ) (x d : A) → P x → ((j : ℕ) → j < length l → P (get_or l j d)) → (j : ℕ) → j < length (set l i x) → P (get_or (set l i x) j d)
set_each P l i x d new old j h = go (dec_lt i j) (dec_lt j i)
  where
    inside : j < length l
    inside = rw (length-set l i x) at h

    other : (j ≡ i → ⊥) → P (get_or (set l i x) j d)
    other n = rw (get_or-set_other l i j x d n) (old j inside)

    go : Dec (i < j) → Dec (j < i) → P (get_or (set l i x) j d)
    go (yes a) b = other (omega arith)
    go (no a) (yes b) = other (omega arith)
    go (no a) (no b) = let z : j ≡ i = omega arith in rw z (rw (get_or-set_same l i x d (rw z at inside)) new)

-- what is the same of the new element and of the one that it replaces is the same throughout
pub set_same : {A B : Type 0} (f : A → B) (l : List A) (i : ℕ) (x d : A) → f x ≡ f (get_or l i d) → (j : ℕ) → j < length l → f (get_or (set l i x) j d) ≡ f (get_or l j d)
set_same f l i x d e j h = go (dec_lt i j) (dec_lt j i)
  where
    go : Dec (i < j) → Dec (j < i) → f (get_or (set l i x) j d) ≡ f (get_or l j d)
    go (yes a) b = ap f (get_or-set_other l i j x d (omega arith))
    go (no a) (yes b) = ap f (get_or-set_other l i j x d (omega arith))
    go (no a) (no b) = let z : j ≡ i = omega arith in rw z (ap f (get_or-set_same l i x d (rw z at h)) ∙ e)
