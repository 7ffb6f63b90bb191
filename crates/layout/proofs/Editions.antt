-- The numbers of an edition.
use Prim.Native.Nat.{ℕ, ◌+◌, ◌≤◌, ◌<◌}
use mathlib.Core.Path.{◌≡◌, refl, sym, ap, subst, ◌∙◌}
use mathlib.Core.Bool.{true, false, false≢true}
use mathlib.Core.List.{List, [], ◌∷◌, ◌++◌}
use native.Mathlib.Omega.{arith}
use lib.ListN.{length, length-append}
use Rattle.layout.specs.Editions.{Edition, First, Second, size, held, closing, spare, alike}

-- bytes 0-19 are held in either edition
pub held_some : (e : Edition) → 20 ≤ held e
held_some First = omega arith
held_some Second = omega arith

-- .. and no fewer than a Ctab's 26
pub held_least : (e : Edition) → 26 ≤ held e
held_least First = omega arith
held_least Second = omega arith

-- no more than 47, and the rest of them is spare
pub held_spare : (e : Edition) → held e + spare e ≡ 47
held_spare First = refl
held_spare Second = refl

-- no more is held than stands in the file
pub held_size : (e : Edition) → held e ≤ size e
held_size First = omega arith
held_size Second = omega arith

-- what is held and what closes it is the record in the file
pub closed_length : (e : Edition) (b : List ℕ) → length b ≡ held e → length (b ++ closing e) ≡ size e
closed_length First b h = omega (arith, length-append b (0 ∷ []))
closed_length Second b h = omega (arith, length-append b [])

-- a record is no shorter than a Ctab's
pub size_least : (e : Edition) → 27 ≤ size e
size_least First = omega arith
size_least Second = omega arith

pub size_some : (e : Edition) (n : ℕ) → n ≡ size e → 20 ≤ n
size_some e n h = omega (arith, held_some e, held_size e)

-- ---- two editions are the same, or not

pub alike_self : (e : Edition) → alike e e ≡ true
unfolding alike
alike_self First = refl
alike_self Second = refl

pub alike_is : (e f : Edition) → alike e f ≡ true → e ≡ f
unfolding alike
alike_is First First h = refl
alike_is First Second h = absurd (false≢true h)
alike_is Second First h = absurd (false≢true h)
alike_is Second Second h = refl

pub unlike_is : (e f : Edition) → alike e f ≡ false → e ≡ f → ⊥
unlike_is e f h q = false≢true (sym h ∙ (ap (alike e) (sym q) ∙ alike_self e))

-- at the edition that a match found
pub size_of : (e f : Edition) (n : ℕ) → e ≡ f → n < size e → n < size f
size_of e f n h l = subst (λ (x : Edition). n < size x) h l

pub held_of : (e f : Edition) (n : ℕ) → e ≡ f → held e ≤ n → held f ≤ n
held_of e f n h l = subst (λ (x : Edition). held x ≤ n) h l

pub most_of : (e f : Edition) (n : ℕ) → e ≡ f → n ≤ size e → n ≤ size f
most_of e f n h l = subst (λ (x : Edition). n ≤ size x) h l
