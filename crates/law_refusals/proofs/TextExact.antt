-- A text that breaks a rule is not sound.
use Prim.Native.Nat.{ℕ, zero, suc, ◌<◌}
use mathlib.Core.Path.{◌≡◌}
use mathlib.Core.Logic.{◌⊎◌, inl, inr}
use mathlib.Core.Bool.{Bool, true, false, not, and-false, or-true}
use mathlib.Core.List.{List, [], ◌∷◌}
use native.Mathlib.Omega.{arith}
use lib.Dec.{leb}
use lib.ListN.{length, get_or}
use borrow.Author.Tests.{lt-leb}
use Rattle.layout.specs.Lists.{same, has, distinct, every}
use Rattle.layout.specs.Ranges.{◌to◌, inside}
use Rattle.layout.specs.Sdec.{names, sound_text}
use Rattle.layout.proofs.Same.{same_itself}
use Rattle.law_refusals.specs.Text.{TextBroken, text_size, text_byte, name_size, name_twice}

out : (a b v : ℕ) → (v < a) ⊎ (b < v) → inside (a to b) v ≡ false
unfolding inside
out a b v (inl h) = rw (lt-leb a v h)
out a b v (inr h) = rw (lt-leb v b h) (and-false (leb a v))

not_every : {A : Type 0} (d : A) (p : A → Bool) (xs : List A) (i : ℕ) → i < length xs → p (get_or xs i d) ≡ false → every p xs ≡ false
unfolding every
not_every d p [] i l e = absurd (omega arith)
not_every d p (x ∷ xs) zero l e = rw e
not_every d p (x ∷ xs) (suc i) l e = rw (not_every d p xs i (omega arith) e) (and-false (p x))

-- the list at a number is one of the lists
at_has : (xs : List (List ℕ)) (i : ℕ) → i < length xs → has xs (get_or xs i []) ≡ true
unfolding has
at_has [] i l = absurd (omega arith)
at_has (x ∷ xs) zero l = rw (same_itself x)
at_has (x ∷ xs) (suc i) l = rw (at_has xs i (omega arith)) (or-true (same x (get_or xs i [])))

-- a list that stands at two numbers stands twice
not_distinct : (xs : List (List ℕ)) (i j : ℕ) → i < j → j < length xs → get_or xs i [] ≡ get_or xs j [] → distinct xs ≡ false
unfolding distinct
not_distinct [] i j l m e = absurd (omega arith)
not_distinct (x ∷ xs) i zero l m e = absurd (omega arith)
not_distinct (x ∷ xs) zero (suc j) l m e = rw (e, at_has xs j (omega arith))
not_distinct (x ∷ xs) (suc i) (suc j) l m e = rw (not_distinct xs i j (omega arith) (omega arith) e) (and-false (not (has xs x)))

pub text_not : (t : List ℕ) → TextBroken t → sound_text t ≡ false
unfolding sound_text
text_not t (text_size h) = rw (out 1 255 (length t) h)
text_not t (text_byte i l h) = rw (not_every 0 (inside (0x20 to 0x7E)) t i l (out 0x20 0x7E (get_or t i 0) h)) (and-false (inside (1 to 255) (length t)))
text_not t (name_size i l h) =
    rw (not_every [] (λ n. inside (1 to 16) (length n)) (names t) i l (out 1 16 (length (get_or (names t) i [])) h), and-false (every (inside (0x20 to 0x7E)) t)) (and-false (inside (1 to 255) (length t)))
text_not t (name_twice i j l m e) =
    rw (not_distinct (names t) i j l m e, and-false (every (λ n. inside (1 to 16) (length n)) (names t)), and-false (every (inside (0x20 to 0x7E)) t)) (and-false (inside (1 to 255) (length t)))
