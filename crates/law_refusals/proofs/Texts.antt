-- A text that is not sound breaks one of the rules.
use Prim.Native.Nat.{ℕ, suc, ◌<◌}
use mathlib.Core.Path.{◌≡◌, refl, sym}
use mathlib.Core.Logic.{inl, inr}
use mathlib.Core.Bool.{Bool, true, false, not, ◌&&◌, ◌||◌, true≢false, false≢true}
use mathlib.Core.List.{List, [], ◌∷◌}
use native.Mathlib.Omega.{arith}
use lib.Dec.{leb}
use lib.ListN.{length, get_or}
use borrow.Author.Tests.{leb-false}
use Rattle.layout.specs.Lists.{same, has, distinct, every}
use Rattle.layout.specs.Ranges.{◌to◌, inside}
use Rattle.layout.specs.Sdec.{names, sound_text}
use Rattle.layout.proofs.Same.{same_is}
use Rattle.law_refusals.specs.Text.{TextBroken, text_size, text_byte, name_size, name_twice}

-- a value that is not in a range is below or above it, so what follows from both follows
outside : {P : Type 0} (a b v : ℕ) → inside (a to b) v ≡ false → (v < a → P) → (b < v → P) → P
unfolding inside
outside {P} a b v e below above = go (leb a v) (leb v b) refl refl e
  where
    go : (c d : Bool) → leb a v ≡ c → leb v b ≡ d → c && d ≡ false → P
    go false d f g q = below (leb-false _ _ f)
    go true false f g q = above (leb-false _ _ g)
    go true true f g q = absurd (true≢false q)

-- where not every element passes, one does not
some_fails : {A : Type 0} (d : A) (p : A → Bool) (xs : List A) → every p xs ≡ false → (i : ℕ) × ((i < length xs) × (p (get_or xs i d) ≡ false))
unfolding every
some_fails d p [] e = absurd (true≢false e)
some_fails d p (x ∷ xs) e = go (p x) refl (λ q. some_fails d p xs q) e
  where
    go : (a : Bool) → p x ≡ a → (every p xs ≡ false → (i : ℕ) × ((i < length xs) × (p (get_or xs i d) ≡ false))) → a && every p xs ≡ false
        → (i : ℕ) × ((i < length (x ∷ xs)) × (p (get_or (x ∷ xs) i d) ≡ false))
    go false f ih q = (0, (omega arith, f))
    go true f ih q = let r = ih q in (suc r.0, (omega (arith, r.1.0), r.1.1))

-- what is one of the lists stands at some number
has_at : (xs : List (List ℕ)) (x : List ℕ) → has xs x ≡ true → (i : ℕ) × ((i < length xs) × (get_or xs i [] ≡ x))
unfolding has
has_at [] x e = absurd (false≢true e)
has_at (y ∷ xs) x e = go (same y x) refl (λ q. has_at xs x q) e
  where
    go : (b : Bool) → same y x ≡ b → (has xs x ≡ true → (i : ℕ) × ((i < length xs) × (get_or xs i [] ≡ x))) → b || has xs x ≡ true
        → (i : ℕ) × ((i < length (y ∷ xs)) × (get_or (y ∷ xs) i [] ≡ x))
    go true f ih q = (0, (omega arith, same_is y x f))
    go false f ih q = let r = ih q in (suc r.0, (omega (arith, r.1.0), r.1.1))

-- where a list stands twice, two numbers have it
record Twice (xs : List (List ℕ)) : Type 0 where
  early : ℕ
  late : ℕ
  apart : early < late
  within : late < length xs
  both : get_or xs early [] ≡ get_or xs late []

some_twice : (xs : List (List ℕ)) → distinct xs ≡ false → Twice xs
unfolding distinct
some_twice [] e = absurd (true≢false e)
some_twice (x ∷ xs) e = go (has xs x) refl (λ q. some_twice xs q) e
  where
    go : (b : Bool) → has xs x ≡ b → (distinct xs ≡ false → Twice xs) → not b && distinct xs ≡ false → Twice (x ∷ xs)
    go true f ih q =
        let r = has_at xs x f in
        record { early = 0; late = suc r.0; apart = omega arith; within = omega (arith, r.1.0); both = sym r.1.1 }
    go false f ih q =
        let r = ih q in
        record { early = suc r.early; late = suc r.late; apart = omega (arith, r.apart); within = omega (arith, r.within); both = r.both }

pub text_told : (t : List ℕ) → sound_text t ≡ false → TextBroken t
unfolding sound_text
text_told t e =
    go (inside (1 to 255) (length t)) (every (inside (0x20 to 0x7E)) t) (every (λ n. inside (1 to 16) (length n)) (names t)) (distinct (names t)) refl refl refl refl e
  where
    go : (a b c d : Bool) → inside (1 to 255) (length t) ≡ a → every (inside (0x20 to 0x7E)) t ≡ b → every (λ n. inside (1 to 16) (length n)) (names t) ≡ c → distinct (names t) ≡ d
        → a && (b && (c && d)) ≡ false → TextBroken t
    go false b c d f g h i q = outside 1 255 (length t) f (λ l. text_size (inl (omega arith))) (λ l. text_size (inr (omega arith)))
    go true false c d f g h i q =
        let r = some_fails 0 (inside (0x20 to 0x7E)) t g in
        outside 0x20 0x7E (get_or t r.0 0) r.1.1 (λ l. text_byte r.0 r.1.0 (inl (omega arith))) (λ l. text_byte r.0 r.1.0 (inr (omega arith)))
    go true true false d f g h i q =
        let r = some_fails [] (λ n. inside (1 to 16) (length n)) (names t) h in
        let n : ℕ = length (get_or (names t) r.0 []) in
        outside 1 16 n r.1.1 (λ l. name_size r.0 r.1.0 (inl (omega arith))) (λ l. name_size r.0 r.1.0 (inr (omega arith)))
    go true true true false f g h i q =
        let r = some_twice (names t) i in
        name_twice r.early r.late (omega (arith, r.apart)) (omega (arith, r.within)) r.both
    go true true true true f g h i q = absurd (true≢false q)
