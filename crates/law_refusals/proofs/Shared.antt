-- Two texts share a name exactly where some name is one of both.
use Prim.Native.Nat.{ℕ}
use mathlib.Core.Path.{◌≡◌, refl, sym, ◌∙◌}
use mathlib.Core.Bool.{Bool, true, false, ◌||◌, true≢false, false≢true}
use mathlib.Core.List.{List, [], ◌∷◌}
use Rattle.layout.specs.Lists.{same, has, any}
use Rattle.layout.specs.Sdec.{names, shares}
use Rattle.layout.proofs.Same.{same_is, same_itself}

-- some list of xs passes
some_one : (p : List ℕ → Bool) (xs : List (List ℕ)) → any p xs ≡ true → (x : List ℕ) × ((has xs x ≡ true) × (p x ≡ true))
unfolding any has
some_one p [] e = absurd (false≢true e)
some_one p (x ∷ xs) e = go (p x) refl (λ q. some_one p xs q) e
  where
    later : (b : Bool) (y : List ℕ) → has xs y ≡ true → b || has xs y ≡ true
    later true y h = refl
    later false y h = h

    go : (b : Bool) → p x ≡ b → (any p xs ≡ true → (y : List ℕ) × ((has xs y ≡ true) × (p y ≡ true))) → b || any p xs ≡ true
        → (y : List ℕ) × ((same x y || has xs y ≡ true) × (p y ≡ true))
    go true f ih q = (x, (rw (same_itself x) refl, f))
    go false f ih q = let r = ih q in (r.0, (later (same x r.0) r.0 r.1.0, r.1.1))

-- no list of xs passes
none_of : (p : List ℕ → Bool) (xs : List (List ℕ)) → any p xs ≡ false → (y : List ℕ) → has xs y ≡ true → p y ≡ true → ⊥
unfolding any has
none_of p [] e y h k = false≢true h
none_of p (x ∷ xs) e y h k = go (p x) (same x y) refl refl (λ q. none_of p xs q y) e h
  where
    go : (a b : Bool) → p x ≡ a → same x y ≡ b → (any p xs ≡ false → has xs y ≡ true → p y ≡ true → ⊥) → a || any p xs ≡ false → b || has xs y ≡ true → ⊥
    go true b f g ih q r = true≢false q
    go false true f g ih q r = true≢false (sym k ∙ (rw (same_is x y g) at f))
    go false false f g ih q r = ih q r k

module _ (t u : List ℕ) where
  pub shared : shares t u ≡ true → (name : List ℕ) × ((has (names t) name ≡ true) × (has (names u) name ≡ true))
  unfolding shares
  shared e = some_one (has (names u)) (names t) e

  pub unshared : shares t u ≡ false → (name : List ℕ) → has (names t) name ≡ true → has (names u) name ≡ true → ⊥
  unfolding shares
  unshared e = none_of (has (names u)) (names t) e
