-- What is shown of a voice name: the start of its bytes, what is left off is 20H only, and it does not end in 20H. By induction on the bytes, from the front.
use Prim.Native.Nat.{ℕ, zero, suc, ◌≤◌}
use native.Mathlib.Omega.{arith}
use mathlib.Core.Path.{◌≡◌, refl, sym, ap, ◌∙◌}
use mathlib.Core.Bool.{Bool, true, false, cond}
use mathlib.Core.List.{List, [], ◌∷◌, ◌++◌}
use lib.Dec.{eqb}
use lib.ListN.{length, take, replicate, length-append}
use lib.Seq.{take-append_seam}
use borrow.Author.Tests.{eq-eqb, ne_eqb, eqb-true, eqb-false}
use Rattle.layout.specs.Voice.{before, trimmed}

-- ---- the bytes are what is shown, then spaces

-- one byte before bytes that are u, then k spaces
spaced : (b : ℕ) (u : List ℕ) (k : ℕ) → (j : ℕ) × (b ∷ u ++ replicate k 0x20 ≡ before b u ++ replicate j 0x20)
unfolding before
spaced b [] k = go (eqb b 0x20) refl
  where
    go : (x : Bool) → eqb b 0x20 ≡ x → (j : ℕ) × (b ∷ replicate k 0x20 ≡ cond x [] (b ∷ []) ++ replicate j 0x20)
    go true e = (suc k, rw (eqb-true b 0x20 e) refl)
    go false e = (k, refl)
spaced b (c ∷ u) k = (k, refl)

-- "with trailing 20H bytes left off": what is left off is 20H only
pub shown_then_spaces : (t : List ℕ) → (k : ℕ) × (t ≡ trimmed t ++ replicate k 0x20)
unfolding trimmed
shown_then_spaces [] = (0, refl)
shown_then_spaces (b ∷ t) =
    let r = shown_then_spaces t in
    let q = spaced b (trimmed t) r.0 in
    (q.0, ap (λ (x : List ℕ). b ∷ x) r.1 ∙ q.1)

-- what is shown is the start of the bytes
pub shown_is_start : (t : List ℕ) → trimmed t ≡ take (length (trimmed t)) t
shown_is_start t =
    let r = shown_then_spaces t in
    sym (ap (λ (x : List ℕ). take (length (trimmed t)) x) r.1 ∙ take-append_seam (trimmed t) (replicate r.0 0x20))

-- and no longer than they are
pub shown_within : (t : List ℕ) → length (trimmed t) ≤ length t
shown_within t =
    let r = shown_then_spaces t in
    omega (arith, ap length r.1, length-append (trimmed t) (replicate r.0 0x20))

-- ---- what is shown does not end in a space

-- xs is not empty with a byte behind it
not_empty : {A : Type 0} (xs : List ℕ) (b : ℕ) → [] ≡ xs ++ (b ∷ []) → A
not_empty xs b e = absurd (omega (arith, ap length e, length-append xs (b ∷ [])))

ending : (a : ℕ) (u xs : List ℕ) (b : ℕ) → ((ys : List ℕ) → u ≡ ys ++ (b ∷ []) → b ≡ 0x20 → ⊥) → before a u ≡ xs ++ (b ∷ []) → b ≡ 0x20 → ⊥
unfolding before
ending a [] xs b more e z = go (eqb a 0x20) refl xs e
  where
    go : (x : Bool) → eqb a 0x20 ≡ x → (ys : List ℕ) → cond x [] (a ∷ []) ≡ ys ++ (b ∷ []) → ⊥
    go true h ys q = not_empty ys b q
    go false h [] q = let y : a ≡ b = cc in eqb-false a 0x20 h (y ∙ z)
    go false h (y ∷ ys) q = let w : [] ≡ ys ++ (b ∷ []) = cc in not_empty ys b w
ending a (c ∷ u) [] b more e z = let w : c ∷ u ≡ [] = cc in absurd (omega (arith, ap length w))
ending a (c ∷ u) (y ∷ ys) b more e z = more ys (cc) z

-- the last byte that is shown, if there is one, is not 20H
pub shown_ends_in_no_space : (t xs : List ℕ) (b : ℕ) → trimmed t ≡ xs ++ (b ∷ []) → b ≡ 0x20 → ⊥
unfolding trimmed
shown_ends_in_no_space [] xs b e z = not_empty xs b e
shown_ends_in_no_space (a ∷ t) xs b e z = ending a (trimmed t) xs b (λ ys q y. shown_ends_in_no_space t ys b q y) e z

-- "eight spaces show as empty", and so do any others
pub spaces_show_as_empty : (k : ℕ) → trimmed (replicate k 0x20) ≡ []
unfolding trimmed before
spaces_show_as_empty zero = refl
spaces_show_as_empty (suc k) = ap (before 0x20) (spaces_show_as_empty k)

-- ---- a byte more behind

-- a last byte that is 20H is left off
pub last_left_off : (xs : List ℕ) (b : ℕ) → b ≡ 0x20 → trimmed (xs ++ (b ∷ [])) ≡ trimmed xs
unfolding trimmed before
last_left_off [] b e = rw (eq-eqb b 0x20 e)
last_left_off (x ∷ xs) b e = ap (before x) (last_left_off xs b e)

-- any other is shown, with all before it
pub last_shown : (xs : List ℕ) (b : ℕ) → (b ≡ 0x20 → ⊥) → trimmed (xs ++ (b ∷ [])) ≡ xs ++ (b ∷ [])
unfolding trimmed before
last_shown [] b h = rw (ne_eqb b 0x20 h)
last_shown (x ∷ xs) b h = rw (last_shown xs b h) (kept xs)
  where
    kept : (ys : List ℕ) → before x (ys ++ (b ∷ [])) ≡ x ∷ ys ++ (b ∷ [])
    kept [] = refl
    kept (y ∷ ys) = refl
