-- Two names are the same where they are as long and no byte differs. A list that begins with y answers for y, then for the rest.
use Prim.Native.Nat.{ℕ, suc, ◌+◌, ◌≤◌, ◌<◌}
use mathlib.Core.Path.{◌≡◌, refl, sym, ap, ap₂, ◌∙◌}
use mathlib.Core.Bool.{Bool, true, false, cond, not, ◌&&◌, ◌||◌, and-false, or-true, or_assoc, and_assoc, false≢true}
use mathlib.Core.List.{List, [], ◌∷◌, ◌++◌}
use lib.Dec.{eqb}
use lib.ListN.{length, get_or, drop, drop_of_length-le}
use borrow.Author.Tests.{eq-eqb, ne_eqb, eqb-true, eqb-false}
use Rattle.std.specs.Bool.{MatchBool}
use Rattle.std.specs.Cmp.Lexicographic.{pointwise}
use Rattle.std.specs.List.{list_any, slice_split, onto_first, AllWithin, HoldsAt}
use Rattle.std.proofs.lemmas.List.Elements.{All-from_all_within}
use Rattle.std.proofs.lemmas.List.Folds.{list_any_at, list_any_none}
use Rattle.layout.specs.Sdec.{names, first_name, later_names}
use Rattle.layout.specs.Lists.{same, has, distinct, every}
use Rattle.read_names.proofs.Cuts.{drop_more}

-- ---- two names

-- the `==` of two slices
pub same_eq : (xs ys : List ℕ) → pointwise eqb xs ys ≡ same xs ys
unfolding same
same_eq [] [] = refl
same_eq [] (y ∷ ys) = refl
same_eq (x ∷ xs) [] = refl
same_eq (x ∷ xs) (y ∷ ys) = ap (λ (b : Bool). eqb x y && b) (same_eq xs ys)

eqb_comm : (x y : ℕ) → eqb x y ≡ eqb y x
eqb_comm x y = go (eqb y x) refl
  where
    go : (b : Bool) → eqb y x ≡ b → eqb x y ≡ b
    go true e = eq-eqb x y (sym (eqb-true y x e))
    go false e = ne_eqb x y (λ q. eqb-false y x e (sym q))

pub same_comm : (xs ys : List ℕ) → same xs ys ≡ same ys xs
unfolding same
same_comm [] [] = refl
same_comm [] (y ∷ ys) = refl
same_comm (x ∷ xs) [] = refl
same_comm (x ∷ xs) (y ∷ ys) = rw (eqb_comm x y, same_comm xs ys)

pub same_sizes : (xs ys : List ℕ) → (length xs ≡ length ys → ⊥) → same xs ys ≡ false
unfolding same
same_sizes [] [] h = absurd (h refl)
same_sizes [] (y ∷ ys) h = refl
same_sizes (x ∷ xs) [] h = refl
same_sizes (x ∷ xs) (y ∷ ys) h = rw (same_sizes xs ys (λ e. h (ap suc e))) (and-false (eqb x y))

-- two names of which k bytes were compared
module _ (xs ys : List ℕ) (k : ℕ) where
  pub same_next : (r : Bool) → k < length xs → k < length ys → eqb (get_or xs k 0) (get_or ys k 0) ≡ r → same (drop k xs) (drop k ys) ≡ r && same (drop (k + 1) xs) (drop (k + 1) ys)
  unfolding same
  same_next r h l q = rw (drop_more xs k h, drop_more ys k l, q)

  pub same_over : length xs ≤ k → length ys ≤ k → same (drop k xs) (drop k ys) ≡ true
  unfolding same
  same_over h l = rw (drop_of_length-le xs h, drop_of_length-le ys l)

-- ---- the names of a text, as `split` cuts it

pub names_parts : (t : List ℕ) → slice_split (λ b. eqb b 44) t ≡ names t
unfolding names first_name later_names
names_parts [] = refl
names_parts (b ∷ t) = rw (names_parts t) (go (eqb b 44))
  where
    go : (c : Bool) → cond c ([] ∷ first_name t ∷ later_names t) (onto_first b (first_name t ∷ later_names t)) ≡ cond c [] (b ∷ first_name t) ∷ cond c (first_name t ∷ later_names t) (later_names t)
    go true = refl
    go false = refl

has_eq : (name : List ℕ) (xs : List (List ℕ)) → list_any (λ x. pointwise eqb x name) xs ≡ has xs name
unfolding has
has_eq name [] = refl
has_eq name (x ∷ xs) = ap₂ (λ (a b : Bool). a || b) (same_eq x name) (has_eq name xs)

-- one of the parts is the name
pub has_part : (t name : List ℕ) → list_any (λ x. pointwise eqb x name) (slice_split (λ b. eqb b 44) t) ≡ has (names t) name
has_part t name = has_eq name (slice_split (λ b. eqb b 44) t) ∙ ap (λ l. has l name) (names_parts t)

-- an element that passes was met, or none passes
pub any_told : (p : List ℕ → Bool) (xs : List (List ℕ)) (r : Bool)
    → MatchBool r ((k : ℕ) × (k < length xs) × HoldsAt (λ x. p x ≡ true) xs k) (AllWithin (λ x. p x ≡ false) xs 0 (length xs)) → r ≡ list_any p xs
any_told p xs true (k, l, h) = sym (list_any_at p xs k [] l (h []))
any_told p xs false h = sym (list_any_none p xs (All-from_all_within (λ x. p x ≡ false) xs h))

-- ---- lists of names

module _ (l : List (List ℕ)) (y : List ℕ) (ys : List (List ℕ)) (e : l ≡ y ∷ ys) (r : Bool) where
  pub has_cut : (x : List ℕ) → r ≡ same y x → has l x ≡ r || has ys x
  unfolding has
  has_cut x h = rw (e, h)

pub has_none : (l : List (List ℕ)) (x : List ℕ) → l ≡ [] → has l x ≡ false
unfolding has
has_none l x e = rw e

pub every_append : {A : Type 0} (p : A → Bool) (xs ys : List A) → every p (xs ++ ys) ≡ every p xs && every p ys
unfolding every
every_append p [] ys = refl
every_append p (x ∷ xs) ys = rw (every_append p xs ys) (sym (and_assoc (p x) (every p xs) (every p ys)))

pub has_append : (xs ys : List (List ℕ)) (x : List ℕ) → has (xs ++ ys) x ≡ has xs x || has ys x
unfolding has
has_append [] ys x = refl
has_append (y ∷ xs) ys x = rw (has_append xs ys x) (sym (or_assoc (same y x) (has xs x) (has ys x)))

-- a name that came before is there twice
pub distinct_again : (xs : List (List ℕ)) (y : List ℕ) (ys : List (List ℕ)) → has xs y ≡ true → distinct (xs ++ y ∷ ys) ≡ false
unfolding has distinct
distinct_again [] y ys h = absurd (false≢true h)
distinct_again (x ∷ xs) y ys h = rw (has_append xs (y ∷ ys) x, has, same_comm y x) (go (same x y) h (distinct_again xs y ys))
  where
    go : (b : Bool) → (b || has xs y) ≡ true → (has xs y ≡ true → distinct (xs ++ y ∷ ys) ≡ false)
        → (not (has xs x || (b || has ys x)) && distinct (xs ++ y ∷ ys)) ≡ false
    go true h ih = rw (or-true (has xs x))
    go false h ih = rw (ih h) (and-false (not (has xs x || has ys x)))

-- .. and one that did not keeps them apart
pub distinct_more : (xs : List (List ℕ)) (y : List ℕ) → distinct xs ≡ true → has xs y ≡ false → distinct (xs ++ y ∷ []) ≡ true
unfolding has distinct
distinct_more [] y d h = refl
distinct_more (x ∷ xs) y d h = rw (has_append xs (y ∷ []) x, has, same_comm y x) (go (has xs x) (same x y) d h (distinct_more xs y))
  where
    go : (a b : Bool) → (not a && distinct xs) ≡ true → (b || has xs y) ≡ false → (distinct xs ≡ true → has xs y ≡ false → distinct (xs ++ y ∷ []) ≡ true)
        → (not (a || (b || false)) && distinct (xs ++ y ∷ [])) ≡ true
    go true b d h ih = d
    go false true d h ih = sym h
    go false false d h ih = ih d h
