-- Those of a list that pass a test, by their numbers, which rise: by induction on the list, the numbers of the rest one up.
use Prim.Native.Nat.{ℕ, zero, suc, ◌<◌}
use native.Mathlib.Omega.{arith}
use mathlib.Core.Path.{◌≡◌, refl, sym, ap, ◌∙◌}
use mathlib.Core.Bool.{Bool, true, false, cond, true≢false}
use mathlib.Core.List.{List, [], ◌∷◌, map}
use lib.ListN.{length, get_or}
use Rattle.layout.specs.Lists.{those}

-- ys are the elements of xs that pass the test p, seen through f, in their order: number k of them is number `row k` of xs
pub record Picked {A B : Type 0} (p : A → Bool) (f : A → B) (d : A) (xs : List A) (ys : List B) : Type 0 where
  pub row : ℕ → ℕ
  pub there : (k : ℕ) → k < length ys → row k < length xs
  pub is : (k : ℕ) → k < length ys → get_or ys k (f d) ≡ f (get_or xs (row k) d)
  pub passes : (k : ℕ) → k < length ys → p (get_or xs (row k) d) ≡ true
  pub every : (i : ℕ) → i < length xs → p (get_or xs i d) ≡ true → (k : ℕ) × ((k < length ys) × (row k ≡ i))
  pub order : (j k : ℕ) → j < k → k < length ys → row j < row k

module _ {A B : Type 0} (p : A → Bool) (f : A → B) (d : A) where
  none_picked : Picked p f d [] []
  none_picked =
      record {
        row = λ k. k;
        there = λ k l. absurd (omega arith);
        is = λ k l. absurd (omega arith);
        passes = λ k l. absurd (omega arith);
        every = λ i l. absurd (omega arith);
        order = λ j k h l. absurd (omega arith);
      }

  module _ (x : A) (xs : List A) (ys : List B) (more : Picked p f d xs ys) where
    -- the first one passes: the others come one later
    first_picked : p x ≡ true → Picked p f d (x ∷ xs) (f x ∷ ys)
    first_picked e =
        record { row = row; there = there; is = is; passes = passes; every = every; order = order }
      where
        row : ℕ → ℕ
        row zero = 0
        row (suc k) = suc (more.row k)

        there : (k : ℕ) → k < suc (length ys) → row k < suc (length xs)
        there zero l = omega arith
        there (suc k) l = omega (arith, more.there k (omega arith))

        is : (k : ℕ) → k < suc (length ys) → get_or (f x ∷ ys) k (f d) ≡ f (get_or (x ∷ xs) (row k) d)
        is zero l = refl
        is (suc k) l = more.is k (omega arith)

        passes : (k : ℕ) → k < suc (length ys) → p (get_or (x ∷ xs) (row k) d) ≡ true
        passes zero l = e
        passes (suc k) l = more.passes k (omega arith)

        every : (i : ℕ) → i < suc (length xs) → p (get_or (x ∷ xs) i d) ≡ true → (k : ℕ) × ((k < suc (length ys)) × (row k ≡ i))
        every zero l h = (0, (omega arith, refl))
        every (suc i) l h = let m = more.every i (omega arith) h in (suc m.0, (omega (arith, m.1.0), ap suc m.1.1))

        order : (j k : ℕ) → j < k → k < suc (length ys) → row j < row k
        order j zero h l = absurd (omega arith)
        order zero (suc k) h l = omega arith
        order (suc j) (suc k) h l = omega (arith, more.order j k (omega arith) (omega arith))

    -- it does not
    first_passed_over : p x ≡ false → Picked p f d (x ∷ xs) ys
    first_passed_over e =
        record {
          row = λ k. suc (more.row k);
          there = λ k l. omega (arith, more.there k l);
          is = more.is;
          passes = more.passes;
          every = every;
          order = λ j k h l. omega (arith, more.order j k h l);
        }
      where
        every : (i : ℕ) → i < suc (length xs) → p (get_or (x ∷ xs) i d) ≡ true → (k : ℕ) × ((k < length ys) × (suc (more.row k) ≡ i))
        every zero l h = absurd (true≢false (sym h ∙ e))
        every (suc i) l h = let m = more.every i (omega arith) h in (m.0, (m.1.0, ap suc m.1.1))

  pub those_picked : (xs : List A) → Picked p f d xs (map f (those p xs))
  unfolding those
  those_picked [] = none_picked
  those_picked (x ∷ xs) = go (p x) refl (those_picked xs)
    where
      go : (b : Bool) → p x ≡ b → Picked p f d xs (map f (those p xs)) → Picked p f d (x ∷ xs) (map f (cond b (x ∷ those p xs) (those p xs)))
      go true e more = first_picked x xs (map f (those p xs)) more e
      go false e more = first_passed_over x xs (map f (those p xs)) more e
