-- The positions of Cntts (document 02, §1): where none is wrong, the records with a Cntt have 1 to their number, each once, so that each of these numbers is some record's.
use Prim.Native.Nat.{ℕ, zero, suc, ◌+◌, ◌-◌, ◌≤◌, ◌<◌}
use native.Mathlib.Omega.{arith}
use native.Mathlib.Decide.{dec_lt}
use mathlib.Core.Path.{◌≡◌, refl, sym, ap, ap₂, ◌∙◌}
use mathlib.Core.Logic.{◌⊎◌, inl, inr}
use mathlib.Core.Bool.{Bool, true, false, cond, ◌&&◌, ◌||◌, true≢false}
use mathlib.Core.List.{List, [], ◌∷◌}
use lib.Dec.{ltb, eqb}
use lib.ListN.{length, get_or}
use borrow.Author.Tests.{le-ltb, ltb-true, ltb-false, eq-eqb, ne_eqb, eqb-true, eqb-false}
use Rattle.layout.specs.Scan.{first}
use Rattle.layout.specs.Records.{Record, SecondTable, Absent, Value, blank, second_in, position_in}
use Rattle.layout.specs.Write.{cntt_count, cntts_in, placed_at, at_position, wrong_position}
use Rattle.layout.proofs.Pigeonhole.{Apart, pigeonhole}
use Rattle.layout.proofs.Scans.{first_passed, first_stands, first_is}
use Rattle.std.specs.Prelude.{None, Some}

-- a record has one Cntt or none
pub one_or_none : (o : SecondTable) → (cntt_count o ≡ 0) ⊎ (cntt_count o ≡ 1)
unfolding cntt_count
one_or_none None = inl refl
one_or_none (Some v) = inr refl

-- ---- the records that have a Cntt, numbered from the front

owner_with : SecondTable → (ℕ → ℕ) → ℕ → ℕ
owner_with None h j = suc (h j)
owner_with (Some v) h zero = zero
owner_with (Some v) h (suc j) = suc (h j)

-- the number of the record that is the j-th with a Cntt
pub owner : List Record → ℕ → ℕ
owner [] j = zero
owner (r ∷ rs) j = owner_with (second_in r) (owner rs) j

-- each is a record with a Cntt, they rise, and no record with a Cntt is left out
pub record Owners (rs : List Record) (m : ℕ) (h : ℕ → ℕ) : Type 0 where
  pub within : (j : ℕ) → j < m → h j < length rs
  pub has : (j : ℕ) → j < m → cntt_count (second_in (get_or rs (h j) blank)) ≡ 1
  pub rising : (i j : ℕ) → i < j → j < m → h i < h j
  pub complete : (i : ℕ) → i < length rs → cntt_count (second_in (get_or rs i blank)) ≡ 1 → (j : ℕ) × (j < m) × (h j ≡ i)

module _ (r : Record) (rs : List Record) (m : ℕ) (h : ℕ → ℕ) (f : Owners rs m h) where
  without : second_in r ≡ Absent → Owners (r ∷ rs) m (owner_with Absent h)
  unfolding cntt_count owner_with
  without e =
      record {
        within = λ j l. omega (arith, f.within j l);
        has = λ j l. f.has j l;
        rising = λ i j k l. omega (arith, f.rising i j k l);
        complete = find;
      }
    where
      find : (i : ℕ) → i < suc (length rs) → cntt_count (second_in (get_or (r ∷ rs) i blank)) ≡ 1 → (j : ℕ) × (j < m) × (suc (h j) ≡ i)
      find zero l q = let z : ◌≡◌ {A = ℕ} 0 1 = rw e at q in absurd (omega arith)
      find (suc i) l q = let x = f.complete i (omega arith) q in (x.0, x.1, ap suc x.2)

  with_one : (v : ℕ) → second_in r ≡ Value v → Owners (r ∷ rs) (suc m) (owner_with (Value v) h)
  unfolding cntt_count owner_with
  with_one v e = record { within = within; has = has; rising = rising; complete = find }
    where
      within : (j : ℕ) → j < suc m → owner_with (Value v) h j < suc (length rs)
      within zero l = omega arith
      within (suc j) l = omega (arith, f.within j (omega arith))

      has : (j : ℕ) → j < suc m → cntt_count (second_in (get_or (r ∷ rs) (owner_with (Value v) h j) blank)) ≡ 1
      has zero l = rw e
      has (suc j) l = f.has j (omega arith)

      rising : (i j : ℕ) → i < j → j < suc m → owner_with (Value v) h i < owner_with (Value v) h j
      rising i zero k l = absurd (omega arith)
      rising zero (suc j) k l = omega arith
      rising (suc i) (suc j) k l = omega (arith, f.rising i j (omega arith) (omega arith))

      find : (i : ℕ) → i < suc (length rs) → cntt_count (second_in (get_or (r ∷ rs) i blank)) ≡ 1 → (j : ℕ) × (j < suc m) × (owner_with (Value v) h j ≡ i)
      find zero l q = (0, omega arith, refl)
      find (suc i) l q = let x = f.complete i (omega arith) q in (suc x.0, omega (arith, x.1), ap suc x.2)

pub owners : (rs : List Record) → Owners rs (cntts_in rs) (owner rs)
unfolding cntts_in cntt_count owner
owners [] =
    record {
      within = λ j l. absurd (omega arith);
      has = λ j l. absurd (omega arith);
      rising = λ i j k l. absurd (omega arith);
      complete = λ i l q. absurd (omega arith);
    }
owners (r ∷ rs) = go (second_in r) refl (owners rs)
  where
    go : (o : SecondTable) → second_in r ≡ o → Owners rs (cntts_in rs) (owner rs) → Owners (r ∷ rs) (cntt_count o + cntts_in rs) (owner_with o (owner rs))
    go None e f = let z : 0 + cntts_in rs ≡ cntts_in rs = omega arith in rw z (without r rs (cntts_in rs) (owner rs) f e)
    go (Some v) e f = let z : 1 + cntts_in rs ≡ suc (cntts_in rs) = omega arith in rw z (with_one r rs (cntts_in rs) (owner rs) f v e)

-- there are no more Cntts than records
pub cntts_most : (rs : List Record) → cntts_in rs ≤ length rs
cntts_most rs = pigeonhole (length rs) (cntts_in rs) (owner rs) (owners rs).within (λ i j k l x. omega (arith, (owners rs).rising i j k l))

-- ---- positions

module _ (rs : List Record) where
  abbrev has : ℕ → ℕ
  has i = cntt_count (second_in (get_or rs i blank))

  abbrev position : ℕ → ℕ
  position i = position_in (get_or rs i blank)

  -- "records without a Cntt have 0 and the others 1 to their number, each once"
  pub record Positions : Type 0 where
    pub none : (i : ℕ) → i < length rs → has i ≡ 0 → position i ≡ 0
    pub within : (i : ℕ) → i < length rs → has i ≡ 1 → (0 < position i) × (position i ≤ cntts_in rs)
    pub apart : (i j : ℕ) → i < j → j < length rs → has i ≡ 1 → has j ≡ 1 → position i ≡ position j → ⊥

  -- the record that is found for a position has its Cntt there ..
  pub placed_is : (n k : ℕ) → at_position rs n k < n → (has (at_position rs n k) ≡ 1) × (position (at_position rs n k) ≡ k)
  unfolding at_position placed_at
  placed_is n k h =
      let i = first (λ i. placed_at k (get_or rs i blank)) 0 n in
      both i (eqb (has i) 1) (eqb (position i) k) refl refl (first_stands (λ i. placed_at k (get_or rs i blank)) n h)
    where
      both : (i : ℕ) (a b : Bool) → eqb (has i) 1 ≡ a → eqb (position i) k ≡ b → a && b ≡ true → (has i ≡ 1) × (position i ≡ k)
      both i true true d e q = (eqb-true _ _ d, eqb-true _ _ e)
      both i true false d e q = absurd (true≢false (sym q))
      both i false b d e q = absurd (true≢false (sym q))

  -- .. and where none is found, none has
  pub placed_none : (n k : ℕ) → n ≤ at_position rs n k → (i : ℕ) → i < n → has i ≡ 1 → position i ≡ k → ⊥
  unfolding at_position placed_at
  placed_none n k h i l a b =
      let z : eqb (has i) 1 && eqb (position i) k ≡ false = first_passed (λ i. placed_at k (get_or rs i blank)) n i (omega arith) in
      true≢false (sym (ap₂ ◌&&◌ (eq-eqb (has i) 1 a) (eq-eqb (position i) k b)) ∙ z)

  -- ---- the test says so

  pub positions_right : ((i : ℕ) → i < length rs → wrong_position rs i ≡ false) → Positions
  unfolding wrong_position
  positions_right h =
      record {
        none = λ i l e. let z : ltb 0 (position i) ≡ false = rw (eq-eqb (has i) 0 e) at (h i l) in omega (arith, ltb-false 0 (position i) z);
        within = λ i l e. let x = others i l e in (x.0, x.1);
        apart = λ i j k l a b q. placed_none j (position j) (others j l b).2 i k a q;
      }
    where
      others : (i : ℕ) → i < length rs → has i ≡ 1 → (0 < position i) × (position i ≤ cntts_in rs) × (i ≤ at_position rs i (position i))
      others i l e =
          let z = rw (ne_eqb (has i) 0 (λ q. omega arith)) at (h i l) in
          go (eqb (position i) 0) (ltb (cntts_in rs) (position i)) (ltb (at_position rs i (position i)) i) refl refl refl z
        where
          go : (a b d : Bool) → eqb (position i) 0 ≡ a → ltb (cntts_in rs) (position i) ≡ b → ltb (at_position rs i (position i)) i ≡ d → a || (b || d) ≡ false
              → (0 < position i) × (position i ≤ cntts_in rs) × (i ≤ at_position rs i (position i))
          go true b d x y w q = absurd (true≢false q)
          go false true d x y w q = absurd (true≢false q)
          go false false true x y w q = absurd (true≢false q)
          go false false false x y w q = (omega (arith, eqb-false (position i) 0 x), ltb-false _ _ y, ltb-false _ _ w)

  -- ---- and they are right where it is so

  module _ (p : Positions) where
    -- no earlier record has its Cntt there
    earlier : (i : ℕ) → i < length rs → has i ≡ 1 → i ≤ at_position rs i (position i)
    earlier i l e = go (dec_lt (at_position rs i (position i)) i)
      where
        go : Dec (at_position rs i (position i) < i) → i ≤ at_position rs i (position i)
        go (yes d) = let x = placed_is i (position i) d in absurd (p.apart (at_position rs i (position i)) i d l x.0 e x.1)
        go (no d) = omega arith

    pub right_positions : (i : ℕ) → i < length rs → wrong_position rs i ≡ false
    unfolding wrong_position
    right_positions i l = go (one_or_none (second_in (get_or rs i blank)))
      where
        go : (has i ≡ 0) ⊎ (has i ≡ 1) → wrong_position rs i ≡ false
        go (inl e) = rw (eq-eqb (has i) 0 e) (le-ltb 0 (position i) (omega (arith, p.none i l e)))
        go (inr e) =
            let w = p.within i l e in
            rw (
              ne_eqb (has i) 0 (λ q. omega arith),
              ne_eqb (position i) 0 (λ q. omega (arith, w.0)),
              le-ltb (cntts_in rs) (position i) w.1,
              le-ltb (at_position rs i (position i)) i (earlier i l e),
            )

    -- a record with a Cntt is the one that is found for its position
    pub position_own : (i : ℕ) → i < length rs → has i ≡ 1 → at_position rs (length rs) (position i) ≡ i
    unfolding at_position placed_at
    position_own i l e =
        first_is (λ j. placed_at (position i) (get_or rs j blank)) (length rs) i l (ap₂ ◌&&◌ (eq-eqb (has i) 1 e) (eq-eqb (position i) (position i) refl)) (λ j k. passed j k)
      where
        passed : (j : ℕ) → j < i → eqb (has j) 1 && eqb (position j) (position i) ≡ false
        passed j k = go (eqb (has j) 1) (eqb (position j) (position i)) refl refl
          where
            go : (a b : Bool) → eqb (has j) 1 ≡ a → eqb (position j) (position i) ≡ b → a && b ≡ false
            go true true x y = absurd (p.apart j i k l (eqb-true _ _ x) e (eqb-true _ _ y))
            go true false x y = refl
            go false b x y = refl

    -- each number from 1 to that of the Cntts is some record's position: else the Cntts would be more than the numbers that are left
    pub position_taken : (k : ℕ) → 0 < k → k ≤ cntts_in rs → at_position rs (length rs) k < length rs
    position_taken k a b = go (dec_lt (at_position rs (length rs) k) (length rs))
      where
        -- the positions without k, from 0
        left : ℕ → ℕ
        left j = cond (ltb (position (owner rs j)) k) (position (owner rs j) - 1) (position (owner rs j) - 2)

        go : Dec (at_position rs (length rs) k < length rs) → at_position rs (length rs) k < length rs
        go (yes d) = d
        go (no d) = absurd (omega (arith, pigeonhole (cntts_in rs - 1) (cntts_in rs) left low other))
          where
            o : Owners rs (cntts_in rs) (owner rs)
            o = owners rs

            within_of : (j : ℕ) → j < cntts_in rs → (0 < position (owner rs j)) × (position (owner rs j) ≤ cntts_in rs)
            within_of j l = p.within (owner rs j) (o.within j l) (o.has j l)

            not_k : (j : ℕ) → j < cntts_in rs → position (owner rs j) ≡ k → ⊥
            not_k j l e = placed_none (length rs) k (omega arith) (owner rs j) (o.within j l) (o.has j l) e

            low : (j : ℕ) → j < cntts_in rs → left j < cntts_in rs - 1
            low j l = try (ltb (position (owner rs j)) k) refl
              where
                try : (t : Bool) → ltb (position (owner rs j)) k ≡ t → cond t (position (owner rs j) - 1) (position (owner rs j) - 2) < cntts_in rs - 1
                try true e = omega (arith, within_of j l, ltb-true (position (owner rs j)) k e)
                try false e = omega (arith, within_of j l, ltb-false (position (owner rs j)) k e, not_k j l)

            other : Apart left (cntts_in rs)
            other i j h l = try (ltb (position (owner rs i)) k) (ltb (position (owner rs j)) k) refl refl
              where
                apart_of : position (owner rs i) ≡ position (owner rs j) → ⊥
                apart_of = p.apart (owner rs i) (owner rs j) (o.rising i j h l) (o.within j l) (o.has i (omega arith)) (o.has j l)

                try : (s t : Bool) → ltb (position (owner rs i)) k ≡ s → ltb (position (owner rs j)) k ≡ t
                    → cond s (position (owner rs i) - 1) (position (owner rs i) - 2) ≡ cond t (position (owner rs j) - 1) (position (owner rs j) - 2) → ⊥
                try true true d e q = apart_of (omega (arith, within_of i (omega arith), within_of j l, q))
                try true false d e q = omega (arith, within_of i (omega arith), ltb-true (position (owner rs i)) k d, ltb-false (position (owner rs j)) k e, not_k j l, q)
                try false true d e q = omega (arith, within_of j l, ltb-false (position (owner rs i)) k d, ltb-true (position (owner rs j)) k e, not_k i (omega arith), q)
                try false false d e q = apart_of (omega (arith, ltb-false (position (owner rs i)) k d, ltb-false (position (owner rs j)) k e, not_k i (omega arith), not_k j l, q))
