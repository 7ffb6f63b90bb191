-- The Cntts of records by number, from 0: Cntt number j is that of record `home j`, whose position is j + 1. There are then as many Cntts as numbers, by a pigeonhole bound each way,
-- every position is right, and the Cntts that the records write are those of home 0, home 1, and so on.
use Prim.Native.Nat.{ℕ, ◌+◌, ◌*◌, ◌-◌, ◌≤◌, ◌<◌}
use mathlib.Core.Path.{◌≡◌, refl, sym, ap, ◌∙◌}
use mathlib.Core.Logic.{◌⊎◌, inl, inr}
use mathlib.Core.List.{List, [], ◌∷◌, ◌++◌, flat_map}
use native.Mathlib.Omega.{arith}
use native.Mathlib.Decide.{dec_lt}
use lib.Dec.{eqb}
use lib.ListN.{length, get_or, take, drop}
use lib.Seq.{take_at}
use Rattle.layout.specs.Scan.{first}
use Rattle.layout.specs.Lists.{rows}
use Rattle.layout.specs.Bytes.{Cntt}
use Rattle.layout.specs.declared.record.Record.{Record}
use Rattle.layout.specs.Records.{SecondTable}
use Rattle.layout.specs.Records.{Value}
use Rattle.layout.specs.Records.{blank, channel_of, second_in, position_in}
use Rattle.layout.specs.Write.{cntt_bytes, cntt_count, cntts_in, at_position, cntt_on, cntts_bytes}
use Rattle.layout.proofs.Lists.{rows_length, get_d_rows}
use Rattle.layout.proofs.Pigeonhole.{pigeonhole}
use Rattle.layout.proofs.Positions.{owner, owners, Positions, placed_is, position_own, position_taken}
use Rattle.law_rounds.proofs.Runs.{one_has, found}
use Rattle.law_rounds.proofs.Blocks.{moved, flat_alike, blocks_written, length_blocks}
use Rattle.law_rounds.proofs.Chunks.{length_chunk}
use Rattle.std.specs.Prelude.{None, Some}

-- the Cntt that a record writes, where it has one
abbrev pub own_cntt : Record → List ℕ
own_cntt r = cntt_bytes (channel_of r) (second_in r)

-- each number is that of a record with a Cntt, no such record is left out, and the others have position 0
pub record CnttNumbers (rs : List Record) (m : ℕ) (home : ℕ → ℕ) : Type 0 where
  pub within : (j : ℕ) → j < m → home j < length rs
  pub has : (j : ℕ) → j < m → cntt_count (second_in (get_or rs (home j) blank)) ≡ 1
  pub at : (j : ℕ) → j < m → position_in (get_or rs (home j) blank) ≡ j + 1
  pub complete : (i : ℕ) → i < length rs → cntt_count (second_in (get_or rs i blank)) ≡ 1 → (j : ℕ) × (j < m) × (home j ≡ i)
  pub none : (i : ℕ) → i < length rs → cntt_count (second_in (get_or rs i blank)) ≡ 0 → position_in (get_or rs i blank) ≡ 0

one_value : (o : SecondTable) → cntt_count o ≡ 1 → (v : ℕ) × (o ≡ Value v)
unfolding cntt_count
one_value None e = absurd (omega arith)
one_value (Some v) e = (v, refl)

length_value : (channel v : ℕ) → length (cntt_bytes channel (Value v)) ≡ 10
unfolding cntt_bytes
length_value channel v = length_chunk Cntt (channel ∷ v ∷ []) refl

-- a record's Cntt stands at `at` of s
pub record CnttThere (s : List ℕ) (at : ℕ) (r : Record) : Type 0 where
  pub value : ℕ
  pub behind : List ℕ
  pub second : second_in r ≡ Value value
  pub bytes : drop at s ≡ cntt_bytes (channel_of r) (Value value) ++ behind

-- it is the 10 bytes there
pub there_ten : (s : List ℕ) (at : ℕ) (r : Record) → CnttThere s at r → take 10 (drop at s) ≡ own_cntt r
there_ten s at r t = ap (take 10) t.bytes ∙ take_at (cntt_bytes (channel_of r) (Value t.value)) t.behind 10 (length_value (channel_of r) t.value) ∙ ap (cntt_bytes (channel_of r)) (sym t.second)

-- the record that has its Cntt at number j
abbrev pub home_of : List Record → ℕ → ℕ
home_of rs j = at_position rs (length rs) (j + 1)

-- right positions number the Cntts
pub positions_number : (rs : List Record) → Positions rs → CnttNumbers rs (cntts_in rs) (home_of rs)
positions_number rs p =
    let taken : (j : ℕ) → j < cntts_in rs → home_of rs j < length rs = λ j l. position_taken rs p (j + 1) (omega arith) (omega arith) in
    record {
      within = taken;
      has = λ j l. (placed_is rs (length rs) (j + 1) (taken j l)).0;
      at = λ j l. (placed_is rs (length rs) (j + 1) (taken j l)).1;
      complete = λ i l e. let w = p.within i l e in (position_in (get_or rs i blank) - 1, omega arith, ap (at_position rs (length rs)) (omega arith) ∙ position_own rs p i l e);
      none = p.none;
    }

-- records with the same second tables and positions have the same numbers
pub numbers_kept : (rs ss : List Record) (m : ℕ) (home : ℕ → ℕ) → length ss ≡ length rs → ((i : ℕ) → i < length rs → second_in (get_or ss i blank) ≡ second_in (get_or rs i blank))
    → ((i : ℕ) → i < length rs → position_in (get_or ss i blank) ≡ position_in (get_or rs i blank)) → CnttNumbers rs m home → CnttNumbers ss m home
numbers_kept rs ss m home e s q c =
    record {
      within = λ j l. rw e (c.within j l);
      has = λ j l. rw (s (home j) (c.within j l)) (c.has j l);
      at = λ j l. q (home j) (c.within j l) ∙ c.at j l;
      complete = λ i l h. c.complete i (rw e at l) (rw (s i (rw e at l)) at h);
      none = λ i l h. q i (rw e at l) ∙ c.none i (rw e at l) (rw (s i (rw e at l)) at h);
    }

-- records by their number: those that are homes have a Cntt and its position, and the others have none
pub rows_number : (row : ℕ → Record) (n m : ℕ) (home : ℕ → ℕ) → ((j : ℕ) → j < m → home j < n)
    → ((j : ℕ) → j < m → (cntt_count (second_in (row (home j))) ≡ 1) × (position_in (row (home j)) ≡ j + 1))
    → ((i : ℕ) → i < n → ((j : ℕ) → j < m → home j ≡ i → ⊥) → (cntt_count (second_in (row i)) ≡ 0) × (position_in (row i) ≡ 0)) → CnttNumbers (rows row 0 n) m home
rows_number row n m home within one other =
    record {
      within = λ j l. rw rows_length (within j l);
      has = λ j l. rw (at (home j) (within j l)) (one j l).0;
      at = λ j l. rw (at (home j) (within j l)) (one j l).1;
      complete = λ i l e. let k : i < n = rw rows_length at l in found_home i k (one_has home m i) (rw (at i k) at e);
      none = λ i l e. let k : i < n = rw rows_length at l in rw (at i k) (no_home i k (one_has home m i) (rw (at i k) at e));
    }
  where
    at : (i : ℕ) → i < n → get_or (rows row 0 n) i blank ≡ row i
    at i l = get_d_rows row blank n i l

    found_home : (i : ℕ) → i < n → ((j : ℕ) × (j < m) × (home j ≡ i)) ⊎ ((j : ℕ) → j < m → home j ≡ i → ⊥) → cntt_count (second_in (row i)) ≡ 1 → (j : ℕ) × (j < m) × (home j ≡ i)
    found_home i l (inl x) e = x
    found_home i l (inr d) e = absurd (omega (arith, (other i l d).0))

    no_home : (i : ℕ) → i < n → ((j : ℕ) × (j < m) × (home j ≡ i)) ⊎ ((j : ℕ) → j < m → home j ≡ i → ⊥) → cntt_count (second_in (row i)) ≡ 0 → position_in (row i) ≡ 0
    no_home i l (inl x) e = absurd (omega (arith, (one x.0 x.1).0, ap (λ k. cntt_count (second_in (row k))) x.2))
    no_home i l (inr d) e = (other i l d).1

module _ (rs : List Record) (m : ℕ) (home : ℕ → ℕ) (c : CnttNumbers rs m home) where
  -- no two numbers have one home, which has one position
  pub homes_apart : (i j : ℕ) → i < j → j < m → home i ≡ home j → ⊥
  homes_apart i j k l e = omega (arith, c.at i (omega arith), c.at j l, ap (λ x. position_in (get_or rs x blank)) e)

  many : m ≤ cntts_in rs
  many =
      pigeonhole (cntts_in rs) m (λ j. first (λ k. eqb (owner rs k) (home j)) 0 (cntts_in rs)) (λ j l. (its j l).0)
      (λ i j k l e. homes_apart i j k l (sym (its i (omega arith)).1 ∙ ap (owner rs) e ∙ (its j l).1))
    where
      its : (j : ℕ) (l : j < m) → (first (λ k. eqb (owner rs k) (home j)) 0 (cntts_in rs) < cntts_in rs) × (owner rs (first (λ k. eqb (owner rs k) (home j)) 0 (cntts_in rs)) ≡ home j)
      its j l = let x = (owners rs).complete (home j) (c.within j l) (c.has j l) in found (owner rs) (cntts_in rs) x.0 (home j) x.1 x.2

  pub numbers_right : Positions rs
  numbers_right =
      record {
        none = c.none;
        within = λ i l e. let x = c.complete i l e in let w = many in let z = position_is i l e in (omega arith, omega arith);
        apart = λ i j k l a b q. let x = c.complete i (omega arith) a in let y = c.complete j l b in
            let z : x.0 ≡ y.0 = omega (arith, position_is i (omega arith) a, position_is j l b) in
            omega (arith, sym x.2 ∙ ap home z ∙ y.2);
      }
    where
      position_is : (i : ℕ) (l : i < length rs) (e : cntt_count (second_in (get_or rs i blank)) ≡ 1) → position_in (get_or rs i blank) ≡ (c.complete i l e).0 + 1
      position_is i l e = let x = c.complete i l e in ap (λ k. position_in (get_or rs k blank)) (sym x.2) ∙ c.at x.0 x.1

  pub counted : cntts_in rs ≡ m
  counted = go (dec_lt 0 (cntts_in rs))
    where
      go : Dec (0 < cntts_in rs) → cntts_in rs ≡ m
      go (yes d) =
          let t = position_taken rs numbers_right (cntts_in rs) d (omega arith) in
          let x = placed_is rs (length rs) (cntts_in rs) t in
          let y = c.complete (at_position rs (length rs) (cntts_in rs)) t x.0 in
          omega (arith, many, x.1, c.at y.0 y.1, ap (λ k. position_in (get_or rs k blank)) y.2)
      go (no d) = omega (arith, many)

  -- ---- their bytes

  pub numbers_bytes : cntts_bytes rs ≡ flat_map own_cntt (rows (λ j. get_or rs (home j) blank) 0 m)
  unfolding cntts_bytes cntt_on
  numbers_bytes =
      ap (λ k. flat_map (cntt_on rs) (rows (λ k. k + 1) 0 k)) counted
      ∙ flat_alike (cntt_on rs) own_cntt (λ k. k + 1) (λ j. get_or rs (home j) blank) m (λ j l. ap (λ i. own_cntt (get_or rs i blank)) (at_home j l))
    where
      at_home : (j : ℕ) → j < m → at_position rs (length rs) (j + 1) ≡ home j
      at_home j l = rw (c.at j l) at (position_own rs numbers_right (home j) (c.within j l) (c.has j l))

  -- ---- each is 10 bytes

  -- the record of Cntt number j, found by its number in the list of these
  ranked : (j : ℕ) → j < m → get_or (rows (λ j. get_or rs (home j) blank) 0 m) j blank ≡ get_or rs (home j) blank
  ranked j l = get_d_rows (λ j. get_or rs (home j) blank) blank m j l

  length_own : (j : ℕ) → j < length (rows (λ j. get_or rs (home j) blank) 0 m) → length (own_cntt (get_or (rows (λ j. get_or rs (home j) blank) 0 m) j blank)) ≡ 10
  length_own j l =
      let k : j < m = rw rows_length at l in
      let v = one_value (second_in (get_or rs (home j) blank)) (c.has j k) in
      rw (ranked j k, v.1) (length_value (channel_of (get_or rs (home j) blank)) v.0)

  pub length_cntts : length (cntts_bytes rs) ≡ 10 * m
  length_cntts =
      ap length numbers_bytes ∙ length_blocks 10 blank own_cntt (rows (λ j. get_or rs (home j) blank) 0 m) length_own ∙ ap (λ k. 10 * k) (rows_length (λ j. get_or rs (home j) blank) 0 m)

  pub cntts_there : (s : List ℕ) (at : ℕ) (y : List ℕ) → drop at s ≡ cntts_bytes rs ++ y → (j : ℕ) → j < m → CnttThere s (at + 10 * j) (get_or rs (home j) blank)
  cntts_there s at y e j l =
      let v = one_value (second_in (get_or rs (home j) blank)) (c.has j l) in
      let b =
      (blocks_written s (λ j. at + 10 * j) blank own_cntt y (rows (λ j. get_or rs (home j) blank) 0 m) (λ j z u r. omega (arith, length_own j u))
      (moved s (at + 10 * 0) at (omega arith) ∙ e ∙ ap (λ z. z ++ y) numbers_bytes)).0 j (rw rows_length l) in
      record { value = v.0; behind = _; second = v.1; bytes = rw (ranked j l, v.1) at b }
