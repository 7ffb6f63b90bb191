-- An allowed group with its Cntts in another order: number j is that of record `home (order j)`, so its record gets position j + 1. Every number is some `order j`, by the pigeonhole law,
-- so no Cntt is left out and the group is allowed.
use Prim.Native.Nat.{ℕ, ◌+◌, ◌-◌, ◌<◌}
use mathlib.Core.Path.{◌≡◌, refl, sym, ap, ap₂, ◌∙◌}
use mathlib.Core.Logic.{◌⊎◌, inl, inr}
use mathlib.Core.Bool.{cond}
use mathlib.Core.List.{List, flat_map}
use native.Mathlib.Omega.{arith}
use native.Mathlib.Decide.{dec_lt}
use lib.Dec.{ltb, eqb}
use lib.ListN.{length, get_or}
use borrow.Author.Tests.{lt-ltb, le-ltb, eq-eqb, ne_eqb}
use Rattle.layout.specs.Scan.{first}
use Rattle.layout.specs.Lists.{rows}
use Rattle.layout.specs.declared.edition.Edition.TheVariants.{Second}
use Rattle.layout.specs.Editions.{held}
use Rattle.layout.specs.Records.{SecondTable}
use Rattle.layout.specs.Records.{Absent}
use Rattle.layout.specs.declared.record.Record.{Record}
use Rattle.layout.specs.Records.{bytes_of, blank, channel_of, edition_of, second_in, position_in, file_bytes}
use Rattle.layout.specs.Group.{Group}
use Rattle.layout.specs.Write.{ctab_bytes, cntt_bytes, cntt_count, cntts_bytes, first_edition, Allowed}
use Rattle.layout.proofs.Lists.{rows_length, get_d_rows}
use Rattle.layout.proofs.Scans.{first_none, first_is}
use Rattle.layout.proofs.Pigeonhole.{pigeonhole}
use Rattle.layout.proofs.Positions.{one_or_none, right_positions}
use Rattle.law_rounds.specs.Rearranged.{Rearrangement, SameButPositions}
use Rattle.law_rounds.proofs.RecordBack.{read_whole, read_cntt, ctb2_none}
use Rattle.law_rounds.proofs.Runs.{differ, one_has}
use Rattle.law_rounds.proofs.Blocks.{rows_is, flat_alike}
use Rattle.law_rounds.proofs.CnttNumbers.{own_cntt, CnttNumbers, homes_apart, rows_number, numbers_right, numbers_bytes}
use Rattle.law_rounds.proofs.EditionThere.{no_record}
use Rattle.law_rounds.proofs.AnyPosition.{with_position, position_bytes, position_edition, position_channel, position_bad}

-- each number below m is one of m that are apart and below m: else it would be one more
onto : (m : ℕ) (order : ℕ → ℕ) → Rearrangement m order → (k : ℕ) → k < m → (j : ℕ) × (j < m) × (order j ≡ k)
onto m order o k l = go (one_has order m k)
  where
    go : ((j : ℕ) × (j < m) × (order j ≡ k)) ⊎ ((j : ℕ) → j < m → order j ≡ k → ⊥) → (j : ℕ) × (j < m) × (order j ≡ k)
    go (inl x) = x
    go (inr d) = absurd (omega (arith, pigeonhole m (m + 1) (λ j. cond (ltb j m) (order j) k) low other))
      where
        low : (j : ℕ) → j < m + 1 → cond (ltb j m) (order j) k < m
        low j h = try (dec_lt j m)
          where
            try : Dec (j < m) → cond (ltb j m) (order j) k < m
            try (yes u) = rw (lt-ltb j m u) (o.within j u)
            try (no u) = rw (le-ltb j m (omega arith)) l

        other : (i j : ℕ) → i < j → j < m + 1 → cond (ltb i m) (order i) k ≡ cond (ltb j m) (order j) k → ⊥
        other i j h u e = try (dec_lt j m)
          where
            try : Dec (j < m) → ⊥
            try (yes v) = o.apart i j h v (rw (lt-ltb i m (omega arith), lt-ltb j m v) at e)
            try (no v) = d i (omega arith) (rw (lt-ltb i m (omega arith), le-ltb j m (omega arith)) at e)

-- what is absent is no Cntt
no_one : {x : SecondTable} → x ≡ Absent → cntt_count x ≡ 1 → ⊥
unfolding cntt_count
no_one e h = let z : ◌≡◌ {A = ℕ} 0 1 = rw e at h in omega arith

-- the position of record number i where its Cntt is the one of the first number that has it as home
abbrev new_position : ℕ → (ℕ → ℕ) → ℕ → ℕ
new_position m home i = cond (ltb (first (λ j. eqb (home j) i) 0 m) m) (first (λ j. eqb (home j) i) 0 m + 1) 0

-- record number i with that position
abbrev new_row : List Record → ℕ → (ℕ → ℕ) → ℕ → Record
new_row rs m home i = with_position (new_position m home i) (get_or rs i blank)

-- the group with these records
abbrev pub renumbered : Group → ℕ → (ℕ → ℕ) → Group
renumbered g m home = record { text = g.text; records = rows (new_row g.records m home) 0 (length g.records) }

module _ (g : Group) (m : ℕ) (home order : ℕ → ℕ) (numbers : CnttNumbers g.records m home) (o : Rearrangement m order) where
  -- the records before, and after
  abbrev rs : List Record
  rs = g.records

  abbrev new : ℕ → Record
  new i = new_row g.records m (λ j. home (order j)) i

  new_cntt : (i : ℕ) → (second_in (new i) ≡ second_in (get_or rs i blank)) × (position_in (new i) ≡ new_position m (λ j. home (order j)) i)
  new_cntt i = read_cntt (bytes_of r) (second_in r) (new_position m (λ j. home (order j)) i) (edition_of r) none
    where
      r : Record
      r = get_or rs i blank

      -- a record of the second edition has no Cntt, and so is no home
      none : edition_of r ≡ Second → (second_in r ≡ Absent) × (new_position m (λ j. home (order j)) i ≡ 0)
      none is = ((ctb2_none r.form is).0, go (one_has (λ j. home (order j)) m i))
        where
          go : ((j : ℕ) × (j < m) × (home (order j) ≡ i)) ⊎ ((j : ℕ) → j < m → home (order j) ≡ i → ⊥) → new_position m (λ j. home (order j)) i ≡ 0
          go (inl x) =
              let one : cntt_count (second_in r) ≡ 1 = rw x.2 at (numbers.has (order x.0) (o.within x.0 x.1)) in
              absurd (no_one (ctb2_none r.form is).0 one)
          go (inr d) =
              let z : first (λ k. eqb (home (order k)) i) 0 m ≡ m = first_none _ m (λ k h. ne_eqb _ _ (d k h)) in
              rw (z, le-ltb m m (omega arith))

  pub renumbered_numbers : CnttNumbers (rows new 0 (length rs)) m (λ j. home (order j))
  renumbered_numbers = rows_number new (length rs) m (λ j. home (order j)) (λ j l. numbers.within (order j) (o.within j l)) one other
    where
      one : (j : ℕ) → j < m → (cntt_count (second_in (new (home (order j)))) ≡ 1) × (position_in (new (home (order j))) ≡ j + 1)
      one j l =
          let z : first (λ k. eqb (home (order k)) (home (order j))) 0 m ≡ j =
          first_is (λ k. eqb (home (order k)) (home (order j))) m j l (eq-eqb (home (order j)) _ refl)
          (λ k h. ne_eqb _ _ (differ home m (homes_apart rs m home numbers) (order k) (order j) (o.within k (omega arith)) (o.within j l) (o.apart k j h l))) in
          (ap cntt_count (new_cntt (home (order j))).0 ∙ numbers.has (order j) (o.within j l), (new_cntt (home (order j))).1 ∙ rw (z, lt-ltb j m l))

      other : (i : ℕ) → i < length rs → ((j : ℕ) → j < m → home (order j) ≡ i → ⊥) → (cntt_count (second_in (new i)) ≡ 0) × (position_in (new i) ≡ 0)
      other i l d =
          let z : first (λ k. eqb (home (order k)) i) 0 m ≡ m = first_none _ m (λ k h. ne_eqb _ _ (d k h)) in
          (ap cntt_count (new_cntt i).0 ∙ go (one_or_none (second_in (get_or rs i blank))), (new_cntt i).1 ∙ rw (z, le-ltb m m (omega arith)))
        where
          go : (cntt_count (second_in (get_or rs i blank)) ≡ 0) ⊎ (cntt_count (second_in (get_or rs i blank)) ≡ 1) → cntt_count (second_in (get_or rs i blank)) ≡ 0
          go (inl x) = x
          go (inr x) =
              let k = numbers.complete i l x in
              let j = onto m order o k.0 k.1 in
              absurd (d j.0 j.1 (ap home j.2 ∙ k.2))

  at : (i : ℕ) → i < length rs → get_or (rows new 0 (length rs)) i blank ≡ new i
  at i l = get_d_rows new blank (length rs) i l

  -- every record is of the edition that it was of, and so is the group
  editions : (i : ℕ) → i < length rs → edition_of (get_or (rows new 0 (length rs)) i blank) ≡ edition_of (get_or rs i blank)
  editions i l = ap (λ (r : Record). edition_of r) (at i l) ∙ position_edition _ (get_or rs i blank)

  pub renumbered_edition : first_edition (rows new 0 (length rs)) ≡ first_edition rs
  unfolding first_edition
  renumbered_edition = go (dec_lt 0 (length rs))
    where
      go : Dec (0 < length rs) → first_edition (rows new 0 (length rs)) ≡ first_edition rs
      go (yes d) = editions 0 d
      go (no d) =
          let z : length rs ≡ 0 = omega arith in
          (no_record (rows new 0 (length rs)) (rows_length new 0 (length rs) ∙ z)).0 ∙ sym (no_record rs z).0

  pub renumbered_allowed : Allowed g → Allowed (renumbered g m (λ j. home (order j)))
  unfolding first_edition
  renumbered_allowed a =
      let below : (i : ℕ) → i < length (rows new 0 (length rs)) → i < length rs = λ i u. rw rows_length at u in
      record {
        text = a.text;
        editions = λ i u. editions 0 (omega (arith, below i u)) ∙ a.editions i (below i u) ∙ sym (editions i (below i u));
        whole = λ i u. rw (at i (below i u)) (read_whole _ _ _ _);
        ranges = λ i u. rw (at i (below i u)) (position_bad _ (get_or rs i blank) ∙ a.ranges i (below i u) ∙ ap held (sym (position_edition _ (get_or rs i blank))));
        apart = λ i j u v x. a.apart i j u (below j v) (sym (channel i (omega (arith, below j v))) ∙ x ∙ channel j (below j v));
        positions = right_positions (rows new 0 (length rs)) (numbers_right (rows new 0 (length rs)) m (λ j. home (order j)) renumbered_numbers);
      }
    where
      channel : (i : ℕ) → i < length rs → channel_of (get_or (rows new 0 (length rs)) i blank) ≡ channel_of (get_or rs i blank)
      channel i l = ap channel_of (at i l) ∙ position_channel _ (get_or rs i blank)

  pub renumbered_same : SameButPositions g (renumbered g m (λ j. home (order j)))
  renumbered_same =
      record {
        text = refl;
        count = sym (rows_length new 0 (length rs));
        bytes = λ i l. sym (ap bytes_of (at i l) ∙ position_bytes _ (get_or rs i blank));
        second = λ i l. sym (ap (λ (r : Record). second_in r) (at i l) ∙ (new_cntt i).0);
      }

  -- the Cntt that stands at a number was number `order` of it
  pub renumbered_moved : (i : ℕ) → i < length rs → cntt_count (second_in (get_or rs i blank)) ≡ 1
      → order (position_in (get_or (rows new 0 (length rs)) i blank) - 1) + 1 ≡ position_in (get_or rs i blank)
  renumbered_moved i l x =
      let k = renumbered_numbers.complete i (rw rows_length l) (rw (at i l, (new_cntt i).0) x) in
      let y : position_in (get_or (rows new 0 (length rs)) i blank) ≡ k.0 + 1 = rw k.2 at (renumbered_numbers.at k.0 k.1) in
      let z : k.0 + 1 - 1 ≡ k.0 = omega arith in
      rw (y, z) (rw k.2 at (sym (numbers.at (order k.0) (o.within k.0 k.1))))

  -- ---- its bytes

  pub renumbered_ctabs : flat_map ctab_bytes (rows new 0 (length rs)) ≡ flat_map ctab_bytes rs
  unfolding ctab_bytes file_bytes
  renumbered_ctabs =
      flat_alike ctab_bytes ctab_bytes new (λ i. get_or rs i blank) (length rs) (λ i l. rw (position_bytes _ (get_or rs i blank), position_edition _ (get_or rs i blank)))
      ∙ ap (flat_map ctab_bytes) (rows_is (λ i. get_or rs i blank) blank rs (λ i l. refl))

  pub renumbered_cntts : cntts_bytes (rows new 0 (length rs)) ≡ flat_map own_cntt (rows (λ j. get_or rs (home (order j)) blank) 0 m)
  renumbered_cntts =
      numbers_bytes (rows new 0 (length rs)) m (λ j. home (order j)) renumbered_numbers
      ∙ flat_alike own_cntt own_cntt _ _ m (λ j l. own (home (order j)) (numbers.within (order j) (o.within j l)))
    where
      own : (i : ℕ) → i < length rs → own_cntt (get_or (rows new 0 (length rs)) i blank) ≡ own_cntt (get_or rs i blank)
      own i l = ap own_cntt (at i l) ∙ ap₂ cntt_bytes (position_channel _ (get_or rs i blank)) (new_cntt i).0
