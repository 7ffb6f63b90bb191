-- The records of a flat table taken out one after the other: what they come to so far, and what is written so far.
use Prim.Native.Nat.{ℕ, ◌+◌, ◌-◌, ◌*◌, ◌≤◌, ◌<◌}
use mathlib.Core.Path.{◌≡◌, sym, ap, ap₂, subst, ◌∙◌}
use mathlib.Core.List.{List, ◌++◌}
use native.Mathlib.Omega.{arith}
use native.Mathlib.Numerals.{add-one}
use lib.ListN.{length, get_or, take, drop, length-take}
use Rattle.std.specs.Prelude.{Ok, Err}
use Rattle.layout.specs.declared.turn.Refusal.{Refusal}
use Rattle.layout.specs.Edit.{replaced}
use Rattle.layout.specs.Bytes.{chunk}
use Rattle.layout.specs.Editions.{tag_of, size, held, closing}
use Rattle.layout.specs.Group.{ctab_place}
use Rattle.layout.specs.Records.{blank, bytes_of, edition_of, record_of}
use Rattle.layout.specs.Write.{ctab_bytes}
use Rattle.layout.specs.declared.edition.Edition.{Edition}
use Rattle.layout.specs.declared.edition.Edition.TheVariants.{Second}
use Rattle.layout.specs.declared.record.Record.{Record}
use Rattle.layout.specs.Records.{SecondTable}
use Rattle.layout.proofs.Ctabs.{place_before}
use Rattle.layout.proofs.Lists.{rows_length, get_d_rows}
use Rattle.layout.proofs.Records.{bytes_length}
use Rattle.write_plan.specs.declared.Checked.{Checked}
use Rattle.write_plan.specs.declared.Taken.{Taken}
use Rattle.write_plan.specs.Checking.{Looks, Plans, begun, records_in, records_never, Looking as Looked, looked, laid_after, OneEdition, taken, taken_at, planned, plan_of}
use Rattle.write_plan.proofs.Length.{looking, records_within}
use Rattle.write_plan.proofs.Looking.{plan_stays}
use Rattle.layout.proofs.BytesBack.{edition_made}
use Rattle.write_chunks.proofs.Putting.{Putting, ctabs, ctabs_next}
use Rattle.write_chunks.proofs.Stored.{ctab_put}
use Rattle.c_row.specs.Flat.{row_size, lent_rows, record_in, flat_record, table_of}
use Rattle.c_row.specs.Rows.{edition_by, second_by}
use Rattle.c_row.proofs.Parts.{row_record, row_taken}

pub table_length : (flat : List ℕ) → length (table_of flat) ≡ lent_rows (length flat)
table_length flat = rows_length (flat_record flat) 0 (lent_rows (length flat))

record_is : (flat : List ℕ) (i : ℕ) (r : Record) → i < lent_rows (length flat) → r ≡ flat_record flat i → r ≡ get_or (table_of flat) i blank
record_is flat i r h e = e ∙ sym (get_d_rows (flat_record flat) blank (lent_rows (length flat)) i h)

-- row number i is what is lent
pub row_there : (flat : List ℕ) (i : ℕ) → take (51 * i + 51 - 51 * i) (drop (51 * i) flat) ≡ take 51 (drop (51 * i) flat)
row_there flat i = let z : 51 * i + 51 - 51 * i ≡ 51 = omega arith in rw z

-- .. and record number i stands in it
stands : (flat : List ℕ) (i : ℕ) (row : List ℕ) → row ≡ take 51 (drop (51 * i) flat) → record_in row ≡ flat_record flat i
unfolding flat_record
stands flat i row e = ap record_in e

-- a row looked at as its edition, the bytes behind it and its last three
pub row_looked : (x : Looks) (i : ℕ) (row bytes : List ℕ) (ed : Edition) (second : SecondTable) (y : Looks) (before after : List ℕ) → bytes ≡ drop 1 row → ed ≡ edition_by (get_or row 0 0) → second ≡ second_by (get_or row 48 0) (get_or row 49 0)
    → (y ≡ looked before x i (record_of ed bytes second (get_or row 50 0))) × (after ≡ laid_after before x i (record_of ed bytes second (get_or row 50 0)))
    → (y ≡ looked before x i (record_in row)) × (after ≡ laid_after before x i (record_in row))
row_looked x i row bytes ed second y before after b is e q =
    let d = row_record row ed is bytes second b e in
    (q.0 ∙ ap (λ (r : Record). looked before x i r) d, q.1 ∙ ap (λ (r : Record). laid_after before x i r) d)

-- the edition of the record that a row stands for
edition_in_lem : (row : List ℕ) → edition_of (record_in row) ≡ edition_by (get_or row 0 0)
unfolding record_in
edition_in_lem row = edition_made (drop 1 row) (second_by (get_or row 48 0) (get_or row 49 0)) (get_or row 50 0) (edition_by (get_or row 0 0))

-- its bytes, of all that are taken out of the row
module _ (row b old : List ℕ) (e : Edition) (n : ℕ) (long : length row ≡ row_size) (is : e ≡ edition_of (record_in row)) (many : n ≡ held e) (room : length old ≡ held Second)
    (q : b ≡ take (held Second) (drop 1 row) ++ drop (length (take (held Second) (drop 1 row))) old) where
  pub taken_are : take n b ≡ bytes_of (record_in row)
  taken_are = ap (λ (k : ℕ). take k b) many ∙ row_taken row e (is ∙ edition_in_lem row) b old long room q

  pub taken_length : length (take n b) ≡ held e
  taken_length = ap length taken_are ∙ (bytes_length (record_in row) ∙ ap held (sym is))

  pub taken_cut : n ≡ length (take n b)
  taken_cut = many ∙ sym taken_length

  pub taken_within : n ≤ length b
  taken_within = omega (arith, taken_cut, length-take n b)

  -- .. and its Ctab, which is put of them
  pub taken_put : (out last : List ℕ) (at i : ℕ) → last ≡ replaced out (ctab_place e at i) (chunk (tag_of e) (take n b ++ closing e)) → last ≡ replaced out (ctab_place e at i) (ctab_bytes (record_in row))
  taken_put out last at i p = ctab_put (record_in row) e (take n b) out last at i is taken_are p ∙ ap (λ (x : Edition). replaced out (ctab_place x at i) (ctab_bytes (record_in row))) (sym is)

-- ---- what the first i records come to

module _ (text flat : List ℕ) (count : ℕ) where
  abbrev start : Taken
  start = begun text (length (table_of flat)) count

  -- .. and how many are to be looked at
  pub record Looking (n i : ℕ) (x : Looks) (cntts : List ℕ) : Type 0 where
    pub whole : n ≡ records_in start.checked
    pub some : i ≤ n
    pub so : record { checked = x; cntts = cntts } ≡ taken_at start (table_of flat) i

  module _ (lent : ℕ) (t : Taken) (e : lent ≡ lent_rows (length flat)) (h : t ≡ begun text lent count) where
    started : t ≡ start
    started = h ∙ ap (λ (k : ℕ). begun text k count) (e ∙ sym (table_length flat))

    pub looking_start : (x : Checked) → t.checked ≡ Ok x → Looking x.records 0 (Ok x) t.cntts
    unfolding taken_at records_in
    looking_start x is =
        let z = sym is ∙ ap (λ (y : Taken). y.checked) started in
        record { whole = ap records_in z; some = omega arith; so = ap₂ {C = Taken} (λ (a : Looks) (b : List ℕ). record { checked = a; cntts = b }) z (ap (λ (y : Taken). y.cntts) started) }

    -- before the first record
    pub start_refused : (room : ℕ) (why : Refusal) → t.checked ≡ Err why → plan_of text (table_of flat) count room ≡ Err why
    unfolding taken_at
    start_refused room why is = plan_stays text (table_of flat) count room 0 why (omega arith) (sym (ap (λ (y : Taken). y.checked) started) ∙ is)

  module _ (n i : ℕ) (x : Looks) (cntts : List ℕ) (l : Looking n i x cntts) where
    pub looking_lent : n ≤ lent_rows (length flat)
    looking_lent = omega (arith, l.whole, records_within text (length (table_of flat)) count, table_length flat)

    pub looking_on : i < records_never → Looked x i
    looking_on h = subst (λ (t : Taken). Looked t.checked i) (sym l.so) (looking text (length (table_of flat)) count (table_of flat) i h)

    pub looking_next : (row : List ℕ) (y : Looks) (after : List ℕ) → i < n → row ≡ take 51 (drop (51 * i) flat)
        → (y ≡ looked cntts x i (record_in row)) × (after ≡ laid_after cntts x i (record_in row)) → Looking n (i + 1) y after
    unfolding taken_at
    looking_next row y after h e q =
        let d = record_is flat i (record_in row) (omega (arith, looking_lent)) (stands flat i row e) in
        let t : record { checked = y; cntts = after } ≡ taken (record { checked = x; cntts = cntts }) i (record_in row) = ap₂ {C = Taken} (λ (a : Looks) (b : List ℕ). record { checked = a; cntts = b }) q.0 q.1 in
        record { whole = l.whole; some = omega arith; so = rw (add-one i) (t ∙ ap₂ (λ (a : Taken) (b : Record). taken a i b) l.so d) }

    -- a refusal is the plan's, however many records follow
    pub looking_refused : (room : ℕ) (why : Refusal) → x ≡ Err why → plan_of text (table_of flat) count room ≡ Err why
    looking_refused room why is = plan_stays text (table_of flat) count room i why (omega (arith, l.some, l.whole)) (sym (ap (λ (a : Taken). a.checked) l.so) ∙ is)

    pub looking_end : (room : ℕ) (p : Plans) → n ≤ i → p ≡ planned (record { checked = x; cntts = cntts }) room → p ≡ plan_of text (table_of flat) count room
    unfolding plan_of
    looking_end room p h q =
        let z : i ≡ records_in start.checked = omega (arith, l.some, l.whole) in
        q ∙ ap (λ (a : Taken). planned a room) (l.so ∙ ap (taken_at start (table_of flat)) z)

-- ---- the Ctabs of the first i records, which are of one edition

module _ (flat : List ℕ) (n : ℕ) (e : Edition) (old : List ℕ) (at : ℕ) (lent : n ≤ lent_rows (length flat)) (same : OneEdition e (table_of flat) n) (room : ctab_place e at n ≤ length old) where
  module _ (now : List ℕ) (i : ℕ) (p : Putting (ctabs (table_of flat)) old at n now i) (h : i < n) (row : List ℕ) (is : row ≡ take 51 (drop (51 * i) flat)) where
    there : record_in row ≡ get_or (table_of flat) i blank
    there = record_is flat i (record_in row) (omega (arith, lent)) (stands flat i row is)

    -- row number i is of that edition, and there is room for its Ctab
    pub taking_on : (e ≡ edition_of (record_in row)) × (ctab_place e at i + (8 + size e) ≤ length now)
    taking_on = (same i h ∙ sym (ap (λ (r : Record). edition_of r) there), omega (arith, place_before e at i n h, room, p.long))

    pub taking_next : (after : List ℕ) → after ≡ replaced now (ctab_place e at i) (ctab_bytes (record_in row)) → Putting (ctabs (table_of flat)) old at n after (i + 1)
    taking_next after s =
        ctabs_next (table_of flat) e old at n (omega (arith, table_length flat, lent)) same room now i p h after (s ∙ ap (λ (r : Record). replaced now (ctab_place e at i) (ctab_bytes r)) there)
