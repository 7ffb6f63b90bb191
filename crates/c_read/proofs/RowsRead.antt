-- A plan for reading a group's records carried out into a flat table: its records are laid one behind the other.
use Prim.Native.Nat.{ℕ, ◌+◌, ◌-◌, ◌*◌, ◌≤◌, ◌<◌}
use native.Mathlib.Omega.{arith}
use mathlib.Core.Path.{◌≡◌, refl, sym, ap, ◌∙◌}
use Rattle.std.specs.Prelude.{Result, Ok, Err}
use Rattle.layout.specs.declared.turn.Refusal.{Refusal}
use mathlib.Core.List.{List, [], ◌++◌, flat_map}
use lib.ListN.{length, take, drop}
use lib.Seq.{take_all}
use borrow.Rule.Slice.PartMut.{mid_of, put_mid}
use Rattle.layout.specs.Lists.{rows}
use Rattle.layout.specs.Answers.{Answer, refused, granted, value_or, retold, lent_after, counted_all}
use Rattle.layout.specs.Records.{blank}
use Rattle.layout.specs.Asked.{records_read}
use Rattle.layout.specs.declared.record.Record.{Record}
use Rattle.layout.specs.declared.answer.Counted.{Counted}
use Rattle.layout.proofs.Lists.{rows_length, get_d_rows}
use Rattle.read_table.specs.declared.Reading.{Reading}
use Rattle.read_table.specs.Reading.{told_of, planned_record, ReadingGranted, ReadingPlanned}
use Rattle.read_table.proofs.Plans.{told_answer}
use Rattle.c_row.specs.Flat.{row_size, lent_rows, row_bytes, RowsRead}
use Rattle.c_row.proofs.Flats.{rows_lent}
use Rattle.c_read.proofs.Laid.{rows_long, laid, laid_none, laid_length, laid_next}

-- old after the first i records of n were laid at its start
abbrev pub laid_from : (ℕ → Record) → ℕ → ℕ → List ℕ → List ℕ
laid_from f n i old = laid (rows f 0 n) i old

module _ (f : ℕ → Record) (n i : ℕ) (old out : List ℕ) (l : i < n) (h : row_size * n ≤ length old) (q : out ≡ laid_from f n i old) where
  pub from_next : (r : Record) (ys : List ℕ) → r ≡ f i → ys ≡ row_bytes r ++ drop row_size (mid_of (row_size * i) (length out - row_size * i) out) → put_mid (row_size * i) (length out - row_size * i) out ys ≡ laid_from f n (i + 1) old
  from_next r ys e w =
      laid_next (rows f 0 n) i blank old out ys (omega (arith, l, rows_length f 0 n)) (omega arith) q
      (w ∙ ap (λ (x : Record). row_bytes x ++ drop row_size (mid_of (row_size * i) (length out - row_size * i) out)) (e ∙ sym (get_d_rows f blank n i l)))

  pub from_length : (ys : List ℕ) → ys ≡ laid_from f n (i + 1) old → length ys ≡ length old
  from_length ys e = laid_length (rows f 0 n) (i + 1) old ys (omega (arith, l, rows_length f 0 n)) (omega arith) e

-- all of them laid are what an answer with these records leaves
lent : (f : ℕ → Record) (n : ℕ) (before : List ℕ) (a : Answer (List Record)) → value_or [] a ≡ rows f 0 n → laid_from f n n before ≡ lent_after (retold (flat_map row_bytes) a) before
unfolding value_or lent_after retold
lent f n before (refused number place) e =
    let z : 0 ≡ n = ap length e ∙ rows_length f 0 n in
    rw (← z) (sym (laid_none (rows f 0 0) before))
lent f n before (granted xs) e =
    let z : length (rows f 0 n) ≡ n = rows_length f 0 n in
    let all : take n (rows f 0 n) ≡ rows f 0 n = take_all n (rows f 0 n) (omega (arith, z)) in
    let long : row_size * n ≡ length (flat_map row_bytes (rows f 0 n)) = omega (arith, rows_long (rows f 0 n), z) in
    rw (e, all, long)

module _ (body before : List ℕ) (group room : ℕ) (e : room ≡ lent_rows (length before)) where
  module _ (p : Reading) (h : ReadingGranted body group room p) where
    pub count_lent : row_size * p.count ≤ length before
    count_lent = omega (arith, h.fits, rows_lent room (length before) e)

    pub rows_read : (r : Counted) → r ≡ told_of (Ok p) → (after : List ℕ) → after ≡ laid_from (planned_record body p) p.count p.count before → RowsRead body group before r after
    unfolding value_or
    rows_read r t after q =
        let is : value_or [] (records_read body group room) ≡ rows (planned_record body p) 0 p.count = ap (value_or []) h.records in
        record {
          answer = told_answer body group room (Ok p) r h t ∙ ap (λ (k : ℕ). counted_all (records_read body group k)) e;
          table =
              q
              ∙ (lent (planned_record body p) p.count before (records_read body group room) is
              ∙ ap (λ (k : ℕ). lent_after (retold (flat_map row_bytes) (records_read body group k)) before) e);
        }

  -- .. and where the plan refuses nothing is laid
  pub none_read : (plan : Result Reading Refusal) → ReadingPlanned body group room plan → ((p : Reading) → plan ≡ Ok p → ⊥) → (r : Counted) → r ≡ told_of plan → RowsRead body group before r before
  unfolding lent_after retold
  none_read (Ok p) h other r t = absurd (other p refl)
  none_read (Err why) h other r t =
      record {
        answer = told_answer body group room (Err why) r h t ∙ ap (λ (k : ℕ). counted_all (records_read body group k)) e;
        table =
            sym (ap (λ a. lent_after (retold (flat_map row_bytes) a) before) h)
            ∙ ap (λ (k : ℕ). lent_after (retold (flat_map row_bytes) (records_read body group k)) before) e;
      }
