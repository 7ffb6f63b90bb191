-- Lent memory after a call that accepts: the buffer begins with the bytes that were written, the table with the records that were read.
use Prim.Native.Nat.{ℕ, ◌≤◌}
use mathlib.Core.Path.{◌≡◌, refl, sym, ap, ap₂, ◌∙◌}
use mathlib.Core.List.{List, ◌++◌}
use native.Mathlib.Omega.{arith}
use lib.ListN.{length, take, drop, length-append}
use lib.Seq.{take_at, drop_at}
use Rattle.layout.specs.declared.record.Record.{Record}
use Rattle.layout.specs.declared.answer.Counted.{Counted}
use Rattle.layout.specs.declared.answer.Measured.{Measured}
use Rattle.layout.specs.Answers.{granted, number_of, place_of, value_or, lent_after, counted_all, measured}
use Rattle.layout.specs.Asked.{records_read}
use Rattle.layout.specs.Write.{written}
use Rattle.layout.specs.Promises.{RecordsRead, GroupWritten}
use Rattle.law_rounds.specs.Calls.{accepting}
use Rattle.law_rounds.proofs.Numbered.{accepts_granted, records_numbered, written_numbered}

-- ---- the buffer

module _ (text : List ℕ) (table : List Record) (count : ℕ) (before : List ℕ) (r : Measured) (after : List ℕ) (w : GroupWritten text table count before r after) where
  pub buffer_granted : r.number ≡ 0 → (b : List ℕ) × (written text table count (length before) ≡ granted b)
  unfolding measured
  buffer_granted z =
      accepts_granted (written text table count (length before)) (written_numbered text table count (length before)) (sym (ap (λ (x : Measured). x.number) w.answer) ∙ z)

  module _ (b : List ℕ) (e : written text table count (length before) ≡ granted b) where
    pub buffer_answer : r ≡ record { number = 0; place = 0; length = length b }
    unfolding measured number_of place_of value_or
    buffer_answer = rw e at w.answer

    buffer_after : after ≡ b ++ drop (length b) before
    unfolding lent_after
    buffer_after = rw e at w.buffer

    pub buffer_size : r.length ≡ length b
    buffer_size = ap (λ (x : Measured). x.length) buffer_answer

    pub buffer_bytes : take r.length after ≡ b
    buffer_bytes = ap₂ take buffer_size buffer_after ∙ take_at b (drop (length b) before) (length b) refl

    pub buffer_kept : drop r.length after ≡ drop r.length before
    buffer_kept = ap₂ drop buffer_size buffer_after ∙ drop_at b (drop (length b) before) (length b) refl ∙ ap (λ n. drop n before) (sym buffer_size)

-- ---- the table

module _ (s : List ℕ) (g : ℕ) (before : List Record) (r : Counted) (after : List Record) (p : RecordsRead s g before r after) where
  pub table_granted : r.number ≡ 0 → (rs : List Record) × (records_read s g (length before) ≡ granted rs)
  unfolding counted_all
  table_granted z =
      accepts_granted (records_read s g (length before)) (records_numbered s g (length before)) (sym (ap (λ (x : Counted). x.number) p.answer) ∙ z)

  module _ (rs : List Record) (e : records_read s g (length before) ≡ granted rs) where
    pub table_answer : r ≡ accepting (length rs)
    unfolding counted_all number_of place_of value_or
    table_answer = rw e at p.answer

    pub table_after : after ≡ rs ++ drop (length rs) before
    unfolding lent_after
    table_after = rw e at p.table

    table_count : r.count ≡ length rs
    table_count = ap (λ (x : Counted). x.count) table_answer

    pub table_records : take r.count after ≡ rs
    table_records = ap₂ take table_count table_after ∙ take_at rs (drop (length rs) before) (length rs) refl

    pub table_within : r.count ≤ length after
    table_within = rw (table_count, table_after, length-append) (omega arith)
