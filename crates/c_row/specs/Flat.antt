-- Channel records as a flat table: 51 bytes each, the edition, 47 bytes of which the first edition uses 26, whether there is a Cntt (0 for none), the Cntt's value and its position.
use Rattle.std.specs.Prelude.{ℕ, ◌+◌, ◌*◌, ◌/◌, ◌≡◌, length, get_or, take, drop}
use mathlib.Core.List.{List, [], ◌∷◌, ◌++◌, flat_map}
use Rattle.layout.specs.Lists.{rows}
use Rattle.layout.specs.Answers.{retold, lent_after, counted_all}
use Rattle.layout.specs.Asked.{records_read}
use Rattle.layout.specs.declared.edition.Edition.TheVariants.{Second}
use Rattle.layout.specs.Editions.{held}
use Rattle.layout.specs.Records.{record_of, edition_of, second_in, position_in, laid_out}
use Rattle.layout.specs.declared.record.Record.{Record}
use Rattle.layout.specs.declared.answer.Counted.{Counted}
use Rattle.c_row.specs.Rows.{second_by, has_of, value_of, edition_by, edition_number}

-- a row: the edition, as many bytes as a record of either edition has, and three for the Cntt
abbrev pub row_size : ℕ
row_size = 1 + held Second + 3

-- how many records a table of so many bytes lends: what is left over is no record
abbrev pub lent_rows : ℕ → ℕ
lent_rows size = size / row_size

-- the record that stands at the start
unfoldable pub record_in : List ℕ → Record
record_in p = record_of (edition_by (get_or p 0 0)) (drop 1 p) (second_by (get_or p 48 0) (get_or p 49 0)) (get_or p 50 0)

-- record number i
unfoldable pub flat_record : List ℕ → ℕ → Record
flat_record flat i = record_in (take row_size (drop (row_size * i) flat))

-- the records that are lent
abbrev pub table_of : List ℕ → List Record
table_of flat = rows (flat_record flat) 0 (lent_rows (length flat))

-- a record as a row
unfoldable pub row_bytes : Record → List ℕ
row_bytes r = edition_number (edition_of r) ∷ (laid_out r ++ (has_of (second_in r) ∷ value_of (second_in r) ∷ position_in r ∷ []))

-- a group's records in a lent flat table: filled up to the count, later bytes kept
pub record RowsRead (body : List ℕ) (group : ℕ) (before : List ℕ) (r : Counted) (after : List ℕ) : Type 0 where
  pub answer : r ≡ counted_all (records_read body group (lent_rows (length before)))
  pub table : after ≡ lent_after (retold (flat_map row_bytes) (records_read body group (lent_rows (length before)))) before
