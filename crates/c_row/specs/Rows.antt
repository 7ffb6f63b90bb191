-- A channel record as a row of 51 bytes, the same for both editions, and a source channel as a number: what crosses to C and is no answer.
use Rattle.std.specs.Prelude.{ℕ, cond, eqb, None, Some}
use Rattle.layout.specs.Records.{record_of, edition_of, second_in, position_in, laid_out}
use Rattle.layout.specs.declared.edition.Edition.{Edition}
use Rattle.layout.specs.declared.edition.Edition.TheVariants.{First, Second}
use Rattle.layout.specs.declared.record.SourceChannel.{SourceChannel}
use Rattle.layout.specs.Records.{SecondTable}
use Rattle.layout.specs.Records.{Absent, Value}
use Rattle.layout.specs.declared.record.Record.{Record}
use Rattle.c_row.specs.declared.row.Row.{Row}

-- a source channel by its number
abbrev pub channel : ℕ → SourceChannel
channel n = record { 0 = n }

-- the second table of a record: none where the first number is 0, whatever the other is
unfoldable pub second_by : ℕ → ℕ → SecondTable
second_by has cntt = cond (eqb has 0) Absent (Value cntt)

-- a row's edition: 2 is the second, and any other number the first (a caller that knows one edition left it 0 or 1)
unfoldable pub edition_by : ℕ → Edition
edition_by n = cond (eqb n 2) Second First

-- .. and its number
unfoldable pub edition_number : Edition → ℕ
edition_number First = 1
edition_number Second = 2

-- the record that crosses: the bytes that its edition does not use are not looked at, nor is a Cntt of the second edition
abbrev pub recorded : Row → Record
recorded r = record_of (edition_by r.edition) r.bytes (second_by r.has_cntt r.cntt) r.position

-- whether a second table is there
unfoldable pub has_of : SecondTable → ℕ
has_of None = 0
has_of (Some v) = 1

-- .. and its value
unfoldable pub value_of : SecondTable → ℕ
value_of None = 0
value_of (Some v) = v

-- a record as it crosses back: 00 in place of the bytes that its edition does not use
unfoldable pub row_for : Record → Row
row_for r =
    record {
      edition = edition_number (edition_of r);
      bytes = laid_out r;
      has_cntt = has_of (second_in r);
      cntt = value_of (second_in r);
      position = position_in r;
    }
