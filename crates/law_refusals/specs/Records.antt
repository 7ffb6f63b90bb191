-- When records in memory are refused: placement, writing and the screen; and the salvage list (document 01, "Numbers of refusal": "placement: 16, 9, 17. Writing: 16 .., 8, per record 9 then 10, 14.
-- Screen: 16, then 9"; "salvage: 3"; document 02, §1: 18; §4: 21; §6: 22).
use Rattle.std.specs.Prelude.{ℕ, ◌+◌, ◌*◌, ◌<◌, ◌≤◌, ◌≡◌, true, false, not, ◌&&◌, List, eqb, length, get_or, take}
use Rattle.layout.specs.declared.record.Record.{Record}
use Rattle.layout.specs.Records.{Absent, Value}
use Rattle.layout.specs.Refusals.{over_limit, bad_text, out_of_range, channel_again, no_room, bad_number, root_fixed, bad_positions, other_edition, read_only}
use Rattle.layout.specs.Editions.{size, held}
use Rattle.layout.specs.Lock.{lock_byte, locks}
use Rattle.layout.specs.Ranges.{out_of, rule_at}
use Rattle.layout.specs.Records.{blank, bytes_of, channel_of, edition_of, second_in, position_in, bad_byte}
use Rattle.layout.specs.Sdec.{sound_text}
use Rattle.layout.specs.Body.{body_limit}
use Rattle.layout.specs.Salvage.{salvage}
use Rattle.layout.specs.Plays.{root_count}
use Rattle.layout.specs.Place.{note_count, set_for, table_for}
use Rattle.layout.specs.Write.{cntts_in, first_edition, group_bytes, group_from}
use Rattle.law_refusals.specs.Text.{TextBroken}
use Rattle.law_refusals.specs.Contents.{FirstSuch}

-- byte k is the first of a record in memory that is out of range; "a bad Cntt value counts as byte 21"
abbrev pub FirstBadByte : Record → ℕ → Type 0
FirstBadByte r k = FirstSuch (bad_byte r) (held (edition_of r)) k

-- every byte of a record in memory is in range, and its Cntt value
abbrev pub InRange : Record → Type 0
InRange r = (k : ℕ) → k < held (edition_of r) → bad_byte r k ≡ false

-- ---- placement

pub data PlaceRefused (r : Record) (root note : ℕ) : ℕ → ℕ → Type 0 where
  -- 16: "root .. out of range", at 0
  root_out : root_count ≤ root → PlaceRefused r root note bad_number 0
  -- 16: "note .. out of range", at 0
  note_out : note_count ≤ note → PlaceRefused r root note bad_number 0
  -- 9: "byte out of range, first one"; "in .. a single record it is the byte"
  record_byte : (k : ℕ) → root < root_count → note < note_count → FirstBadByte r k → PlaceRefused r root note out_of_range k
  -- 17: "root fixed, table not bypass", at 0
  root_fixed_given : root < root_count → note < note_count → InRange r → (set_for r.form note).rule ≡ 1
      → (table_for r.form note ≡ 0x00 → ⊥) → (table_for r.form note ≡ 0x80 → ⊥) → PlaceRefused r root note root_fixed 0
  -- 17: "placement under rule 2 always answers 17" (document 02, §4), at 0
  rule_two : root < root_count → note < note_count → InRange r → (set_for r.form note).rule ≡ 2 → PlaceRefused r root note root_fixed 0

-- ---- writing

-- the first n records of a lent table are of one edition and in range, each of a source channel of its own
pub record RecordsBefore (table : List Record) (n : ℕ) : Type 0 where
  pub editions : (i : ℕ) → i < n → edition_of (get_or table 0 blank) ≡ edition_of (get_or table i blank)
  pub inside : (i : ℕ) → i < n → InRange (get_or table i blank)
  pub apart : (i j : ℕ) → i < j → j < n → channel_of (get_or table i blank) ≡ channel_of (get_or table j blank) → ⊥

-- "records without a Cntt have 0 and the others 1 to their number, each once" (document 02, §1)
pub record PositionsRight (rs : List Record) : Type 0 where
  pub none : (i : ℕ) → i < length rs → second_in (get_or rs i blank) ≡ Absent → position_in (get_or rs i blank) ≡ 0
  pub within : (i v : ℕ) → i < length rs → second_in (get_or rs i blank) ≡ Value v → (1 ≤ position_in (get_or rs i blank)) × (position_in (get_or rs i blank) ≤ cntts_in rs)
  pub once : (i j v w : ℕ) → i < j → j < length rs → second_in (get_or rs i blank) ≡ Value v → second_in (get_or rs j blank) ≡ Value w → position_in (get_or rs i blank) ≡ position_in (get_or rs j blank) → ⊥
  pub each : (k : ℕ) → 1 ≤ k → k ≤ cntts_in rs → (i : ℕ) × ((i < length rs) × ((v : ℕ) × ((second_in (get_or rs i blank) ≡ Value v) × (position_in (get_or rs i blank) ≡ k))))

-- a text and the first records of a lent table, into a buffer of so many bytes
pub data WriteRefused (text : List ℕ) (table : List Record) (count room : ℕ) : ℕ → ℕ → Type 0 where
  -- 16: "count out of range": "when the count exceeds the lent table", at 0
  count_over : length table < count → WriteRefused text table count room bad_number 0
  -- 8: "a rule on one Sdec's length, bytes or names broken", "0 in writing"
  text_broken : count ≤ length table → TextBroken text → WriteRefused text table count room bad_text 0
  -- 21: "a written record unlike the first in edition (its byte 0, before its 9)" (document 02, §4)
  table_edition : (i : ℕ) → i < count → count ≤ length table → sound_text text ≡ true → RecordsBefore table i → (first_edition (take count table) ≡ edition_of (get_or table i blank) → ⊥)
      → WriteRefused text table count room other_edition (size (first_edition (take count table)) * i)
  -- 9: "byte out of range, first one"; "in writing, place is 27 times the record's number (from 0) plus the byte"; "places in writing count 47 a record" (document 02, §4)
  table_byte : (i k : ℕ) → i < count → count ≤ length table → sound_text text ≡ true → RecordsBefore table i → first_edition (take count table) ≡ edition_of (get_or table i blank)
      → FirstBadByte (get_or table i blank) k → WriteRefused text table count room out_of_range (size (first_edition (take count table)) * i + k)
  -- 10: "second Ctab .. of a channel"; "10 points at the later record's byte 0"
  table_again : (j i : ℕ) → j < i → i < count → count ≤ length table → sound_text text ≡ true → RecordsBefore table i → first_edition (take count table) ≡ edition_of (get_or table i blank)
      → InRange (get_or table i blank) → channel_of (get_or table j blank) ≡ channel_of (get_or table i blank)
      → WriteRefused text table count room channel_again (size (first_edition (take count table)) * i)
  -- 18: "positions wrong, after each record's 9 and 10 and before 14", at 0
  positions_wrong : count ≤ length table → sound_text text ≡ true → RecordsBefore table count → (PositionsRight (take count table) → ⊥) → WriteRefused text table count room bad_positions 0
  -- 14: "lent room too small for the full answer", at 0
  buffer_short : count ≤ length table → sound_text text ≡ true → RecordsBefore table count → PositionsRight (take count table) → room < length (group_bytes (group_from text table count)) → WriteRefused text table count room no_room 0

-- ---- the screen

pub data FieldRefused (r : Record) (index value : ℕ) : ℕ → ℕ → Type 0 where
  -- 16: "field index .. out of range", at 0
  index_out : held (edition_of r) ≤ index → FieldRefused r index value bad_number 0
  -- 22: of a locked record, but "setting byte index 10 itself is never refused with 22" (document 02, §6), at 10
  field_locked : index < held (edition_of r) → not (eqb index lock_byte) && locks r.locked ≡ true → FieldRefused r index value read_only lock_byte
  -- 9: "for the set value alone", at the byte; "a table judged by the rule the record then has" (document 02, §4)
  value_out : index < held (edition_of r) → not (eqb index lock_byte) && locks r.locked ≡ false → out_of (edition_of r) index (rule_at (bytes_of r) 0 index) value ≡ true → FieldRefused r index value out_of_range index

-- ---- the salvage list, into a lent list of so many numbers, three an entry

pub data SalvageRefused (s : List ℕ) (room : ℕ) : ℕ → ℕ → Type 0 where
  -- 3: "body over its limit", at 0
  list_over : body_limit < length s → SalvageRefused s room over_limit 0
  -- 14: "lent room too small for the full answer", at 0
  list_short : length s ≤ body_limit → room < 3 * length (salvage s) → SalvageRefused s room no_room 0
