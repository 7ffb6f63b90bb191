-- The words of demand 2 at the calls: what a caller has in hand when a call has accepted.
use Rattle.std.specs.Prelude.{ℕ, ◌+◌, ◌≤◌, ◌<◌, ◌≡◌, List, ◌++◌, length, get_or, take, drop, set}
use Rattle.layout.specs.declared.record.Record.{Record}
use Rattle.layout.specs.declared.answer.Counted.{Counted}
use Rattle.layout.specs.declared.answer.Measured.{Measured}
use Rattle.layout.specs.Lock.{lock_byte}
use Rattle.layout.specs.Editions.{size, held}
use Rattle.layout.specs.Records.{bytes_of, blank, edition_of, second_in, position_in, file_bytes}
use Rattle.layout.specs.Answers.{granted}
use Rattle.layout.specs.Group.{group_size}
use Rattle.layout.specs.Body.{group_place}
use Rattle.layout.specs.Asked.{Whereabouts, channel_found}
use Rattle.layout.specs.Write.{group_bytes, Whole, Allowed, group_from}
use Rattle.layout.specs.Promises.{BodyRead, TextShown, RecordsRead}

-- every record has all its bytes, as a record in memory always has
abbrev pub WholeTable : List Record → Type 0
WholeTable rs = (i : ℕ) → i < length rs → Whole (get_or rs i blank)

-- an answer that accepts, with a count
abbrev pub accepting : ℕ → Counted
accepting n = record { number = 0; place = 0; count = n }

-- ---- writing

-- b is a group that may be written, made of a text and of the first records of a lent table, and it has room
pub record MayBeWritten (text : List ℕ) (table : List Record) (count room : ℕ) (b : List ℕ) : Type 0 where
  pub within : count ≤ length table
  pub allowed : Allowed (group_from text table count)
  pub bytes : b ≡ group_bytes (group_from text table count)
  pub fits : length b ≤ room

-- ---- a group read and then written

-- the size of group number g of a body, with its header
abbrev pub size_of_group : List ℕ → ℕ → ℕ
size_of_group s g = group_size (drop (group_place s g) s)

-- its very bytes, where it stands in the body
abbrev pub bytes_of_group : List ℕ → ℕ → List ℕ
bytes_of_group s g = take (size_of_group s g) (drop (group_place s g) s)

-- the buffer begins with the bytes of group number g of a body; "later bytes are unchanged"
pub record WrittenBack (s : List ℕ) (g : ℕ) (before : List ℕ) (r : Measured) (after : List ℕ) : Type 0 where
  pub accepts : r.number ≡ 0
  pub place : r.place ≡ 0
  pub size : r.length ≡ size_of_group s g
  pub bytes : take r.length after ≡ bytes_of_group s g
  pub kept : drop r.length after ≡ drop r.length before

-- ---- a group written and then read

-- a body is read as one group of this text and these records, into any lent table that has room for them; "lent entries past the count are unchanged"
pub record ReadBack (body text : List ℕ) (records : List Record) : Type 0 where
  pub one : (r : Counted) → BodyRead body r → r ≡ accepting 1
  pub shown : (part : List ℕ) → TextShown body 0 part → part ≡ text
  pub filled : (before after : List Record) (r : Counted) → length records ≤ length before → RecordsRead body 0 before r after
      → (r ≡ accepting (length records)) × (after ≡ records ++ drop (length records) before)

-- ---- an edit

-- "only that Ctab's 27 bytes may change": those of the record that is found for the group and the source channel
pub record CtabChanged (before : List ℕ) (group channel : ℕ) (new : Record) (after : List ℕ) : Type 0 where
  pub row : Whereabouts
  pub found : channel_found before group channel ≡ granted row
  pub within : row.at + size (edition_of new) ≤ length before
  pub bytes : after ≡ take row.at before ++ (file_bytes new ++ drop (row.at + size (edition_of new)) before)
  pub size : length after ≡ length before

-- ---- a field

-- "byte index 0-25 and a value, all other fields kept"; of a Ctb2 "the screen's index runs 0-46" (document 02, §4)
pub record FieldChanged (before : Record) (index value : ℕ) (after : Record) : Type 0 where
  pub within : index < held (edition_of before)
  -- of a locked record "setting byte index 10 itself" alone (§6)
  pub free : before.locked ≡ 1 → index ≡ lock_byte
  pub bytes : bytes_of after ≡ set (bytes_of before) index value
  pub edition : edition_of after ≡ edition_of before
  pub second : second_in after ≡ second_in before
  pub position : position_in after ≡ position_in before
  pub whole : Whole after
