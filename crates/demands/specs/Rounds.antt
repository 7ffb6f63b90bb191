-- Demand 2, the round trips: "Reading accepted bytes and writing them gives those bytes; writing an allowed group and reading it gives that group", and so of an edit and of a field.
-- Document 02, §1: whatever the order of the Cntts, and with their positions.
-- Its words (`Bytes`, `GroupRead`, `BodyAllowed`, `EditRead`, `WrittenBack`, `ReadBack` and the others) have a line each in the specs of `law_rounds`.
use Rattle.std.specs.Prelude.{ℕ, ◌≤◌, ◌≡◌, ◌↔◌, length, take, set}
use mathlib.Core.List.{List, flat_map}
use Rattle.layout.specs.declared.edition.Edition.{Edition}
use Rattle.layout.specs.Scan.{Ended}
use Rattle.layout.specs.Group.{Sound}
use Rattle.layout.specs.declared.lock.Override.{Override}
use Rattle.layout.specs.declared.record.Record.{Record}
use Rattle.layout.specs.declared.answer.Answered.{Answered}
use Rattle.layout.specs.declared.answer.Counted.{Counted}
use Rattle.layout.specs.declared.answer.Measured.{Measured}
use Rattle.layout.specs.declared.answer.Changed.{Changed}
use Rattle.layout.specs.Records.{bytes_of, second_in, position_in}
use Rattle.layout.specs.Answers.{granted}
use Rattle.layout.specs.Group.{payload, group_size, group_at, Group, group_of}
use Rattle.layout.specs.Body.{body_run}
use Rattle.layout.specs.Write.{group_bytes, Whole, Allowed, written}
use Rattle.layout.specs.Edit.{edited}
use Rattle.layout.specs.Screen.{field_set}
use Rattle.layout.specs.Promises.{TextShown, RecordsRead, GroupWritten, RecordEdited, FieldSet, FieldSetInPlace}
use Rattle.law_rounds.specs.Rounds.{Bytes, groups_of, GroupRead, BodyAllowed, WrittenAs, EditRead}
use Rattle.law_rounds.specs.Calls.{WholeTable, MayBeWritten, size_of_group, WrittenBack, ReadBack, CtabChanged, FieldChanged}

-- ---- one group

-- "reading accepted bytes and writing them gives those bytes", and what was read may be written
abbrev pub ReadThenWritten : Type 0
ReadThenWritten =
    (p : List ℕ) (edition : Edition) (text ctabs cntts : ℕ) → Bytes p → group_at p ≡ Sound edition text ctabs cntts
    → (group_bytes (group_of edition (payload p) text ctabs cntts) ≡ take (group_size p) p) × Allowed (group_of edition (payload p) text ctabs cntts)

-- "writing an allowed group and reading it gives that group", whatever stands behind it
abbrev pub WrittenThenRead : Type 0
WrittenThenRead = (g : Group) (behind : List ℕ) → Allowed g → GroupRead g behind

-- a group is written exactly where it may be: the table has the records, they and the text are allowed, and there is room
abbrev pub WrittenExactly : Type 0
WrittenExactly =
    (text : List ℕ) (table : List Record) (count room : ℕ) (b : List ℕ) → WholeTable (take count table)
    → (written text table count room ≡ granted b) ↔ MayBeWritten text table count room b

-- ---- a whole body

-- an accepted body is given back by writing its groups, and they make a body
abbrev pub BodyReadThenWritten : Type 0
BodyReadThenWritten = (s : List ℕ) (n : ℕ) → Bytes s → body_run s ≡ Ended n → (flat_map group_bytes (groups_of s n) ≡ s) × BodyAllowed (groups_of s n)

-- groups that make a body are accepted when written, and read back
abbrev pub BodyWrittenThenRead : Type 0
BodyWrittenThenRead =
    (gs : List Group) → BodyAllowed gs → (body_run (flat_map group_bytes gs) ≡ Ended (length gs)) × (groups_of (flat_map group_bytes gs) (length gs) ≡ gs)

-- bytes are accepted exactly where they are those of groups that make a body
abbrev pub AcceptedExactly : Type 0
AcceptedExactly = (s : List ℕ) (n : ℕ) → Bytes s → (body_run s ≡ Ended n) ↔ WrittenAs s n

-- ---- an edit and a field

-- "editing replaces the record of a given group and source channel inside a body": it is read so, and its Cntt is kept
abbrev pub EditReadsBack : Type 0
EditReadsBack =
    (s after : List ℕ) (group channel : ℕ) (new : Record) (over : Override) → Bytes s → Whole new → edited s group channel new over ≡ granted after → EditRead s after group channel new

-- "sets one field byte of it .. all other fields kept"
abbrev pub FieldAlone : Type 0
FieldAlone =
    (r after : Record) (index value : ℕ) → field_set r index value ≡ granted after → (bytes_of after ≡ set (bytes_of r) index value) × ((second_in after ≡ second_in r) × (position_in after ≡ position_in r))

-- ---- at the calls

-- a caller who reads a group's records and its text, and writes them into a buffer that has room for the group, has the group's very bytes in the buffer
abbrev pub ReadThenWrittenAtTheCalls : Type 0
ReadThenWrittenAtTheCalls =
    (s : List ℕ) (group : ℕ) (lent filled : List Record) (r : Counted) → Bytes s → RecordsRead s group lent r filled
    → (text : List ℕ) → TextShown s group text
    → (before after : List ℕ) (m : Measured) → GroupWritten text filled r.count before m after → size_of_group s group ≤ length before
    → r.number ≡ 0 → WrittenBack s group before m after

-- a caller who writes a group and reads what was written as a body has that group: its text and its records
abbrev pub WrittenThenReadAtTheCalls : Type 0
WrittenThenReadAtTheCalls =
    (text : List ℕ) (table : List Record) (count : ℕ) (before after : List ℕ) (m : Measured) → WholeTable (take count table) → GroupWritten text table count before m after
    → m.number ≡ 0 → ReadBack (take m.length after) text (take count table)

-- an edit that accepts is read back, and "only that Ctab's 27 bytes may change"
abbrev pub EditReadsBackAtTheCall : Type 0
EditReadsBackAtTheCall =
    (before : List ℕ) (group channel : ℕ) (new : Record) (over : Override) (a : Answered) (after : List ℕ) → Bytes before → Whole new → RecordEdited before group channel new over a after
    → a.number ≡ 0 → EditRead before after group channel new × CtabChanged before group channel new after

-- a field set by value: where it accepts that byte alone is new, where it refuses the record is as it was ..
abbrev pub FieldAloneAtTheCall : Type 0
FieldAloneAtTheCall =
    (r : Record) (index value : ℕ) (c : Changed) → FieldSet r index value c
    → (c.number ≡ 0 → FieldChanged r index value c.held) × ((c.number ≡ 0 → ⊥) → c.held ≡ r)

-- .. and in place
abbrev pub FieldAloneInPlace : Type 0
FieldAloneInPlace =
    (before : Record) (index value : ℕ) (a : Answered) (after : Record) → FieldSetInPlace before index value a after
    → (a.number ≡ 0 → FieldChanged before index value after) × ((a.number ≡ 0 → ⊥) → after ≡ before)
