-- Document 02, §6, "Read only means read only": "Two customers overwrote locked rhythm channels. From now an edit of a record that has byte 10 = 01 in the body is refused unless the caller asks to override."
-- When an edit and a press are refused, 22 among the numbers, stands in Refusals; that a refused one changes nothing in LentMemory.
use Rattle.std.specs.Prelude.{ℕ, ◌+◌, ◌<◌, ◌≡◌, ◌↔◌, List, get_or}
use Rattle.layout.specs.declared.answer.Answered.{Answered}
use Rattle.layout.specs.declared.answer.Changed.{Changed}
use Rattle.layout.specs.declared.lock.Override.TheVariants.{NotAsked, Asked}
use Rattle.layout.specs.declared.record.Record.{Record}
use Rattle.layout.specs.Scan.{Ended}
use Rattle.layout.specs.Answers.{refused}
use Rattle.layout.specs.Refusals.{accepted, read_only}
use Rattle.layout.specs.Editions.{held}
use Rattle.layout.specs.Lock.{lock_byte}
use Rattle.layout.specs.Records.{blank, bytes_of, edition_of}
use Rattle.layout.specs.Body.{body_run, group_no}
use Rattle.layout.specs.Asked.{standing, row_of}
use Rattle.layout.specs.Edit.{edited}
use Rattle.layout.specs.Screen.{field_set}
use Rattle.layout.specs.Write.{Whole}
use Rattle.layout.specs.Promises.{RecordEdited, FieldSet, FieldSetInPlace}
use Rattle.law_rounds.specs.Rounds.{Bytes}
use Rattle.law_refusals.specs.After.{HasChannel, lock_in}
use Rattle.law_refusals.specs.Before.{edited_before, field_set_before, GoesOn}

-- "unless the caller asks to override": with override the edit is the edit of before, whatever the input
abbrev pub OverrideIsAsBefore : Type 0
OverrideIsAsBefore = (s : List ℕ) (group channel : ℕ) (new : Record) → edited s group channel new Asked ≡ edited_before s group channel new

-- the body has that record, it is locked there, and the edit of before would have been accepted or refused with 9
abbrev pub Overwrites : List ℕ → ℕ → ℕ → Record → Type 0
Overwrites s group channel new = HasChannel s group channel × ((lock_in s group channel ≡ 1) × GoesOn (edited_before s group channel new))

-- "22, read only, place 10, after an edit's 21 and before 9": without override, exactly there ..
abbrev pub LockedIsRefused : Type 0
LockedIsRefused = (s : List ℕ) (group channel : ℕ) (new : Record) → (edited s group channel new NotAsked ≡ refused read_only lock_byte) ↔ Overwrites s group channel new

-- .. and else as before
abbrev pub ElseEditedAsBefore : Type 0
ElseEditedAsBefore = (s : List ℕ) (group channel : ℕ) (new : Record) → (Overwrites s group channel new → ⊥) → edited s group channel new NotAsked ≡ edited_before s group channel new

-- what a customer wants: no accepted edit without override changes a record, of any group, whose byte 10 is 01 in the body
abbrev pub LockedRecordsStay : Type 0
LockedRecordsStay =
    (before : List ℕ) (group channel : ℕ) (new : Record) (a : Answered) (after : List ℕ) → Bytes before → Whole new → RecordEdited before group channel new NotAsked a after → a.number ≡ accepted
    → (n : ℕ) → body_run before ≡ Ended n → (h i : ℕ) → h < n → get_or before ((row_of (standing before h) i).at + lock_byte) 0 ≡ 1
    → get_or (group_no after h).records i blank ≡ get_or (group_no before h).records i blank

-- ---- the screen, which never overrides

-- an index of the record's that is not 10, of a record whose byte 10 is 01
abbrev pub PressedLocked : Record → ℕ → Type 0
PressedLocked r index = (index < held (edition_of r)) × ((index ≡ lock_byte → ⊥) × (r.locked ≡ 1))

-- "on the screen after 16 and before 9", "except that setting byte index 10 itself is never refused with 22": exactly there ..
abbrev pub LockedPressIsRefused : Type 0
LockedPressIsRefused = (r : Record) (index value : ℕ) → (field_set r index value ≡ refused read_only lock_byte) ↔ PressedLocked r index

-- .. and else as before
abbrev pub ElsePressedAsBefore : Type 0
ElsePressedAsBefore = (r : Record) (index value : ℕ) → (PressedLocked r index → ⊥) → field_set r index value ≡ field_set_before r index value

-- no accepted press changes any byte but byte 10 of a locked record, by value ..
abbrev pub LockedBytesStay : Type 0
LockedBytesStay =
    (old : Record) (index value : ℕ) (c : Changed) → FieldSet old index value c → c.number ≡ accepted → old.locked ≡ 1
    → (k : ℕ) → (k ≡ lock_byte → ⊥) → get_or (bytes_of c.held) k 0 ≡ get_or (bytes_of old) k 0

-- .. and in place
abbrev pub LockedBytesStayInPlace : Type 0
LockedBytesStayInPlace =
    (before : Record) (index value : ℕ) (a : Answered) (after : Record) → FieldSetInPlace before index value a after → a.number ≡ accepted → before.locked ≡ 1
    → (k : ℕ) → (k ≡ lock_byte → ⊥) → get_or (bytes_of after) k 0 ≡ get_or (bytes_of before) k 0
