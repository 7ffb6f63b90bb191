-- Document 02, §1, "Second-table chunks in any order": "Accept them in any order. Since writing must still give back the bytes read, each record must now also carry its Cntt's position, 0 for none; an edit doesn't
-- read it." That accepted bytes are given back whatever the order, and that an allowed group is read back with its positions, stands in Rounds (`ReadThenWritten`, `WrittenThenRead`, `AcceptedExactly`, and at the calls).
use Rattle.std.specs.Prelude.{ℕ, ◌≤◌, ◌≡◌, ◌↔◌, true, List, length, take}
use Rattle.layout.specs.declared.edition.Edition.{Edition}
use Rattle.layout.specs.Group.{Sound}
use Rattle.layout.specs.declared.lock.Override.{Override}
use Rattle.layout.specs.declared.record.Record.{Record}
use Rattle.layout.specs.declared.answer.Measured.{Measured}
use Rattle.layout.specs.Records.{bytes_of, record_of, edition_of, second_in, position_in}
use Rattle.layout.specs.Answers.{granted}
use Rattle.layout.specs.Group.{group_at, Group}
use Rattle.layout.specs.Sdec.{sound_text}
use Rattle.layout.specs.Plays.{playing}
use Rattle.layout.specs.Place.{note_placed}
use Rattle.layout.specs.Edit.{edited}
use Rattle.layout.specs.Screen.{field_set}
use Rattle.layout.specs.Promises.{GroupWritten}
use Rattle.law_rounds.specs.Rounds.{Bytes}
use Rattle.law_rounds.specs.Rearranged.{Rearrangement, SameButPositions, RearrangedRead}
use Rattle.law_refusals.specs.Records.{RecordsBefore, PositionsRight}

-- "accept them in any order": a group that is accepted is accepted with its Cntts in any other order, with the same records but for the positions
abbrev pub CnttsInAnyOrder : Type 0
CnttsInAnyOrder =
    (p : List ℕ) (edition : Edition) (text ctabs cntts : ℕ) (order : ℕ → ℕ) → Bytes p → group_at p ≡ Sound edition text ctabs cntts → Rearrangement cntts order
    → RearrangedRead p edition text ctabs cntts order

-- "a group to be written is refused unless records without a Cntt have 0 and the others 1 to their number, each once": 18 is given exactly where nothing before it is refused and this is not so
abbrev pub PositionsRefusedExactly : Type 0
PositionsRefusedExactly =
    (text : List ℕ) (table : List Record) (count : ℕ) (before : List ℕ) (r : Measured) (after : List ℕ) → GroupWritten text table count before r after
    → (r.number ≡ 18) ↔ ((count ≤ length table) × ((sound_text text ≡ true) × (RecordsBefore table count × (PositionsRight (take count table) → ⊥))))

-- a record with another position; a Ctb2 has none
abbrev pub with_position : ℕ → Record → Record
with_position position r = record_of (edition_of r) (bytes_of r) (second_in r) position

-- "an edit doesn't read it" ..
abbrev pub EditedWhateverThePosition : Type 0
EditedWhateverThePosition = (s : List ℕ) (group channel : ℕ) (new : Record) (over : Override) (position : ℕ) → edited s group channel (with_position position new) over ≡ edited s group channel new over

-- .. nor does placing a note ..
abbrev pub PlacedWhateverThePosition : Type 0
PlacedWhateverThePosition = (r : Record) (root note position : ℕ) → note_placed (with_position position r) root note ≡ note_placed r root note

-- .. nor does who plays; the voice name is bytes 1-8, which a rearrangement leaves as they are (`CnttsInAnyOrder`)
abbrev pub PlaysWhateverThePositions : Type 0
PlaysWhateverThePositions = (g h : Group) (root type : ℕ) → SameButPositions g h → playing g root type ≡ playing h root type

-- the screen keeps it
abbrev pub ScreenKeepsThePosition : Type 0
ScreenKeepsThePosition = (r after : Record) (index value : ℕ) → field_set r index value ≡ granted after → position_in after ≡ position_in r
