-- Document 02, §13, "Checking what other editors return": "Freelancers send sections back saying they changed one channel."
-- What is refused, and of which body, stands here too (`BodiesCheckedRefused`, `FilesCheckedRefused`), since the answer names it; its words stand in the specs of `law_checked`.
use Rattle.std.specs.Prelude.{ℕ, ◌≡◌, ◌↔◌, true, false, List}
use Rattle.layout.specs.declared.answer.Answered.{Answered}
use Rattle.layout.specs.declared.answer.Checked.{Checked}
use Rattle.layout.specs.declared.lock.Override.{Override}
use Rattle.layout.specs.declared.record.Record.{Record}
use Rattle.layout.specs.Refusals.{accepted}
use Rattle.layout.specs.Write.{Whole}
use Rattle.layout.specs.Promises.{RecordEdited, BodiesChecked, FilesChecked}
use Rattle.law_rounds.specs.Rounds.{Bytes}
use Rattle.law_refusals.specs.After.{HasChannel}
use Rattle.law_checked.specs.Alike.{Outside, AlikeOutside, FirstUnlike, BothRead, record_place, record_size}
use Rattle.law_checked.specs.Others.{OthersAsBefore, PlaysAsBefore}
use Rattle.law_checked.specs.Files.{SectionsAsBefore, FileUnlike}
use Rattle.law_checked.specs.Refused.{BodiesRefused, FilesRefused, GivenOf}

-- ---- two bodies

-- "say yes exactly when, both being readable, they are equally long and differ in no byte outside that Ctab's or Ctb2's record"
abbrev pub YesExactly : Type 0
YesExactly =
    (before after : List ℕ) (group channel : ℕ) (r : Checked) → BodiesChecked before after group channel r
    → (r.yes ≡ true) ↔ (BothRead before after group channel × AlikeOutside before after (record_place before group channel) (record_size before group))

-- the answer accepts, and is no at place k
abbrev pub SaidNo : Checked → ℕ → Type 0
SaidNo r k = (r.number ≡ accepted) × ((r.yes ≡ false) × (r.unlike ≡ k))

-- a no carries the first place outside the record at which they have different bytes, or at which the shorter ends; exactly there ..
abbrev pub NoExactly : Type 0
NoExactly =
    (before after : List ℕ) (group channel : ℕ) (r : Checked) → BodiesChecked before after group channel r
    → (k : ℕ) → SaidNo r k ↔ (BothRead before after group channel × FirstUnlike before after (record_place before group channel) (record_size before group) k)

-- .. and that place is never one of the record's own, for the shorter does not end inside the record
abbrev pub NoIsOutside : Type 0
NoIsOutside =
    (before after : List ℕ) (group channel : ℕ) (r : Checked) → BodiesChecked before after group channel r
    → (k : ℕ) → SaidNo r k → Outside (record_place before group channel) (record_size before group) k

-- "whatever our own edit writes must be answered yes"
abbrev pub EditsAreAnsweredYes : Type 0
EditsAreAnsweredYes =
    (before : List ℕ) (group channel : ℕ) (new : Record) (over : Override) (a : Answered) (after : List ℕ) → Bytes before → Whole new → RecordEdited before group channel new over a after → a.number ≡ accepted
    → (r : Checked) → BodiesChecked before after group channel r → r.yes ≡ true

-- ".. an unchanged body too"
abbrev pub UnchangedIsAnsweredYes : Type 0
UnchangedIsAnsweredYes = (body : List ℕ) (group channel : ℕ) → HasChannel body group channel → (r : Checked) → BodiesChecked body body group channel r → r.yes ≡ true

-- what the shop buys with a yes: all other records, all names and all Cntts are as they were, and so is every who-plays answer but for that channel
abbrev pub YesLeavesTheRest : Type 0
YesLeavesTheRest =
    (before after : List ℕ) (group channel : ℕ) (r : Checked) → BodiesChecked before after group channel r → r.yes ≡ true
    → (others : OthersAsBefore before after group channel) × PlaysAsBefore before after group others.index

-- "refusals: the before body's, the after body's, 16, then 15 in the before body; the answer names the body refused"
abbrev pub BodiesCheckedRefused : Type 0
BodiesCheckedRefused =
    (before after : List ℕ) (group channel : ℕ) (r : Checked) → BodiesChecked before after group channel r → GivenOf (BodiesRefused 0 0 before after group channel) r.which r.number r.place

-- "on refusal .. other result fields are 0"
abbrev pub NoVerdictTold : Type 0
NoVerdictTold = (before after : List ℕ) (group channel : ℕ) (r : Checked) → BodiesChecked before after group channel r → (r.number ≡ accepted → ⊥) → (r.yes ≡ false) × (r.unlike ≡ 0)

-- ---- two style files

-- yes exactly when the CASM section stands where it stood and is as long, all that surrounds its body is the same byte for byte, and of the bodies the answer is yes
abbrev pub FilesYesExactly : Type 0
FilesYesExactly = (before after : List ℕ) (group channel : ℕ) (r : Checked) → FilesChecked before after group channel r → (r.yes ≡ true) ↔ SectionsAsBefore before after group channel

-- a no carries the first place of the files, exactly there
abbrev pub FilesNoExactly : Type 0
FilesNoExactly =
    (before after : List ℕ) (group channel : ℕ) (r : Checked) → FilesChecked before after group channel r → (k : ℕ) → SaidNo r k ↔ FileUnlike before after group channel k

-- the before file's finding, the after file's, then as of bodies, each named, with places from the file's start
abbrev pub FilesCheckedRefused : Type 0
FilesCheckedRefused =
    (before after : List ℕ) (group channel : ℕ) (r : Checked) → FilesChecked before after group channel r → GivenOf (FilesRefused before after group channel) r.which r.number r.place

-- "on refusal .. other result fields are 0"
abbrev pub NoFileVerdictTold : Type 0
NoFileVerdictTold = (before after : List ℕ) (group channel : ℕ) (r : Checked) → FilesChecked before after group channel r → (r.number ≡ accepted → ⊥) → (r.yes ≡ false) × (r.unlike ≡ 0)
