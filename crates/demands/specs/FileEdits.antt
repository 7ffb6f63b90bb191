-- An edit inside a style file: what the tool writes for an arranger. "The whole file is written .., other sections byte for byte."
use Rattle.std.specs.Prelude.{ℕ, ◌≡◌, true, List}
use Rattle.layout.specs.declared.answer.Answered.{Answered}
use Rattle.layout.specs.declared.answer.Checked.{Checked}
use Rattle.layout.specs.declared.lock.Override.{Override}
use Rattle.layout.specs.declared.record.Record.{Record}
use Rattle.layout.specs.Refusals.{accepted}
use Rattle.layout.specs.Answers.{granted, Span}
use Rattle.layout.specs.Style.{casm_found}
use Rattle.layout.specs.Listing.{body_in}
use Rattle.layout.specs.Asked.{part_found}
use Rattle.layout.specs.Write.{Whole}
use Rattle.layout.specs.Promises.{FileEdited, FilesChecked}
use Rattle.law_rounds.specs.Rounds.{Bytes}
use Rattle.law_refusals.specs.Given.{GivenUnder}
use Rattle.law_refusals.specs.FileEdit.{FileEditAsked}
use Rattle.law_checked.specs.FileEdit.{EditedAlone}

-- every other section and every other group is as it was, only that record's bytes differ, and the new record is read there
abbrev pub FileEditLeavesTheRest : Type 0
FileEditLeavesTheRest =
    (before name : List ℕ) (channel : ℕ) (new : Record) (over : Override) (a : Answered) (after : List ℕ) → Bytes before → Whole new → FileEdited before name channel new over a after → a.number ≡ accepted
    → EditedAlone before name channel new after

-- "whatever our own edit writes must be answered yes" (document 02, §13), of files too
abbrev pub FileEditsAreAnsweredYes : Type 0
FileEditsAreAnsweredYes =
    (before name : List ℕ) (channel : ℕ) (new : Record) (over : Override) (a : Answered) (after : List ℕ) → Bytes before → Whole new → FileEdited before name channel new over a after → a.number ≡ accepted
    → (x : Span) (group : ℕ) → casm_found before ≡ granted x → part_found (body_in before x) name ≡ granted group
    → (r : Checked) → FilesChecked before after group channel r → r.yes ≡ true

-- edit_file: when it refuses ..
abbrev pub FileEditedRefused : Type 0
FileEditedRefused =
    (before name : List ℕ) (channel : ℕ) (new : Record) (over : Override) (a : Answered) (after : List ℕ) → FileEdited before name channel new over a after
    → GivenUnder (FileEditAsked before name channel new over) a.number a.place

-- .. the file is as it was
abbrev pub FileKept : Type 0
FileKept =
    (before name : List ℕ) (channel : ℕ) (new : Record) (over : Override) (a : Answered) (after : List ℕ) → FileEdited before name channel new over a after → (a.number ≡ accepted → ⊥) → after ≡ before
