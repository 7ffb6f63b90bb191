-- What a tool shows of a file: its sections one by one, the refusal of a damaged entry with its place, and what stands at a place of a body.
use Rattle.std.specs.Prelude.{ℕ, ◌+◌, ◌-◌, ◌<◌, ◌≤◌, ◌≡◌, false, List, length}
use Rattle.layout.specs.declared.answer.Measured.{Measured}
use Rattle.layout.specs.declared.answer.Sited.{Sited}
use Rattle.layout.specs.Scan.{Ended}
use Rattle.layout.specs.Lists.{All}
use Rattle.layout.specs.Refusals.{accepted}
use Rattle.layout.specs.Bytes.{word}
use Rattle.layout.specs.Answers.{granted, number_of}
use Rattle.layout.specs.Editions.{size}
use Rattle.layout.specs.Body.{body_limit, body_run}
use Rattle.layout.specs.Asked.{standing, row_of}
use Rattle.layout.specs.Style.{no_style, section_place, sections_run, section_read}
use Rattle.layout.specs.Salvage.{Entry, salvage, entry_judged}
use Rattle.layout.specs.Chunks.{site_of}
use Rattle.layout.specs.Promises.{SectionRead, EntryJudged, PlaceFound}
use Rattle.law_salvage.specs.Salvage.{entry_bytes}
use Rattle.law_refusals.specs.Given.{GivenUnder}
use Rattle.law_refusals.specs.Shown.{SectionAsked, EntryAsked, PlaceAsked}

-- ---- sections

-- every section of a file that is walked to its end is read where it stands
abbrev pub SectionsAreRead : Type 0
SectionsAreRead =
    (file : List ℕ) (n k : ℕ) → sections_run file ≡ Ended n → no_style file ≡ false → k < n → section_read file (section_place file k) ≡ granted (word file (section_place file k + 4))

-- read_section
abbrev pub SectionReadRefused : Type 0
SectionReadRefused = (file : List ℕ) (tag : ℕ) (r : Measured) → SectionRead file tag r → GivenUnder (SectionAsked file tag) r.number r.place

abbrev pub NoSectionTold : Type 0
NoSectionTold = (file : List ℕ) (tag : ℕ) (r : Measured) → SectionRead file tag r → (r.number ≡ accepted → ⊥) → r.length ≡ 0

-- ---- entries

-- an entry of a salvage list, judged by its bytes alone, has its kind as number ..
abbrev pub EntriesAreJudged : Type 0
EntriesAreJudged = (body : List ℕ) → length body ≤ body_limit → All (λ (e : Entry). number_of (entry_judged (entry_bytes body e)) ≡ e.kind) (salvage body)

-- .. and where that is 0, its own size
abbrev pub GroupsAreJudged : Type 0
GroupsAreJudged = (body : List ℕ) → length body ≤ body_limit → All (λ (e : Entry). e.kind ≡ accepted → entry_judged (entry_bytes body e) ≡ granted e.size) (salvage body)

-- judge_entry
abbrev pub EntryJudgedRefused : Type 0
EntryJudgedRefused = (entry : List ℕ) (r : Measured) → EntryJudged entry r → GivenUnder (EntryAsked entry) r.number r.place

abbrev pub NoSizeTold : Type 0
NoSizeTold = (entry : List ℕ) (r : Measured) → EntryJudged entry r → (r.number ≡ accepted → ⊥) → r.length ≡ 0

-- ---- places

-- in a body that is read, byte b of record number i of group number g is told as such: chunk number i + 2 of its group, behind the group's header and its Sdec
abbrev pub RecordsAreSited : Type 0
RecordsAreSited =
    (body : List ℕ) (n g i b : ℕ) → body_run body ≡ Ended n → g < n → i < (standing body g).records → b < size (standing body g).edition
    → site_of body ((row_of (standing body g) i).at + b) ≡ granted (record { group = g; child = i + 2; chunk = (row_of (standing body g) i).at - 8 })

-- find_place
abbrev pub PlaceFoundRefused : Type 0
PlaceFoundRefused = (body : List ℕ) (place : ℕ) (r : Sited) → PlaceFound body place r → GivenUnder (PlaceAsked body place) r.number r.place

abbrev pub NoSiteTold : Type 0
NoSiteTold = (body : List ℕ) (place : ℕ) (r : Sited) → PlaceFound body place r → (r.number ≡ accepted → ⊥) → (r.group ≡ 0) × ((r.child ≡ 0) × (r.chunk ≡ 0))
