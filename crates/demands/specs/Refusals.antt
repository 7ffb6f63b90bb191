-- Demand 1: "Each refusal carries its number and its place from document 01, is given only under the stated condition, and changes no byte of lent memory." Lent memory stands in LentMemory.
-- `GivenUnder` says more than "only": a number and place are given wherever their condition holds, so those of two refusals never hold at once. The conditions stand in the specs of `law_refusals`:
-- a case for each row of document 01's table, over positions in the lent bytes.
-- "Every call takes every input and ends. Callers need check nothing first" stands in Calls.
use Rattle.std.specs.Prelude.{ℕ, ◌≡◌, List, length}
use Rattle.layout.specs.declared.lock.Override.{Override}
use Rattle.layout.specs.declared.record.Record.{Record}
use Rattle.layout.specs.declared.answer.Answered.{Answered}
use Rattle.layout.specs.declared.answer.Counted.{Counted}
use Rattle.layout.specs.declared.answer.Measured.{Measured}
use Rattle.layout.specs.declared.answer.Located.{Located}
use Rattle.layout.specs.declared.answer.Spanned.{Spanned}
use Rattle.layout.specs.declared.answer.Grouped.{Grouped}
use Rattle.layout.specs.declared.answer.Named.{Named}
use Rattle.layout.specs.declared.answer.Channelled.{Channelled}
use Rattle.layout.specs.declared.answer.Played.{Played}
use Rattle.layout.specs.declared.answer.Placed.{Placed}
use Rattle.layout.specs.declared.answer.Changed.{Changed}
use Rattle.layout.specs.Lists.{All}
use Rattle.layout.specs.Salvage.{Entry, salvage}
use Rattle.layout.specs.Promises.{CasmFound, BodyRead, GroupFound, PartFound, ChannelFound, RecordsRead, VoiceFound, PlaysTold, NotePlaced, GroupWritten, RecordEdited, FieldSet, FieldSetInPlace, Salvaged}
use Rattle.law_salvage.specs.Salvage.{entry_bytes}
use Rattle.law_refusals.specs.Given.{GivenUnder}
use Rattle.law_refusals.specs.File.{FileRefused}
use Rattle.law_refusals.specs.Body.{BodyRefused}
use Rattle.law_refusals.specs.After.{GroupAsked, RecordsAsked, PartAsked, PlayersAsked, ChannelAsked, EditAsked}
use Rattle.law_refusals.specs.Records.{PlaceRefused, WriteRefused, FieldRefused, SalvageRefused}
use Rattle.law_refusals.specs.Salvage.{EntryRefused}

-- ---- "each refusal carries its number and its place .., is given only under the stated condition"; call by call

-- find_casm
abbrev pub CasmRefused : Type 0
CasmRefused = (file : List ℕ) (r : Located) → CasmFound file r → GivenUnder (FileRefused file) r.number r.place

-- read_body
abbrev pub BodyReadRefused : Type 0
BodyReadRefused = (body : List ℕ) (r : Counted) → BodyRead body r → GivenUnder (BodyRefused body) r.number r.place

-- find_group
abbrev pub GroupFoundRefused : Type 0
GroupFoundRefused = (body : List ℕ) (group : ℕ) (r : Grouped) → GroupFound body group r → GivenUnder (GroupAsked body group) r.number r.place

-- find_part
abbrev pub PartFoundRefused : Type 0
PartFoundRefused = (body name : List ℕ) (r : Named) → PartFound body name r → GivenUnder (PartAsked body name) r.number r.place

-- find_channel
abbrev pub ChannelFoundRefused : Type 0
ChannelFoundRefused =
    (body : List ℕ) (group channel : ℕ) (r : Channelled) → ChannelFound body group channel r → GivenUnder (ChannelAsked body group channel) r.number r.place

-- read_records
abbrev pub RecordsReadRefused : Type 0
RecordsReadRefused =
    (body : List ℕ) (group : ℕ) (before : List Record) (r : Counted) (after : List Record) → RecordsRead body group before r after
    → GivenUnder (RecordsAsked body group (length before)) r.number r.place

-- find_voice
abbrev pub VoiceFoundRefused : Type 0
VoiceFoundRefused = (body : List ℕ) (group channel : ℕ) (r : Spanned) → VoiceFound body group channel r → GivenUnder (ChannelAsked body group channel) r.number r.place

-- who_plays
abbrev pub WhoPlaysRefused : Type 0
WhoPlaysRefused =
    (body name : List ℕ) (root type : ℕ) (r : Played) → PlaysTold body name root type r → GivenUnder (PlayersAsked body name root type) r.number r.place

-- place_note
abbrev pub NotePlacedRefused : Type 0
NotePlacedRefused = (record' : Record) (root note : ℕ) (r : Placed) → NotePlaced record' root note r → GivenUnder (PlaceRefused record' root note) r.number r.place

-- write_group
abbrev pub GroupWrittenRefused : Type 0
GroupWrittenRefused =
    (text : List ℕ) (table : List Record) (count : ℕ) (before : List ℕ) (r : Measured) (after : List ℕ) → GroupWritten text table count before r after
    → GivenUnder (WriteRefused text table count (length before)) r.number r.place

-- edit_record
abbrev pub RecordEditedRefused : Type 0
RecordEditedRefused =
    (before : List ℕ) (group channel : ℕ) (new : Record) (over : Override) (r : Answered) (after : List ℕ) → RecordEdited before group channel new over r after
    → GivenUnder (EditAsked before group channel new over) r.number r.place

-- set_field, by value ..
abbrev pub FieldSetRefused : Type 0
FieldSetRefused = (old : Record) (index value : ℕ) (r : Changed) → FieldSet old index value r → GivenUnder (FieldRefused old index value) r.number r.place

-- .. and in place
abbrev pub FieldInPlaceRefused : Type 0
FieldInPlaceRefused =
    (before : Record) (index value : ℕ) (r : Answered) (after : Record) → FieldSetInPlace before index value r after → GivenUnder (FieldRefused before index value) r.number r.place

-- list_salvage
abbrev pub SalvagedRefused : Type 0
SalvagedRefused = (body before : List ℕ) (r : Counted) (after : List ℕ) → Salvaged body before r after → GivenUnder (SalvageRefused body (length before)) r.number r.place

-- "what isn't sound is listed with its reason": a kind other than 0 is the refusal of the entry's bytes
abbrev pub KindsAreRefusals : Type 0
KindsAreRefusals = (body : List ℕ) → All (λ (e : Entry). (e.kind ≡ 0 → ⊥) → EntryRefused (entry_bytes body e) e.kind) (salvage body)
