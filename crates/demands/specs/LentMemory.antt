-- Demand 1, continued: a refusal "changes no byte of lent memory"; and document 01: "on refusal counts and lengths are 0, other result fields are 0, a returned part is empty".
use Rattle.std.specs.Prelude.{ℕ, ◌≡◌, List, [], length, replicate}
use Rattle.layout.specs.declared.edition.Edition.TheVariants.{First}
use Rattle.layout.specs.declared.lock.Override.{Override}
use Rattle.layout.specs.declared.record.Record.{Record}
use Rattle.layout.specs.declared.answer.Answered.{Answered}
use Rattle.layout.specs.declared.answer.Counted.{Counted}
use Rattle.layout.specs.declared.answer.Measured.{Measured}
use Rattle.layout.specs.declared.answer.Located.{Located}
use Rattle.layout.specs.declared.answer.Spanned.{Spanned}
use Rattle.layout.specs.declared.answer.Grouped.{Grouped}
use Rattle.layout.specs.declared.answer.Named.{Named}
use Rattle.layout.specs.declared.answer.Channelled.{Channelled}
use Rattle.layout.specs.declared.answer.Played.{Played}
use Rattle.layout.specs.declared.answer.Placed.{Placed}
use Rattle.layout.specs.declared.answer.Changed.{Changed}
use Rattle.layout.specs.Promises.{CasmFound, BodyRead, GroupFound, PartFound, ChannelFound, TextShown, RecordsRead, VoiceShown, VoiceFound, PlaysTold, NotePlaced, GroupWritten, RecordEdited, FieldSet, FieldSetInPlace, Salvaged}

-- ---- lent memory

-- the lent table of read_records
abbrev pub TableKept : Type 0
TableKept =
    (body : List ℕ) (group : ℕ) (before : List Record) (r : Counted) (after : List Record) → RecordsRead body group before r after
    → (r.number ≡ 0 → ⊥) → (after ≡ before) × (r.count ≡ 0)

-- the lent buffer of write_group
abbrev pub BufferKept : Type 0
BufferKept =
    (text : List ℕ) (table : List Record) (count : ℕ) (before : List ℕ) (r : Measured) (after : List ℕ) → GroupWritten text table count before r after
    → (r.number ≡ 0 → ⊥) → (after ≡ before) × (r.length ≡ 0)

-- the lent body of edit_record
abbrev pub BodyKept : Type 0
BodyKept =
    (before : List ℕ) (group channel : ℕ) (new : Record) (over : Override) (r : Answered) (after : List ℕ) → RecordEdited before group channel new over r after → (r.number ≡ 0 → ⊥) → after ≡ before

-- the lent record of set_field in place ..
abbrev pub RecordKept : Type 0
RecordKept = (before : Record) (index value : ℕ) (r : Answered) (after : Record) → FieldSetInPlace before index value r after → (r.number ≡ 0 → ⊥) → after ≡ before

-- .. and the record given back by value
abbrev pub HeldKept : Type 0
HeldKept = (old : Record) (index value : ℕ) (r : Changed) → FieldSet old index value r → (r.number ≡ 0 → ⊥) → r.held ≡ old

-- the lent list of list_salvage
abbrev pub ListKept : Type 0
ListKept = (body before : List ℕ) (r : Counted) (after : List ℕ) → Salvaged body before r after → (r.number ≡ 0 → ⊥) → (after ≡ before) × (r.count ≡ 0)

-- ---- result fields

-- find_casm
abbrev pub NoCasmTold : Type 0
NoCasmTold = (file : List ℕ) (r : Located) → CasmFound file r → (r.number ≡ 0 → ⊥) → (r.tag ≡ 0) × (r.length ≡ 0)

-- read_body
abbrev pub NoCountTold : Type 0
NoCountTold = (body : List ℕ) (r : Counted) → BodyRead body r → (r.number ≡ 0 → ⊥) → r.count ≡ 0

-- find_group, every number of whose group is then 0, and its edition the one that is named first
abbrev pub NoGroupTold : Type 0
NoGroupTold =
    (body : List ℕ) (group : ℕ) (r : Grouped) → GroupFound body group r → (r.number ≡ 0 → ⊥)
    → r.group ≡ record { edition = First; at = 0; size = 0; text = 0; length = 0; ctabs = 0; records = 0; cntts = 0; seconds = 0 }

-- find_part
abbrev pub NoPartTold : Type 0
NoPartTold = (body name : List ℕ) (r : Named) → PartFound body name r → (r.number ≡ 0 → ⊥) → r.group ≡ 0

-- find_channel
abbrev pub NoChannelTold : Type 0
NoChannelTold = (body : List ℕ) (group channel : ℕ) (r : Channelled) → ChannelFound body group channel r → (r.number ≡ 0 → ⊥) → (r.row ≡ 0) × (r.at ≡ 0)

-- find_voice
abbrev pub NoVoiceTold : Type 0
NoVoiceTold = (body : List ℕ) (group channel : ℕ) (r : Spanned) → VoiceFound body group channel r → (r.number ≡ 0 → ⊥) → (r.start ≡ 0) × (r.length ≡ 0)

-- who_plays, each of whose sixteen places is then 0
abbrev pub NobodyTold : Type 0
NobodyTold =
    (body name : List ℕ) (root type : ℕ) (r : Played) → PlaysTold body name root type r → (r.number ≡ 0 → ⊥)
    → (r.count ≡ 0) × (r.channels ≡ replicate 16 (record { 0 = 0 }))

-- place_note
abbrev pub NoNoteTold : Type 0
NoNoteTold = (record' : Record) (root note : ℕ) (r : Placed) → NotePlaced record' root note r → (r.number ≡ 0 → ⊥) → r.note ≡ 0

-- ---- returned parts

-- group_text, where find_group refuses
abbrev pub NoTextShown : Type 0
NoTextShown = (body : List ℕ) (group : ℕ) (r : Grouped) (part : List ℕ) → GroupFound body group r → TextShown body group part → (r.number ≡ 0 → ⊥) → part ≡ []

-- voice_name, where find_voice refuses
abbrev pub NoVoiceShown : Type 0
NoVoiceShown =
    (body : List ℕ) (group channel : ℕ) (r : Spanned) (part : List ℕ) → VoiceFound body group channel r → VoiceShown body group channel part → (r.number ≡ 0 → ⊥) → part ≡ []
