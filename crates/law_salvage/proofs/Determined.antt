-- No two results satisfy one promise: a theorem for each call of the face, and for the text of `list`, over the very name that its contract cites.
use Prim.Native.Nat.{ℕ}
use mathlib.Core.Path.{◌≡◌, sym, ap, ◌∙◌}
use mathlib.Core.List.{List, ◌++◌}
use lib.ListN.{drop}
use Rattle.layout.specs.declared.edition.Edition.{Edition}
use Rattle.layout.specs.declared.lock.Override.{Override}
use Rattle.layout.specs.declared.record.Record.{Record}
use Rattle.layout.specs.Records.{SecondTable}
use Rattle.layout.specs.Promises.{CasmFound, SectionShown, BodyRead, GroupFound, PartFound, ChannelFound, TextShown, RecordsRead, VoiceShown, VoiceFound}
use Rattle.layout.specs.Promises.{PlaysTold, NotePlaced, GroupWritten, RecordEdited, FileEdited, FieldSet, FieldSetInPlace, Salvaged, RecordMade, EditionTold, BytesTold, BodiesChecked, FilesChecked, SectionRead, EntryJudged, PlaceFound}
use Rattle.layout.specs.Listing.{list_text, FileListed}
use Rattle.law_salvage.specs.Determined.{Determines, DeterminesBoth}

-- a promise that is an equation
equation : {A : Type 0} (a : A) → Determines (λ x. x ≡ a)
equation a x y p q = p ∙ sym q

-- ---- what is returned alone

pub casm_found_lem : (file : List ℕ) → Determines (CasmFound file)
casm_found_lem file = equation _

pub section_shown : (file : List ℕ) (tag length : ℕ) → Determines (SectionShown file tag length)
section_shown file tag length = equation _

pub body_read_lem : (body : List ℕ) → Determines (BodyRead body)
body_read_lem body = equation _

pub group_found_lem : (body : List ℕ) (group : ℕ) → Determines (GroupFound body group)
group_found_lem body group = equation _

pub part_found_lem : (body name : List ℕ) → Determines (PartFound body name)
part_found_lem body name = equation _

pub channel_found_lem : (body : List ℕ) (group channel : ℕ) → Determines (ChannelFound body group channel)
channel_found_lem body group channel = equation _

pub text_shown : (body : List ℕ) (group : ℕ) → Determines (TextShown body group)
text_shown body group = equation _

pub voice_shown : (body : List ℕ) (group channel : ℕ) → Determines (VoiceShown body group channel)
voice_shown body group channel = equation _

pub voice_found : (body : List ℕ) (group channel : ℕ) → Determines (VoiceFound body group channel)
voice_found body group channel = equation _

pub plays_told : (body name : List ℕ) (root type : ℕ) → Determines (PlaysTold body name root type)
plays_told body name root type = equation _

pub note_placed_lem : (r : Record) (root note : ℕ) → Determines (NotePlaced r root note)
note_placed_lem r root note = equation _

pub field_set_lem : (old : Record) (index value : ℕ) → Determines (FieldSet old index value)
field_set_lem old index value = equation _

pub record_made : (edition : Edition) (b : List ℕ) (second : SecondTable) (position : ℕ) → Determines (RecordMade edition b second position)
record_made edition b second position = equation _

pub edition_told_lem : (r : Record) → Determines (EditionTold r)
edition_told_lem r = equation _

pub bytes_told : (r : Record) → Determines (BytesTold r)
bytes_told r = equation _

pub section_read_lem : (file : List ℕ) (tag : ℕ) → Determines (SectionRead file tag)
section_read_lem file tag = equation _

pub entry_judged_lem : (entry : List ℕ) → Determines (EntryJudged entry)
entry_judged_lem entry = equation _

pub place_found : (body : List ℕ) (place : ℕ) → Determines (PlaceFound body place)
place_found body place = equation _

pub bodies_checked_lem : (before after : List ℕ) (group channel : ℕ) → Determines (BodiesChecked before after group channel)
bodies_checked_lem before after group channel = equation _

pub files_checked_lem : (before after : List ℕ) (group channel : ℕ) → Determines (FilesChecked before after group channel)
files_checked_lem before after group channel = equation _

-- ---- with lent memory at exit

pub records_read_lem : (body : List ℕ) (group : ℕ) (before : List Record) → DeterminesBoth (RecordsRead body group before)
records_read_lem body group before x y u v p q = (p.answer ∙ sym q.answer, p.table ∙ sym q.table)

pub group_written : (text : List ℕ) (table : List Record) (count : ℕ) (before : List ℕ) → DeterminesBoth (GroupWritten text table count before)
group_written text table count before x y u v p q = (p.answer ∙ sym q.answer, p.buffer ∙ sym q.buffer)

pub record_edited : (before : List ℕ) (group channel : ℕ) (new : Record) (over : Override) → DeterminesBoth (RecordEdited before group channel new over)
record_edited before group channel new over x y u v p q = (p.answer ∙ sym q.answer, p.body ∙ sym q.body)

pub file_edited_lem : (before name : List ℕ) (channel : ℕ) (new : Record) (over : Override) → DeterminesBoth (FileEdited before name channel new over)
file_edited_lem before name channel new over x y u v p q = (p.answer ∙ sym q.answer, p.file ∙ sym q.file)

pub field_set_in_place : (before : Record) (index value : ℕ) → DeterminesBoth (FieldSetInPlace before index value)
field_set_in_place before index value x y u v p q = (p.answer ∙ sym q.answer, p.held ∙ sym q.held)

pub salvaged : (body before : List ℕ) → DeterminesBoth (Salvaged body before)
salvaged body before x y u v p q = (p.answer ∙ sym q.answer, p.list ∙ sym q.list)

pub file_listed : (file before : List ℕ) → DeterminesBoth (FileListed file before)
file_listed file before x y u v p q = let m = p.measure ∙ sym q.measure in (m, p.text ∙ (ap (λ (k : ℕ). list_text file ++ drop k before) m ∙ sym q.text))
