-- Demand 1 of the calls for C (include/casm.h), one by one. A C call promises what the call of the face beside it promises, of the answer that its struct stands for (`Crossing`); so its refusals are the same,
-- and what a caller in C sees is said here of the struct's own fields.
use Rattle.std.specs.Prelude.{ℕ, ◌≡◌, List, length, replicate}
use Rattle.layout.specs.declared.edition.Edition.TheVariants.{First}
use Rattle.layout.specs.declared.answer.Which.{Which}
use Rattle.layout.specs.Screen.{field_set, changed}
use Rattle.layout.specs.Check.{bodies_checked, files_checked, checked}
use Rattle.layout.specs.Promises.{CasmFound, SectionRead, BodyRead, GroupFound, PartFound, ChannelFound, VoiceFound, PlaysTold, NotePlaced, GroupWritten, RecordEdited, FileEdited, Salvaged, EntryJudged, PlaceFound}
use Rattle.c_row.specs.declared.row.Row.{Row}
use Rattle.c_row.specs.Rows.{recorded, row_for}
use Rattle.c_row.specs.Flat.{lent_rows, table_of, RowsRead}
use Rattle.c_export.specs.declared.answer.Answer.{Answer}
use Rattle.c_export.specs.declared.answer.Count.{Count}
use Rattle.c_export.specs.declared.answer.Length.{Length}
use Rattle.c_export.specs.declared.answer.Section.{Section}
use Rattle.c_export.specs.declared.answer.Holder.{Holder}
use Rattle.c_export.specs.declared.answer.Bounds.{Bounds}
use Rattle.c_export.specs.declared.answer.Position.{Position}
use Rattle.c_export.specs.declared.answer.Span.{Span}
use Rattle.c_export.specs.declared.answer.Players.{Players}
use Rattle.c_export.specs.declared.answer.Note.{Note}
use Rattle.c_export.specs.declared.answer.Edited.{Edited}
use Rattle.c_export.specs.declared.answer.Check.{Check}
use Rattle.c_export.specs.declared.answer.Site.{Site}
use Rattle.c_export.specs.Crossing.{answered, as_counted, as_measured, as_located, as_named, as_standing, GroupCrossed, as_channelled, as_spanned, as_played, as_placed, as_sited, edit_of, override_by, which_number, check_of}
use Rattle.c_export.proofs.reading.casm_find.Statement as casm_find
use Rattle.c_export.proofs.reading.casm_section_at.Statement as casm_section_at
use Rattle.c_export.proofs.reading.casm_body.Statement as casm_body
use Rattle.c_export.proofs.reading.casm_part.Statement as casm_part
use Rattle.c_export.proofs.reading.casm_group.Statement as casm_group
use Rattle.c_export.proofs.reading.casm_channel.Statement as casm_channel
use Rattle.c_export.proofs.reading.casm_salvage.Statement as casm_salvage
use Rattle.c_export.proofs.reading.casm_entry.Statement as casm_entry
use Rattle.c_export.proofs.reading.casm_site_at.Statement as casm_site_at
use Rattle.c_export.proofs.asking.casm_plays.Statement as casm_plays
use Rattle.c_export.proofs.asking.casm_voice.Statement as casm_voice
use Rattle.c_export.proofs.asking.casm_place.Statement as casm_place
use Rattle.c_export.proofs.checking.casm_check.Statement as casm_check
use Rattle.c_export.proofs.checking.casm_check_files.Statement as casm_check_files
use Rattle.c_export.proofs.changing.casm_edit.Statement as casm_edit
use Rattle.c_export.proofs.changing.casm_edit_file.Statement as casm_edit_file
use Rattle.c_export.proofs.changing.casm_field.Statement as casm_field
use Rattle.c_export.proofs.tables.casm_write.Statement as casm_write
use Rattle.c_export.proofs.tables.casm_records.Statement as casm_records
use Rattle.law_refusals.specs.Given.{GivenUnder}
use Rattle.law_refusals.specs.File.{FileRefused}
use Rattle.law_refusals.specs.Body.{BodyRefused}
use Rattle.law_refusals.specs.After.{GroupAsked, RecordsAsked, PartAsked, PlayersAsked, ChannelAsked, EditAsked}
use Rattle.law_refusals.specs.FileEdit.{FileEditAsked}
use Rattle.law_refusals.specs.Records.{PlaceRefused, WriteRefused, FieldRefused, SalvageRefused}
use Rattle.law_refusals.specs.Shown.{SectionAsked, EntryAsked, PlaceAsked}
use Rattle.law_checked.specs.Refused.{BodiesRefused, FilesRefused, GivenOf}

-- "every call takes every input and ends. Callers need check nothing first"
pub record EveryCCallEnds (M : Type 1) : Type 2 where
  pub casm_find_ends : casm_find.statement M
  pub casm_section_at_ends : casm_section_at.statement M
  pub casm_body_ends : casm_body.statement M
  pub casm_part_ends : casm_part.statement M
  pub casm_group_ends : casm_group.statement M
  pub casm_channel_ends : casm_channel.statement M
  pub casm_salvage_ends : casm_salvage.statement M
  pub casm_entry_ends : casm_entry.statement M
  pub casm_site_at_ends : casm_site_at.statement M
  pub casm_plays_ends : casm_plays.statement M
  pub casm_voice_ends : casm_voice.statement M
  pub casm_place_ends : casm_place.statement M
  pub casm_check_ends : casm_check.statement M
  pub casm_check_files_ends : casm_check_files.statement M
  pub casm_edit_ends : casm_edit.statement M
  pub casm_edit_file_ends : casm_edit_file.statement M
  pub casm_field_ends : casm_field.statement M
  pub casm_write_ends : casm_write.statement M
  pub casm_records_ends : casm_records.statement M

-- "each refusal carries its number and its place .., is given only under the stated condition", and what the rest of the answer and lent memory then are
pub record Refusing (Condition : ℕ → ℕ → Type 0) (number place : ℕ) (Nothing : Type 0) : Type 0 where
  pub given : GivenUnder Condition number place
  pub nothing : (number ≡ 0 → ⊥) → Nothing

-- casm_find
abbrev pub FindRefuses : Type 0
FindRefuses = (file : List ℕ) (r : Section) → CasmFound file (as_located r) → Refusing (FileRefused file) r.number r.place ((r.tag ≡ 0) × (r.length ≡ 0))

-- casm_section_at
abbrev pub SectionAtRefuses : Type 0
SectionAtRefuses = (file : List ℕ) (tag : ℕ) (r : Length) → SectionRead file tag (as_measured r) → Refusing (SectionAsked file tag) r.number r.place (r.length ≡ 0)

-- casm_body
abbrev pub BodyRefuses : Type 0
BodyRefuses = (body : List ℕ) (r : Count) → BodyRead body (as_counted r) → Refusing (BodyRefused body) r.number r.place (r.count ≡ 0)

-- casm_part
abbrev pub PartRefuses : Type 0
PartRefuses = (body part : List ℕ) (r : Holder) → PartFound body part (as_named r) → Refusing (PartAsked body part) r.number r.place (r.group ≡ 0)

-- casm_group
abbrev pub GroupRefuses : Type 0
GroupRefuses =
    (body : List ℕ) (group : ℕ) (r : Bounds) → GroupCrossed body group r
    → Refusing (GroupAsked body group) r.number r.place
    ((as_standing r ≡ record { edition = First; at = 0; size = 0; text = 0; length = 0; ctabs = 0; records = 0; cntts = 0; seconds = 0 }) × (r.edition ≡ 0))

-- casm_channel
abbrev pub ChannelRefuses : Type 0
ChannelRefuses =
    (body : List ℕ) (group source : ℕ) (r : Position) → ChannelFound body group source (as_channelled r)
    → Refusing (ChannelAsked body group source) r.number r.place ((r.«record» ≡ 0) × (r.at ≡ 0))

-- casm_salvage
abbrev pub SalvageRefuses : Type 0
SalvageRefuses =
    (body before : List ℕ) (r : Count) (after : List ℕ) → Salvaged body before (as_counted r) after
    → Refusing (SalvageRefused body (length before)) r.number r.place ((after ≡ before) × (r.count ≡ 0))

-- casm_entry
abbrev pub EntryRefuses : Type 0
EntryRefuses = (entry : List ℕ) (r : Length) → EntryJudged entry (as_measured r) → Refusing (EntryAsked entry) r.number r.place (r.length ≡ 0)

-- casm_site_at
abbrev pub SiteAtRefuses : Type 0
SiteAtRefuses =
    (body : List ℕ) (place : ℕ) (r : Site) → PlaceFound body place (as_sited r) → Refusing (PlaceAsked body place) r.number r.place ((r.group ≡ 0) × ((r.child ≡ 0) × (r.chunk ≡ 0)))

-- casm_plays
abbrev pub PlaysRefuses : Type 0
PlaysRefuses =
    (body part : List ℕ) (root type : ℕ) (r : Players) → PlaysTold body part root type (as_played r)
    → Refusing (PlayersAsked body part root type) r.number r.place ((r.count ≡ 0) × (r.channels ≡ replicate 16 0))

-- casm_voice
abbrev pub VoiceRefuses : Type 0
VoiceRefuses =
    (body : List ℕ) (group source : ℕ) (r : Span) → VoiceFound body group source (as_spanned r)
    → Refusing (ChannelAsked body group source) r.number r.place ((r.start ≡ 0) × (r.length ≡ 0))

-- casm_place
abbrev pub PlaceRefuses : Type 0
PlaceRefuses =
    (row : Row) (root note : ℕ) (r : Note) → NotePlaced (recorded row) root note (as_placed r)
    → Refusing (PlaceRefused (recorded row) root note) r.number r.place (r.note ≡ 0)

-- casm_edit
abbrev pub EditRefuses : Type 0
EditRefuses =
    (before : List ℕ) (group source : ℕ) (row : Row) (over : ℕ) (r : Answer) (after : List ℕ) → RecordEdited before group source (recorded row) (override_by over) (answered r) after
    → Refusing (EditAsked before group source (recorded row) (override_by over)) r.number r.place (after ≡ before)

-- casm_edit_file
abbrev pub EditFileRefuses : Type 0
EditFileRefuses =
    (before part : List ℕ) (source : ℕ) (row : Row) (over : ℕ) (r : Answer) (after : List ℕ) → FileEdited before part source (recorded row) (override_by over) (answered r) after
    → Refusing (FileEditAsked before part source (recorded row) (override_by over)) r.number r.place (after ≡ before)

-- casm_field: the record as it was
abbrev pub FieldRefuses : Type 0
FieldRefuses =
    (row : Row) (index value : ℕ) (r : Edited) → r ≡ edit_of (changed (recorded row) (field_set (recorded row) index value))
    → Refusing (FieldRefused (recorded row) index value) r.number r.place (r.held ≡ row_for (recorded row))

-- casm_write
abbrev pub WriteRefuses : Type 0
WriteRefuses =
    (text flat : List ℕ) (count : ℕ) (before : List ℕ) (r : Length) (after : List ℕ) → GroupWritten text (table_of flat) count before (as_measured r) after
    → Refusing (WriteRefused text (table_of flat) count (length before)) r.number r.place ((after ≡ before) × (r.length ≡ 0))

-- casm_records
abbrev pub RecordsRefuse : Type 0
RecordsRefuse =
    (body : List ℕ) (group : ℕ) (before : List ℕ) (r : Count) (after : List ℕ) → RowsRead body group before (as_counted r) after
    → Refusing (RecordsAsked body group (lent_rows (length before))) r.number r.place ((after ≡ before) × (r.count ≡ 0))

-- what is refused crosses as a number; the rest of the answer is then 0
pub record RefusingOf (Condition : Which → ℕ → ℕ → Type 0) (r : Check) : Type 0 where
  pub which : Which
  pub named : r.which ≡ which_number which
  pub given : GivenOf Condition which r.number r.place
  pub nothing : (r.number ≡ 0 → ⊥) → (r.yes ≡ 0) × (r.unlike ≡ 0)

-- casm_check
abbrev pub CheckRefuses : Type 0
CheckRefuses =
    (before after : List ℕ) (group source : ℕ) (r : Check) → r ≡ check_of (checked (bodies_checked before after group source)) → RefusingOf (BodiesRefused 0 0 before after group source) r

-- casm_check_files
abbrev pub CheckFilesRefuses : Type 0
CheckFilesRefuses =
    (before after : List ℕ) (group source : ℕ) (r : Check) → r ≡ check_of (checked (files_checked before after group source)) → RefusingOf (FilesRefused before after group source) r
