-- No two results satisfy one promise, of the calls for C and of the lent forms by value: a theorem for each, over the very words of its contract. With those of `law_salvage` it is every call that a caller can reach.
use Prim.Native.Nat.{ℕ}
use mathlib.Core.Path.{◌≡◌, refl, sym, ap, ◌∙◌}
use mathlib.Core.List.{List}
use lib.ListN.{take, drop}
use Rattle.layout.specs.declared.record.Record.{Record}
use Rattle.layout.specs.declared.answer.Answered.{Answered}
use Rattle.layout.specs.declared.answer.Counted.{Counted}
use Rattle.layout.specs.declared.answer.Measured.{Measured}
use Rattle.layout.specs.declared.answer.Located.{Located}
use Rattle.layout.specs.declared.answer.Named.{Named}
use Rattle.layout.specs.declared.answer.Grouped.{Grouped}
use Rattle.layout.specs.declared.answer.Channelled.{Channelled}
use Rattle.layout.specs.declared.answer.Spanned.{Spanned}
use Rattle.layout.specs.declared.answer.Placed.{Placed}
use Rattle.layout.specs.declared.answer.Sited.{Sited}
use Rattle.layout.specs.Screen.{field_set, changed}
use Rattle.layout.specs.Check.{bodies_checked, files_checked, checked}
use Rattle.layout.specs.Promises.{CasmFound, BodyRead, GroupFound, PartFound, ChannelFound, VoiceFound, PlaysTold, NotePlaced, RecordsRead, GroupWritten, RecordEdited, FileEdited, FieldSet, Salvaged, SectionRead, EntryJudged, PlaceFound}
use Rattle.c_row.specs.declared.row.Row.{Row}
use Rattle.c_row.specs.Rows.{recorded}
use Rattle.c_row.specs.Flat.{table_of, RowsRead}
use Rattle.c_export.specs.declared.answer.Answer.{Answer}
use Rattle.c_export.specs.declared.answer.Count.{Count}
use Rattle.c_export.specs.declared.answer.Length.{Length}
use Rattle.c_export.specs.declared.answer.Section.{Section}
use Rattle.c_export.specs.declared.answer.Holder.{Holder}
use Rattle.c_export.specs.declared.answer.Bounds.{Bounds}
use Rattle.c_export.specs.declared.answer.Position.{Position}
use Rattle.c_export.specs.declared.answer.Span.{Span}
use Rattle.c_export.specs.declared.answer.Players.{Players}
use Rattle.c_export.specs.declared.answer.Note.{Note}
use Rattle.c_export.specs.declared.answer.Edited.{Edited}
use Rattle.c_export.specs.declared.answer.Check.{Check}
use Rattle.c_export.specs.declared.answer.Site.{Site}
use Rattle.c_export.specs.Crossing.{answered, as_counted, as_measured, as_located, as_named, as_grouped, as_channelled, as_spanned, as_played, as_placed, as_sited, edit_of, edition_told, GroupCrossed, override_by, check_of}
use Rattle.casm_by_value.specs.declared.Filled.{Filled}
use Rattle.law_salvage.specs.Determined.{Determines, DeterminesBoth}
use Rattle.law_salvage.proofs.Determined as face
use Rattle.law_crossing.proofs.Crossed.{crossing_determines, crossing_determines_both, players, players_back, by_parts}

-- ---- what crosses, by the answer that it stands for

abbrev answer : Answered → Answer
answer a = record { number = a.number; place = a.place }

abbrev count : Counted → Count
count a = record { number = a.number; place = a.place; count = a.count }

abbrev size : Measured → Length
size a = record { number = a.number; place = a.place; length = a.length }

abbrev section : Located → Section
section a = record { number = a.number; place = a.place; tag = a.tag; length = a.length }

abbrev holder : Named → Holder
holder a = record { number = a.number; place = a.place; group = a.group }

-- one group, with this number of its edition
abbrev bounds : Grouped → ℕ → Bounds
bounds a edition =
    let g = a.group in
    record {
      number = a.number;
      place = a.place;
      at = g.at;
      size = g.size;
      text_at = g.text;
      text_length = g.length;
      records_at = g.ctabs;
      records = g.records;
      cntts_at = g.cntts;
      cntts = g.seconds;
      edition = edition;
    }

-- .. which is told by the group itself
abbrev bounds_told : Grouped → Bounds
bounds_told a = bounds a (edition_told a.group.edition a.group.records)

bounds_told_lem : (body : List ℕ) (group : ℕ) (r : Bounds) → GroupCrossed body group r → r ≡ bounds_told (as_grouped r)
bounds_told_lem body group r p = ap (bounds (as_grouped r)) p.edition

abbrev site : Sited → Site
site a = record { number = a.number; place = a.place; group = a.group; child = a.child; chunk = a.chunk }

abbrev position : Channelled → Position
position a = record { number = a.number; place = a.place; «record» = a.row; at = a.at }

abbrev span : Spanned → Span
span a = record { number = a.number; place = a.place; start = a.start; length = a.length }

abbrev note : Placed → Note
note a = record { number = a.number; place = a.place; note = a.note }

-- ---- the calls for C: what is returned alone

pub casm_find : (file : List ℕ) → Determines (λ (r : Section). CasmFound file (as_located r))
casm_find file = crossing_determines as_located section (λ x. refl) (CasmFound file) (face.casm_found_lem file)

pub casm_body : (body : List ℕ) → Determines (λ (r : Count). BodyRead body (as_counted r))
casm_body body = crossing_determines as_counted count (λ x. refl) (BodyRead body) (face.body_read_lem body)

pub casm_part : (body part : List ℕ) → Determines (λ (r : Holder). PartFound body part (as_named r))
casm_part body part = crossing_determines as_named holder (λ x. refl) (PartFound body part) (face.part_found_lem body part)

pub casm_group : (body : List ℕ) (group : ℕ) → Determines (GroupCrossed body group)
casm_group body group x y p q =
    bounds_told_lem body group x p ∙ (ap bounds_told (face.group_found_lem body group (as_grouped x) (as_grouped y) p.found q.found) ∙ sym (bounds_told_lem body group y q))

pub casm_channel : (body : List ℕ) (group source : ℕ) → Determines (λ (r : Position). ChannelFound body group source (as_channelled r))
casm_channel body group source = crossing_determines as_channelled position (λ x. refl) (ChannelFound body group source) (face.channel_found_lem body group source)

pub casm_section_at : (file : List ℕ) (tag : ℕ) → Determines (λ (r : Length). SectionRead file tag (as_measured r))
casm_section_at file tag = crossing_determines as_measured size (λ x. refl) (SectionRead file tag) (face.section_read_lem file tag)

pub casm_entry : (entry : List ℕ) → Determines (λ (r : Length). EntryJudged entry (as_measured r))
casm_entry entry = crossing_determines as_measured size (λ x. refl) (EntryJudged entry) (face.entry_judged_lem entry)

pub casm_site_at : (body : List ℕ) (place : ℕ) → Determines (λ (r : Site). PlaceFound body place (as_sited r))
casm_site_at body place = crossing_determines as_sited site (λ x. refl) (PlaceFound body place) (face.place_found body place)

pub casm_voice : (body : List ℕ) (group source : ℕ) → Determines (λ (r : Span). VoiceFound body group source (as_spanned r))
casm_voice body group source = crossing_determines as_spanned span (λ x. refl) (VoiceFound body group source) (face.voice_found body group source)

pub casm_plays : (body part : List ℕ) (root type : ℕ) → Determines (λ (r : Players). PlaysTold body part root type (as_played r))
casm_plays body part root type = crossing_determines as_played players players_back (PlaysTold body part root type) (face.plays_told body part root type)

pub casm_place : (row : Row) (root n : ℕ) → Determines (λ (r : Note). NotePlaced (recorded row) root n (as_placed r))
casm_place row root n = crossing_determines as_placed note (λ x. refl) (NotePlaced (recorded row) root n) (face.note_placed_lem (recorded row) root n)

pub casm_check : (before after : List ℕ) (group source : ℕ) → Determines (λ (r : Check). r ≡ check_of (checked (bodies_checked before after group source)))
casm_check before after group source x y p q = p ∙ sym q

pub casm_check_files : (before after : List ℕ) (group source : ℕ) → Determines (λ (r : Check). r ≡ check_of (checked (files_checked before after group source)))
casm_check_files before after group source x y p q = p ∙ sym q

pub casm_field : (row : Row) (index value : ℕ) → Determines (λ (r : Edited). r ≡ edit_of (changed (recorded row) (field_set (recorded row) index value)))
casm_field row index value x y p q = p ∙ sym q

-- ---- .. and with lent memory at exit

pub casm_salvage : (body before : List ℕ) → DeterminesBoth (λ (r : Count) (after : List ℕ). Salvaged body before (as_counted r) after)
casm_salvage body before = crossing_determines_both as_counted count (λ x. refl) (Salvaged body before) (face.salvaged body before)

pub casm_edit : (before : List ℕ) (group source : ℕ) (row : Row) (over : ℕ) → DeterminesBoth (λ (r : Answer) (after : List ℕ). RecordEdited before group source (recorded row) (override_by over) (answered r) after)
casm_edit before group source row over =
    crossing_determines_both answered answer (λ x. refl) (RecordEdited before group source (recorded row) (override_by over)) (face.record_edited before group source (recorded row) (override_by over))

pub casm_edit_file : (before part : List ℕ) (source : ℕ) (row : Row) (over : ℕ) → DeterminesBoth (λ (r : Answer) (after : List ℕ). FileEdited before part source (recorded row) (override_by over) (answered r) after)
casm_edit_file before part source row over =
    crossing_determines_both answered answer (λ x. refl) (FileEdited before part source (recorded row) (override_by over)) (face.file_edited_lem before part source (recorded row) (override_by over))

pub casm_write : (text flat : List ℕ) (n : ℕ) (before : List ℕ) → DeterminesBoth (λ (r : Length) (after : List ℕ). GroupWritten text (table_of flat) n before (as_measured r) after)
casm_write text flat n before =
    crossing_determines_both as_measured size (λ x. refl) (GroupWritten text (table_of flat) n before) (face.group_written text (table_of flat) n before)

rows_read : (body : List ℕ) (group : ℕ) (before : List ℕ) → DeterminesBoth (RowsRead body group before)
rows_read body group before x y u v p q = (p.answer ∙ sym q.answer, p.table ∙ sym q.table)

pub casm_records : (body : List ℕ) (group : ℕ) (before : List ℕ) → DeterminesBoth (λ (r : Count) (after : List ℕ). RowsRead body group before (as_counted r) after)
casm_records body group before = crossing_determines_both as_counted count (λ x. refl) (RowsRead body group before) (rows_read body group before)

-- ---- the lent forms by value (`set_with` promises `FieldSet`, as `set_field` does)

pub read_with_room : (body : List ℕ) (group : ℕ) (start : List Record) (room : ℕ)
    → Determines (λ (b : Filled). RecordsRead body group (take room start) b.answer (take room b.table) × (drop room b.table ≡ drop room start))
read_with_room body group start room x y p q =
    let lent = face.records_read_lem body group (take room start) x.answer y.answer (take room x.table) (take room y.table) p.0 q.0 in
    let table = by_parts room x.table y.table lent.1 (p.1 ∙ sym q.1) in
    ap {B = Filled} (λ (a : Counted). record { table = x.table; answer = a }) lent.0 ∙ ap {B = Filled} (λ (t : List Record). record { table = t; answer = y.answer }) table

pub write_with : (text : List ℕ) (records : List Record) (lent n : ℕ) (before : List ℕ) → DeterminesBoth (GroupWritten text (take lent records) n before)
write_with text records lent n before = face.group_written text (take lent records) n before

pub set_with : (r : Record) (index value : ℕ) → Determines (FieldSet r index value)
set_with r index value = face.field_set_lem r index value
