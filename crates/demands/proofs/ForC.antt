-- Demand 1 of the calls for C: each by the proof of its function, and by the laws of the call of the face beside it.
use Prim.Native.Nat.{ℕ}
use mathlib.Core.Path.{◌≡◌, refl, sym, ap, subst}
use Rattle.layout.specs.declared.answer.Which.{Which}
use Rattle.layout.specs.declared.answer.Checked.{Checked}
use Rattle.layout.specs.Check.{Verdict, bodies_checked, files_checked, checked}
use Rattle.c_export.proofs.reading.casm_find.Met as casm_find
use Rattle.c_export.proofs.reading.casm_section_at.Met as casm_section_at
use Rattle.c_export.proofs.reading.casm_body.Met as casm_body
use Rattle.c_export.proofs.reading.casm_part.Met as casm_part
use Rattle.c_export.proofs.reading.casm_group.Met as casm_group
use Rattle.c_export.proofs.reading.casm_channel.Met as casm_channel
use Rattle.c_export.proofs.reading.casm_salvage.Met as casm_salvage
use Rattle.c_export.proofs.reading.casm_entry.Met as casm_entry
use Rattle.c_export.proofs.reading.casm_site_at.Met as casm_site_at
use Rattle.c_export.proofs.asking.casm_plays.Met as casm_plays
use Rattle.c_export.proofs.asking.casm_voice.Met as casm_voice
use Rattle.c_export.proofs.asking.casm_place.Met as casm_place
use Rattle.c_export.proofs.checking.casm_check.Met as casm_check
use Rattle.c_export.proofs.checking.casm_check_files.Met as casm_check_files
use Rattle.c_export.proofs.changing.casm_edit.Met as casm_edit
use Rattle.c_export.proofs.changing.casm_edit_file.Met as casm_edit_file
use Rattle.c_export.proofs.changing.casm_field.Met as casm_field
use Rattle.c_export.proofs.tables.casm_write.Met as casm_write
use Rattle.c_export.proofs.tables.casm_records.Met as casm_records
use Rattle.c_row.specs.Rows.{recorded}
use Rattle.c_row.specs.Flat.{table_of}
use Rattle.c_export.specs.Crossing.{answered, as_counted, as_measured, as_located, as_named, as_grouped, as_channelled, as_spanned, as_played, as_placed, as_sited, override_by, yes_number, check_of}
use Rattle.law_refusals.proofs.Calls.{casm_given, body_given, group_given, part_given, channel_given, voice_given, players_given, note_given}
use Rattle.law_refusals.proofs.Changes.{write_given, edit_given, salvage_given}
use Rattle.law_refusals.proofs.Kept.{buffer_kept, body_kept, list_kept}
use Rattle.law_refusals.proofs.Nothing.{casm_nothing, body_nothing, part_nothing, channel_nothing, voice_nothing, note_nothing}
use Rattle.law_refusals.proofs.FileEditExact.{file_edit_given, file_kept}
use Rattle.law_crossing.proofs.Refused.{group_crossed_nothing, players_nobody, field_crossed_given, field_crossed_kept, rows_given, rows_kept}
use Rattle.law_refusals.proofs.ShownExact.{section_given, section_nothing, entry_given, entry_nothing, site_given, site_nothing}
use Rattle.law_checked.specs.Refused.{BodiesRefused, FilesRefused, GivenOf}
use Rattle.law_checked.proofs.Answered.{says_nothing}
use Rattle.law_checked.proofs.RefusedExact.{bodies_refused, files_refused}
use Rattle.c_export.specs.declared.answer.Check.{Check}
use Rattle.demands.specs.ForC.{EveryCCallEnds, FindRefuses, SectionAtRefuses, BodyRefuses, PartRefuses, GroupRefuses, ChannelRefuses, SalvageRefuses, EntryRefuses, SiteAtRefuses, PlaysRefuses, VoiceRefuses, PlaceRefuses, EditRefuses, EditFileRefuses, FieldRefuses, WriteRefuses, RecordsRefuse, RefusingOf, CheckRefuses, CheckFilesRefuses}

pub every_c_call_ends : {M : Type 1} → EveryCCallEnds M
every_c_call_ends =
    record {
      casm_find_ends = casm_find.met;
      casm_section_at_ends = casm_section_at.met;
      casm_body_ends = casm_body.met;
      casm_part_ends = casm_part.met;
      casm_group_ends = casm_group.met;
      casm_channel_ends = casm_channel.met;
      casm_salvage_ends = casm_salvage.met;
      casm_entry_ends = casm_entry.met;
      casm_site_at_ends = casm_site_at.met;
      casm_plays_ends = casm_plays.met;
      casm_voice_ends = casm_voice.met;
      casm_place_ends = casm_place.met;
      casm_check_ends = casm_check.met;
      casm_check_files_ends = casm_check_files.met;
      casm_edit_ends = casm_edit.met;
      casm_edit_file_ends = casm_edit_file.met;
      casm_field_ends = casm_field.met;
      casm_write_ends = casm_write.met;
      casm_records_ends = casm_records.met;
    }

pub find_refuses : FindRefuses
find_refuses file r p = record { given = casm_given file (as_located r) p; nothing = casm_nothing file (as_located r) p }

pub section_at_refuses : SectionAtRefuses
section_at_refuses file tag r p = record { given = section_given file tag (as_measured r) p; nothing = section_nothing file tag (as_measured r) p }

pub body_refuses : BodyRefuses
body_refuses body r p = record { given = body_given body (as_counted r) p; nothing = body_nothing body (as_counted r) p }

pub part_refuses : PartRefuses
part_refuses body part r p = record { given = part_given body part (as_named r) p; nothing = part_nothing body part (as_named r) p }

pub group_refuses : GroupRefuses
group_refuses body group r p = record { given = group_given body group (as_grouped r) p.found; nothing = group_crossed_nothing body group r p }

pub channel_refuses : ChannelRefuses
channel_refuses body group source r p = record { given = channel_given body group source (as_channelled r) p; nothing = channel_nothing body group source (as_channelled r) p }

pub salvage_refuses : SalvageRefuses
salvage_refuses body before r after p = record { given = salvage_given body before (as_counted r) after p; nothing = list_kept body before (as_counted r) after p }

pub entry_refuses : EntryRefuses
entry_refuses entry r p = record { given = entry_given entry (as_measured r) p; nothing = entry_nothing entry (as_measured r) p }

pub site_at_refuses : SiteAtRefuses
site_at_refuses body place r p = record { given = site_given body place (as_sited r) p; nothing = site_nothing body place (as_sited r) p }

pub plays_refuses : PlaysRefuses
plays_refuses body part root type r p = record { given = players_given body part root type (as_played r) p; nothing = players_nobody body part root type r p }

pub voice_refuses : VoiceRefuses
voice_refuses body group source r p = record { given = voice_given body group source (as_spanned r) p; nothing = voice_nothing body group source (as_spanned r) p }

pub place_refuses : PlaceRefuses
place_refuses row root note r p = record { given = note_given (recorded row) root note (as_placed r) p; nothing = note_nothing (recorded row) root note (as_placed r) p }

pub edit_refuses : EditRefuses
edit_refuses before group source row over r after p =
    record { given = edit_given before group source (recorded row) (override_by over) (answered r) after p; nothing = body_kept before group source (recorded row) (override_by over) (answered r) after p }

pub edit_file_refuses : EditFileRefuses
edit_file_refuses before part source row over r after p =
    record { given = file_edit_given before part source (recorded row) (override_by over) (answered r) after p; nothing = file_kept before part source (recorded row) (override_by over) (answered r) after p }

pub field_refuses : FieldRefuses
field_refuses row index value r p = record { given = field_crossed_given row index value r p; nothing = field_crossed_kept row index value r p }

pub write_refuses : WriteRefuses
write_refuses text flat count before r after p =
    record { given = write_given text (table_of flat) count before (as_measured r) after p; nothing = buffer_kept text (table_of flat) count before (as_measured r) after p }

pub records_refuse : RecordsRefuse
records_refuse body group before r after p =
    record { given = rows_given body group before (as_counted r) after p; nothing = rows_kept body group before (as_counted r) after p }

-- a verdict whose refusals have a condition, as it crosses
crossed : (P : Which → ℕ → ℕ → Type 0) (v : Verdict) → GivenOf P (checked v).which (checked v).number (checked v).place → RefusingOf P (check_of (checked v))
crossed P v given =
    record {
      which = (checked v).which;
      named = refl;
      given = given;
      nothing = λ z. let n = says_nothing v (checked v) refl z in (ap yes_number n.0, n.1);
    }

pub check_refuses : CheckRefuses
check_refuses before after group source r p =
    subst (RefusingOf (BodiesRefused 0 0 before after group source)) (sym p) (crossed (BodiesRefused 0 0 before after group source) (bodies_checked before after group source) (bodies_refused before after group source))

pub check_files_refuses : CheckFilesRefuses
check_files_refuses before after group source r p =
    subst (RefusingOf (FilesRefused before after group source)) (sym p) (crossed (FilesRefused before after group source) (files_checked before after group source) (files_refused before after group source))
