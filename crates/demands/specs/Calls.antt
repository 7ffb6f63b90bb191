-- Demand 1: "Every call takes every input and ends. Callers need check nothing first."
-- `statement` of a function says that it runs to its end from every input that meets what it requires, and leaves what its contract says. No call of the face requires anything.
use Rattle.casm.proofs.read.find_casm.Statement as find_casm
use Rattle.casm.proofs.read.read_section.Statement as read_section
use Rattle.casm.proofs.read.section_body.Statement as section_body
use Rattle.casm.proofs.read.read_body.Statement as read_body
use Rattle.casm.proofs.read.find_group.Statement as find_group
use Rattle.casm.proofs.read.find_part.Statement as find_part
use Rattle.casm.proofs.read.find_channel.Statement as find_channel
use Rattle.casm.proofs.read.group_text.Statement as group_text
use Rattle.casm.proofs.read.find_place.Statement as find_place
use Rattle.read_table.proofs.filled.read_records.Statement as read_records
use Rattle.casm.proofs.questions.who_plays.Statement as who_plays
use Rattle.casm.proofs.questions.find_voice.Statement as find_voice
use Rattle.casm.proofs.questions.voice_name.Statement as voice_name
use Rattle.casm.proofs.questions.place_note.Statement as place_note
use Rattle.write_table.proofs.write_group.Statement as write_group
use Rattle.casm.proofs.editing.edit_record.Statement as edit_record
use Rattle.casm.proofs.editing.edit_file.Statement as edit_file
use Rattle.casm.proofs.field.set_field.Statement as set_field
use Rattle.casm.proofs.field.set_in_place.Statement as set_in_place
use Rattle.casm.proofs.list.list_salvage.Statement as list_salvage
use Rattle.casm.proofs.list.judge_entry.Statement as judge_entry
use Rattle.casm.proofs.checking.check_bodies.Statement as check_bodies
use Rattle.casm.proofs.checking.check_files.Statement as check_files
use Rattle.casm.proofs.bytes.record_of.Statement as record_of
use Rattle.casm.proofs.bytes.edition_of.Statement as edition_of
use Rattle.casm.proofs.bytes.bytes_of.Statement as bytes_of

-- the calls of the face, one by one
pub record EveryCallEnds (M : Type 1) : Type 2 where
  pub find_casm_ends : find_casm.statement M
  pub read_section_ends : read_section.statement M
  pub section_body_ends : section_body.statement M
  pub read_body_ends : read_body.statement M
  pub find_group_ends : find_group.statement M
  pub find_part_ends : find_part.statement M
  pub find_channel_ends : find_channel.statement M
  pub group_text_ends : group_text.statement M
  pub find_place_ends : find_place.statement M
  pub read_records_ends : read_records.statement M
  pub who_plays_ends : who_plays.statement M
  pub find_voice_ends : find_voice.statement M
  pub voice_name_ends : voice_name.statement M
  pub place_note_ends : place_note.statement M
  pub write_group_ends : write_group.statement M
  pub edit_record_ends : edit_record.statement M
  pub edit_file_ends : edit_file.statement M
  pub set_field_ends : set_field.statement M
  pub set_in_place_ends : set_in_place.statement M
  pub list_salvage_ends : list_salvage.statement M
  pub judge_entry_ends : judge_entry.statement M
  pub check_bodies_ends : check_bodies.statement M
  pub check_files_ends : check_files.statement M
  pub record_of_ends : record_of.statement M
  pub edition_of_ends : edition_of.statement M
  pub bytes_of_ends : bytes_of.statement M
