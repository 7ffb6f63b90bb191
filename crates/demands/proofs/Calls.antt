-- Demand 1, that every call ends: each by the proof of its function.
use Rattle.casm.proofs.read.find_casm.Met as find_casm
use Rattle.casm.proofs.read.read_section.Met as read_section
use Rattle.casm.proofs.read.section_body.Met as section_body
use Rattle.casm.proofs.read.read_body.Met as read_body
use Rattle.casm.proofs.read.find_group.Met as find_group
use Rattle.casm.proofs.read.find_part.Met as find_part
use Rattle.casm.proofs.read.find_channel.Met as find_channel
use Rattle.casm.proofs.read.group_text.Met as group_text
use Rattle.casm.proofs.read.find_place.Met as find_place
use Rattle.read_table.proofs.filled.read_records.Met as read_records
use Rattle.casm.proofs.questions.who_plays.Met as who_plays
use Rattle.casm.proofs.questions.find_voice.Met as find_voice
use Rattle.casm.proofs.questions.voice_name.Met as voice_name
use Rattle.casm.proofs.questions.place_note.Met as place_note
use Rattle.write_table.proofs.write_group.Met as write_group
use Rattle.casm.proofs.editing.edit_record.Met as edit_record
use Rattle.casm.proofs.editing.edit_file.Met as edit_file
use Rattle.casm.proofs.field.set_field.Met as set_field
use Rattle.casm.proofs.field.set_in_place.Met as set_in_place
use Rattle.casm.proofs.list.list_salvage.Met as list_salvage
use Rattle.casm.proofs.list.judge_entry.Met as judge_entry
use Rattle.casm.proofs.checking.check_bodies.Met as check_bodies
use Rattle.casm.proofs.checking.check_files.Met as check_files
use Rattle.casm.proofs.bytes.record_of.Met as record_of
use Rattle.casm.proofs.bytes.edition_of.Met as edition_of
use Rattle.casm.proofs.bytes.bytes_of.Met as bytes_of
use Rattle.demands.specs.Calls.{EveryCallEnds}

pub every_call_ends : {M : Type 1} → EveryCallEnds M
every_call_ends =
    record {
      find_casm_ends = find_casm.met;
      read_section_ends = read_section.met;
      section_body_ends = section_body.met;
      read_body_ends = read_body.met;
      find_group_ends = find_group.met;
      find_part_ends = find_part.met;
      find_channel_ends = find_channel.met;
      group_text_ends = group_text.met;
      find_place_ends = find_place.met;
      read_records_ends = read_records.met;
      who_plays_ends = who_plays.met;
      find_voice_ends = find_voice.met;
      voice_name_ends = voice_name.met;
      place_note_ends = place_note.met;
      write_group_ends = write_group.met;
      edit_record_ends = edit_record.met;
      edit_file_ends = edit_file.met;
      set_field_ends = set_field.met;
      set_in_place_ends = set_in_place.met;
      list_salvage_ends = list_salvage.met;
      judge_entry_ends = judge_entry.met;
      check_bodies_ends = check_bodies.met;
      check_files_ends = check_files.met;
      record_of_ends = record_of.met;
      edition_of_ends = edition_of.met;
      bytes_of_ends = bytes_of.met;
    }
