-- Demand 1, lent memory and result fields: each statement by one law.
use Rattle.law_refusals.proofs.Kept.{records_kept, buffer_kept, body_kept, record_kept, list_kept}
use Rattle.law_refusals.proofs.Nothing.{field_nothing, casm_nothing, body_nothing, group_nothing, part_nothing, channel_nothing, voice_nothing, players_nothing, note_nothing}
use Rattle.law_refusals.proofs.Parts.{text_nothing, voice_part_nothing}
use Rattle.demands.specs.LentMemory.{TableKept, BufferKept, BodyKept, RecordKept, HeldKept, ListKept, NoCasmTold, NoCountTold, NoGroupTold, NoPartTold, NoChannelTold, NoVoiceTold, NobodyTold, NoNoteTold, NoTextShown, NoVoiceShown}

pub table_kept : TableKept
table_kept = records_kept

pub the_buffer_kept : BufferKept
the_buffer_kept = buffer_kept

pub the_body_kept : BodyKept
the_body_kept = body_kept

pub the_record_kept : RecordKept
the_record_kept = record_kept

pub held_kept : HeldKept
held_kept = field_nothing

pub the_list_kept : ListKept
the_list_kept = list_kept

pub no_casm_told : NoCasmTold
no_casm_told = casm_nothing

pub no_count_told : NoCountTold
no_count_told = body_nothing

pub no_group_told : NoGroupTold
no_group_told = group_nothing

pub no_part_told : NoPartTold
no_part_told = part_nothing

pub no_channel_told : NoChannelTold
no_channel_told = channel_nothing

pub no_voice_told : NoVoiceTold
no_voice_told = voice_nothing

pub nobody_told : NobodyTold
nobody_told = players_nothing

pub no_note_told : NoNoteTold
no_note_told = note_nothing

pub no_text_shown : NoTextShown
no_text_shown = text_nothing

pub no_voice_shown : NoVoiceShown
no_voice_shown = voice_part_nothing
