-- Demand 1, number and place: each statement by one law.
use Rattle.law_refusals.proofs.Calls.{casm_given, body_given, group_given, part_given, channel_given, records_given, voice_given, players_given, note_given}
use Rattle.law_refusals.proofs.Changes.{write_given, edit_given, field_given, field_in_place_given, salvage_given}
use Rattle.law_refusals.proofs.Reasons.{kinds_refused}
use Rattle.demands.specs.Refusals.{CasmRefused, BodyReadRefused, GroupFoundRefused, PartFoundRefused, ChannelFoundRefused, RecordsReadRefused, VoiceFoundRefused, WhoPlaysRefused, NotePlacedRefused, GroupWrittenRefused, RecordEditedRefused, FieldSetRefused, FieldInPlaceRefused, SalvagedRefused, KindsAreRefusals}

pub casm_refused : CasmRefused
casm_refused = casm_given

pub body_refused : BodyReadRefused
body_refused = body_given

pub group_refused : GroupFoundRefused
group_refused = group_given

pub part_refused : PartFoundRefused
part_refused = part_given

pub channel_refused : ChannelFoundRefused
channel_refused = channel_given

pub records_refused : RecordsReadRefused
records_refused = records_given

pub voice_refused : VoiceFoundRefused
voice_refused = voice_given

pub who_plays_refused : WhoPlaysRefused
who_plays_refused = players_given

pub note_refused : NotePlacedRefused
note_refused = note_given

pub writing_refused : GroupWrittenRefused
writing_refused = write_given

pub edit_refused : RecordEditedRefused
edit_refused = edit_given

pub field_refused : FieldSetRefused
field_refused = field_given

pub field_in_place_refused : FieldInPlaceRefused
field_in_place_refused = field_in_place_given

pub salvage_refused : SalvagedRefused
salvage_refused = salvage_given

pub kinds_are_refusals : KindsAreRefusals
kinds_are_refusals = kinds_refused
