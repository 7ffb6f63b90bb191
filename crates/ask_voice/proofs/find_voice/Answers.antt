-- The record that was looked for, or its refusal; its voice name stands after its byte 0.
use mathlib.Core.Path.{sym}
use native.Mathlib.Omega.{arith}
use Rattle.layout.proofs.Editions.{size_least}
use Rattle.read_find.proofs.RowLaws.{record_within}
use Rattle.ask_voice.proofs.VoiceLaws.{voice_no, voice_at}
use Rattle.ask_voice.proofs.find_voice.Goals as goal

pub shown_length-n-requires : goal.shown_length-n-requires
shown_length-n-requires c = omega (arith, size_least c.in-Ok.row.edition, record_within _ _ _ _ _ _ (sym c.in-Ok.ensures))

pub overflow_add-result : goal.overflow_add-result
overflow_add-result c = let w = record_within _ _ _ _ _ _ (sym c.in-Ok.ensures) in omega arith

pub returns-in-Err : goal.returns-in-Err
returns-in-Err c = voice_no _ _ _ _ (sym c.in-Err.ensures)

pub returns-in-Ok : goal.returns-in-Ok
returns-in-Ok c = voice_at _ _ _ _ _ (sym c.in-Ok.ensures) c.shown_length-n.ensures
