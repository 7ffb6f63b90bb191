-- The part that the search names; nothing on refusal.
use native.Mathlib.Omega.{arith}
use Rattle.ask_voice.proofs.VoiceLaws.{voice_within, voice_shown}
use Rattle.ask_voice.proofs.voice_name.Goals as goal

pub overflow_add-end : goal.overflow_add-end
overflow_add-end c = omega (arith, voice_within _ _ _ _ c.find_voice-found.ensures)

pub slice_bounds-result-end : goal.slice_bounds-result-end
slice_bounds-result-end c = voice_within _ _ _ _ c.find_voice-found.ensures

pub returns : goal.returns
returns c = voice_shown _ _ _ _ c.find_voice-found.ensures
