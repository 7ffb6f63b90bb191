use mathlib.Core.Path.{◌≡◌}
use lib.ListN.{length}
use Rattle.layout.specs.Voice.{trimmed, voice_bytes}
use Rattle.ask_voice.proofs.shown_length.Given as goal

abbrev pub invariant-loop-name : goal.invariant-loop-name
invariant-loop-name l = trimmed (voice_bytes l.s l.at) ≡ trimmed l.name

abbrev pub decreases-loop-name : goal.decreases-loop-name
decreases-loop-name l = length l.name
