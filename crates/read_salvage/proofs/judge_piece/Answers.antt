-- The verdict on the piece says which: a refusal lists the whole piece, a sound group leads it with the size that its header states.
use mathlib.Core.Path.{sym}
use native.Mathlib.Omega.{arith}
use Rattle.read_salvage.proofs.Verdicts.{sound_at}
use Rattle.read_salvage.proofs.Steps.{led_unsound, led_sound}
use Rattle.read_salvage.proofs.judge_piece.Goals as goal

pub word_at-size-requires : goal.word_at-size-requires
word_at-size-requires c = omega (arith, (sound_at _ _ _ _ _ (sym c.in-Ok.ensures)).long)

pub returns-in-Err : goal.returns-in-Err
returns-in-Err c = led_unsound _ _ _ c.requires (sym c.in-Err.ensures)

pub returns-in-Ok : goal.returns-in-Ok
returns-in-Ok c = led_sound _ _ _ _ _ _ (sym c.in-Ok.ensures) c.word_at-size.ensures.0
