-- Safe, and it ends: the count is small before each text is added. What it answers decides only how many passes are made.
use native.Mathlib.Omega.{arith}
use Rattle.read_met.proofs.Texts.{places_fewer}
use Rattle.read_met.proofs.is_crowded.Goals as goal

pub text_of-requires : goal.text_of-requires
text_of-requires c = (omega arith, places_fewer _ _ _ _ (omega arith) c.requires.1)
