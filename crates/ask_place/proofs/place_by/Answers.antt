-- One law for each way out; note plus shift stays near.
use mathlib.Core.Path.{◌≡◌, sym, ◌∙◌, ap}
use Prim.Native.Nat.{ℕ, ◌<◌}
use native.Mathlib.Omega.{arith}
use lib.IntN.{ℤ, pos, ◌+ℤ◌}
use lib.Signed.{mag}
use mir.Syntax.{w32}
use mir.Val.{to_z, of_z}
use Rattle.layout.specs.Answers.{granted}
use Rattle.layout.specs.Place.{placed}
use Rattle.ask_place.proofs.Signed.{u8_reads, reads_back, mag_add}
use Rattle.ask_place.proofs.Ways.{answers, set_fixed, set_shifted}
use Rattle.ask_place.proofs.place_by.Goals as goal

value-reads : (note : ℕ) (shift : ℤ) → note < 128 → mag shift < 1024 → to_z w32 (of_z w32 (to_z w32 note +ℤ to_z w32 (of_z w32 shift))) ≡ pos note +ℤ shift
value-reads note shift hn hs =
    rw (u8_reads note (omega arith), reads_back shift (omega arith))
    (reads_back (pos note +ℤ shift) (omega (arith, mag_add (pos note) shift)))

pub returns-then-is_fixed : goal.returns-then-is_fixed
returns-then-is_fixed c = c.refusal.ensures ∙ answers (set_fixed _ _ _ _ _ (sym c.is_fixed.ensures ∙ c.if-is_fixed.true))

pub returns : goal.returns
returns c =
    c.told.ensures
    ∙ (ap (λ (n : ℕ). placed (granted n)) (rw (value-reads c.args.note c.shift_to-shift.result (omega arith) c.shift_to-shift.ensures.near) at c.hear.ensures)
    ∙ answers (set_shifted _ _ _ _ _ (sym c.is_fixed.ensures ∙ c.if-is_fixed.false) _ c.shift_to-shift.ensures.value))
