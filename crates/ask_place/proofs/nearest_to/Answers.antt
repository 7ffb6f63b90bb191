-- The bits of the remainder and of the two octaves read back; one law for the octave above and one for that below.
use mathlib.Core.Path.{◌≡◌, sym, ◌∙◌, ap}
use mathlib.Core.Bool.{true, false}
use mathlib.Core.Logic.{inl, inr}
use Prim.Native.Nat.{ℕ, ◌+◌, ◌<◌, ◌≤◌}
use native.Mathlib.Omega.{arith}
use borrow.Author.Tests.{ltb-true, ltb-false, leb-true, leb-false}
use lib.IntN.{ℤ, pos, ◌+ℤ◌, ◌-ℤ◌}
use lib.Signed.{mag, lt_z, le_z}
use mir.Syntax.{w32}
use mir.Val.{SFits, to_z, of_z}
use Rattle.layout.specs.Place.{nearest}
use Rattle.ask_place.specs.Octaves.{remainder}
use Rattle.ask_place.proofs.Signed.{fits, reads_back, mag_sub, sub_up, sub_lt, sub_ge}
use Rattle.ask_place.proofs.Folding.{remainder_small, past_rest, past_sum}
use Rattle.ask_place.proofs.Nearing.{nearest_above, nearest_below}
use Rattle.ask_place.proofs.nearest_to.Goals as goal

module _ (v : ℤ) (low : ℕ) (hv : mag v < 4096) (hl : low ≤ 127) where
  abbrev up : ℕ
  up = remainder (v -ℤ pos low)

  -- the octave above and the one below
  abbrev above : ℕ
  above = low + up

  above-near : above < 256
  above-near = omega (arith, remainder_small (v -ℤ pos low))

  below-near : mag (pos above -ℤ pos 12) < 65536
  below-near = omega (arith, above-near, mag_sub (pos above) (pos 12))

  -- .. as the code has them, of the remainder that it was told
  module _ (m : ℤ) (e : m ≡ pos (remainder (to_z w32 (of_z w32 (to_z w32 (of_z w32 v) -ℤ to_z w32 low))))) where
    abbrev rest : ℤ
    rest = to_z w32 (of_z w32 m)

    abbrev upper : ℤ
    upper = to_z w32 (of_z w32 (to_z w32 low +ℤ rest))

    abbrev lower : ℤ
    lower = to_z w32 (of_z w32 (upper -ℤ pos 12))

    rest-reads : rest ≡ pos up
    rest-reads = past_rest v low hv (omega arith) m e

    sum-is : to_z w32 low +ℤ rest ≡ pos above
    sum-is = past_sum v low hv (omega arith) m e

    upper-reads : upper ≡ pos above
    upper-reads = rw sum-is (reads_back (pos above) (omega (arith, above-near)))

    lower-reads : lower ≡ pos above -ℤ pos 12
    lower-reads = rw upper-reads (reads_back (pos above -ℤ pos 12) below-near)

    upper-fits : SFits w32 (to_z w32 low +ℤ rest)
    upper-fits = rw sum-is (fits (pos above) (omega (arith, above-near)))

    lower-fits : SFits w32 (upper -ℤ pos 12)
    lower-fits = rw upper-reads (fits (pos above -ℤ pos 12) below-near)

    -- no octave of the value is a note below the low limit
    none-below : lt_z lower (pos 0) ≡ true → upper ≡ pos (nearest v low)
    none-below t =
        let z = sub_lt above 12 0 (rw lower-reads at t) in
        rw upper-reads (ap pos (sym (nearest_above v low hl (omega arith) (inl (omega arith)))))

    module _ (f : lt_z lower (pos 0) ≡ false) where
      below-note : 12 ≤ above
      below-note = sub_ge above 12 0 (rw lower-reads at f)

      -- .. or none above it
      none-above : lt_z (pos 127) upper ≡ true → lower ≡ pos (nearest v low)
      none-above t =
          let y = ltb-true 127 above (rw upper-reads at t) in
          rw lower-reads (sub_up above 12 below-note ∙ ap pos (sym (nearest_below v low hl below-note (inl y))))

      below-nearer : le_z (pos 6) rest ≡ true → lower ≡ pos (nearest v low)
      below-nearer t =
          let y = leb-true 6 up (rw rest-reads at t) in
          rw lower-reads (sub_up above 12 below-note ∙ ap pos (sym (nearest_below v low hl below-note (inr y))))

    above-nearer : lt_z (pos 127) upper ≡ false → le_z (pos 6) rest ≡ false → upper ≡ pos (nearest v low)
    above-nearer f t =
        let z = ltb-false 127 above (rw upper-reads at f) in
        let y = leb-false 6 up (rw rest-reads at t) in
        rw upper-reads (ap pos (sym (nearest_above v low hl z (inr (omega arith)))))

pub overflow_add-above : goal.overflow_add-above
overflow_add-above c = let a = c.args in upper-fits a.value a.low (omega arith) (omega arith) _ c.octave_remainder-up.ensures

pub overflow_sub-below : goal.overflow_sub-below
overflow_sub-below c = let a = c.args in lower-fits a.value a.low (omega arith) (omega arith) _ c.octave_remainder-up.ensures

pub returns-then-below-lt0 : goal.returns-then-below-lt0
returns-then-below-lt0 c =
    let a = c.args in
    none-below a.value a.low (omega arith) (omega arith) _ c.octave_remainder-up.ensures c.if-below-lt0.true

pub returns-then-above : goal.returns-then-above
returns-then-above c =
    let a = c.args in
    none-above a.value a.low (omega arith) (omega arith) _ c.octave_remainder-up.ensures c.if-below-lt0.false c.if-above.true

pub returns-then-up-ge6 : goal.returns-then-up-ge6
returns-then-up-ge6 c =
    let a = c.args in
    below-nearer a.value a.low (omega arith) (omega arith) _ c.octave_remainder-up.ensures c.if-below-lt0.false c.if-up-ge6.true

pub returns : goal.returns
returns c =
    let a = c.args in
    above-nearer a.value a.low (omega arith) (omega arith) _ c.octave_remainder-up.ensures c.if-above.false c.if-up-ge6.false
