-- The bits of the value, of the two differences and of their remainders read back; one law for each way out.
use mathlib.Core.Path.{◌≡◌, sym}
use mathlib.Core.Bool.{true, false}
use Prim.Native.Nat.{ℕ, ◌+◌, ◌<◌}
use native.Mathlib.Omega.{arith}
use lib.IntN.{ℤ, pos, ◌+ℤ◌, ◌-ℤ◌}
use lib.Signed.{mag, lt_z}
use mir.Syntax.{w32}
use mir.Val.{SFits, to_z, of_z}
use Rattle.layout.specs.Place.{folded}
use Rattle.ask_place.specs.Octaves.{remainder}
use Rattle.ask_place.proofs.Signed.{fits, u8_reads, reads_back, mag_sub}
use Rattle.ask_place.proofs.Folding.{remainder_small, rest_reads, past_sum, fold_below, fold_above, fold_inside}
use Rattle.ask_place.proofs.fold.Goals as goal

module _ (v : ℤ) (low high : ℕ) (hv : mag v < 4096) (hl : low < 256) (hh : high < 256) where
  -- the value and the limits as the code has them
  abbrev value : ℤ
  value = to_z w32 (of_z w32 v)

  abbrev l : ℤ
  l = to_z w32 low

  abbrev h : ℤ
  h = to_z w32 high

  v-reads : value ≡ v
  v-reads = reads_back v (omega arith)

  l-reads : l ≡ pos low
  l-reads = u8_reads low hl

  h-reads : h ≡ pos high
  h-reads = u8_reads high hh

  -- the remainder of how far the value lies past the low limit
  module _ (m : ℤ) (e : m ≡ pos (remainder (to_z w32 (of_z w32 (value -ℤ l))))) where
    abbrev up : ℕ
    up = low + remainder (v -ℤ pos low)

    up-is : l +ℤ to_z w32 (of_z w32 m) ≡ pos up
    up-is = past_sum v low hv hl m e

    up-near : mag (pos up) < 65536
    up-near = omega (arith, remainder_small (v -ℤ pos low))

    up-fits : SFits w32 (l +ℤ to_z w32 (of_z w32 m))
    up-fits = rw up-is (fits (pos up) up-near)

    raised : lt_z value l ≡ true → to_z w32 (of_z w32 (l +ℤ to_z w32 (of_z w32 m))) ≡ folded v low high
    raised t = rw (up-is, reads_back (pos up) up-near) (sym (fold_below v low high (rw (v-reads, l-reads) at t)))

  -- .. and of how far past the high limit
  module _ (m : ℤ) (e : m ≡ pos (remainder (to_z w32 (of_z w32 (h -ℤ value))))) where
    abbrev past : ℤ
    past = pos high -ℤ v

    past-reads : to_z w32 (of_z w32 (h -ℤ value)) ≡ past
    past-reads = rw (v-reads, h-reads) (reads_back past (omega (arith, mag_sub (pos high) v)))

    down-is : h -ℤ to_z w32 (of_z w32 m) ≡ pos high -ℤ pos (remainder past)
    down-is = rw (h-reads, rest_reads past m (rw past-reads at e))

    down-near : mag (pos high -ℤ pos (remainder past)) < 65536
    down-near = omega (arith, remainder_small past, mag_sub (pos high) (pos (remainder past)))

    lowered : lt_z value l ≡ false → lt_z h value ≡ true → to_z w32 (of_z w32 (h -ℤ to_z w32 (of_z w32 m))) ≡ folded v low high
    lowered f t =
        rw (down-is, reads_back (pos high -ℤ pos (remainder past)) down-near)
        (sym (fold_above v low high (rw (v-reads, l-reads) at f) (rw (v-reads, h-reads) at t)))

  stays : lt_z value l ≡ false → lt_z h value ≡ false → value ≡ folded v low high
  stays f t = rw v-reads (sym (fold_inside v low high (rw (v-reads, l-reads) at f) (rw (v-reads, h-reads) at t)))

pub overflow_add-result : goal.overflow_add-result
overflow_add-result c = let a = c.args in up-fits a.value a.low a.high (omega arith) (omega arith) (omega arith) _ c.octave_remainder.ensures

pub returns-then-value-l : goal.returns-then-value-l
returns-then-value-l c =
    let a = c.args in
    raised a.value a.low a.high (omega arith) (omega arith) (omega arith) _ c.octave_remainder.ensures c.if-value-l.true

pub returns-then-h-value : goal.returns-then-h-value
returns-then-h-value c =
    let a = c.args in
    lowered a.value a.low a.high (omega arith) (omega arith) (omega arith) _ c.octave_remainder-then-h-value.ensures c.if-value-l.false c.if-h-value.true

pub returns : goal.returns
returns c =
    let a = c.args in
    stays a.value a.low a.high (omega arith) (omega arith) (omega arith) c.if-value-l.false c.if-h-value.false
