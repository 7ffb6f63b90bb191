-- The bits of the folded value and of the nearest octave read back, and each is a byte; one law for each way out.
use mathlib.Core.Path.{◌≡◌, sym, ◌∙◌, ap}
use mathlib.Core.Bool.{true, false}
use Prim.Native.Nat.{ℕ, ◌≤◌, ◌<◌}
use native.Mathlib.Omega.{arith}
use lib.Dec.{T}
use lib.IntN.{ℤ, pos, nat_abs}
use lib.Signed.{mag, lt_z, non_neg}
use mir.Syntax.{w8, w32}
use mir.Val.{Fits, to_z, of_z}
use Rattle.layout.specs.Place.{folded, nearest, heard}
use Rattle.ask_place.proofs.Signed.{u8_reads, reads_back}
use Rattle.ask_place.proofs.Folding.{folded_small, heard_low, heard_high, heard_note}
use Rattle.ask_place.proofs.Nearing.{nearest_is_nearest}
use Rattle.ask_place.proofs.hear.Goals as goal
use Rattle.ask_place.proofs.hear.Goals.{then-n-low-via-then-n-low, then-n-low-via-else-n-low+then-high-n}

-- a nearest octave that a call gave reads back, and is a byte
module _ (v : ℤ) (low : ℕ) (hv : mag v < 4096) (hl : low ≤ 127) (n : ℤ) (e : n ≡ pos (nearest (to_z w32 (of_z w32 v)) low)) where
  near-small : nearest v low ≤ 127
  near-small = (nearest_is_nearest v low hl).note

  near-reads : to_z w32 (of_z w32 n) ≡ pos (nearest v low)
  near-reads = rw (rw (reads_back v (omega arith)) at e) (reads_back (pos (nearest v low)) (omega (arith, near-small)))

  near-byte : T (non_neg (to_z w32 (of_z w32 n))) × Fits w8 (nat_abs (to_z w32 (of_z w32 n)))
  near-byte = rw near-reads (tt, record { fits = omega (arith, near-small) })

-- the folded value as the code has it
module _ (v : ℤ) (low high : ℕ) (hv : mag v < 4096) (hl : low < 256) (hh : high < 256) (n : ℤ) (e : n ≡ folded (to_z w32 (of_z w32 v)) low high) where
  abbrev value : ℤ
  value = to_z w32 (of_z w32 n)

  n-is : n ≡ folded v low high
  n-is = rw (reads_back v (omega arith)) at e

  n-reads : value ≡ n
  n-reads = reads_back n (rw n-is (omega (arith, folded_small v low high hv hl hh)))

  l-reads : to_z w32 low ≡ pos low
  l-reads = u8_reads low hl

  h-reads : to_z w32 high ≡ pos high
  h-reads = u8_reads high hh

  past-low : lt_z value (to_z w32 low) ≡ true → heard v low high ≡ nearest v low
  past-low t = heard_low v low high n n-is (rw (n-reads, l-reads) at t)

  module _ (f : lt_z value (to_z w32 low) ≡ false) where
    past-high : lt_z (to_z w32 high) value ≡ true → heard v low high ≡ nearest v low
    past-high t = heard_high v low high n n-is (rw (n-reads, l-reads) at f) (rw (n-reads, h-reads) at t)

    within : lt_z (to_z w32 high) value ≡ false → nat_abs value ≡ heard v low high
    within t = ap nat_abs n-reads ∙ sym (heard_note v low high n n-is (rw (n-reads, l-reads) at f) (rw (n-reads, h-reads) at t))

pub overflow_cast-result : goal.overflow_cast-result
overflow_cast-result c = let a = c.args in near-byte a.value a.low (omega arith) (omega arith) _ c.nearest_to.ensures

pub returns-then-n-low : goal.returns-then-n-low
returns-then-n-low c =
    let a = c.args in
    let past : heard a.value a.low a.high ≡ nearest a.value a.low = elim c.then-n-low.branch [
      | then-n-low-via-then-n-low w ↦ past-low a.value a.low a.high (omega arith) (omega arith) (omega arith) _ c.fold-n.ensures w.if-n-low.true
      | then-n-low-via-else-n-low+then-high-n w ↦ past-high a.value a.low a.high (omega arith) (omega arith) (omega arith) _ c.fold-n.ensures w.if-n-low.false w.if-high-n.true
    ] in
    ap nat_abs (near-reads a.value a.low (omega arith) (omega arith) _ c.nearest_to.ensures) ∙ sym past

pub returns : goal.returns
returns c =
    let a = c.args in
    within a.value a.low a.high (omega arith) (omega arith) (omega arith) _ c.fold-n.ensures c.if-n-low.false c.if-high-n.false
