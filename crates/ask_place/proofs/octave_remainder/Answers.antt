-- The bits of x and of its remainder read back; below zero an octave is added.
use mathlib.Core.Path.{◌≡◌}
use mathlib.Core.Bool.{true, false}
use Prim.Native.Nat.{◌<◌}
use native.Mathlib.Omega.{arith}
use lib.IntN.{ℤ, pos, ◌+ℤ◌}
use lib.Signed.{mag, lt_z, rem_z}
use mir.Syntax.{w32}
use mir.Val.{to_z, of_z}
use Rattle.ask_place.specs.Octaves.{remainder}
use Rattle.ask_place.proofs.Signed.{reads_back, mag_add}
use Rattle.ask_place.proofs.Folding.{rem_small, rem_below, rem_above}
use Rattle.ask_place.proofs.octave_remainder.Goals as goal

module _ (x : ℤ) (h : mag x < 8192) where
  -- the remainder as the code has it
  abbrev m : ℤ
  m = to_z w32 (of_z w32 (rem_z (to_z w32 (of_z w32 x)) (pos 12)))

  m-reads : m ≡ rem_z x (pos 12)
  m-reads = rw (reads_back x (omega arith)) (reads_back (rem_z x (pos 12)) (omega (arith, rem_small x)))

  near : mag (rem_z x (pos 12) +ℤ pos 12) < 65536
  near = omega (arith, rem_small x, mag_add (rem_z x (pos 12)) (pos 12))

  below : lt_z m (pos 0) ≡ true → to_z w32 (of_z w32 (m +ℤ pos 12)) ≡ pos (remainder x)
  below l = rw (m-reads, reads_back (rem_z x (pos 12) +ℤ pos 12) near) (rem_below x (rw m-reads at l))

  above : lt_z m (pos 0) ≡ false → m ≡ pos (remainder x)
  above l = rw m-reads (rem_above x (rw m-reads at l))

pub returns-then-m-lt0 : goal.returns-then-m-lt0
returns-then-m-lt0 c = below c.args.x c.requires c.if-m-lt0.true

pub returns : goal.returns
returns c = above c.args.x c.requires c.if-m-lt0.false
