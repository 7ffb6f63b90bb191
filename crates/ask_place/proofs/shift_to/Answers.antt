-- The bits of the differences read back; one law for each way out.
use mathlib.Core.Path.{◌≡◌, sym, ◌∙◌}
use mathlib.Core.Bool.{false}
use Prim.Native.Nat.{ℕ, ◌≤◌, ◌<◌}
use native.Mathlib.Omega.{arith}
use lib.IntN.{ℤ, pos, ◌-ℤ◌}
use lib.Signed.{mag}
use mir.Syntax.{w32}
use mir.Val.{to_z, of_z}
use Rattle.layout.specs.Place.{bypass, shift}
use Rattle.ask_place.proofs.Signed.{u8_reads, reads_back, mag_sub}
use Rattle.ask_place.proofs.Ways.{shift_none, shift_down, shift_plain}
use Rattle.ask_place.proofs.shift_to.Goals as goal

module _ (table key from root : ℕ) (hf : from < 256) (hr : root < 256) where
  -- chord root minus source root, and as the code has it
  abbrev apart : ℤ
  apart = pos root -ℤ pos from

  abbrev plain : ℤ
  plain = to_z w32 (of_z w32 (to_z w32 root -ℤ to_z w32 from))

  near : mag apart < 520
  near = omega (arith, mag_sub (pos root) (pos from))

  plain-reads : plain ≡ apart
  plain-reads = rw (u8_reads root hr, u8_reads from hf) (reads_back apart (omega (arith, near)))

  module _ (b : bypass table ≡ false) where
    moved : root ≤ key → plain ≡ shift table key from root
    moved h = rw plain-reads (sym (shift_plain table key from root b h))

    moved-down : key < root → to_z w32 (of_z w32 (plain -ℤ pos 12)) ≡ shift table key from root
    moved-down h =
        rw (plain-reads, reads_back (apart -ℤ pos 12) (omega (arith, near, mag_sub apart (pos 12))))
        (sym (shift_down table key from root b h))

pub returns-then-is_bypass-clause-value : goal.returns-then-is_bypass-clause-value
returns-then-is_bypass-clause-value c = sym (shift_none _ _ _ _ (sym c.is_bypass.ensures ∙ c.if-is_bypass.true))

pub returns-then-key-root-clause-value : goal.returns-then-key-root-clause-value
returns-then-key-root-clause-value c =
    let a = c.args in
    moved-down a.table a.key a.from a.root (omega arith) (omega arith) (sym c.is_bypass.ensures ∙ c.if-is_bypass.false) c.if-key-root.true

pub returns-clause-value : goal.returns-clause-value
returns-clause-value c =
    let a = c.args in
    moved a.table a.key a.from a.root (omega arith) (omega arith) (sym c.is_bypass.ensures ∙ c.if-is_bypass.false) c.if-key-root.false
