-- By how much a note is moved, in document 01's words: nothing where the effective table is bypass, "00 or 80"; elsewhere as far as the chord root's place to the high key says.
use Prim.Native.Nat.{ℕ, ◌≤◌, ◌<◌}
use mathlib.Core.Path.{◌≡◌, ◌∙◌}
use mathlib.Core.Bool.{true, false}
use mathlib.Core.Logic.{◌⊎◌, inl, inr}
use native.Mathlib.Omega.{arith}
use borrow.Author.Tests.{eq-eqb, ne_eqb}
use lib.IntN.{pos, ◌-ℤ◌}
use Rattle.layout.specs.Place.{bypass, shift}
use Rattle.ask_place.proofs.Ways.{bypass_00, bypass_80, shift_none, shift_down, shift_plain}

module _ (table key from root : ℕ) where
  -- bypass is "00 or 80", and nothing else
  bypass_said : (table ≡ 0x00) ⊎ (table ≡ 0x80) → bypass table ≡ true
  bypass_said (inl h) = bypass_00 table h
  bypass_said (inr h) = bypass_80 table (λ z. omega arith) ∙ eq-eqb table 0x80 h

  bypass_not : ((table ≡ 0x00) ⊎ (table ≡ 0x80) → ⊥) → bypass table ≡ false
  bypass_not f = bypass_80 table (λ z. f (inl z)) ∙ ne_eqb table 0x80 (λ z. f (inr z))

  -- "if it is 00 or 80, shift is 0"
  pub bypass_stays : (table ≡ 0x00) ⊎ (table ≡ 0x80) → shift table key from root ≡ pos 0
  bypass_stays h = shift_none table key from root (bypass_said h)

  module _ (f : (table ≡ 0x00) ⊎ (table ≡ 0x80) → ⊥) where
    -- "otherwise shift is chord root minus source root" ..
    pub shift_to_the_key : root ≤ key → shift table key from root ≡ pos root -ℤ pos from
    shift_to_the_key = shift_plain table key from root (bypass_not f)

    -- .. "less 12 when the chord root is above the high key"
    pub shift_past_the_key : key < root → shift table key from root ≡ pos root -ℤ pos from -ℤ pos 12
    shift_past_the_key = shift_down table key from root (bypass_not f)
