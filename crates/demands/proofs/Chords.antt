-- The chord types: those of a byte are a part of the table, by computation, and so they are those of the table one by one. The mask by one law.
use Prim.Native.Nat.{ℕ, ◌+◌, ◌-◌, ◌*◌, ◌<◌}
use mathlib.Core.Path.{◌≡◌, refl, sym, ap, ◌∙◌}
use lib.ListN.{length, get_or, take, drop}
use lib.Seq.{get_or-take, get_or-drop}
use Rattle.layout.specs.Lists.{All}
use Rattle.layout.specs.Plays.{chord_types}
use Rattle.law_salvage.proofs.Bits.{chord_bit}
use Rattle.layout.proofs.Elements.{all_so}
use Rattle.demands.specs.Chords.{ByteOfChords, chord_bytes, TypesByTheirBits, MaskByItsBytes}

-- the chord types of a byte are those that stand in the table from its lowest bit on
abbrev Stands : ByteOfChords → Type 0
Stands b = take (length b.types) (drop (8 * (17 - b.byte)) chord_types) ≡ b.types

stand : All Stands chord_bytes
unfolding chord_types
stand = (refl, (refl, (refl, (refl, (refl, tt)))))

one_by_one : (b : ByteOfChords) → Stands b → (k : ℕ) → k < length b.types → get_or chord_types (8 * (17 - b.byte) + k) "" ≡ get_or b.types k ""
one_by_one b e k h =
    let n : ℕ = 8 * (17 - b.byte) in
    sym (get_or-drop n chord_types k "") ∙ sym (get_or-take (length b.types) (drop n chord_types) k "" h) ∙ ap (λ part. get_or part k "") e

pub types_by_their_bits : TypesByTheirBits
types_by_their_bits = all_so Stands _ one_by_one chord_bytes stand

pub mask_by_its_bytes : MaskByItsBytes
mask_by_its_bytes = chord_bit
