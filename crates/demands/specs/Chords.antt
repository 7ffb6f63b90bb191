-- The chord types stand in the order of the published bits (000, Table 12: bytes 13 to 17; the names as 001, 1.1, and document 01 spell them).
use Rattle.std.specs.Prelude.{ℕ, ◌+◌, ◌-◌, ◌*◌, ◌/◌, ◌%◌, ◌<◌, ◌≡◌, List, [], ◌∷◌, length, get_or}
use Prim.Native.String.{String}
use Rattle.layout.specs.declared.record.Record.{Record}
use Rattle.layout.specs.Lists.{All}
use Rattle.layout.specs.Records.{bytes_of}
use Rattle.layout.specs.Plays.{chord_types, bit, chord_mask}

-- the chord types of a byte's bits, bit 0 first
pub record ByteOfChords : Type 0 where
  pub byte : ℕ
  pub types : List String

-- the published table, byte by byte
abbrev pub chord_bytes : List ByteOfChords
chord_bytes =
    record { byte = 17; types = "Maj" ∷ "Maj6" ∷ "Maj7" ∷ "M7#11" ∷ "Madd9" ∷ "M7(9)" ∷ "M6(9)" ∷ "aug" ∷ [] }
    ∷ record { byte = 16; types = "m" ∷ "m6" ∷ "m7" ∷ "m7b5" ∷ "m(9)" ∷ "m7(9)" ∷ "m7(11)" ∷ "mM7" ∷ [] }
    ∷ record { byte = 15; types = "mM7(9)" ∷ "dim" ∷ "dim7" ∷ "7" ∷ "7sus" ∷ "7b5" ∷ "7(9)" ∷ "7(#11)" ∷ [] }
    ∷ record { byte = 14; types = "7(13)" ∷ "7(b9)" ∷ "7(b13)" ∷ "7(#9)" ∷ "M7aug" ∷ "7aug" ∷ "1+8" ∷ "1+5" ∷ [] }
    ∷ record { byte = 13; types = "sus4" ∷ "1+2+5" ∷ [] }
    ∷ []

-- type number t stands at bit t % 8 of byte 17 - t / 8: its name is the one that the published table has there
abbrev pub TypesByTheirBits : Type 0
TypesByTheirBits = All (λ (b : ByteOfChords). (k : ℕ) → k < length b.types → get_or chord_types (8 * (17 - b.byte) + k) "" ≡ get_or b.types k "") chord_bytes

-- .. and bit t of the chord mask is that bit of that byte, in a record whose bytes are bytes
abbrev pub MaskByItsBytes : Type 0
MaskByItsBytes =
    (r : Record) (t : ℕ) → ((k : ℕ) → get_or (bytes_of r) k 0 < 256) → t < 40 → bit (chord_mask r) t ≡ bit (get_or (bytes_of r) (17 - t / 8) 0) (t % 8)
