-- The kinds of a salvage list other than 0 (document 01, "The salvage list").
use Rattle.std.specs.Prelude.{ℕ, List}
use Rattle.layout.specs.Refusals.{bad_tag}
use Rattle.read_salvage.specs.Cut.{Free, Piece}
use Rattle.law_refusals.specs.Body.{GroupRefused}

-- the kind of an entry with these bytes, where they are no group
pub data EntryRefused (bytes : List ℕ) : ℕ → Type 0 where
  -- "the whole piece is one entry whose kind is that refusal", "the piece being its parent"; CSEG stands at its start alone
  piece_refused : (number place : ℕ) → Piece bytes → GroupRefused bytes number place → EntryRefused bytes number
  -- "remaining bytes", and "bytes before the first CSEG": CSEG stands nowhere in them
  other_bytes : Free bytes → EntryRefused bytes bad_tag
