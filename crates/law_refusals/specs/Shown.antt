-- When the questions of what is shown of a file are refused: a section by its place, an entry by itself, and what stands at a place.
use Rattle.std.specs.Prelude.{ℕ, ◌+◌, ◌<◌, ◌≤◌, ◌≡◌, true, false, List, length}
use Rattle.layout.specs.Bytes.{word}
use Rattle.layout.specs.Refusals.{cut, over_limit, bad_tag, bad_number}
use Rattle.layout.specs.Body.{body_limit}
use Rattle.layout.specs.Salvage.{cseg}
use Rattle.law_refusals.specs.Body.{GroupRefused}

-- a section whose tag is said to stand at `tag`
pub data SectionAsked (file : List ℕ) (tag : ℕ) : ℕ → ℕ → Type 0 where
  -- 2: "fewer than 8 bytes for a chunk header", at its tag
  header_cut : length file < tag + 8 → SectionAsked file tag cut tag
  -- 2: "or its length past its parent", at its tag
  body_past : tag + 8 ≤ length file → length file < tag + 8 + word file (tag + 4) → SectionAsked file tag cut tag

-- an entry of a salvage list, by its bytes
pub data EntryAsked (entry : List ℕ) : ℕ → ℕ → Type 0 where
  -- 3: over the limit of a body, at 0
  entry_over : body_limit < length entry → EntryAsked entry over_limit 0
  -- 6: loose bytes, at their start
  entry_loose : length entry ≤ body_limit → cseg entry ≡ false → EntryAsked entry bad_tag 0
  -- a refusal of the group that is to stand at its start, where that stands in the entry
  entry_group : (number place : ℕ) → length entry ≤ body_limit → cseg entry ≡ true → GroupRefused entry number place → EntryAsked entry number place

-- what stands at a place
pub data PlaceAsked (body : List ℕ) (place : ℕ) : ℕ → ℕ → Type 0 where
  -- 3: over the limit of a body, at 0
  place_over : body_limit < length body → PlaceAsked body place over_limit 0
  -- 16: a place that is not there, at 0
  place_past : length body ≤ body_limit → length body ≤ place → PlaceAsked body place bad_number 0
