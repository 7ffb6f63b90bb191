-- When a chunk's header is refused (document 01, "Numbers of refusal": rows 2 and 6).
use Rattle.std.specs.Prelude.{ℕ, ◌+◌, ◌<◌, ◌≤◌, ◌≡◌, List, length}
use Rattle.layout.specs.Bytes.{word, tag_at}
use Rattle.layout.specs.Refusals.{cut, bad_tag}

-- the number that a chunk at `at` of its parent's bytes s is refused with, where this tag is allowed: "header cut 2, tag 6, length 2"; the place is its tag
pub data HeadRefused (s : List ℕ) (at : ℕ) (tag : List ℕ) : ℕ → Type 0 where
  -- 2: "fewer than 8 bytes for a chunk header"
  header_cut : length s < at + 8 → HeadRefused s at tag cut
  -- 6: "tag not allowed here"
  other_tag : at + 8 ≤ length s → (tag_at s at ≡ tag → ⊥) → HeadRefused s at tag bad_tag
  -- 2: ".. or its length past its parent"
  length_past : tag_at s at ≡ tag → at + 8 ≤ length s → length s < at + 8 + word s (at + 4) → HeadRefused s at tag cut

-- a chunk with this tag stands whole at `at` of its parent's bytes s
pub record Headed (s : List ℕ) (at : ℕ) (tag : List ℕ) : Type 0 where
  pub tagged : tag_at s at ≡ tag
  pub within : at + 8 + word s (at + 4) ≤ length s
