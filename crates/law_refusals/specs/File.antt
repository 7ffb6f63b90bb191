-- When a style file is refused (document 01, "Numbers of refusal": "finding the CASM body: 3, 1; per section 2, then 4; then 5, then 3").
use Rattle.std.specs.Prelude.{ℕ, ◌+◌, ◌<◌, ◌≤◌, ◌≡◌, List, length}
use Rattle.layout.specs.Bytes.{word, tag_at, MThd, MTrk, CASM}
use Rattle.layout.specs.Refusals.{not_style, cut, over_limit, tag_again, no_casm}
use Rattle.layout.specs.Body.{body_limit}
use Rattle.layout.specs.Style.{file_limit, section_place}

-- row 1, case by case
pub data NoStyle (file : List ℕ) : Type 0 where
  -- "under 22 bytes"
  short : length file < 22 → NoStyle file
  -- "wrong MThd"
  no_mthd : (tag_at file 0 ≡ MThd → ⊥) → NoStyle file
  -- "its length not 6"
  not_six : (word file 4 ≡ 6 → ⊥) → NoStyle file
  -- "wrong MTrk"
  no_mtrk : (tag_at file 14 ≡ MTrk → ⊥) → NoStyle file
  -- "track past the end"
  track_past : length file < 22 + word file 18 → NoStyle file

-- the tag of section number k
abbrev pub section_tag : List ℕ → ℕ → List ℕ
section_tag file k = tag_at file (section_place file k)

-- a style file within its limit, whose first k sections stand within it, each with a tag of its own
pub record SectionsBefore (file : List ℕ) (k : ℕ) : Type 0 where
  pub short : length file ≤ file_limit
  pub style : NoStyle file → ⊥
  pub within : (i : ℕ) → i < k → section_place file i + 8 + word file (section_place file i + 4) ≤ length file
  pub apart : (i j : ℕ) → i < j → j < k → section_tag file i ≡ section_tag file j → ⊥

-- the refusals of a style file: number and place
pub data FileRefused (file : List ℕ) : ℕ → ℕ → Type 0 where
  -- 3: "file .. over its limit", at 0
  file_over : file_limit < length file → FileRefused file over_limit 0
  -- 1: at 0
  not_style_given : length file ≤ file_limit → NoStyle file → FileRefused file not_style 0
  -- 2: "fewer than 8 bytes for a chunk header", at its tag; bytes follow the sections before it
  section_cut : (k : ℕ) → SectionsBefore file k → section_place file k < length file → length file < section_place file k + 8 → FileRefused file cut (section_place file k)
  -- 2: "or its length past its parent", at its tag
  section_past : (k : ℕ) → SectionsBefore file k → section_place file k + 8 ≤ length file
      → length file < section_place file k + 8 + word file (section_place file k + 4) → FileRefused file cut (section_place file k)
  -- 4: "section tag seen before", at the later tag
  tag_again_given : (i k : ℕ) → SectionsBefore file k → section_place file k + 8 + word file (section_place file k + 4) ≤ length file
      → i < k → section_tag file i ≡ section_tag file k → FileRefused file tag_again (section_place file k)
  -- 5: "no CASM", at the file's length: n sections up to the file's end, and none has that tag
  no_casm_given : (n : ℕ) → SectionsBefore file n → section_place file n ≡ length file → ((k : ℕ) → k < n → section_tag file k ≡ CASM → ⊥) → FileRefused file no_casm (length file)
  -- 3: "body over its limit", "in a file, a body's CASM tag"
  casm_over : (n k : ℕ) → SectionsBefore file n → section_place file n ≡ length file → k < n → section_tag file k ≡ CASM
      → body_limit < word file (section_place file k + 4) → FileRefused file over_limit (section_place file k)
