-- Two bodies, and two byte strings outside one record (document 02, §13: "both being readable, they are equally long and differ in no byte outside that Ctab's or Ctb2's record"), place by place.
use Rattle.std.specs.Prelude.{ℕ, ◌+◌, ◌<◌, ◌≤◌, ◌≡◌, List, length, get_or}
use Rattle.layout.specs.Editions.{size}
use Rattle.layout.specs.Asked.{standing, row_of, row_in}
use Rattle.law_refusals.specs.Body.{HasGroups}
use Rattle.law_refusals.specs.After.{HasChannel}

-- place k is outside the n bytes at `at`: before them, or behind them
pub data Outside (at n k : ℕ) : Type 0 where
  ahead : k < at → Outside at n k
  behind : at + n ≤ k → Outside at n k

-- "they are equally long and differ in no byte outside"
pub record AlikeOutside (s t : List ℕ) (at n : ℕ) : Type 0 where
  pub long : length s ≡ length t
  pub same : (k : ℕ) → Outside at n k → get_or s k 0 ≡ get_or t k 0

-- they are unlike at place k: both have a byte there, outside, and not the same; or one of them ends there and the other goes on
pub data UnlikeAt (s t : List ℕ) (at n k : ℕ) : Type 0 where
  another_byte : k < length s → k < length t → Outside at n k → (get_or s k 0 ≡ get_or t k 0 → ⊥) → UnlikeAt s t at n k
  before_ends : k ≡ length s → k < length t → UnlikeAt s t at n k
  after_ends : k ≡ length t → k < length s → UnlikeAt s t at n k

-- .. and at no place before it
pub record FirstUnlike (s t : List ℕ) (at n k : ℕ) : Type 0 where
  pub here : UnlikeAt s t at n k
  pub earlier : (i : ℕ) → i < k → Outside at n i → get_or s i 0 ≡ get_or t i 0

-- ---- two bodies

-- "both being readable", and the body before has the group and in it the source channel
pub record BothRead (before after : List ℕ) (group channel : ℕ) : Type 0 where
  pub has : HasChannel before group channel
  pub groups : ℕ
  pub again : HasGroups after groups

-- "that Ctab's or Ctb2's record": the place of its byte 0 in the body before ..
abbrev pub record_place : List ℕ → ℕ → ℕ → ℕ
record_place body group channel = (row_of (standing body group) (row_in body (standing body group) channel)).at

-- .. and how many bytes it has
abbrev pub record_size : List ℕ → ℕ → ℕ
record_size body group = size (standing body group).edition
