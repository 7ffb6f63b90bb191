-- What is known of the n groups that stand before one: where they stand, and which names may be theirs.
use Rattle.std.specs.Prelude.{ℕ, ◌+◌, ◌≤◌, ◌<◌, ◌≡◌, Bool, true, false, ◌&&◌, List, ltb, length, get_or}
use Rattle.layout.specs.Lists.{any}
use Rattle.layout.specs.Bytes.{word}
use Rattle.layout.specs.Sdec.{names}
use Rattle.layout.specs.Body.{group_place, text_at, sharing}
use Rattle.layout.specs.Asked.{group_named}
use Rattle.read_names.specs.Marks.{mark}
use Rattle.read_met.specs.Table.{Share, met, looked_at}

-- a table of the places of n groups, whose texts stand within the body
pub record Places (s : List ℕ) (n : ℕ) (places : List ℕ) : Type 0 where
  pub size : length places ≡ 32
  pub place : (k : ℕ) → k < n → get_or places k 0 ≡ group_place s k
  pub fits : (k : ℕ) → k < n → group_place s k + 16 + word s (group_place s k + 12) ≤ length s

-- a table of the names met, in which every name of the first n groups was, of the share looked at
pub record Marks (s : List ℕ) (n : ℕ) (share : Share) (table : List ℕ) : Type 0 where
  pub each : (name : List ℕ) → looked_at share (mark name) ≡ true → group_named s n name < n → met table (mark name) ≡ true

-- one of n groups has the name
unfoldable pub taken : List ℕ → ℕ → List ℕ → Bool
taken s n name = ltb (group_named s n name) n

-- .. and the name is of the share looked at
unfoldable pub taken_in : Share → List ℕ → ℕ → List ℕ → Bool
taken_in share s n name = looked_at share (mark name) && taken s n name

-- group number k has a name of one before it
unfoldable pub again : List ℕ → ℕ → Bool
again s k = ltb (sharing s k (group_place s k)) k

-- .. of the share looked at
unfoldable pub again_in : Share → List ℕ → ℕ → Bool
again_in share s k = any (taken_in share s k) (names (text_at s (group_place s k)))

-- a name is met where it is of the share looked at: whether one of the n groups has it, and the table after
pub record NameMet (s : List ℕ) (n : ℕ) (share : Share) (name : List ℕ) (r : Bool) (old new : List ℕ) : Type 0 where
  pub answer : r ≡ taken_in share s n name
  pub here : looked_at share (mark name) ≡ true → met new (mark name) ≡ true
  pub kept : (other : ℕ) → met old other ≡ true → met new other ≡ true

-- whether group number n has a name of one before it, of the share looked at; where it has none, its names are met with theirs
pub record NamedBefore (s : List ℕ) (n : ℕ) (share : Share) (r : Bool) (table : List ℕ) : Type 0 where
  pub answer : r ≡ again_in share s n
  pub noted : r ≡ false → Marks s (n + 1) share table
