-- Demand 2, who plays at the call, in both directions: "A record plays for root r (0-11) and type t (0-33) when bit r of the first and bit t of the second are set"; "For a part name, the answer is the source channels of
-- its group that play, in Ctab order".
use Rattle.std.specs.Prelude.{ℕ, ◌<◌, ◌≤◌, ◌≡◌, true, List, length, get_or}
use Rattle.layout.specs.declared.record.Record.{Record}
use Rattle.layout.specs.declared.answer.Played.{Played}
use Rattle.layout.specs.Records.{blank, channel_of}
use Rattle.layout.specs.Body.{group_no}
use Rattle.layout.specs.Plays.{bit, root_mask, chord_mask}
use Rattle.layout.specs.Promises.{PlaysTold}
use Rattle.law_refusals.specs.Body.{Named}
use Rattle.law_refusals.specs.After.{HasGroup}

-- record number i of these plays: it is there, and its two bits are set
pub record PlaysAt (rs : List Record) (root type i : ℕ) : Type 0 where
  pub there : i < length rs
  pub root_bit : bit (root_mask (get_or rs i blank)) root ≡ true
  pub type_bit : bit (chord_mask (get_or rs i blank)) type ≡ true

-- source channel number k of an answer
abbrev pub channel_told : Played → ℕ → ℕ
channel_told p k = (get_or p.channels k (record { 0 = 0 })).0

-- the answer tells the channels of the records that play
pub record ChannelsTold (rs : List Record) (root type : ℕ) (p : Played) : Type 0 where
  -- which record each of them is told for
  pub row : ℕ → ℕ
  -- no other channel: each is that of a record that plays
  pub plays : (k : ℕ) → k < p.count → PlaysAt rs root type (row k)
  pub channel : (k : ℕ) → k < p.count → channel_told p k ≡ channel_of (get_or rs (row k) blank)
  -- each record that plays is told
  pub every : (i : ℕ) → PlaysAt rs root type i → (k : ℕ) × ((k < p.count) × (row k ≡ i))
  -- "in Ctab order"
  pub order : (j k : ℕ) → j < k → k < p.count → row j < row k
  -- no channel twice
  pub once : (j k : ℕ) → j < k → k < p.count → channel_told p j ≡ channel_told p k → ⊥
  -- sixteen places, unused ones 0
  pub places : length p.channels ≡ 16
  pub unused : (k : ℕ) → p.count ≤ k → channel_told p k ≡ 0

-- where the call accepts, the body has a group with the part, and its channels are told
abbrev pub WhoPlaysIsTold : Type 0
WhoPlaysIsTold =
    (body name : List ℕ) (root type : ℕ) (p : Played) → PlaysTold body name root type p → p.number ≡ 0
    → (g : ℕ) × (HasGroup body g × (Named body g name × ChannelsTold (group_no body g).records root type p))
