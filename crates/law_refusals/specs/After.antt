-- When a question about a body is refused (document 01, "Numbers of refusal": "after the body: 16 for numbers, 15, then an edit's source channel 16, then 9"; "room (14) comes last in every call"; document 02, §4: 21; §6: 22).
use Rattle.std.specs.Prelude.{ℕ, ◌+◌, ◌<◌, ◌≤◌, ◌≡◌, true, false, List, length, get_or}
use Rattle.layout.specs.declared.lock.Override.{Override}
use Rattle.layout.specs.declared.record.Record.{Record}
use Rattle.layout.specs.Refusals.{out_of_range, no_room, not_there, bad_number, other_edition, read_only}
use Rattle.layout.specs.Editions.{held}
use Rattle.layout.specs.Lock.{lock_byte, keeps}
use Rattle.layout.specs.Ranges.{out_at}
use Rattle.layout.specs.Records.{bytes_of, channel_of, edition_of}
use Rattle.layout.specs.Group.{ctab_channel}
use Rattle.layout.specs.Body.{group_no}
use Rattle.layout.specs.Asked.{standing, row_of, row_in}
use Rattle.layout.specs.Plays.{root_count, type_count}
use Rattle.law_refusals.specs.Contents.{FirstSuch}
use Rattle.law_refusals.specs.Body.{Named, BodyRefused, HasGroups}

-- ---- a group by its number

-- the body is accepted, and has group number g
pub record HasGroup (s : List ℕ) (g : ℕ) : Type 0 where
  pub count : ℕ
  pub groups : HasGroups s count
  pub there : g < count

pub data GroupAsked (s : List ℕ) (g : ℕ) : ℕ → ℕ → Type 0 where
  -- the body's own refusal
  of_body : (number place : ℕ) → BodyRefused s number place → GroupAsked s g number place
  -- 16: "group number .. out of range", at 0
  no_group_given : (n : ℕ) → HasGroups s n → n ≤ g → GroupAsked s g bad_number 0

-- a group's records in a lent table of so many
pub data RecordsAsked (s : List ℕ) (g room : ℕ) : ℕ → ℕ → Type 0 where
  of_group_given : (number place : ℕ) → GroupAsked s g number place → RecordsAsked s g room number place
  -- 14: "lent room too small for the full answer", at 0
  no_room_given : HasGroup s g → room < length (group_no s g).records → RecordsAsked s g room no_room 0

-- ---- a part by its name

-- no group of n has the part
abbrev pub NoPart : List ℕ → ℕ → List ℕ → Type 0
NoPart s n name = (k : ℕ) → k < n → Named s k name → ⊥

pub data PartAsked (s name : List ℕ) : ℕ → ℕ → Type 0 where
  -- the body's own refusal
  part_of_body : (number place : ℕ) → BodyRefused s number place → PartAsked s name number place
  -- 15: "no such part", at 0
  no_part : (n : ℕ) → HasGroups s n → NoPart s n name → PartAsked s name not_there 0

-- who plays: the number comes before the part
pub data PlayersAsked (s name : List ℕ) (root type : ℕ) : ℕ → ℕ → Type 0 where
  -- the body's own refusal
  players_of_body : (number place : ℕ) → BodyRefused s number place → PlayersAsked s name root type number place
  -- 16: "root .. out of range", at 0
  root_over : (n : ℕ) → HasGroups s n → root_count ≤ root → PlayersAsked s name root type bad_number 0
  -- 16: "type .. out of range", at 0
  type_over : (n : ℕ) → HasGroups s n → type_count ≤ type → PlayersAsked s name root type bad_number 0
  -- 15: "no such part", at 0
  no_players : (n : ℕ) → HasGroups s n → root < root_count → type < type_count → NoPart s n name → PlayersAsked s name root type not_there 0

-- ---- a source channel of a group

-- the source channel of Ctab number i of group number g
abbrev pub source_in : List ℕ → ℕ → ℕ → ℕ
source_in s g i = ctab_channel (standing s g).edition s (standing s g).ctabs i

pub data ChannelAsked (s : List ℕ) (g channel : ℕ) : ℕ → ℕ → Type 0 where
  channel_of_group : (number place : ℕ) → GroupAsked s g number place → ChannelAsked s g channel number place
  -- 15: "no such channel in the group", at 0
  no_channel_given : HasGroup s g → ((i : ℕ) → i < (standing s g).records → source_in s g i ≡ channel → ⊥) → ChannelAsked s g channel not_there 0

-- the group has a Ctab of the source channel
pub record HasChannel (s : List ℕ) (g channel : ℕ) : Type 0 where
  pub group : HasGroup s g
  pub row : ℕ
  pub within : row < (standing s g).records
  pub source : source_in s g row ≡ channel

-- byte 10 of that record, as it stands in the body
abbrev pub lock_in : List ℕ → ℕ → ℕ → ℕ
lock_in s g channel = get_or s ((row_of (standing s g) (row_in s (standing s g) channel)).at + lock_byte) 0

pub data EditAsked (s : List ℕ) (g channel : ℕ) (new : Record) (over : Override) : ℕ → ℕ → Type 0 where
  edit_of_channel : (number place : ℕ) → ChannelAsked s g channel number place → EditAsked s g channel new over number place
  -- 16: "an edit with another source channel", at 0
  other_source : HasChannel s g channel → (channel_of new ≡ channel → ⊥) → EditAsked s g channel new over bad_number 0
  -- 21: "an edit's record unlike the body's", at 0
  other_edition_given : HasChannel s g channel → channel_of new ≡ channel → ((standing s g).edition ≡ edition_of new → ⊥) → EditAsked s g channel new over other_edition 0
  -- 22: "read only, place 10": locked in the body, and the caller does not ask to override
  read_only_given : HasChannel s g channel → channel_of new ≡ channel → (standing s g).edition ≡ edition_of new → keeps over (lock_in s g channel) ≡ true → EditAsked s g channel new over read_only lock_byte
  -- 9: "byte out of range, first one"; "in an edit .. it is the byte"; "a Cntt given with the new record is neither read nor checked"
  new_byte : (k : ℕ) → HasChannel s g channel → channel_of new ≡ channel → (standing s g).edition ≡ edition_of new → keeps over (lock_in s g channel) ≡ false → FirstSuch (out_at (edition_of new) (bytes_of new) 0) (held (edition_of new)) k
      → EditAsked s g channel new over out_of_range k
