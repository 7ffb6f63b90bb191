-- Who plays, read off the bytes where they stand: what `playing` says of a group's value, said of its Ctabs in the body.
use Rattle.std.specs.Prelude.{ℕ, zero, suc, ◌+◌, ◌≡◌, ◌<◌, ◌≤◌, Bool, cond, ◌&&◌, List, [], ◌∷◌, ◌++◌, length, get_or, Result, Ok, Err}
use Rattle.layout.specs.declared.turn.Refusal.{Refusal}
use Rattle.layout.specs.declared.answer.Standing.{Standing}
use Rattle.layout.specs.Answers.{refused, granted}
use Rattle.layout.specs.Bytes.{number}
use Rattle.layout.specs.declared.edition.Edition.{Edition}
use Rattle.layout.specs.declared.record.SourceChannel.{SourceChannel}
use Rattle.layout.specs.Group.{ctab_place}
use Rattle.layout.specs.Plays.{bit, who_plays}

-- the record whose byte 0 stands at `at` plays under this chord root and chord type
unfoldable pub plays_at : List ℕ → ℕ → ℕ → ℕ → Bool
plays_at s at root type = bit (number s (at + 11) 2) root && bit (number s (at + 13) 5) type

-- its source channel
abbrev pub source_at : List ℕ → ℕ → SourceChannel
source_at s at = record { 0 = get_or s at 0 }

-- it alone, where it plays
unfoldable pub player_at : List ℕ → ℕ → ℕ → ℕ → List SourceChannel
player_at s at root type = cond (plays_at s at root type) (source_at s at ∷ []) []

-- the source channels of the first n Ctabs of an edition from p on that play, in Ctab order
unfoldable pub players_at : Edition → List ℕ → ℕ → ℕ → ℕ → ℕ → List SourceChannel
players_at e s p root type zero = []
players_at e s p root type (suc n) = players_at e s p root type n ++ player_at s (ctab_place e p n + 8) root type

-- a group that is asked under a chord: its Ctabs stand within the body, and who plays among them is the answer
pub record GroupAsked (s name : List ℕ) (root type : ℕ) (x : Standing) : Type 0 where
  pub plays : who_plays s name root type ≡ granted (players_at x.edition s x.ctabs root type x.records)
  pub ctabs : ctab_place x.edition x.ctabs x.records ≤ length s
  pub few : x.records ≤ 16
  pub root_known : root < 12
  pub type_known : type < 34

-- the refusal of the question, or the group that is asked
abbrev pub PartAsked : List ℕ → List ℕ → ℕ → ℕ → Result Standing Refusal → Type 0
PartAsked s name root type (Err why) = who_plays s name root type ≡ refused why.number why.place
PartAsked s name root type (Ok x) = GroupAsked s name root type x
