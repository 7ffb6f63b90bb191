-- What a yes leaves as it was (document 02, §13): everything but one record, that of a source channel in a group.
use Rattle.std.specs.Prelude.{ℕ, ◌<◌, ◌≡◌, List, [], ◌∷◌, ◌++◌, length, get_or}
use Rattle.layout.specs.declared.record.SourceChannel.{SourceChannel}
use Rattle.layout.specs.declared.record.Record.{Record}
use Rattle.layout.specs.Scan.{Ended}
use Rattle.layout.specs.Answers.{Answer, refused, granted}
use Rattle.layout.specs.Records.{blank, channel_of, edition_of, second_in, position_in}
use Rattle.layout.specs.Body.{body_run, group_no}
use Rattle.layout.specs.Plays.{who_plays}
use Rattle.law_refusals.specs.Body.{Named}

-- the record of a group by its number
abbrev pub record_no : List ℕ → ℕ → ℕ → Record
record_no s g i = get_or (group_no s g).records i blank

-- both bodies are read, and nothing but record number `index` of the group is another in the one than in the other
pub record OthersAsBefore (before after : List ℕ) (group channel : ℕ) : Type 0 where
  pub n : ℕ
  pub index : ℕ
  pub accepted : body_run before ≡ Ended n
  pub again : body_run after ≡ Ended n
  pub there : group < n
  pub its : index < length (group_no before group).records
  pub channelled : channel_of (record_no before group index) ≡ channel
  -- all names: the texts that they are cut from
  pub texts : (h : ℕ) → h < n → (group_no after h).text ≡ (group_no before h).text
  -- all other records, with their Cntts and the positions of these
  pub counts : (h : ℕ) → h < n → length (group_no after h).records ≡ length (group_no before h).records
  pub records : (h i : ℕ) → h < n → (h ≡ group → i ≡ index → ⊥) → record_no after h i ≡ record_no before h i
  -- the record itself keeps its edition, its Cntt and the Cntt's position
  pub edition : edition_of (record_no after group index) ≡ edition_of (record_no before group index)
  pub second : second_in (record_no after group index) ≡ second_in (record_no before group index)
  pub position : position_in (record_no after group index) ≡ position_in (record_no before group index)

-- ---- who plays

-- a channel, present or not
pub data Presence (c : SourceChannel) : List SourceChannel → Type 0 where
  absent : Presence c []
  present : Presence c (c ∷ [])

-- two answers, the same but for the presence of a channel, which the after body may have renumbered
pub record SameButFor (old new : SourceChannel) (before after : List SourceChannel) : Type 0 where
  pub front : List SourceChannel
  pub was : List SourceChannel
  pub is : List SourceChannel
  pub rest : List SourceChannel
  pub answer_before : before ≡ front ++ (was ++ rest)
  pub answer_after : after ≡ front ++ (is ++ rest)
  pub there_before : Presence old was
  pub there_after : Presence new is

-- both refuse alike, or both tell the same but for that channel
pub data AnsweredAlike (old new : SourceChannel) : Answer (List SourceChannel) → Answer (List SourceChannel) → Type 0 where
  both_refuse : (number place : ℕ) → AnsweredAlike old new (refused number place) (refused number place)
  both_tell : (xs ys : List SourceChannel) → SameButFor old new xs ys → AnsweredAlike old new (granted xs) (granted ys)

-- every question who plays: the same answer for a part of another group, and for one of this group the same but for that record's channel
pub record PlaysAsBefore (before after : List ℕ) (group index : ℕ) : Type 0 where
  pub elsewhere : (name : List ℕ) (root type : ℕ) → (Named before group name → ⊥) → who_plays after name root type ≡ who_plays before name root type
  pub here : (name : List ℕ) (root type : ℕ)
      → AnsweredAlike (record_no before group index).source (record_no after group index).source (who_plays before name root type) (who_plays after name root type)
