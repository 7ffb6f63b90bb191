-- The words of demand 3: how the entries of a salvage list lie, what a body of sound groups is, and how entries move.
use Rattle.std.specs.Prelude.{ℕ, ◌+◌, ◌*◌, ◌-◌, ◌≤◌, ◌<◌, ◌≡◌, ◌⊎◌, true, length, take, drop}
use mathlib.Core.List.{List, [], ◌∷◌, ◌++◌, flatten}
use Rattle.layout.specs.declared.edition.Edition.{Edition}
use Rattle.layout.specs.declared.answer.Counted.{Counted}
use Rattle.layout.specs.Group.{Sound}
use Rattle.layout.specs.Scan.{Ended}
use Rattle.layout.specs.Group.{group_size, group_at}
use Rattle.layout.specs.Body.{body_run}
use Rattle.layout.specs.Salvage.{cseg, Entry, salvage, list_numbers}
use Rattle.layout.specs.Lists.{All}

-- ---- every list

-- from place i to place n the entries follow one another, and none is empty
abbrev pub Covers : ℕ → List Entry → ℕ → Type 0
Covers i [] n = i ≡ n
Covers i (e ∷ es) n = (e.place ≡ i) × ((0 < e.size) × Covers (i + e.size) es n)

-- the bytes of an entry in the list of s
unfoldable pub entry_bytes : List ℕ → Entry → List ℕ
entry_bytes s e = take e.size (drop e.place s)

-- bytes "read as one": taken as a body they are read strictly, with one group
abbrev pub ReadsAsOne : List ℕ → Type 0
ReadsAsOne s = body_run s ≡ Ended 1

-- ---- "a section body of sound groups"

-- g is a sound group, and no more
pub record SoundGroup (g : List ℕ) : Type 0 where
  pub edition : Edition
  pub text : ℕ
  pub ctabs : ℕ
  pub cntts : ℕ
  pub sound : group_at g ≡ Sound edition text ctabs cntts
  pub whole : group_size g ≡ length g

-- one of these groups, which stand one after the other from place i on, starts at k
abbrev pub StartsAt : ℕ → List (List ℕ) → ℕ → Type 0
StartsAt i [] k = ⊥
StartsAt i (g ∷ gs) k = (k ≡ i) ⊎ StartsAt (i + length g) gs k

-- "a section body of sound groups, with the letters CSEG nowhere but at their starts"
pub record GroupsBody (gs : List (List ℕ)) : Type 0 where
  pub groups : All SoundGroup gs
  pub only : (k : ℕ) → cseg (drop k (flatten gs)) ≡ true → StartsAt 0 gs k

-- "no CSEG begun before the new bytes is completed by them": its four letters all stand before them
abbrev pub NoneCompleted : List ℕ → List ℕ → Type 0
NoneCompleted before new = (k : ℕ) → k < length before → cseg (drop k (before ++ new)) ≡ true → k + 4 ≤ length before

-- ---- entries

-- each of these groups "as its own entry", of kind 0, from place i on
unfoldable pub groups_from : ℕ → List (List ℕ) → List Entry
groups_from i [] = []
groups_from i (g ∷ gs) = record { place = i; size = length g; kind = 0 } ∷ groups_from (i + length g) gs

-- entries "moved to where they stand": on by k
unfoldable pub moved : ℕ → List Entry → List Entry
moved k [] = []
moved k (e ∷ es) = record { place = e.place + k; size = e.size; kind = e.kind } ∷ moved k es

-- entries "moved by the change in length": on by the new length, back by the old one
unfoldable pub moved_by_change : ℕ → ℕ → List Entry → List Entry
moved_by_change old new [] = []
moved_by_change old new (e ∷ es) = record { place = e.place + new - old; size = e.size; kind = e.kind } ∷ moved_by_change old new es

-- ---- several groups replaced at once (document 02, §10): a body as stretches

-- groups that stand, one at least; or a run of groups, and the new bytes in their place, which may be none
pub data Stretch : Type 0 where
  standing : List ℕ → List (List ℕ) → Stretch
  replaced : List (List ℕ) → List ℕ → Stretch

-- "replaced neighbours count as one run and their new bytes are taken together": no two runs without a group that stands between them
abbrev pub Parted : List Stretch → Type 0
Parted [] = Unit {0}
Parted (standing g gs ∷ ss) = Parted ss
Parted (replaced old new ∷ []) = Unit {0}
Parted (replaced old new ∷ standing g gs ∷ ss) = Parted ss
Parted (replaced old new ∷ replaced old' new' ∷ ss) = ⊥

-- the groups that there were
unfoldable pub groups_were : List Stretch → List (List ℕ)
groups_were [] = []
groups_were (standing g gs ∷ ss) = g ∷ (gs ++ groups_were ss)
groups_were (replaced old new ∷ ss) = old ++ groups_were ss

-- the bytes that there are then
unfoldable pub bytes_are : List Stretch → List ℕ
bytes_are [] = []
bytes_are (standing g gs ∷ ss) = flatten (g ∷ gs) ++ bytes_are ss
bytes_are (replaced old new ∷ ss) = new ++ bytes_are ss

-- "the condition about CSEG holds at each run's start": no CSEG begun before its new bytes, behind these bytes, is completed by them
abbrev pub NoneCompletedIn : List ℕ → List Stretch → Type 0
NoneCompletedIn before [] = Unit {0}
NoneCompletedIn before (standing g gs ∷ ss) = NoneCompletedIn (before ++ flatten (g ∷ gs)) ss
NoneCompletedIn before (replaced old new ∷ ss) = NoneCompleted before new × NoneCompletedIn (before ++ new) ss

-- the list from place i on: every group that stands as its own entry, and of each run exactly what its new bytes alone would list, moved to where they stand
unfoldable pub list_from : ℕ → List Stretch → List Entry
list_from i [] = []
list_from i (standing g gs ∷ ss) = groups_from i (g ∷ gs) ++ list_from (i + length (flatten (g ∷ gs))) ss
list_from i (replaced old new ∷ ss) = moved i (salvage new) ++ list_from (i + length new) ss

-- ---- the call

-- the answer accepts and counts these entries; the lent list has their numbers, three an entry, and later ones as before
pub record Listed (entries : List Entry) (lent : List ℕ) (r : Counted) (now : List ℕ) : Type 0 where
  pub accepts : r.number ≡ 0
  pub place : r.place ≡ 0
  pub count : r.count ≡ length entries
  pub numbers : take (3 * length entries) now ≡ list_numbers entries
  pub kept : drop (3 * length entries) now ≡ drop (3 * length entries) lent
