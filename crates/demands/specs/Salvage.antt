-- Demand 3, sentence by sentence. Its words (`GroupsBody`, `NoneCompleted`, `moved`, `Covers` and the others) have a line each in the specs of `law_salvage`.
use Rattle.std.specs.Prelude.{ℕ, ◌+◌, ◌*◌, ◌≤◌, ◌≡◌, ◌↔◌, length, set}
use mathlib.Core.List.{List, [], ◌∷◌, ◌++◌, map, flatten}
use Rattle.layout.specs.declared.answer.Counted.{Counted}
use Rattle.layout.specs.Lists.{All}
use Rattle.layout.specs.Body.{body_limit}
use Rattle.layout.specs.Salvage.{Entry, salvage}
use Rattle.layout.specs.Promises.{Salvaged}
use Rattle.law_salvage.specs.Salvage.{Covers, entry_bytes, ReadsAsOne, GroupsBody, NoneCompleted, groups_from, moved, moved_by_change, Stretch, standing, replaced, Parted, groups_were, bytes_are, NoneCompletedIn, list_from, Listed}
use Rattle.demands.specs.Examples.{M, N, entry}

-- ---- "Take a section body of sound groups .. Put other bytes, of any number, in place of one group"

module _ (before : List (List ℕ)) (old : List ℕ) (after : List (List ℕ)) where
  -- the body: the earlier groups, the one, and the later groups
  abbrev pub old_body : List ℕ
  old_body = flatten (before ++ old ∷ after)

  -- the entries of the later groups in its list
  abbrev pub later : List Entry
  later = groups_from (length (flatten before) + length old) after

  -- its list: every group as its own entry
  abbrev pub old_list : List Entry
  old_list = groups_from 0 before ++ entry (length (flatten before)) (length old) 0 ∷ later

  module _ (new : List ℕ) where
    -- the body with the new bytes in place of the one group
    abbrev pub new_body : List ℕ
    new_body = flatten before ++ (new ++ flatten after)

    -- "every earlier group as its own entry, then exactly what the new bytes alone would list, moved to where they stand, then every later group, moved by the change in length"
    abbrev pub new_list : List Entry
    new_list = groups_from 0 before ++ (moved (length (flatten before)) (salvage new) ++ moved_by_change (length old) (length new) later)

-- what the salvage list was ..
abbrev pub EachGroupIsListed : Type 0
EachGroupIsListed = (before : List (List ℕ)) (old : List ℕ) (after : List (List ℕ)) → GroupsBody (before ++ old ∷ after) → salvage (old_body before old after) ≡ old_list before old after

-- .. and what it then is
abbrev pub DamageStaysLocal : Type 0
DamageStaysLocal =
    (before : List (List ℕ)) (old : List ℕ) (after : List (List ℕ)) (new : List ℕ) → GroupsBody (before ++ old ∷ after) → NoneCompleted (flatten before) new
    → salvage (new_body before old after new) ≡ new_list before old after new

-- a caller reads it in the lent list, "where body sizes stay within the limit, the lent list has room"
abbrev pub DamageStaysLocalAtTheCall : Type 0
DamageStaysLocalAtTheCall =
    (before : List (List ℕ)) (old : List ℕ) (after : List (List ℕ)) (new : List ℕ) → GroupsBody (before ++ old ∷ after) → NoneCompleted (flatten before) new
    → (lent now : List ℕ) (r : Counted) → length (new_body before old after new) ≤ body_limit → 3 * length (new_list before old after new) ≤ length lent
    → Salvaged (new_body before old after new) lent r now → Listed (new_list before old after new) lent r now

-- ---- document 02, §10: "Prove demand 3 for any choice of groups replaced at once, under the same limits"

-- the groups that stand are listed as before, each where it then stands, and each run as its new bytes alone ..
abbrev pub SeveralDamagesStayLocal : Type 0
SeveralDamagesStayLocal =
    (stretches : List Stretch) → Parted stretches → GroupsBody (groups_were stretches) → NoneCompletedIn [] stretches → salvage (bytes_are stretches) ≡ list_from 0 stretches

-- .. and a caller reads it in the lent list
abbrev pub SeveralDamagesStayLocalAtTheCall : Type 0
SeveralDamagesStayLocalAtTheCall =
    (stretches : List Stretch) → Parted stretches → GroupsBody (groups_were stretches) → NoneCompletedIn [] stretches
    → (lent now : List ℕ) (r : Counted) → length (bytes_are stretches) ≤ body_limit → 3 * length (list_from 0 stretches) ≤ length lent
    → Salvaged (bytes_are stretches) lent r now → Listed (list_from 0 stretches) lent r now

-- "salvaging the bytes of each entry by itself lists that entry alone, with the same kind and place 0"
abbrev pub EachEntryAlone : Type 0
EachEntryAlone = (s : List ℕ) → All (λ (e : Entry). salvage (entry_bytes s e) ≡ entry 0 e.size e.kind ∷ []) (salvage s)

-- ---- "In every salvage list .."

-- "the entries cover each byte once, in order": from place 0 to the body's length they follow one another, and none is empty ..
abbrev pub EntriesCover : Type 0
EntriesCover = (s : List ℕ) → Covers 0 (salvage s) (length s)

-- .. so their bytes, one after the other, are the body
abbrev pub EntriesGiveBack : Type 0
EntriesGiveBack = (s : List ℕ) → flatten (map (entry_bytes s) (salvage s)) ≡ s

-- "an entry is called a group exactly when its bytes read as one"
abbrev pub KindsAreExact : Type 0
KindsAreExact = (s : List ℕ) → length s ≤ body_limit → All (λ (e : Entry). (e.kind ≡ 0) ↔ ReadsAsOne (entry_bytes s e)) (salvage s)

-- every call that accepts had a body within the limit, and gives the salvage list of that body
abbrev pub CallsList : Type 0
CallsList = (s lent now : List ℕ) (r : Counted) → Salvaged s lent r now → r.number ≡ 0 → (length s ≤ body_limit) × Listed (salvage s) lent r now

-- ---- marked example 9 is a case: M, then M with its first byte 44H in place of M, then N

pub record ExampleNine : Type 0 where
  pub groups : GroupsBody (M ∷ M ∷ N ∷ [])
  pub none : NoneCompleted (flatten (M ∷ [])) (set M 0 0x44)
  pub was : old_list (M ∷ []) M (N ∷ []) ≡ entry 0 22 0 ∷ entry 22 22 0 ∷ entry 44 22 0 ∷ []
  pub now : new_list (M ∷ []) M (N ∷ []) (set M 0 0x44) ≡ entry 0 22 0 ∷ entry 22 22 6 ∷ entry 44 22 0 ∷ []
  pub listed : salvage (M ++ (set M 0 0x44 ++ N)) ≡ new_list (M ∷ []) M (N ∷ []) (set M 0 0x44)

-- ---- two damaged groups: M with its first byte 44H in place of the first, M with group length 0FH in place of the third, and N stands between them

abbrev pub two_damaged : List Stretch
two_damaged = replaced (M ∷ []) (set M 0 0x44) ∷ standing N [] ∷ replaced (M ∷ []) (set M 7 0x0F) ∷ []

pub record TwoDamaged : Type 0 where
  pub parted : Parted two_damaged
  pub groups : GroupsBody (groups_were two_damaged)
  pub none : NoneCompletedIn [] two_damaged
  pub listed : salvage (bytes_are two_damaged) ≡ entry 0 22 6 ∷ entry 22 22 0 ∷ entry 44 22 2 ∷ []
