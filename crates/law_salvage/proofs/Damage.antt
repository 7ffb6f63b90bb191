-- One group replaced, and none: cases of stretches. The groups before it and those behind it are a stretch that stands each, unless they are none.
use Prim.Native.Nat.{ℕ, ◌+◌}
use native.Mathlib.Nat.{add-zero, zero-add}
use mathlib.Core.Path.{◌≡◌, refl}
use mathlib.Core.List.{List, [], ◌∷◌, ◌++◌, append-nil, flatten}
use lib.ListN.{length}
use Rattle.layout.specs.Salvage.{Entry, salvage}
use Rattle.law_salvage.specs.Salvage.{GroupsBody, NoneCompleted, groups_from, moved, moved_by_change, Stretch, standing, replaced, Parted, groups_were, bytes_are, NoneCompletedIn, list_from}
use Rattle.law_salvage.proofs.Places.{groups_append, groups_changed}
use Rattle.law_salvage.proofs.Stretches.{damages_local}

-- groups that stand, if any, before other stretches
abbrev stood : List (List ℕ) → List Stretch → List Stretch
stood [] ss = ss
stood (g ∷ gs) ss = standing g gs ∷ ss

module _ (ss : List Stretch) where
  stood_groups : (gs : List (List ℕ)) → groups_were (stood gs ss) ≡ gs ++ groups_were ss
  unfolding groups_were
  stood_groups [] = refl
  stood_groups (g ∷ gs) = refl

  stood_bytes : (gs : List (List ℕ)) → bytes_are (stood gs ss) ≡ flatten gs ++ bytes_are ss
  unfolding bytes_are flatten
  stood_bytes [] = refl
  stood_bytes (g ∷ gs) = refl

  stood_listed : (i : ℕ) (gs : List (List ℕ)) → list_from i (stood gs ss) ≡ groups_from i gs ++ list_from (i + length (flatten gs)) ss
  unfolding list_from groups_from flatten
  stood_listed i [] = rw add-zero
  stood_listed i (g ∷ gs) = refl

  stood_none : (b : List ℕ) (gs : List (List ℕ)) → NoneCompletedIn (b ++ flatten gs) ss → NoneCompletedIn b (stood gs ss)
  unfolding flatten
  stood_none b [] n = rw append-nil at n
  stood_none b (g ∷ gs) n = n

  stood_parted : (gs : List (List ℕ)) → Parted ss → Parted (stood gs ss)
  stood_parted [] p = p
  stood_parted (g ∷ gs) p = p

run_stood : (old : List (List ℕ)) (new : List ℕ) (gs : List (List ℕ)) → Parted (replaced old new ∷ stood gs [])
run_stood old new [] = tt
run_stood old new (g ∷ gs) = tt

module _ (before : List (List ℕ)) (old : List ℕ) (after : List (List ℕ)) where
  -- the list of a body of sound groups, at one of them
  pub groups_listed : GroupsBody (before ++ old ∷ after)
      → salvage (flatten (before ++ old ∷ after))
      ≡ groups_from 0 before ++ record { place = length (flatten before); size = length old; kind = 0 } ∷ groups_from (length (flatten before) + length old) after
  unfolding groups_were bytes_are list_from groups_from
  groups_listed b =
      let gs : List (List ℕ) = before ++ old ∷ after in
      let q = damages_local (stood gs []) (stood_parted [] gs tt) (rw (stood_groups [] gs, append-nil) b) (stood_none [] [] gs tt) in
      rw (stood_bytes [] gs, append-nil, stood_listed [] 0 gs, append-nil, groups_append 0 before (old ∷ after), zero-add) at q

  -- the earlier groups, what the new bytes alone would list, the later groups
  abbrev pub damaged : List ℕ → List Entry
  damaged new =
      groups_from 0 before
      ++ (moved (length (flatten before)) (salvage new) ++ moved_by_change (length old) (length new) (groups_from (length (flatten before) + length old) after))

  -- the list with new bytes in place of that group
  pub damage_local : (new : List ℕ) → GroupsBody (before ++ old ∷ after) → NoneCompleted (flatten before) new
      → salvage (flatten before ++ (new ++ flatten after)) ≡ damaged new
  unfolding groups_were bytes_are list_from
  damage_local new b n =
      let p : ℕ = length (flatten before) in
      let run : List Stretch = replaced (old ∷ []) new ∷ stood after [] in
      let were : groups_were (stood before run) ≡ before ++ old ∷ after = rw (stood_groups run before, stood_groups [] after, append-nil) in
      let none : NoneCompletedIn [] (stood before run) = stood_none run [] before (n, stood_none [] (flatten before ++ new) after tt) in
      rw (
        ← append-nil (flatten after),
        ← stood_bytes [] after,
        ← stood_bytes run before,
        damages_local (stood before run) (stood_parted run before (run_stood (old ∷ []) new after)) (rw were b) none,
        stood_listed run 0 before,
        zero-add p,
        stood_listed [] (p + length new) after,
        append-nil,
        groups_changed p (length old) (length new) after,
      )
