-- Locality: CSEG cannot overlap itself, so no CSEG crosses into groups that stand, and by the condition none crosses into new bytes. So a body is cut at the start of each group that stands,
-- new bytes are cut by themselves, and the parts of each stretch follow those of the one before.
use Prim.Native.Nat.{ℕ, ◌+◌}
use native.Mathlib.Nat.{zero-add}
use native.Mathlib.Omega.{arith}
use mathlib.Core.Path.{◌≡◌, refl}
use mathlib.Core.List.{List, [], ◌∷◌, ◌++◌, map, append_assoc, append-nil, flatten}
use lib.ListN.{length, length-append}
use Rattle.layout.specs.Salvage.{parts, entries_from, salvage}
use Rattle.layout.specs.Lists.{All}
use Rattle.layout.proofs.Elements.{all_split}
use Rattle.read_salvage.proofs.Cseg.{Apart, Opens, opens_first, opens_apart, apart_right}
use Rattle.read_salvage.proofs.Parts.{parts_nil, parts_seam, parts_group}
use Rattle.read_salvage.proofs.Joined.{own, joined_groups, parts_joined}
use Rattle.law_salvage.specs.Salvage.{GroupsBody, NoneCompleted, groups_from, Stretch, standing, replaced, Parted, groups_were, bytes_are, NoneCompletedIn, list_from}
use Rattle.law_salvage.proofs.Places.{entries_append, entries_groups, entries_moved}
use Rattle.law_salvage.proofs.Starts.{Lone, lone_first, body_groups, none_apart}

-- ---- the parts

-- a sound group leads its own, before any bytes that complete no CSEG begun in it
parts_lone : (g ys : List ℕ) → Lone g → Apart g ys → parts (g ++ ys) ≡ own g ∷ parts ys
parts_lone g ys h a = let s = h.group in parts_group g ys s.edition s.text s.ctabs s.cntts s.sound s.whole h.only a

-- groups before any bytes that complete no CSEG begun in them
parts_groups : (gs : List (List ℕ)) (x : List ℕ) → All Lone gs → Apart (flatten gs) x → parts (flatten gs ++ x) ≡ map own gs ++ parts x
unfolding flatten
parts_groups [] x h a = refl
parts_groups (g ∷ []) x h a = rw (append-nil, parts_lone g x h.0 (rw append-nil at a))
parts_groups (g ∷ g' ∷ gs) x h a =
    rw (
      append_assoc g (flatten (g' ∷ gs)) x,
      parts_lone g (flatten (g' ∷ gs) ++ x) h.0 (opens_apart g _ (rw append_assoc (opens_first g' (flatten gs ++ x) (lone_first g' h.1.0)))),
      parts_groups (g' ∷ gs) x h.1 (apart_right g (flatten (g' ∷ gs)) x a),
    )

-- ---- stretches

-- behind a run stand groups, or nothing
run_opens : (old : List (List ℕ)) (new : List ℕ) (ss : List Stretch) → Parted (replaced old new ∷ ss) → All Lone (groups_were ss) → Opens (bytes_are ss)
unfolding groups_were bytes_are flatten
run_opens old new [] p h = tt
run_opens old new (standing g gs ∷ ss) p h = rw append_assoc (opens_first g (flatten gs ++ bytes_are ss) (lone_first g h.0))
run_opens old new (replaced old' new' ∷ ss) p h = absurd p

run_parted : (old : List (List ℕ)) (new : List ℕ) (ss : List Stretch) → Parted (replaced old new ∷ ss) → Parted ss
run_parted old new [] p = tt
run_parted old new (standing g gs ∷ ss) p = p
run_parted old new (replaced old' new' ∷ ss) p = absurd p

-- no CSEG crosses into new bytes, nor over them into what begins with CSEG
apart_over : (xs new ys : List ℕ) → NoneCompleted xs new → Opens ys → Apart xs (new ++ ys)
apart_over xs new ys n o k h e = none_apart xs new n k h (opens_apart (xs ++ new) ys o k (omega (arith, length-append xs new)) (rw append_assoc e))

-- nor into any stretches
stretches_apart : (before : List ℕ) (ss : List Stretch) → Parted ss → All Lone (groups_were ss) → NoneCompletedIn before ss → Apart before (bytes_are ss)
unfolding groups_were bytes_are
stretches_apart before [] p h n = opens_apart before [] tt
stretches_apart before (standing g gs ∷ ss) p h n = opens_apart before _ (run_opens [] [] (standing g gs ∷ ss) p h)
stretches_apart before (replaced old new ∷ ss) p h n = apart_over before new (bytes_are ss) n.0 (run_opens old new ss p (all_split Lone old (groups_were ss) h).1)

-- from place i on, behind any bytes
stretches_listed : (before : List ℕ) (i : ℕ) (ss : List Stretch) → Parted ss → All Lone (groups_were ss) → NoneCompletedIn before ss → entries_from i (parts (bytes_are ss)) ≡ list_from i ss
unfolding groups_were bytes_are list_from salvage groups_from
stretches_listed before i [] p h n = rw parts_nil (entries_groups i [])
stretches_listed before i (standing g gs ∷ ss) p h n =
    let lone = all_split Lone (g ∷ gs) (groups_were ss) h in
    let b : List ℕ = before ++ flatten (g ∷ gs) in
    let k : ℕ = i + length (flatten (g ∷ gs)) in
    rw (
      parts_groups (g ∷ gs) (bytes_are ss) lone.0 (apart_right before (flatten (g ∷ gs)) (bytes_are ss) (stretches_apart b ss p lone.1 n)),
      entries_append i (map own (g ∷ gs)) (parts (bytes_are ss)),
      entries_groups i (g ∷ gs),
      joined_groups (g ∷ gs),
      stretches_listed b k ss p lone.1 n,
    )
stretches_listed before i (replaced old new ∷ ss) p h n =
    let lone = (all_split Lone old (groups_were ss) h).1 in
    rw (
      parts_seam new (bytes_are ss) (run_opens old new ss p lone),
      entries_append i (parts new) (parts (bytes_are ss)),
      parts_joined new,
      ← entries_moved 0 i (parts new),
      zero-add i,
      stretches_listed (before ++ new) (i + length new) ss (run_parted old new ss p) lone n.1,
    )

-- any choice of groups replaced at once
pub damages_local : (ss : List Stretch) → Parted ss → GroupsBody (groups_were ss) → NoneCompletedIn [] ss → salvage (bytes_are ss) ≡ list_from 0 ss
unfolding salvage
damages_local ss p b n = stretches_listed [] 0 ss p (body_groups _ b) n
