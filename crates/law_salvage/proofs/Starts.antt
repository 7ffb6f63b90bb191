-- The conditions on CSEG, either way: a body of sound groups has CSEG only at their starts exactly when each of them has, since CSEG cannot overlap itself;
-- and no CSEG is completed by new bytes exactly when each that stands with them stands without them.
use Prim.Native.Nat.{ℕ, zero, suc, ◌+◌, ◌-◌, ◌≤◌, ◌<◌}
use native.Mathlib.Nat.{add-zero, zero-add}
use native.Mathlib.Decide.{dec_lt}
use native.Mathlib.Omega.{arith}
use mathlib.Core.Path.{◌≡◌, ap}
use mathlib.Core.Logic.{◌⊎◌, inl, inr, ⊎_elim}
use mathlib.Core.Bool.{true, false}
use mathlib.Core.List.{List, [], ◌∷◌, flatten}
use lib.ListN.{length, drop, length-drop, drop_of_length-le}
use lib.Seq.{drop-nil, drop-append-add, drop-append-le, take-append-le}
use Rattle.layout.specs.Bytes.{tag_at, tagged}
use Rattle.layout.specs.Salvage.{cseg}
use Rattle.layout.specs.Lists.{All}
use Rattle.read_salvage.proofs.Cseg.{Apart, Opens, no_true, not_so, no_cseg, cseg_is, cseg_more_at, opens_first, opens_apart}
use Rattle.read_salvage.proofs.Verdicts.{sound_cseg}
use Rattle.law_salvage.specs.Salvage.{SoundGroup, StartsAt, GroupsBody, NoneCompleted}
use Rattle.layout.proofs.Elements.{all_so}
use Rattle.law_salvage.proofs.AsBody.{group_some}

-- a sound group with CSEG nowhere but at its start
pub record Lone (g : List ℕ) : Type 0 where
  pub group : SoundGroup g
  pub only : (k : ℕ) → cseg (drop (suc k) g) ≡ false

pub lone_first : (g : List ℕ) → Lone g → cseg g ≡ true
lone_first g h = let s = h.group in sound_cseg g s.edition s.text s.ctabs s.cntts s.sound

-- groups, one after the other, are nothing or begin with CSEG
pub groups_open : (gs : List (List ℕ)) → All Lone gs → Opens (flatten gs)
unfolding flatten
groups_open [] h = tt
groups_open (g ∷ gs) h = opens_first g (flatten gs) (lone_first g h.0)

-- ---- from the body to each group

starts_from : (i : ℕ) (gs : List (List ℕ)) (k : ℕ) → StartsAt i gs k → i ≤ k
starts_from i [] k s = absurd s
starts_from i (g ∷ gs) k s = ⊎_elim (λ z. omega arith) (λ r. omega (arith, starts_from (i + length g) gs k r)) s

lone_groups : (i : ℕ) (gs : List (List ℕ)) → All SoundGroup gs → ((k : ℕ) → cseg (drop k (flatten gs)) ≡ true → StartsAt i gs (i + k)) → All Lone gs
unfolding flatten
lone_groups i [] h o = tt
lone_groups i (g ∷ gs) h o = (record { group = h.0; only = λ k. not_so _ (inner k) }, lone_groups (i + length g) gs h.1 later)
  where
    inner : (k : ℕ) → cseg (drop (suc k) g) ≡ true → ⊥
    inner k e =
        ⊎_elim (λ z. omega arith) (λ r. let l : length g ≤ suc k = omega (arith, starts_from (i + length g) gs (i + suc k) r) in no_cseg (rw (drop_of_length-le g l) at e))
        (o (suc k) (cseg_more_at (suc k) g (flatten gs) e))

    later : (k : ℕ) → cseg (drop k (flatten gs)) ≡ true → StartsAt (i + length g) gs (i + length g + k)
    later k e =
        let q : i + (length g + k) ≡ i + length g + k = omega arith in
        ⊎_elim (λ z. absurd (omega (arith, group_some g h.0))) (λ r. rw q at r) (o (length g + k) (rw drop-append-add e))

pub body_groups : (gs : List (List ℕ)) → GroupsBody gs → All Lone gs
body_groups gs b = lone_groups 0 gs b.groups (λ k e. rw zero-add (b.only k e))

-- ---- and back

groups_only : (i : ℕ) (gs : List (List ℕ)) → All Lone gs → (k : ℕ) → cseg (drop k (flatten gs)) ≡ true → StartsAt i gs (i + k)
unfolding flatten
groups_only i [] h k e = absurd (no_cseg (rw drop-nil at e))
groups_only i (g ∷ gs) h k e = go (dec_lt k (length g)) (groups_only (i + length g) gs h.1)
  where
    here : (j : ℕ) → cseg (drop j g) ≡ true → (i + j ≡ i) ⊎ StartsAt (i + length g) gs (i + j)
    here zero c = inl (add-zero i)
    here (suc j) c = absurd (no_true (h.0.only j) c)

    go : Dec (k < length g) → ((j : ℕ) → cseg (drop j (flatten gs)) ≡ true → StartsAt (i + length g) gs (i + length g + j)) → (i + k ≡ i) ⊎ StartsAt (i + length g) gs (i + k)
    go (yes l) more = here k (opens_apart g (flatten gs) (groups_open gs h.1) k l e)
    go (no l) more =
        let q : length g + (k - length g) ≡ k = omega arith in
        let z : i + length g + (k - length g) ≡ i + k = omega arith in
        inr (rw z at (more (k - length g) (rw drop-append-add at (rw (← q) at e))))

pub groups_body : (gs : List (List ℕ)) → All Lone gs → GroupsBody gs
groups_body gs h = record { groups = all_so Lone SoundGroup (λ g l. l.group) gs h; only = λ k e. rw zero-add at (groups_only 0 gs h k e) }

-- ---- new bytes

-- a CSEG whose letters all stand in xs stands there without ys
pub none_apart : (xs ys : List ℕ) → NoneCompleted xs ys → Apart xs ys
unfolding cseg tagged tag_at
none_apart xs ys n k h e =
    let f : 4 ≤ length (drop k xs) = rw length-drop (omega (arith, n k h e)) in
    rw (drop-append-le k xs ys (omega arith), take-append-le 4 (drop k xs) ys f) at e

-- .. and where CSEG stands there are four bytes
pub apart_none : (xs ys : List ℕ) → Apart xs ys → NoneCompleted xs ys
apart_none xs ys a k h e = omega (arith, ap length (cseg_is (drop k xs) (a k h e)), length-drop k xs)
