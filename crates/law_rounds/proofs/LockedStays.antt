-- An accepted edit that does not ask to override leaves every locked record as it was: the one record that it changes was not locked.
use Prim.Native.Nat.{ℕ, ◌+◌, ◌<◌}
use mathlib.Core.Path.{◌≡◌, refl, sym, ap, ◌∙◌}
use mathlib.Core.Bool.{Bool, true, false, true≢false}
use mathlib.Core.List.{List}
use native.Mathlib.Omega.{arith}
use lib.Dec.{eqb}
use lib.ListN.{get_or, set}
use lib.Seq.{get_or-set_same, get_or-set_other}
use borrow.Author.Tests.{eq-eqb, eqb-true, eqb-false}
use Rattle.layout.specs.Scan.{Ended}
use Rattle.layout.specs.declared.lock.Override.TheVariants.{NotAsked}
use Rattle.layout.specs.declared.record.Record.{Record}
use Rattle.layout.specs.Answers.{granted}
use Rattle.layout.specs.Group.{Group}
use Rattle.layout.specs.Lock.{locks, keeps}
use Rattle.layout.specs.Body.{body_run, no_group, group_no}
use Rattle.layout.specs.Asked.{standing, row_of, row_in}
use Rattle.layout.specs.Records.{blank}
use Rattle.layout.specs.Edit.{edited}
use Rattle.layout.specs.Write.{Whole}
use Rattle.layout.proofs.Lists.{rows_length, get_d_rows}
use Rattle.law_rounds.specs.Rounds.{Bytes, groups_of, with_record}
use Rattle.law_rounds.proofs.EditGranted.{EditGranted, edit_granted}
use Rattle.law_rounds.proofs.EditRounds.{EditGroups, edit_groups}

fast : (v : ℕ) → v ≡ 1 → keeps NotAsked v ≡ false → ⊥
unfolding keeps locks
fast v h f = true≢false (sym (eq-eqb v 1 h) ∙ f)

module _ (s after : List ℕ) (g channel : ℕ) (new : Record) (b : Bytes s) (w : Whole new) (e : edited s g channel new NotAsked ≡ granted after) (n : ℕ) (run : body_run s ≡ Ended n) (h i : ℕ) (l : h < n)
    (lock : get_or s ((row_of (standing s h) i).at + 10) 0 ≡ 1) where
  q : EditGranted s after g channel new NotAsked (standing s g)
  q = edit_granted s after g channel new NotAsked e

  x : EditGroups s after g channel new n
  x = edit_groups s after g channel new NotAsked b w e n run

  abbrev row : ℕ
  row = row_in s (standing s g) channel

  abbrev put : Group
  put = with_record (group_no s g) row new

  after_is : group_no after h ≡ get_or (set (groups_of s n) g put) h no_group
  after_is = sym (get_d_rows (group_no after) no_group n h l) ∙ ap (λ (y : List Group). get_or y h no_group) x.groups

  other_group : (h ≡ g → ⊥) → group_no after h ≡ group_no s h
  other_group f = after_is ∙ (get_or-set_other (groups_of s n) g h put no_group f ∙ get_d_rows (group_no s) no_group n h l)

  same_group : h ≡ g → group_no after h ≡ put
  same_group f = after_is ∙ (ap (λ (y : ℕ). get_or (set (groups_of s n) g put) y no_group) f ∙ get_or-set_same (groups_of s n) g put no_group (omega (arith, rows_length {A = Group} (group_no s) 0 n, f, l)))

  pub locked_stays : get_or (group_no after h).records i blank ≡ get_or (group_no s h).records i blank
  locked_stays = go (eqb h g) refl (eqb i row) refl
    where
      go : (d : Bool) → eqb h g ≡ d → (f : Bool) → eqb i row ≡ f → get_or (group_no after h).records i blank ≡ get_or (group_no s h).records i blank
      go false t f u = ap (λ (y : Group). get_or y.records i blank) (other_group (eqb-false h g t))
      go true t true u =
          let k = eqb-true h g t in
          let j = eqb-true i row u in
          absurd (fast _ (rw (k, j) at lock) q.free)
      go true t false u =
          let k = eqb-true h g t in
          ap (λ (y : Group). get_or y.records i blank) (same_group k) ∙ (get_or-set_other (group_no s g).records row i _ blank (eqb-false i row u) ∙ ap (λ (y : ℕ). get_or (group_no s y).records i blank) (sym k))
