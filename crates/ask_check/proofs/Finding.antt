-- The search in both bodies, one law for each way out of the search for the group.
use Prim.Native.Nat.{ℕ}
use mathlib.Core.Path.{◌≡◌, refl, ap, ◌∙◌}
use Rattle.std.specs.Prelude.{Option, Some, None, Ok, Err}
use Rattle.layout.specs.declared.turn.Refusal.{Refusal}
use Rattle.read_find.specs.declared.Stands.{Stands}
use mathlib.Core.List.{List}
use Rattle.layout.specs.declared.answer.Standing.{Standing}
use Rattle.layout.specs.declared.edition.Edition.{Edition}
use Rattle.layout.specs.Scan.{Run}
use Rattle.layout.specs.Scan.{Stopped, Ended}
use Rattle.layout.specs.Answers.{granted}
use Rattle.layout.specs.Body.{body_run}
use Rattle.layout.specs.Asked.{of_channel, channel_found}
use Rattle.read_find.specs.Find.{Refused, Missing}
use Rattle.read_find.specs.Row.{Sought, Refused as No, At as There-at}
use Rattle.read_find.specs.Find.{group_located}
use Rattle.read_find.specs.Row.{sought}
use Rattle.read_find.proofs.AskLaws.{There, group_there_is, group_stopped, group_ended}
use Rattle.read_find.proofs.RowLaws.{row_missing, row_found}
use Rattle.ask_check.specs.Both.{Both}
use Rattle.ask_check.specs.Both.{Before, After, Without, At}
use Rattle.ask_check.specs.declared.both.NoRecord.TheVariants.{InAfter}
use Rattle.ask_check.specs.Both.{row_told, unless_stopped, both_found}

-- ---- the steps of the search

pub told_without : (x : Sought) (number place : ℕ) → x ≡ No number place → Without number ≡ row_told x
unfolding row_told
told_without x number place h = rw (h, row_told)

pub told_at_lem : (x : Sought) (e : Edition) (i at : ℕ) → x ≡ There-at e i at → At e at ≡ row_told x
unfolding row_told
told_at_lem x e i at h = rw (h, row_told)

pub after_stopped : (r : Run) (found : Both) (number place : ℕ) → r ≡ Stopped number place → After number place ≡ unless_stopped r found
unfolding unless_stopped
after_stopped r found number place h = rw (h, unless_stopped)

pub after_ended : (r : Run) (found : Both) (n : ℕ) → r ≡ Ended n → found ≡ unless_stopped r found
unfolding unless_stopped
after_ended r found n h = rw (h, unless_stopped)

-- ---- the whole

module _ (s t : List ℕ) (g channel : ℕ) where
  abbrev Found : Both
  Found = both_found (body_run s) (body_run t) (channel_found s g channel)

  pub before_refused : (a b : ℕ) → group_located s g ≡ Refused a b → Before a b ≡ Found
  unfolding both_found
  before_refused a b h = rw (group_stopped s g a b h, both_found)

  pub group_missing : group_located s g ≡ Missing → unless_stopped (body_run t) (Without 16) ≡ Found
  unfolding both_found row_told
  group_missing h =
      let r = group_ended s g h in
      rw (r.1.0, both_found) (ap (λ x. unless_stopped (body_run t) (row_told x)) (row_missing s g channel h))

  pub group_found_lem : (x : Standing) → There s g x → (found : Both) (y : Sought) → found ≡ row_told y → y ≡ sought (of_channel s x channel (λ row. granted row)) → unless_stopped (body_run t) found ≡ Found
  unfolding both_found
  group_found_lem x there found y e h =
      rw (there.run, both_found) (ap (unless_stopped (body_run t)) (e ∙ ap row_told (h ∙ row_found s g channel x there)))

  -- the group is there, and the after body's run decides
  there_is : (x : Stands) → group_located s g ≡ Ok (Some x) → unless_stopped (body_run t) (row_told (sought (of_channel s x.standing channel (λ row. granted row)))) ≡ Found
  there_is x h = group_found_lem x.standing (group_there_is s g x.group x.standing h) _ _ refl refl

  pub after_refused : (o : Option Stands) → group_located s g ≡ Ok o → (why : Refusal) → body_run t ≡ Err why → Err (InAfter why) ≡ Found
  after_refused None h why e = after_stopped (body_run t) _ why.number why.place e ∙ group_missing h
  after_refused (Some x) h why e = after_stopped (body_run t) _ why.number why.place e ∙ there_is x h

  pub no_group_there : (n : ℕ) → body_run t ≡ Ended n → group_located s g ≡ Missing → Without 16 ≡ Found
  no_group_there n e h = after_ended (body_run t) (Without 16) n e ∙ group_missing h

  pub row_there_told : (n : ℕ) → body_run t ≡ Ended n → (x : Stands) → group_located s g ≡ Ok (Some x) → (y : Sought) → y ≡ sought (of_channel s x.standing channel (λ row. granted row)) → row_told y ≡ Found
  row_there_told n e x h y is = ap row_told is ∙ (after_ended (body_run t) _ n e ∙ there_is x h)
