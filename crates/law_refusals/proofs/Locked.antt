-- Read only: the edit and the screen beside those of before document 02, §6.
use Prim.Native.Nat.{ℕ, ◌<◌}
use mathlib.Core.Path.{◌≡◌, refl, sym, ap, subst, ◌∙◌}
use mathlib.Core.Logic.{inl, inr, ◌↔◌}
use mathlib.Core.Bool.{Bool, true, false, cond, not, ◌&&◌, true≢false}
use mathlib.Core.List.{List}
use native.Mathlib.Omega.{arith}
use lib.Dec.{ltb, leb, eqb}
use borrow.Author.Tests.{eq-eqb, ne_eqb, eqb-true, eqb-false, lt-leb, leb-false, not-true, not-false}
use Rattle.layout.proofs.Editions.{alike_is}
use Rattle.law_refusals.proofs.Reached.{alike_so}
use Rattle.layout.specs.declared.answer.Standing.{Standing}
use Rattle.layout.specs.declared.lock.Override.TheVariants.{NotAsked, Asked}
use Rattle.layout.specs.declared.record.Record.{Record}
use Rattle.layout.specs.Scan.{Run}
use Rattle.layout.specs.Scan.{Ended}
use Rattle.layout.specs.Answers.{Answer, refused, granted, number_of, after_run}
use Rattle.layout.specs.Editions.{held, alike}
use Rattle.layout.specs.Lock.{locks, keeps}
use Rattle.layout.specs.Records.{channel_of, edition_of, file_bytes}
use Rattle.layout.specs.Body.{body_run}
use Rattle.layout.specs.Asked.{Whereabouts, standing, row_of, row_in, of_group, of_channel}
use Rattle.layout.specs.Group.{ctab_of}
use Rattle.layout.specs.Edit.{replaced, first_edited, edited}
use Rattle.layout.specs.Screen.{field_set}
use Rattle.layout.proofs.Seen.{ctab_seen}
use Rattle.law_refusals.specs.After.{HasChannel, lock_in, EditAsked, edit_of_channel, other_source, other_edition_given, read_only_given, new_byte}
use Rattle.law_refusals.specs.Records.{FieldRefused, index_out, field_locked, value_out}
use Rattle.law_refusals.specs.Before.{edited_before, field_set_before, GoesOn}
use Rattle.law_refusals.proofs.Told.{AnswerTold}
use Rattle.law_refusals.proofs.Above.{channel_not_locked}
use Rattle.law_refusals.proofs.Asked.{edit_asked}
use Rattle.law_refusals.proofs.Records.{field_told}
use Rattle.law_refusals.proofs.AskedExact.{channel_so}
use Rattle.law_refusals.proofs.Bodies.{has_groups}
use Rattle.std.specs.Prelude.{Ok, Err}

-- ---- two questions of one record answer alike where they answer alike of the record that is there

after_same : {A : Type 0} (r : Run) (f h : ℕ → Answer A) → ((n : ℕ) → r ≡ Ended n → f n ≡ h n) → after_run r f ≡ after_run r h
unfolding after_run
after_same (Err why) f h same = refl
after_same (Ok n) f h same = same n refl

cond_same : {A : Type 0} (b : Bool) (t u v : A) → (b ≡ false → u ≡ v) → cond b t u ≡ cond b t v
cond_same true t u v same = refl
cond_same false t u v same = same refl

cond_out : {A : Type 0} (b : Bool) (t u : A) → (b ≡ true → ⊥) → cond b t u ≡ u
cond_out true t u never = absurd (never refl)
cond_out false t u never = refl

channel_same : {A : Type 0} (s : List ℕ) (g channel : ℕ) (ask other : Whereabouts → Answer A)
    → (HasChannel s g channel → ask (row_of (standing s g) (row_in s (standing s g) channel)) ≡ other (row_of (standing s g) (row_in s (standing s g) channel)))
    → of_group s g (of_channel s (standing s g) channel ask) ≡ of_group s g (of_channel s (standing s g) channel other)
unfolding of_group of_channel row_in
channel_same s g channel ask other same =
    let x : Standing = standing s g in
    let i : ℕ = ctab_of x.edition s x.ctabs x.records channel in
    after_same (body_run s) _ _ (λ n run.
    cond_same (leb n g) (refused 16 0) _ _ (λ there.
    cond_same (leb x.records i) (refused 15 0) _ _ (λ its.
    let l = leb-false x.records i its in
    same (record { group = record { count = n; groups = has_groups s n run; there = leb-false n g there }; row = i; within = l; source = ctab_seen x.edition s x.ctabs x.records channel l }))))

-- ---- an edit

module _ (s : List ℕ) (g channel : ℕ) (new : Record) where
  -- with override it is the edit of before
  pub overridden : edited s g channel new Asked ≡ edited_before s g channel new
  unfolding edited edited_before keeps
  overridden = refl

  held_fast : (v : ℕ) → v ≡ 1 → keeps NotAsked v ≡ true
  unfolding keeps locks
  held_fast v h = eq-eqb v 1 h

  is_fast : (v : ℕ) → keeps NotAsked v ≡ true → v ≡ 1
  unfolding keeps locks
  is_fast v h = eqb-true v 1 h

  -- acceptance and 9 stand behind 16 and 21
  behind : {A : Type 0} (b c : Bool) (x : Answer A) → GoesOn (cond b (refused 16 0) (cond c (refused 21 0) x)) → cond b (refused 16 0) (cond c (refused 21 0) (cond true (refused 22 10) x)) ≡ refused 22 10
  unfolding number_of
  behind true c x (inl h) = absurd (omega (arith, h))
  behind true c x (inr h) = absurd (omega (arith, h))
  behind false true x (inl h) = absurd (omega (arith, h))
  behind false true x (inr h) = absurd (omega (arith, h))
  behind false false x h = refl

  goes_on : {A : Type 0} (b : Bool) (k : ℕ) (y : A) → GoesOn (cond b (refused 9 k) (granted y))
  unfolding number_of
  goes_on true k y = inr refl
  goes_on false k y = inl refl

  locked_answers : HasChannel s g channel → lock_in s g channel ≡ 1 → GoesOn (edited_before s g channel new) → edited s g channel new NotAsked ≡ refused 22 10
  unfolding edited edited_before
  locked_answers has lock on =
      channel_so s g channel _ has ∙ rw (held_fast (lock_in s g channel) lock) (behind (not (eqb (channel_of new) channel)) (not (alike (standing s g).edition (edition_of new))) _ (rw (channel_so s g channel _ has) at on))

  passed : {A : Type 0} (b c : Bool) (x : Answer A) → b ≡ false → c ≡ false → GoesOn x → GoesOn (cond b (refused 16 0) (cond c (refused 21 0) x))
  passed b c x f h on = rw (f, h) on

  went_on : HasChannel s g channel → channel_of new ≡ channel → (standing s g).edition ≡ edition_of new → GoesOn (edited_before s g channel new)
  unfolding edited_before
  went_on has source like =
      subst GoesOn (sym (channel_so s g channel _ has))
      (passed (not (eqb (channel_of new) channel)) (not (alike (standing s g).edition (edition_of new))) _ (ap not (eq-eqb (channel_of new) channel source)) (ap not (alike_so (standing s g).edition (edition_of new) like))
      (goes_on (ltb (first_edited new) (held (edition_of new))) (first_edited new) (replaced s (row_of (standing s g) (row_in s (standing s g) channel)).at (file_bytes new))))

  abbrev Locked : Type 0
  Locked = HasChannel s g channel × ((lock_in s g channel ≡ 1) × GoesOn (edited_before s g channel new))

  told_locked : (number place : ℕ) → EditAsked s g channel new NotAsked number place → number ≡ 22 → Locked
  told_locked _ _ (edit_of_channel number place h) z = absurd (channel_not_locked s g channel number place h z)
  told_locked _ _ (other_source h f) z = absurd (omega (arith, z))
  told_locked _ _ (other_edition_given h e f) z = absurd (omega (arith, z))
  told_locked _ _ (read_only_given h e q v) z = (h, (is_fast (lock_in s g channel) v, went_on h e q))
  told_locked _ _ (new_byte k h e q v f) z = absurd (omega (arith, z))

  -- without it, 22 at 10 exactly where the edit of before would have gone on and the record is locked in the body ..
  pub locked_exactly : (edited s g channel new NotAsked ≡ refused 22 10) ↔ Locked
  locked_exactly = (
    λ e. told_locked 22 10 (subst (AnswerTold (EditAsked s g channel new NotAsked)) e (edit_asked s g channel new NotAsked)) refl,
    λ l. locked_answers l.0 l.1.0 l.1.1,
  )

  -- .. and else the edit of before
  pub locked_else : (Locked → ⊥) → edited s g channel new NotAsked ≡ edited_before s g channel new
  unfolding edited edited_before
  locked_else never =
      channel_same s g channel _ _ (λ has.
      cond_same (not (eqb (channel_of new) channel)) (refused 16 0) _ _ (λ source.
      cond_same (not (alike (standing s g).edition (edition_of new))) (refused 21 0) _ _ (λ like.
      cond_out (keeps NotAsked (lock_in s g channel)) (refused 22 10) _ (λ kept.
      never (has, (is_fast (lock_in s g channel) kept, went_on has (eqb-true _ _ (not-false _ source)) (alike_is _ _ (not-false _ like))))))))

-- ---- the screen

both : (a b : Bool) → a && b ≡ true → (a ≡ true) × (b ≡ true)
both true b h = (refl, h)
both false b h = absurd (true≢false (sym h))

module _ (r : Record) (index value : ℕ) where
  abbrev Pressed : Type 0
  Pressed = (index < held (edition_of r)) × ((index ≡ 10 → ⊥) × (r.locked ≡ 1))

  pressed : index < held (edition_of r) → not (eqb index 10) && locks r.locked ≡ true → Pressed
  unfolding locks
  pressed l v = let b = both (not (eqb index 10)) (eqb r.locked 1) v in (l, (eqb-false index 10 (not-true _ b.0), eqb-true r.locked 1 b.1))

  told_pressed : (number place : ℕ) → FieldRefused r index value number place → number ≡ 22 → Pressed
  told_pressed _ _ (index_out l) z = absurd (omega (arith, z))
  told_pressed _ _ (field_locked l v) z = pressed l v
  told_pressed _ _ (value_out l v e) z = absurd (omega (arith, z))

  press_answers : Pressed → field_set r index value ≡ refused 22 10
  unfolding field_set locks
  press_answers p = rw (lt-leb (held (edition_of r)) index p.0, ne_eqb index 10 p.1.0, eq-eqb r.locked 1 p.1.1)

  -- 22 at 10 exactly where the index is one of the record's, not 10, and its byte 10 is 01 ..
  pub screen_exactly : (field_set r index value ≡ refused 22 10) ↔ Pressed
  screen_exactly = (λ e. told_pressed 22 10 (subst (AnswerTold (FieldRefused r index value)) e (field_told r index value)) refl, press_answers)

  -- .. and else the screen of before
  pub screen_else : (Pressed → ⊥) → field_set r index value ≡ field_set_before r index value
  unfolding field_set field_set_before
  screen_else never =
      cond_same (leb (held (edition_of r)) index) (refused 16 0) _ _ (λ within.
      cond_out (not (eqb index 10) && locks r.locked) (refused 22 10) _ (λ kept. never (pressed (leb-false _ _ within) kept)))
