-- A field set at the call, by value and in place: where it accepts, that byte alone is new; where it refuses, the record is as it was.
use Prim.Native.Nat.{ℕ}
use mathlib.Core.Path.{◌≡◌, refl, sym, ap, ◌∙◌}
use mathlib.Core.Bool.{Bool, true, false, not, ◌&&◌, true≢false}
use lib.Dec.{leb, eqb}
use lib.ListN.{set}
use borrow.Author.Tests.{eq-eqb, eqb-true, leb-false}
use Rattle.layout.specs.declared.record.Record.{Record}
use Rattle.layout.specs.declared.answer.Answered.{Answered}
use Rattle.layout.specs.declared.answer.Changed.{Changed}
use Rattle.layout.specs.Editions.{held}
use Rattle.layout.specs.Lock.{locks}
use Rattle.layout.specs.Records.{bytes_of, edition_of, second_in, position_in}
use Rattle.layout.specs.Answers.{Answer, refused, granted, number_of, value_or, answered}
use Rattle.layout.specs.Screen.{field_set, changed}
use Rattle.layout.specs.Promises.{FieldSet, FieldSetInPlace}
use Rattle.law_rounds.specs.Calls.{FieldChanged}
use Rattle.law_rounds.proofs.Granted.{if_granted}
use Rattle.law_rounds.proofs.RecordBack.{read_whole, set_is, set_alone}
use Rattle.law_rounds.proofs.Numbered.{accepts_granted, field_numbered}

field_changed : (r after : Record) (index value : ℕ) → field_set r index value ≡ granted after → FieldChanged r index value after
unfolding field_set locks
field_changed r after index value e =
    let a = if_granted (leb (held (edition_of r)) index) 16 0 _ after e in
    let v = if_granted (not (eqb index 10) && locks r.locked) 22 10 _ after a.1 in
    let alone = set_alone r after index value e in
    record {
      within = leb-false (held (edition_of r)) index a.0;
      free = lock_alone (eqb index 10) refl v.0;
      bytes = alone.bytes;
      edition = alone.edition;
      second = alone.second;
      position = alone.position;
      whole = rw (← (set_is r after index value e)) (read_whole (set (bytes_of r) index value) (second_in r) (position_in r) (edition_of r));
    }
  where
    lock_alone : (b : Bool) → eqb index 10 ≡ b → not b && locks r.locked ≡ false → r.locked ≡ 1 → index ≡ 10
    lock_alone true t f h = eqb-true index 10 t
    lock_alone false t f h = absurd (true≢false (sym (eq-eqb r.locked 1 h) ∙ f))

-- what is held after an answer: what was granted, or on refusal what was there
held_after : {A : Type 0} (old now : A) (a : Answer A) (n : ℕ) → n ≡ number_of a → now ≡ value_or old a → (n ≡ 0 → ⊥) → now ≡ old
unfolding number_of value_or
held_after old now (refused number place) n e h z = h
held_after old now (granted x) n e h z = absurd (z e)

module _ (r : Record) (index value n : ℕ) (now : Record) (e : n ≡ number_of (field_set r index value)) (h : now ≡ value_or r (field_set r index value)) where
  field_told : (n ≡ 0 → FieldChanged r index value now) × ((n ≡ 0 → ⊥) → now ≡ r)
  unfolding value_or
  field_told = (accepted, held_after r now (field_set r index value) n e h)
    where
      accepted : n ≡ 0 → FieldChanged r index value now
      accepted z =
          let x = accepts_granted (field_set r index value) (field_numbered r index value) (sym e ∙ z) in
          let is : x.0 ≡ now = sym (rw x.1 at h) in
          field_changed r now index value (x.1 ∙ ap granted is)

pub field_call : (r : Record) (index value : ℕ) (c : Changed) → FieldSet r index value c
    → (c.number ≡ 0 → FieldChanged r index value c.held) × ((c.number ≡ 0 → ⊥) → c.held ≡ r)
unfolding changed
field_call r index value c p = field_told r index value c.number c.held (ap (λ (x : Changed). x.number) p) (ap (λ (x : Changed). x.held) p)

pub field_in_place_call : (before : Record) (index value : ℕ) (a : Answered) (after : Record) → FieldSetInPlace before index value a after
    → (a.number ≡ 0 → FieldChanged before index value after) × ((a.number ≡ 0 → ⊥) → after ≡ before)
unfolding answered
field_in_place_call before index value a after p = field_told before index value a.number after (ap (λ (x : Answered). x.number) p.answer) p.held
