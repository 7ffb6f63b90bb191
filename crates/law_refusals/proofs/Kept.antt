-- On refusal lent memory is as it was.
use Prim.Native.Nat.{ℕ}
use mathlib.Core.Path.{◌≡◌, refl, sym, ap, ◌∙◌}
use mathlib.Core.List.{List, []}
use lib.ListN.{length}
use Rattle.layout.specs.declared.lock.Override.{Override}
use Rattle.layout.specs.declared.record.Record.{Record}
use Rattle.layout.specs.declared.answer.Answered.{Answered}
use Rattle.layout.specs.declared.answer.Counted.{Counted}
use Rattle.layout.specs.declared.answer.Measured.{Measured}
use Rattle.layout.specs.Answers.{Answer, refused, granted, number_of, value_or, retold, lent_after, answered, counted_all, measured}
use Rattle.layout.specs.Asked.{records_read}
use Rattle.layout.specs.Salvage.{Entry, list_numbers, salvaged}
use Rattle.layout.specs.Write.{written}
use Rattle.layout.specs.Edit.{edited}
use Rattle.layout.specs.Screen.{field_set}
use Rattle.layout.specs.Promises.{RecordsRead, GroupWritten, RecordEdited, FieldSetInPlace, Salvaged}

-- ---- an answer whose number is not 0

module _ {A : Type 0} (a : Answer A) (number : ℕ) (e : number ≡ number_of a) (z : number ≡ 0 → ⊥) where
  -- what was asked for is the nothing that is given
  pub none_given : (none : A) → value_or none a ≡ none
  unfolding number_of value_or
  none_given none = go a e
    where
      go : (b : Answer A) → number ≡ number_of b → value_or none b ≡ none
      go (refused k at) f = refl
      go (granted x) f = absurd (z f)

-- lent memory is as it was
pub lent_kept : {A : Type 0} (a : Answer (List A)) (before : List A) (number : ℕ) → number ≡ number_of a → (number ≡ 0 → ⊥) → lent_after a before ≡ before
unfolding number_of lent_after
lent_kept (refused k at) before number e z = refl
lent_kept (granted xs) before number e z = absurd (z e)

-- an answer told in another way has the same number
pub retold_number : {A B : Type 0} (f : A → B) (a : Answer A) → number_of (retold f a) ≡ number_of a
unfolding number_of retold
retold_number f (refused k at) = refl
retold_number f (granted x) = refl

-- ---- lent memory

pub records_kept : (s : List ℕ) (g : ℕ) (before : List Record) (r : Counted) (after : List Record) → RecordsRead s g before r after
    → (r.number ≡ 0 → ⊥) → (after ≡ before) × (r.count ≡ 0)
unfolding counted_all
records_kept s g before r after p z =
    let a : Answer (List Record) = records_read s g (length before) in
    let e : r.number ≡ number_of a = ap (λ (x : Counted). x.number) p.answer in
    (p.table ∙ lent_kept a before r.number e z, ap (λ (x : Counted). x.count) p.answer ∙ ap length (none_given a r.number e z []))

pub buffer_kept : (text : List ℕ) (table : List Record) (count : ℕ) (before : List ℕ) (r : Measured) (after : List ℕ) → GroupWritten text table count before r after
    → (r.number ≡ 0 → ⊥) → (after ≡ before) × (r.length ≡ 0)
unfolding measured
buffer_kept text table count before r after p z =
    let a : Answer (List ℕ) = written text table count (length before) in
    let e : r.number ≡ number_of a = ap (λ (x : Measured). x.number) p.answer in
    (p.buffer ∙ lent_kept a before r.number e z, ap (λ (x : Measured). x.length) p.answer ∙ ap length (none_given a r.number e z []))

pub body_kept : (before : List ℕ) (g channel : ℕ) (new : Record) (over : Override) (r : Answered) (after : List ℕ) → RecordEdited before g channel new over r after
    → (r.number ≡ 0 → ⊥) → after ≡ before
unfolding answered
body_kept before g channel new over r after p z =
    p.body ∙ none_given (edited before g channel new over) r.number (ap (λ (x : Answered). x.number) p.answer) z before

pub record_kept : (before : Record) (index value : ℕ) (r : Answered) (after : Record) → FieldSetInPlace before index value r after
    → (r.number ≡ 0 → ⊥) → after ≡ before
unfolding answered
record_kept before index value r after p z =
    p.held ∙ none_given (field_set before index value) r.number (ap (λ (x : Answered). x.number) p.answer) z before

pub list_kept : (s before : List ℕ) (r : Counted) (after : List ℕ) → Salvaged s before r after → (r.number ≡ 0 → ⊥) → (after ≡ before) × (r.count ≡ 0)
unfolding counted_all
list_kept s before r after p z =
    let a : Answer (List Entry) = salvaged s (length before) in
    let e : r.number ≡ number_of a = ap (λ (x : Counted). x.number) p.answer in (
      p.list ∙ lent_kept (retold list_numbers a) before r.number (e ∙ sym (retold_number list_numbers a)) z,
      ap (λ (x : Counted). x.count) p.answer ∙ ap length (none_given a r.number e z []),
    )
