-- What the setter by value answers is what is answered in place.
use Prim.Native.Nat.{ℕ}
use mathlib.Core.Path.{◌≡◌, ap, ◌∙◌}
use Rattle.layout.specs.declared.record.Record.{Record}
use Rattle.layout.specs.declared.answer.Answered.{Answered}
use Rattle.layout.specs.declared.answer.Changed.{Changed}
use Rattle.layout.specs.Answers.{number_of, place_of, answered}
use Rattle.layout.specs.Screen.{field_set, changed}
use Rattle.layout.specs.Promises.{FieldSet, FieldSetInPlace}

pub set_there : (r : Record) (index value : ℕ) (c : Changed) (a : Answered) → FieldSet r index value c → (a.number ≡ c.number) × (a.place ≡ c.place) → FieldSetInPlace r index value a c.held
unfolding changed answered
set_there r index value c a e f =
    let x = field_set r index value in
    let p : a.number ≡ number_of x = f.0 ∙ ap (λ (y : Changed). y.number) e in
    let q : a.place ≡ place_of x = f.1 ∙ ap (λ (y : Changed). y.place) e in
    record {
      answer = ap (λ (m : ℕ). record { number = m; place = a.place }) p ∙ ap (λ (m : ℕ). record { number = number_of x; place = m }) q;
      held = ap (λ (y : Changed). y.held) e;
    }
