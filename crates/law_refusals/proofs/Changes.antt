-- The calls that write, edit and list: what is told of the answer is told of the number and place that the caller has in hand.
use Prim.Native.Nat.{ℕ, ◌≤◌}
use mathlib.Core.Path.{◌≡◌, ap}
use mathlib.Core.Logic.{◌↔◌}
use mathlib.Core.Bool.{true}
use mathlib.Core.List.{List}
use native.Mathlib.Omega.{arith}
use lib.ListN.{length, take}
use Rattle.layout.specs.declared.lock.Override.{Override}
use Rattle.layout.specs.declared.record.Record.{Record}
use Rattle.layout.specs.declared.answer.Answered.{Answered}
use Rattle.layout.specs.declared.answer.Counted.{Counted}
use Rattle.layout.specs.declared.answer.Measured.{Measured}
use Rattle.layout.specs.declared.answer.Changed.{Changed}
use Rattle.layout.specs.Answers.{answered, counted_all, measured}
use Rattle.layout.specs.Salvage.{salvaged}
use Rattle.layout.specs.Sdec.{sound_text}
use Rattle.layout.specs.Write.{written}
use Rattle.layout.specs.Edit.{edited}
use Rattle.layout.specs.Screen.{field_set, changed}
use Rattle.layout.specs.Promises.{GroupWritten, RecordEdited, FieldSet, FieldSetInPlace, Salvaged}
use Rattle.law_refusals.specs.Given.{GivenUnder}
use Rattle.law_refusals.specs.After.{EditAsked}
use Rattle.law_refusals.specs.Records.{RecordsBefore, PositionsRight, WriteRefused, count_over, text_broken, table_edition, table_byte, table_again, positions_wrong, buffer_short, FieldRefused, SalvageRefused}
use Rattle.law_refusals.proofs.Above.{edit_asked_above}
use Rattle.law_refusals.proofs.Above.{write_above, field_above, salvage_above}
use Rattle.law_refusals.proofs.Asked.{edit_asked}
use Rattle.law_refusals.proofs.Records.{field_told, salvage_told}
use Rattle.law_refusals.proofs.Written.{write_told}
use Rattle.law_refusals.proofs.AskedExact.{edit_answers}
use Rattle.law_refusals.proofs.RecordsExact.{write_answers, field_answers, salvage_answers}
use Rattle.law_refusals.proofs.Given.{given}

pub write_given : (text : List ℕ) (table : List Record) (count : ℕ) (before : List ℕ) (r : Measured) (after : List ℕ) → GroupWritten text table count before r after
    → GivenUnder (WriteRefused text table count (length before)) r.number r.place
unfolding measured
write_given text table count before r after p =
    let room : ℕ = length before in
    given (WriteRefused text table count room) (write_above text table count room) (written text table count room) (write_told text table count room) (write_answers text table count room) r.number r.place
    (ap (λ (x : Measured). x.number) p.answer) (ap (λ (x : Measured). x.place) p.answer)

-- 18 is given of no other row
eighteen : (text : List ℕ) (table : List Record) (count room number place : ℕ) → WriteRefused text table count room number place → number ≡ 18
    → (count ≤ length table) × ((sound_text text ≡ true) × (RecordsBefore table count × (PositionsRight (take count table) → ⊥)))
eighteen text table count room _ _ (count_over a) e = absurd (omega arith)
eighteen text table count room _ _ (text_broken a b) e = absurd (omega arith)
eighteen text table count room _ _ (table_edition i a b c d f) e = absurd (omega arith)
eighteen text table count room _ _ (table_byte i k a b c d f g) e = absurd (omega arith)
eighteen text table count room _ _ (table_again j i a b c d f g h m) e = absurd (omega arith)
eighteen text table count room _ _ (positions_wrong a b c d) e = (a, (b, (c, d)))
eighteen text table count room _ _ (buffer_short a b c d f) e = absurd (omega arith)

pub positions_exactly : (text : List ℕ) (table : List Record) (count : ℕ) (before : List ℕ) (r : Measured) (after : List ℕ) → GroupWritten text table count before r after
    → (r.number ≡ 18) ↔ ((count ≤ length table) × ((sound_text text ≡ true) × (RecordsBefore table count × (PositionsRight (take count table) → ⊥))))
positions_exactly text table count before r after p =
    let g = write_given text table count before r after p in
    (λ e. eighteen text table count (length before) r.number r.place (g.only (λ z. absurd (omega arith))) e, λ h. (g.always 18 0 (positions_wrong h.0 h.1.0 h.1.1.0 h.1.1.1)).0)

pub edit_given : (before : List ℕ) (g channel : ℕ) (new : Record) (over : Override) (r : Answered) (after : List ℕ) → RecordEdited before g channel new over r after
    → GivenUnder (EditAsked before g channel new over) r.number r.place
unfolding answered
edit_given before g channel new over r after p =
    given (EditAsked before g channel new over) (edit_asked_above before g channel new over) (edited before g channel new over) (edit_asked before g channel new over) (edit_answers before g channel new over) r.number r.place
    (ap (λ (x : Answered). x.number) p.answer) (ap (λ (x : Answered). x.place) p.answer)

pub field_given : (old : Record) (index value : ℕ) (r : Changed) → FieldSet old index value r → GivenUnder (FieldRefused old index value) r.number r.place
unfolding changed
field_given old index value r p =
    given (FieldRefused old index value) (field_above old index value) (field_set old index value) (field_told old index value) (field_answers old index value) r.number r.place
    (ap (λ (x : Changed). x.number) p) (ap (λ (x : Changed). x.place) p)

pub field_in_place_given : (before : Record) (index value : ℕ) (r : Answered) (after : Record) → FieldSetInPlace before index value r after
    → GivenUnder (FieldRefused before index value) r.number r.place
unfolding answered
field_in_place_given before index value r after p =
    given (FieldRefused before index value) (field_above before index value) (field_set before index value) (field_told before index value) (field_answers before index value) r.number r.place
    (ap (λ (x : Answered). x.number) p.answer) (ap (λ (x : Answered). x.place) p.answer)

pub salvage_given : (s before : List ℕ) (r : Counted) (after : List ℕ) → Salvaged s before r after → GivenUnder (SalvageRefused s (length before)) r.number r.place
unfolding counted_all
salvage_given s before r after p =
    given (SalvageRefused s (length before)) (salvage_above s (length before)) (salvaged s (length before)) (salvage_told s (length before)) (salvage_answers s (length before)) r.number r.place
    (ap (λ (x : Counted). x.number) p.answer) (ap (λ (x : Counted). x.place) p.answer)
