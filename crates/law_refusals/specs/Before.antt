-- The edit and the screen as they were before document 02, §6, when "byte 10 stops nothing": what is said of read only is said by them.
use Rattle.std.specs.Prelude.{ℕ, ◌≡◌, ◌⊎◌, cond, not, List, ltb, leb, eqb, set}
use Rattle.layout.specs.declared.record.Record.{Record}
use Rattle.layout.specs.Refusals.{accepted, out_of_range, bad_number, other_edition}
use Rattle.layout.specs.Answers.{Answer, refused, granted, number_of}
use Rattle.layout.specs.Editions.{held, alike}
use Rattle.layout.specs.Ranges.{out_of, rule_at}
use Rattle.layout.specs.Records.{bytes_of, record_of, channel_of, edition_of, second_in, position_in, file_bytes}
use Rattle.layout.specs.Asked.{of_record}
use Rattle.layout.specs.Edit.{replaced, first_edited}

unfoldable pub edited_before : List ℕ → ℕ → ℕ → Record → Answer (List ℕ)
edited_before s g channel r =
    of_record s g channel (λ row.
    cond (not (eqb (channel_of r) channel)) (refused bad_number 0)
    (cond (not (alike row.edition (edition_of r))) (refused other_edition 0)
    (cond (ltb (first_edited r) (held (edition_of r))) (refused out_of_range (first_edited r))
    (granted (replaced s row.at (file_bytes r))))))

unfoldable pub field_set_before : Record → ℕ → ℕ → Answer Record
field_set_before r index value =
    cond (leb (held (edition_of r)) index) (refused bad_number 0)
    (cond (out_of (edition_of r) index (rule_at (bytes_of r) 0 index) value) (refused out_of_range index)
    (granted (record_of (edition_of r) (set (bytes_of r) index value) (second_in r) (position_in r))))

-- it would have been accepted, or refused with 9
abbrev pub GoesOn : {A : Type 0} → Answer A → Type 0
GoesOn a = (number_of a ≡ accepted) ⊎ (number_of a ≡ out_of_range)
