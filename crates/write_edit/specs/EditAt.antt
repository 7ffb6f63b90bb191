-- An edit once the record of the source channel is found (document 01, "Numbers of refusal": after the body; document 02, §4 and §6).
use Rattle.std.specs.Prelude.{ℕ, ◌+◌, ◌≡◌, cond, not, List, ltb, eqb, get_or}
use Rattle.layout.specs.declared.answer.Answered.{Answered}
use Rattle.layout.specs.declared.edition.Edition.{Edition}
use Rattle.layout.specs.declared.lock.Override.{Override}
use Rattle.layout.specs.declared.record.Record.{Record}
use Rattle.layout.specs.Refusals.{out_of_range, bad_number, other_edition, read_only}
use Rattle.layout.specs.Answers.{Answer, refused, granted, value_or, answered}
use Rattle.layout.specs.Editions.{held, alike}
use Rattle.layout.specs.Lock.{lock_byte, keeps}
use Rattle.layout.specs.Records.{channel_of, edition_of, file_bytes}
use Rattle.layout.specs.Edit.{replaced, first_edited}

-- the record of an edition whose byte 0 stands at `at`: "an edit's source channel 16", "an edit's record unlike the body's (place 0, before 9)", "22 .. after an edit's 21 and before 9", then 9
unfoldable pub edited_at : List ℕ → Edition → ℕ → ℕ → Record → Override → Answer (List ℕ)
edited_at s e at channel r over =
    cond (not (eqb (channel_of r) channel)) (refused bad_number 0)
    (cond (not (alike e (edition_of r))) (refused other_edition 0)
    (cond (keeps over (get_or s (at + lock_byte) 0)) (refused read_only lock_byte)
    (cond (ltb (first_edited r) (held (edition_of r))) (refused out_of_range (first_edited r))
    (granted (replaced s at (file_bytes r))))))

-- the answer, and the body at exit
pub record EditedAt (before : List ℕ) (e : Edition) (at channel : ℕ) (new : Record) (over : Override) (r : Answered) (after : List ℕ) : Type 0 where
  pub answer : r ≡ answered (edited_at before e at channel new over)
  pub body : after ≡ value_or before (edited_at before e at channel new over)

-- an answer of a number and a place
abbrev pub told : ℕ → ℕ → Answered
told number place = record { number = number; place = place }
