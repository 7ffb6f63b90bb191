-- An edit: one law for each way out.
use Prim.Native.Nat.{ℕ, ◌+◌, ◌-◌, ◌≤◌, ◌<◌}
use mathlib.Core.Path.{◌≡◌, sym, ◌∙◌, ap}
use mathlib.Core.List.{List, ◌++◌}
use mathlib.Core.Bool.{true, false}
use native.Mathlib.Omega.{arith}
use lib.ListN.{length, get_or, take, drop}
use borrow.Author.Tests.{eq-eqb, ne_eqb, lt-ltb, le-ltb}
use borrow.Rule.Slice.PartMut.{mid_of, put_mid}
use Rattle.layout.specs.declared.answer.Answered.{Answered}
use Rattle.layout.specs.declared.edition.Edition.{Edition}
use Rattle.layout.specs.declared.lock.Override.{Override}
use Rattle.layout.specs.declared.record.Record.{Record}
use Rattle.layout.specs.Answers.{refused, granted, number_of, place_of, value_or, answered}
use Rattle.layout.specs.Editions.{size, held, closing, alike}
use Rattle.layout.specs.Lock.{keeps}
use Rattle.layout.specs.Ranges.{out_at, first_out}
use Rattle.layout.specs.Records.{bytes_of, channel_of, edition_of, file_bytes, laid_out}
use Rattle.layout.specs.Asked.{channel_found}
use Rattle.layout.specs.Edit.{replaced, first_edited, edited}
use Rattle.layout.specs.Promises.{RecordEdited}
use Rattle.layout.proofs.Editions.{alike_is, closed_length}
use Rattle.layout.proofs.Outs.{out_take}
use Rattle.layout.proofs.Records.{bytes_length}
use Rattle.layout.proofs.Scans.{first_alike}
use Rattle.read_find.specs.Row.{Refused as No, At}
use Rattle.read_find.specs.Row.{sought}
use Rattle.read_find.proofs.RowLaws.{record_refused, record_there}
use Rattle.write_chunks.proofs.Stored.{held_are, record_stored}
use Rattle.write_chunks.proofs.Tails.{tail_replaced}
use Rattle.write_edit.specs.EditAt.{edited_at, EditedAt, told}

-- ---- the record whose byte 0 stands at a place

-- a record's bytes in the file are as many as its edition's
pub file_length : (r : Record) → length (file_bytes r) ≡ size (edition_of r)
unfolding file_bytes
file_length r = closed_length (edition_of r) (bytes_of r) (bytes_length r)

-- the bytes past those held are not judged
held_out : (e : Edition) (b : List ℕ) (n : ℕ) → first_out e b 0 n ≡ first_out e (take n b) 0 n
unfolding first_out
held_out e b n = first_alike (out_at e b 0) (out_at e (take n b) 0) n (λ i l. sym (out_take e b n i l))

pub own_edition : (e f : Edition) (r : Record) → alike e f ≡ true → f ≡ edition_of r → e ≡ edition_of r
own_edition e f r t h = alike_is e f t ∙ h

module _ (s : List ℕ) (e : Edition) (at channel : ℕ) (r : Record) (over : Override) where
  at_refused : (number place : ℕ) (a : Answered) → a ≡ told number place → edited_at s e at channel r over ≡ refused number place → EditedAt s e at channel r over a s
  unfolding answered number_of place_of value_or
  at_refused number place a q h = record { answer = q ∙ rw h; body = rw h }

  pub at_other : (a : Answered) → a ≡ told 16 0 → (channel_of r ≡ channel → ⊥) → EditedAt s e at channel r over a s
  unfolding edited_at
  at_other a q h = at_refused 16 0 a q (rw (ne_eqb (channel_of r) channel h))

  module _ (h : channel_of r ≡ channel) (f : Edition) (new : f ≡ edition_of r) where
    pub at_unlike : (a : Answered) → a ≡ told 21 0 → alike e f ≡ false → EditedAt s e at channel r over a s
    unfolding edited_at
    at_unlike a q t = at_refused 21 0 a q (rw (eq-eqb (channel_of r) channel h, ← new, t))

    -- the lock as it stands in the body
    pub at_locked : (a : Answered) → a ≡ told 22 10 → alike e f ≡ true → true ≡ keeps over (get_or s (at + 10) 0) → EditedAt s e at channel r over a s
    unfolding edited_at
    at_locked a q t k = at_refused 22 10 a q (rw (eq-eqb (channel_of r) channel h, ← new, t, ← k))

    module _ (t : alike e f ≡ true) (free : false ≡ keeps over (get_or s (at + 10) 0)) (b : List ℕ) (laid : b ≡ laid_out r) (n : ℕ) (many : n ≡ held e) where
      own : e ≡ edition_of r
      own = own_edition e f r t new

      module _ (k : ℕ) (found : k ≡ first_out e b 0 n) where
        out_is : first_edited r ≡ k
        unfolding first_edited
        out_is = sym (found ∙ (held_out e b n ∙ rw (held_are r e b n laid own many, many ∙ ap held own, own)))

        pub at_out : (a : Answered) → a ≡ told 9 k → k < n → EditedAt s e at channel r over a s
        unfolding edited_at
        at_out a q l =
            let z : k < held (edition_of r) = omega (arith, many, ap held own) in
            at_refused 9 k a q (rw (eq-eqb (channel_of r) channel h, ← new, t, new, ← free, out_is, lt-ltb k (held (edition_of r)) z))

        pub at_put : (a : Answered) (ys : List ℕ) → a ≡ told 0 0 → n ≤ k → at ≤ length s → ys ≡ take n b ++ (closing e ++ drop (size e) (mid_of at (length s - at) s)) → EditedAt s e at channel r over a (put_mid at (length s - at) s ys)
        unfolding edited_at answered number_of place_of value_or
        at_put a ys q l w y =
            let z : held (edition_of r) ≤ k = omega (arith, many, ap held own) in
            let granted-is : edited_at s e at channel r over ≡ granted (replaced s at (file_bytes r)) = rw (eq-eqb (channel_of r) channel h, ← new, t, new, ← free, out_is, le-ltb k (held (edition_of r)) z) in
            let stored = record_stored r (take n b) _ ys (held_are r e b n laid own many) (rw own at y) in
            record { answer = q ∙ rw granted-is; body = tail_replaced s (file_bytes r) ys at (size (edition_of r)) w (file_length r) stored ∙ rw granted-is }

-- ---- the record of a group and source channel

module _ (s : List ℕ) (g channel : ℕ) (r : Record) (over : Override) where
  not_edited : (number place : ℕ) (a : Answered) → a ≡ told number place → edited s g channel r over ≡ refused number place → RecordEdited s g channel r over a s
  unfolding answered number_of place_of value_or
  not_edited number place a q e = record { answer = q ∙ rw e; body = rw e }

  pub edit_refused : (number place : ℕ) (a : Answered) → a ≡ told number place → sought (channel_found s g channel) ≡ No number place → RecordEdited s g channel r over a s
  unfolding edited
  edit_refused number place a q h = not_edited number place a q (record_refused s g channel _ number place h)

  pub edit_there : (e : Edition) (i at : ℕ) (a : Answered) (after : List ℕ) → sought (channel_found s g channel) ≡ At e i at → EditedAt s e at channel r over a after → RecordEdited s g channel r over a after
  unfolding edited edited_at
  edit_there e i at a after h w =
      let z : edited s g channel r over ≡ edited_at s e at channel r over = record_there s g channel (λ row. edited_at s row.edition row.at channel r over) e i at h in
      record { answer = w.answer ∙ ap answered (sym z); body = w.body ∙ ap (value_or s) (sym z) }
