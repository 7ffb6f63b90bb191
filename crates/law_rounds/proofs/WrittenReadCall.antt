-- Written then read, at the calls: the bytes that were written are those of a group that may be written, and alone they are a body of that one group.
use Prim.Native.Nat.{ℕ, zero, suc, ◌≤◌, ◌<◌}
use mathlib.Core.Path.{◌≡◌, refl, sym, ap, ◌∙◌}
use mathlib.Core.List.{List, [], ◌∷◌, ◌++◌, append-nil, flat_map}
use native.Mathlib.Omega.{arith}
use lib.ListN.{length, get_or, take, drop}
use Rattle.layout.specs.Scan.{Ended}
use Rattle.layout.specs.declared.record.Record.{Record}
use Rattle.layout.specs.declared.answer.Counted.{Counted}
use Rattle.layout.specs.declared.answer.Measured.{Measured}
use Rattle.layout.specs.Lists.{rows}
use Rattle.layout.specs.Bytes.{CSEG}
use Rattle.layout.specs.Answers.{granted, number_of, place_of, value_or, after_run, counted}
use Rattle.layout.specs.Group.{Group}
use Rattle.layout.specs.Body.{group_place, text_at, body_run, body_read, no_group, group_no}
use Rattle.layout.specs.Asked.{records_read}
use Rattle.layout.specs.Write.{payload_bytes, group_bytes, first_edition, Allowed, group_from}
use Rattle.layout.specs.Promises.{RecordsRead, GroupWritten}
use Rattle.law_rounds.specs.Rounds.{BodyAllowed}
use Rattle.law_rounds.specs.Calls.{WholeTable, accepting, ReadBack}
use Rattle.law_rounds.proofs.Chunks.{length_chunk}
use Rattle.law_rounds.proofs.GroupRounds.{payload_short}
use Rattle.law_rounds.proofs.GroupThere.{there_text}
use Rattle.law_rounds.proofs.BodyRounds.{body_run_lem, groups_back}
use Rattle.law_rounds.proofs.Writing.{written_may}
use Rattle.law_rounds.proofs.Lent.{buffer_granted, buffer_bytes, table_answer, table_after}
use Rattle.law_rounds.proofs.ReadGroup.{text_shown, records_given}

-- ---- the bytes of one group as a body

module _ (g : Group) (a : Allowed g) where
  -- a group alone makes a body: it is short enough
  alone : BodyAllowed (g ∷ [])
  unfolding flat_map group_bytes
  alone =
      record {
        each = each;
        few = omega arith;
        editions = one;
        apart = λ i j u v. absurd (omega arith);
        short = let z : length (group_bytes g ++ []) ≡ length (group_bytes g) = ap length (append-nil (group_bytes g)) in
            omega (arith, z, length_chunk CSEG (payload_bytes g) refl, (payload_short g a).1);
      }
    where
      each : (i : ℕ) → i < 1 → Allowed (get_or (g ∷ []) i no_group)
      each zero l = a
      each (suc i) l = absurd (omega arith)

      one : (i j : ℕ) → i < 1 → j < 1 → 0 < length (get_or (g ∷ []) i no_group).records → 0 < length (get_or (g ∷ []) j no_group).records
          → first_edition (get_or (g ∷ []) i no_group).records ≡ first_edition (get_or (g ∷ []) j no_group).records
      one i j u v x y = let z : i ≡ j = omega arith in ap (λ (k : ℕ). first_edition (get_or (g ∷ []) k no_group).records) z

  same : flat_map group_bytes (g ∷ []) ≡ group_bytes g
  unfolding flat_map
  same = append-nil (group_bytes g)

  -- it is accepted ..
  alone_run : body_run (group_bytes g) ≡ Ended 1
  alone_run = rw same at (body_run_lem (g ∷ []) alone)

  -- .. with this group ..
  alone_group : group_no (group_bytes g) 0 ≡ g
  unfolding rows
  alone_group = ap (λ gs. get_or gs 0 no_group) (rw same at (groups_back (g ∷ []) alone))

  -- .. and this text
  alone_text : text_at (group_bytes g) (group_place (group_bytes g) 0) ≡ g.text
  unfolding group_place
  alone_text = there_text (group_bytes g) 0 g [] (sym (append-nil (group_bytes g))) a

  pub read_back : ReadBack (group_bytes g) g.text g.records
  unfolding body_read after_run counted number_of place_of value_or
  read_back =
      record {
        one = λ r h. h ∙ rw (alone_run, after_run);
        shown = λ part h. text_shown (group_bytes g) 0 1 alone_run (omega arith) part h ∙ alone_text;
        filled = filled;
      }
    where
      given : (room : ℕ) → length g.records ≤ room → records_read (group_bytes g) 0 room ≡ granted g.records
      given room h = rw alone_group at (records_given (group_bytes g) 0 1 alone_run (omega arith) room (rw alone_group h))

      filled : (before after : List Record) (r : Counted) → length g.records ≤ length before → RecordsRead (group_bytes g) 0 before r after
          → (r ≡ accepting (length g.records)) × (after ≡ g.records ++ drop (length g.records) before)
      filled before after r h p =
          let e = given (length before) h in
          (table_answer (group_bytes g) 0 before r after p g.records e, table_after (group_bytes g) 0 before r after p g.records e)

-- ---- at the calls

pub written_read_call : (text : List ℕ) (table : List Record) (count : ℕ) (before after : List ℕ) (r : Measured) → WholeTable (take count table)
    → GroupWritten text table count before r after → r.number ≡ 0 → ReadBack (take r.length after) text (take count table)
written_read_call text table count before after r whole w z =
    let x = buffer_granted text table count before r after w z in
    let h = written_may text table count (length before) x.0 whole x.1 in
    let is : take r.length after ≡ group_bytes (group_from text table count) = buffer_bytes text table count before r after w x.0 x.1 ∙ h.bytes in
    rw is (read_back (group_from text table count) h.allowed)
