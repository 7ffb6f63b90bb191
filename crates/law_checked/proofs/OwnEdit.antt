-- Whatever an edit writes is answered yes: it is read, and is as it was outside the record; and so is a body that was not changed.
use Prim.Native.Nat.{ℕ, ◌+◌, ◌-◌, ◌≤◌, ◌<◌}
use mathlib.Core.Path.{◌≡◌, refl, sym, ap, ◌∙◌, subst}
use mathlib.Core.List.{List, ◌++◌}
use native.Mathlib.Omega.{arith}
use lib.ListN.{length, get_or, take, drop, get_or-append}
use lib.Seq.{get_or-take, get_or-drop, get_or-append-add, length-take-le}
use Rattle.layout.specs.declared.lock.Override.{Override}
use Rattle.layout.specs.declared.record.Record.{Record}
use Rattle.layout.specs.Editions.{size}
use Rattle.layout.specs.Answers.{granted}
use Rattle.layout.specs.Records.{file_bytes}
use Rattle.layout.specs.Write.{Whole}
use Rattle.layout.specs.Edit.{edited, replaced}
use Rattle.layout.specs.Check.{Yes, bodies_checked}
use Rattle.layout.proofs.Replaced.{replaced_length}
use Rattle.law_rounds.specs.Rounds.{Bytes}
use Rattle.law_rounds.proofs.CtabRounds.{length_file}
use Rattle.law_rounds.proofs.EditGranted.{edit_granted}
use Rattle.law_rounds.proofs.EditRounds.{edit_back}
use Rattle.law_checked.specs.Alike.{Outside, ahead, behind, AlikeOutside, BothRead, record_place, record_size}
use Rattle.law_checked.proofs.Alike.{is_yes}
use Rattle.law_checked.proofs.Verdicts.{BodiesRead, read_checked}
use Rattle.law_checked.proofs.Readable.{both_read}
use Rattle.law_checked.proofs.RowWithin.{row_within}

-- ---- bytes put in place of others

module _ (s b : List ℕ) (at : ℕ) (fits : at + length b ≤ length s) where
  kept : (k : ℕ) → Outside at (length b) k → get_or s k 0 ≡ get_or (replaced s at b) k 0
  unfolding replaced
  kept k (ahead l) =
      sym (get_or-append (take at s) (b ++ drop (at + length b) s) 0 k (omega (arith, length-take-le at s (omega arith))) ∙ get_or-take at s k 0 l)
  kept k (behind l) =
      let j : ℕ = k - (at + length b) in
      let y : k ≡ at + length b + j = omega arith in
      let z : k ≡ length (take at s) + (length b + j) = omega (arith, length-take-le at s (omega arith)) in
      ap (λ (i : ℕ). get_or s i 0) y
      ∙ sym (ap (λ (i : ℕ). get_or (take at s ++ (b ++ drop (at + length b) s)) i 0) z
      ∙ (get_or-append-add (take at s) (b ++ drop (at + length b) s) (length b + j) 0
      ∙ (get_or-append-add b (drop (at + length b) s) j 0 ∙ get_or-drop (at + length b) s j 0)))

  alike_replaced : AlikeOutside s (replaced s at b) at (length b)
  alike_replaced = record { long = sym (replaced_length s at b fits); same = kept }

-- ---- an edit

module _ (s after : List ℕ) (g channel : ℕ) (new : Record) (over : Override) (b : Bytes s) (w : Whole new) (e : edited s g channel new over ≡ granted after) where
  pub edit_answered_yes : bodies_checked s after g channel ≡ Yes
  edit_answered_yes =
      let q = edit_granted s after g channel new over e in
      let back = edit_back s after g channel new over b w e in
      let read : BodiesRead s after g channel = record { n = q.n; m = back.n; before = q.accepted; after = back.again; there = q.there; its = q.its } in
      let long : length (file_bytes new) ≡ record_size s g = length_file new ∙ ap size q.like in
      let alike = alike_replaced s (file_bytes new) (record_place s g channel) (omega (arith, long, row_within s after g channel read)) in
      let there = subst (λ (x : List ℕ). AlikeOutside s x (record_place s g channel) (length (file_bytes new))) (sym q.is) alike in
      read_checked s after g channel read ∙ is_yes s after (record_place s g channel) (record_size s g) (subst (λ (n : ℕ). AlikeOutside s after (record_place s g channel) n) long there)

-- ---- an unchanged body

pub unchanged_answered_yes : (s : List ℕ) (g channel : ℕ) → BothRead s s g channel → bodies_checked s s g channel ≡ Yes
unchanged_answered_yes s g channel r =
    read_checked s s g channel (both_read s s g channel r) ∙ is_yes s s (record_place s g channel) (record_size s g) (record { long = refl; same = λ k o. refl })
