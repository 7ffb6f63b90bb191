-- An edit at the call: what was granted is the body with the bytes of one record replaced, and it is read as the body before but for that record.
use Prim.Native.Nat.{ℕ, ◌+◌, ◌≤◌}
use mathlib.Core.Path.{◌≡◌, sym, ap, ◌∙◌}
use mathlib.Core.List.{List, ◌++◌}
use native.Mathlib.Omega.{arith}
use lib.ListN.{length, take, drop}
use borrow.Author.Tests.{lt-leb}
use Rattle.layout.specs.Editions.{size}
use Rattle.layout.specs.Group.{ctab_place}
use Rattle.layout.specs.declared.lock.Override.{Override}
use Rattle.layout.specs.declared.record.Record.{Record}
use Rattle.layout.specs.declared.answer.Answered.{Answered}
use Rattle.layout.specs.Records.{edition_of, file_bytes}
use Rattle.layout.specs.Answers.{granted, value_or, after_run, answered}
use Rattle.layout.specs.Body.{group_no}
use Rattle.layout.specs.Asked.{standing, row_in, row_of, of_group, of_channel, Whereabouts, channel_found}
use Rattle.layout.specs.Write.{Whole, first_edition}
use Rattle.layout.specs.Edit.{replaced, edited}
use Rattle.layout.specs.Promises.{RecordEdited}
use Rattle.layout.proofs.Accepted.{body_accepted}
use Rattle.law_rounds.specs.Rounds.{Bytes, EditRead}
use Rattle.law_rounds.specs.Calls.{CtabChanged}
use Rattle.law_rounds.proofs.CtabRounds.{length_file}
use Rattle.layout.proofs.Replaced.{replaced_length}
use Rattle.law_rounds.proofs.InRange.{edit_ranged}
use Rattle.law_rounds.proofs.EditedGroup.{group_edited}
use Rattle.law_rounds.proofs.EditGranted.{EditGranted, edit_granted}
use Rattle.law_rounds.proofs.EditPlace.{edit_placed}
use Rattle.law_rounds.proofs.EditRounds.{edit_back}
use Rattle.law_rounds.proofs.Numbered.{accepts_granted, edited_numbered}

module _ (s : List ℕ) (g channel : ℕ) (new : Record) (over : Override) (b : Bytes s) (w : Whole new) (after : List ℕ) (q : EditGranted s after g channel new over (standing s g)) where
  -- the record that is replaced, and where its bytes stand
  abbrev row : Whereabouts
  row = row_of (standing s g) (row_in s (standing s g) channel)

  found : channel_found s g channel ≡ granted row
  unfolding channel_found of_group of_channel after_run
  found = rw (q.accepted, lt-leb q.n g q.there, lt-leb (standing s g).records (row_in s (standing s g) channel) q.its, after_run)

  within : row.at + size (edition_of new) ≤ length s
  within =
      let p = edit_placed s q.n g b (body_accepted s q.n q.accepted) q.there channel q.its in
      let e = group_edited (group_no s g) p.allowed (row_in s (standing s g) channel) p.its new w (edit_ranged new q.ranged) (q.own ∙ sym p.channelled) (q.like ∙ p.edition ∙ p.allowed.editions (row_in s (standing s g) channel) p.its) in
      let at : row.at ≡ ctab_place (first_edition (group_no s g).records) (standing s g).ctabs (row_in s (standing s g) channel) + 8 = ap (λ x. ctab_place x (standing s g).ctabs (row_in s (standing s g) channel) + 8) p.edition in
      omega (arith, at, p.ctabs, p.ends, e.room, length_file new)

  ctab_changed : CtabChanged s g channel new after
  unfolding replaced
  ctab_changed =
      record {
        row = row;
        found = found;
        within = within;
        size = ap length q.is ∙ replaced_length s row.at (file_bytes new) (omega (arith, within, length_file new));
        bytes = q.is ∙ ap (λ n. take row.at s ++ (file_bytes new ++ drop (row.at + n) s)) (length_file new);
      }

-- an accepted edit is granted
pub edit_accepted : (s : List ℕ) (g channel : ℕ) (new : Record) (over : Override) (r : Answered) (after : List ℕ) → RecordEdited s g channel new over r after → r.number ≡ 0 → edited s g channel new over ≡ granted after
unfolding answered value_or
edit_accepted s g channel new over r after p z =
    let x = accepts_granted (edited s g channel new over) (edited_numbered s g channel new over) (sym (ap (λ (a : Answered). a.number) p.answer) ∙ z) in
    let is : x.0 ≡ after = sym (rw x.1 at p.body) in
    x.1 ∙ ap granted is

pub edit_call : (s : List ℕ) (g channel : ℕ) (new : Record) (over : Override) (r : Answered) (after : List ℕ) → Bytes s → Whole new → RecordEdited s g channel new over r after → r.number ≡ 0
    → EditRead s after g channel new × CtabChanged s g channel new after
edit_call s g channel new over r after b w p z =
    let e = edit_accepted s g channel new over r after p z in
    (edit_back s after g channel new over b w e, ctab_changed s g channel new over b w after (edit_granted s after g channel new over e))
