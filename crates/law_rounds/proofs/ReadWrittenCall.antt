-- Read then written, at the calls: the text that is shown and the records that are filled in make the group again, so what is written is its bytes.
use Prim.Native.Nat.{ℕ, ◌≤◌}
use mathlib.Core.Path.{◌≡◌, sym, ap, ◌∙◌}
use mathlib.Core.List.{List}
use lib.ListN.{length}
use Rattle.layout.specs.declared.record.Record.{Record}
use Rattle.layout.specs.declared.answer.Counted.{Counted}
use Rattle.layout.specs.declared.answer.Measured.{Measured}
use Rattle.layout.specs.Answers.{granted}
use Rattle.layout.specs.Body.{group_no}
use Rattle.layout.specs.Asked.{records_read}
use Rattle.layout.specs.Write.{group_bytes, group_from, written}
use Rattle.layout.specs.Promises.{TextShown, RecordsRead, GroupWritten}
use Rattle.law_rounds.specs.Rounds.{Bytes}
use Rattle.law_rounds.specs.Calls.{size_of_group, WrittenBack}
use Rattle.law_rounds.proofs.Writing.{may_written}
use Rattle.law_rounds.proofs.Lent.{buffer_answer, buffer_size, buffer_bytes, buffer_kept, table_granted, table_records, table_within}
use Rattle.law_rounds.proofs.ReadGroup.{RecordsGranted, records_granted, text_shown, text_own, own_allowed, own_size, own_bytes}

module _ (s : List ℕ) (g : ℕ) (before filled : List Record) (r : Counted) (b : Bytes s) (p : RecordsRead s g before r filled)
    (text : List ℕ) (t : TextShown s g text) (out after : List ℕ) (m : Measured) (w : GroupWritten text filled r.count out m after) (room : size_of_group s g ≤ length out) where
  module _ (rs : List Record) (e : records_read s g (length before) ≡ granted rs) (q : RecordsGranted s g (length before) rs) where
    -- the bytes of the group
    abbrev own : List ℕ
    own = group_bytes (group_no s g)

    -- the group that the caller now has
    again : group_from text filled r.count ≡ group_no s g
    again =
        let words : text ≡ (group_no s g).text = text_shown s g q.n q.accepted q.there text t ∙ text_own s g q.n q.accepted q.there b in
        let rows = table_records s g before r filled p rs e ∙ q.own in
        λ i. record { text = words i; records = rows i }

    size : length own ≡ size_of_group s g
    size = own_size s g q.n q.accepted q.there b

    writes : written text filled r.count (length out) ≡ granted own
    writes =
        may_written text filled r.count (length out) own
        (record {
          within = table_within s g before r filled p rs e;
          allowed = rw again (own_allowed s g q.n q.accepted q.there b);
          bytes = ap group_bytes (sym again);
          fits = rw size room;
        })

    back : WrittenBack s g out m after
    back =
        let answer = buffer_answer text filled r.count out m after w own writes in
        record {
          accepts = ap (λ (y : Measured). y.number) answer;
          place = ap (λ (y : Measured). y.place) answer;
          size = buffer_size text filled r.count out m after w own writes ∙ size;
          bytes = buffer_bytes text filled r.count out m after w own writes ∙ own_bytes s g q.n q.accepted q.there b;
          kept = buffer_kept text filled r.count out m after w own writes;
        }

  pub read_written_call : r.number ≡ 0 → WrittenBack s g out m after
  read_written_call z =
      let x = table_granted s g before r filled p z in
      back x.0 x.1 (records_granted s g (length before) x.0 x.1)
