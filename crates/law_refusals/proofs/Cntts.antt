-- The Cntts of a group: those before stand as they should, so each way out of a turn has the condition of its row.
use Prim.Native.Nat.{ℕ, ◌+◌, ◌≤◌, ◌<◌}
use mathlib.Core.Path.{◌≡◌, refl}
use mathlib.Core.Bool.{not}
use mathlib.Core.List.{List}
use native.Mathlib.Omega.{arith}
use native.Mathlib.Decide.{dec_lt}
use lib.Dec.{ltb, leb, eqb}
use lib.ListN.{length, get_or}
use borrow.Author.Tests.{ltb-true, ltb-false, leb-true, eqb-true, eqb-false, not-true, not-false}
use Rattle.layout.specs.Scan.{More}
use Rattle.layout.specs.Bytes.{word, tag_at, Cntt}
use Rattle.layout.specs.declared.edition.Edition.TheVariants.{First}
use Rattle.layout.specs.Ranges.{out_of, cntt_value}
use Rattle.layout.specs.Group.{head_fault, ctab_of, cntt_channel, cntt_of, cntt_fault, cntt_at, cntt_turn, cntts_of}
use Rattle.layout.proofs.Seen.{ctab_seen, ctab_unseen, cntt_seen, cntt_unseen}
use Rattle.layout.proofs.Cntts.{channel_in_lem, no_fault, CnttMore, cntt_turn_more, cntt_fits}
use Rattle.layout.proofs.Choices.{either}
use Rattle.law_refusals.specs.Contents.{ctab_tag, cntt_tag, cntt_source, OfEdition, CtabsBefore, CnttInRange, CnttStands, CnttsBefore}
use Rattle.law_refusals.specs.Contents.{ContentsRefused, cntt_head, cntt_size, cntt_channel_given, cntt_value_given, cntt_again, cntt_stray}
use Rattle.law_refusals.proofs.Told.{TurnTold, RunTold, run_told}
use Rattle.law_refusals.proofs.Heads.{head_told, headed}

module _ (c : List ℕ) (n : ℕ) (own : OfEdition c First) (ctabs : CtabsBefore First c n) (over : ctab_tag First c n < length c → (ctab_tag First c n + 8 ≤ length c) × (tag_at c (ctab_tag First c n) ≡ Cntt)) (within : ctab_tag First c n ≤ length c) where
  -- where the Ctabs begin, and where the Cntts do
  abbrev p : ℕ
  p = 8 + word c 4

  abbrev q : ℕ
  q = ctab_tag First c n

  abbrev Kept : ℕ → Type 0
  Kept j = (cntt_tag c n j ≤ length c) × CnttsBefore c n j

  start : Kept 0
  start = (omega arith, record { first = own; ctabs = ctabs; over = over; cntts = λ i h. absurd (omega arith) })

  stands : (j : ℕ) → CnttMore c p n q j (cntt_tag c n j) → CnttStands c n j
  unfolding cntt_channel
  stands j more =
      let channel : ℕ = get_or c (cntt_tag c n j + 8) 0 in
      let o = no_fault c p n q j channel more.fault in
      record {
        cntt =
            record {
              head = headed c (cntt_tag c n j) Cntt more.head;
              size = more.size;
              channel = channel_in_lem channel (omega (arith, more.channel));
              value = more.value;
            };
        apart = cntt_unseen c q j channel o.0;
        home = (ctab_of First c p n channel, (o.1, ctab_seen First c p n channel o.1));
      }

  next : (j : ℕ) → Kept j → cntt_turn c p n q j ≡ More → Kept (j + 1)
  next j held m =
      let more = cntt_turn_more c p n q j m in
      (omega (arith, cntt_fits c p n q j (cntt_tag c n j) more), record { first = own; ctabs = ctabs; over = over; cntts = λ i h. go i more (dec_lt i j) h })
    where
      go : (i : ℕ) → CnttMore c p n q j (cntt_tag c n j) → Dec (i < j) → i < j + 1 → CnttStands c n i
      go i more (yes a) h = held.1.cntts i a
      go i more (no a) h = let z : i ≡ j = omega arith in rw z (stands j more)

  fault_told : (j : ℕ) → CnttsBefore c n j → CnttInRange c n j → (cntt_fault c p n q j (cntt_source c n j) ≡ 0 → ⊥)
      → ContentsRefused c (cntt_fault c p n q j (cntt_source c n j)) (cntt_tag c n j)
  unfolding cntt_fault
  fault_told j before whole =
      let channel : ℕ = cntt_source c n j in
      let T : ℕ → Type 0 = λ f. (f ≡ 0 → ⊥) → ContentsRefused c f (cntt_tag c n j) in
      let home : ℕ = ctab_of First c p n channel in
      either T (ltb (cntt_of c q j channel) j) _ _
      (λ e z. let l = ltb-true _ _ e in cntt_again (cntt_of c q j channel) n j before whole l (cntt_seen c q j channel l)) (λ e.
      either T (leb n home) _ _ (λ f z. cntt_stray n j before whole (cntt_unseen c q j channel (ltb-false _ _ e)) (ctab_unseen First c p n channel (leb-true _ _ f))) (λ f z. absurd (z refl)))

  turn_told : (j : ℕ) → Kept j → TurnTold (ContentsRefused c) (cntt_turn c p n q j)
  unfolding cntt_turn cntt_at cntt_channel
  turn_told j held =
      let at : ℕ = cntt_tag c n j in
      let T = TurnTold (ContentsRefused c) in
      let b = held.1 in
      either T (eqb at (length c)) _ _ (λ o. tt) (λ o.
      either T (not (eqb (head_fault c at Cntt) 0)) _ _
      (λ f. cntt_head n j (head_fault c at Cntt) b (omega (arith, held.0, eqb-false at (length c) o)) (head_told c at Cntt (not-true _ f))) (λ f.
      let h = headed c at Cntt (eqb-true _ _ (not-false _ f)) in
      either T (not (eqb (word c (at + 4)) 2)) _ _ (λ g. cntt_size n j b h (eqb-false _ _ (not-true _ g))) (λ g.
      let size = eqb-true (word c (at + 4)) 2 (not-false _ g) in
      either T (out_of First 0 0 (get_or c (at + 8) 0)) _ _ (λ i. cntt_channel_given n j b h size i) (λ i.
      either T (not (cntt_value (get_or c (at + 9) 0))) _ _ (λ k. cntt_value_given n j b h size i (not-true _ k)) (λ k.
      either T (not (eqb (cntt_fault c p n q j (get_or c (at + 8) 0)) 0)) _ _
      (λ m. fault_told j b (record { head = h; size = size; channel = i; value = not-false _ k }) (eqb-false _ _ (not-true _ m)))
      (λ m. tt))))))

  pub cntts_told : RunTold (ContentsRefused c) (cntts_of c p n)
  unfolding cntts_of
  cntts_told = run_told (ContentsRefused c) (cntt_turn c p n q) Kept next (length c + 1) (λ j l held. turn_told j held) start
