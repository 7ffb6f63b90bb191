-- The Ctabs of a group: those before stand as they should, so each way out of a turn has the condition of its row.
use Prim.Native.Nat.{ℕ, ◌+◌, ◌≤◌, ◌<◌}
use mathlib.Core.Path.{◌≡◌, refl, sym, ◌∙◌}
use mathlib.Core.Bool.{Bool, true, false, cond, not, ◌&&◌, ◌||◌, true≢false, false≢true}
use mathlib.Core.List.{List}
use native.Mathlib.Omega.{arith}
use native.Mathlib.Decide.{dec_lt}
use lib.Dec.{ltb, leb, eqb}
use lib.ListN.{length, get_or, take, drop}
use borrow.Author.Tests.{ltb-true, ltb-false, leb-true, eqb-true, eqb-false, not-true, not-false}
use Rattle.layout.specs.Scan.{first}
use Rattle.layout.specs.Scan.{Refused, More, Done}
use Rattle.layout.specs.Scan.{Ended}
use Rattle.layout.specs.Bytes.{word, tag_at, tagged, Sdec, Cntt}
use Rattle.layout.specs.declared.edition.Edition.{Edition}
use Rattle.layout.specs.Editions.{tag_of, size}
use Rattle.layout.specs.Ranges.{out_at, first_out}
use Rattle.layout.specs.Sdec.{sound_text}
use Rattle.layout.specs.Group.{head_fault, ctabs_over, ctab_channel, ctab_of, ctab_at, ctab_turn, ctabs_of}
use Rattle.layout.proofs.Scans.{first_passed}
use Rattle.layout.proofs.Runs.{run_ended}
use Rattle.layout.proofs.Seen.{ctab_seen, ctab_unseen}
use Rattle.layout.proofs.Ctabs.{over_end, over_tag, CtabMore, turn_more, ctab_fits, ctabs_fit}
use Rattle.layout.proofs.Choices.{either}
use Rattle.law_refusals.specs.Heads.{Headed}
use Rattle.law_refusals.specs.Contents.{ctab_tag, CtabInRange, CtabStands, CtabsBefore, CtabRefused, ctab_head, ctab_size, ctab_byte, ctab_again}
use Rattle.law_refusals.proofs.Told.{TurnTold, RunTold, run_told, tag_there, tag_other}
use Rattle.law_refusals.proofs.Heads.{head_told, headed, first_such}

module _ (ed : Edition) (c : List ℕ) (sdec : Headed c 0 Sdec) (text : sound_text (take (word c 4) (drop 8 c)) ≡ true) where
  abbrev Kept : ℕ → Type 0
  Kept n = (ctab_tag ed c n ≤ length c) × CtabsBefore ed c n

  start : Kept 0
  start = (omega (arith, sdec.within), record { sdec = sdec; text = text; ctabs = λ i h. absurd (omega arith) })

  ranged : (n : ℕ) → Headed c (ctab_tag ed c n) (tag_of ed) → word c (ctab_tag ed c n + 4) ≡ size ed → size ed ≤ first_out ed c (ctab_tag ed c n + 8) (size ed) → CtabInRange ed c n
  unfolding first_out
  ranged n head long all = record { head = head; length = long; inside = λ k l. first_passed (out_at ed c (ctab_tag ed c n + 8)) (size ed) k (omega arith) }

  stands : (n : ℕ) → CtabMore ed c (8 + word c 4) n (ctab_tag ed c n) → CtabStands ed c n
  unfolding ctab_channel
  stands n more =
      record {
        ctab = ranged n (headed c (ctab_tag ed c n) (tag_of ed) more.head) more.length more.inside;
        apart = ctab_unseen ed c (8 + word c 4) n (get_or c (ctab_tag ed c n + 8) 0) (ltb-false _ _ more.fresh);
      }

  next : (n : ℕ) → Kept n → ctab_turn ed c (8 + word c 4) n ≡ More → Kept (n + 1)
  next n held m =
      let more = turn_more ed c (8 + word c 4) n m in (
        omega (arith, ctab_fits ed c (8 + word c 4) n (ctab_tag ed c n) more),
        record { sdec = sdec; text = text; ctabs = λ i h. go i more (dec_lt i n) h },
      )
    where
      go : (i : ℕ) → CtabMore ed c (8 + word c 4) n (ctab_tag ed c n) → Dec (i < n) → i < n + 1 → CtabStands ed c i
      go i more (yes a) h = held.1.ctabs i a
      go i more (no a) h = let q : i ≡ n = omega arith in rw q (stands n more)

  -- a child after the Ctabs that is not the end, and no Cntt
  more_there : (at : ℕ) → at ≤ length c → ctabs_over c at ≡ false → (at < length c) × (at + 8 ≤ length c → tag_at c at ≡ Cntt → ⊥)
  more_there at l o =
      let n : at ≡ length c → ⊥ = λ e. true≢false (sym (over_end c at e) ∙ o) in
      (omega arith, λ h. tag_other c at Cntt (sym (over_tag c at n h) ∙ o))

  turn_told : (n : ℕ) → Kept n → TurnTold (CtabRefused ed c) (ctab_turn ed c (8 + word c 4) n)
  unfolding ctab_turn ctab_at first_out ctab_channel
  turn_told n held =
      let p : ℕ = 8 + word c 4 in
      let at : ℕ = ctab_tag ed c n in
      let T = TurnTold (CtabRefused ed c) in
      let b = held.1 in
      either T (ctabs_over c at) _ _ (λ o. tt) (λ o.
      let there = more_there at held.0 o in
      either T (not (eqb (head_fault c at (tag_of ed)) 0)) _ _ (λ f. ctab_head n (head_fault c at (tag_of ed)) b there.0 there.1 (head_told c at (tag_of ed) (not-true _ f))) (λ f.
      let h = headed c at (tag_of ed) (eqb-true _ _ (not-false _ f)) in
      either T (not (eqb (word c (at + 4)) (size ed))) _ _ (λ g. ctab_size n b h (eqb-false _ _ (not-true _ g))) (λ g.
      let long = eqb-true (word c (at + 4)) (size ed) (not-false _ g) in
      let test : ℕ → Bool = out_at ed c (at + 8) in
      either T (ltb (first test 0 (size ed)) (size ed)) _ _ (λ i. ctab_byte n (first test 0 (size ed)) b h long (first_such test (size ed) (ltb-true _ _ i))) (λ i.
      either T (ltb (ctab_of ed c p n (get_or c (at + 8) 0)) n) _ _
      (λ j. let k = ltb-true _ _ j in ctab_again (ctab_of ed c p n (get_or c (at + 8) 0)) n b (ranged n h long (ltb-false _ _ i)) k (ctab_seen ed c p n (get_or c (at + 8) 0) k))
      (λ j. tt)))))

  pub ctabs_told : RunTold (CtabRefused ed c) (ctabs_of ed c (8 + word c 4))
  unfolding ctabs_of
  ctabs_told = run_told (CtabRefused ed c) (ctab_turn ed c (8 + word c 4)) Kept next (length c + 1) (λ n l held. turn_told n held) start

  -- n Ctabs that end: the group's end follows, or a Cntt
  over_is : (at : ℕ) → at < length c → ctabs_over c at ≡ true → (at + 8 ≤ length c) × (tag_at c at ≡ Cntt)
  unfolding ctabs_over
  over_is at l o = go (eqb at (length c)) (leb (at + 8) (length c)) (tagged c at Cntt) refl refl refl o
    where
      go : (a b d : Bool) → eqb at (length c) ≡ a → leb (at + 8) (length c) ≡ b → tagged c at Cntt ≡ d → a || (b && d) ≡ true → (at + 8 ≤ length c) × (tag_at c at ≡ Cntt)
      go true b d e g f q = absurd (omega (arith, eqb-true at (length c) e))
      go false true true e g f q = (leb-true _ _ g, tag_there c at Cntt f)
      go false true false e g f q = absurd (false≢true q)
      go false false d e g f q = absurd (false≢true q)

  turn_over : (n : ℕ) → ctab_turn ed c (8 + word c 4) n ≡ Done → ctabs_over c (ctab_tag ed c n) ≡ true
  unfolding ctab_turn ctab_at
  turn_over n m =
      go (ctabs_over c at) (eqb (head_fault c at (tag_of ed)) 0) (eqb (word c (at + 4)) (size ed)) (ltb (first_out ed c (at + 8) (size ed)) (size ed))
      (ltb (ctab_of ed c (8 + word c 4) n (get_or c (at + 8) 0)) n) refl m
    where
      at : ℕ
      at = ctab_tag ed c n

      go : (a b d e f : Bool) → ctabs_over c at ≡ a
          → cond a Done (cond (not b) (Refused (head_fault c at (tag_of ed)) at) (cond (not d) (Refused 7 at) (cond e (Refused 9 (at + 8 + first_out ed c (at + 8) (size ed))) (cond f (Refused 10 at) More)))) ≡ Done
          → ctabs_over c at ≡ true
      go true b d e f h q = h
      go false false d e f h q = absurd (let z : ◌≡◌ {A = ℕ} 0 1 = cc in omega arith)
      go false true false e f h q = absurd (let z : ◌≡◌ {A = ℕ} 0 1 = cc in omega arith)
      go false true true true f h q = absurd (let z : ◌≡◌ {A = ℕ} 0 1 = cc in omega arith)
      go false true true false true h q = absurd (let z : ◌≡◌ {A = ℕ} 0 1 = cc in omega arith)
      go false true true false false h q = absurd (let z : ◌≡◌ {A = ℕ} 0 1 = cc in omega arith)

  pub ctabs_end : (n : ℕ) → ctabs_of ed c (8 + word c 4) ≡ Ended n → Kept n × (ctab_tag ed c n < length c → (ctab_tag ed c n + 8 ≤ length c) × (tag_at c (ctab_tag ed c n) ≡ Cntt))
  unfolding ctabs_of
  ctabs_end n e =
      let r = run_ended (ctab_turn ed c (8 + word c 4)) Kept next (length c + 1) n start e in
      (r.0, λ l. over_is (ctab_tag ed c n) l (turn_over n (ctabs_fit ed c (8 + word c 4) n (omega (arith, sdec.within)) e).1))
