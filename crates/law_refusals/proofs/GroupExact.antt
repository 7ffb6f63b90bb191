-- A group is refused wherever the condition of a row holds.
use Prim.Native.Nat.{ℕ, ◌+◌, ◌<◌, ◌≤◌}
use mathlib.Core.Path.{◌≡◌, ◌∙◌}
use mathlib.Core.List.{List}
use native.Mathlib.Omega.{arith}
use lib.ListN.{length, take, drop}
use borrow.Author.Tests.{ne_eqb}
use Rattle.layout.specs.declared.edition.Edition.{Edition}
use Rattle.layout.specs.declared.edition.Edition.TheVariants.{First, Second}
use Rattle.layout.specs.Scan.{Refused}
use Rattle.layout.specs.Scan.{Stopped, Ended}
use Rattle.layout.specs.Group.{Unsound}
use Rattle.layout.specs.Bytes.{word, tag_at, CSEG, Sdec, Cntt}
use Rattle.layout.specs.Group.{ctab_turn, ctabs_of, cntts_of, after_ctabs, contents, payload, behind_header, group_at}
use Rattle.layout.proofs.Groups.{behind_halted, behind_some}
use Rattle.law_refusals.specs.Heads.{HeadRefused}
use Rattle.law_refusals.specs.Contents.{ctab_tag, OfEdition, CtabsBefore, CnttsBefore, CtabRefused, ContentsRefused, sdec_head, sdec_text, of_ctab, ctb2_cntt, ctab_head, ctab_size, ctab_byte, ctab_again, cntt_head, cntt_size, cntt_channel_given, cntt_value_given, cntt_again, cntt_stray}
use Rattle.law_refusals.specs.Body.{GroupRefused, group_head, group_empty, group_contents}
use Rattle.law_refusals.proofs.Above.{head_above}
use Rattle.law_refusals.proofs.Reached.{head_is, head_none}
use Rattle.law_refusals.proofs.TextExact.{text_not}
use Rattle.law_refusals.proofs.CtabsExact.{ctabs_stop, ctabs_over_lem}
use Rattle.law_refusals.proofs.CtabsExact as ctab
use Rattle.law_refusals.proofs.CnttsExact.{cntts_stop, fault_again, fault_stray}
use Rattle.law_refusals.proofs.CnttsExact as cntt

-- a header's number is not 0
some : (s : List ℕ) (at : ℕ) (tag : List ℕ) (number : ℕ) → HeadRefused s at tag number → number ≡ 0 → ⊥
some s at tag number h e = absurd (omega (arith, head_above s at tag number h))

module _ (c : List ℕ) where
  module _ (ed : Edition) (n : ℕ) (own : OfEdition c ed) (b : CtabsBefore ed c n) where
    after_text : contents c ≡ after_ctabs ed c (word c 4) (ctabs_of ed c (8 + word c 4))
    unfolding contents
    after_text = rw (head_none c 0 Sdec b.sdec, b.text, own)

    -- the Ctabs stop ..
    by_turn : (number place : ℕ) → ctab_turn ed c (8 + word c 4) n ≡ Refused number place → contents c ≡ Unsound number place
    unfolding after_ctabs
    by_turn number place t = after_text ∙ rw (ctabs_stop ed c n b number place t, after_ctabs)

    -- .. or are over
    by_ended : (ctab_tag ed c n < length c → (ctab_tag ed c n + 8 ≤ length c) × (tag_at c (ctab_tag ed c n) ≡ Cntt)) → contents c ≡ after_ctabs ed c (word c 4) (Ended n)
    by_ended over = after_text ∙ rw (ctabs_over_lem ed c n b over)

  -- the Cntts stop
  by_cntts : (n j : ℕ) → CnttsBefore c n j → (number place : ℕ) → cntts_of c (8 + word c 4) n ≡ Stopped number place → contents c ≡ Unsound number place
  by_cntts n j b number place e = by_ended First n b.first b.ctabs b.over ∙ behind_halted c (word c 4) n number place e

  ctab_answers : (ed : Edition) → OfEdition c ed → (number place : ℕ) → CtabRefused ed c number place → contents c ≡ Unsound number place
  ctab_answers ed own _ _ (ctab_head n number b l f h) = by_turn ed n own b number _ (ctab.turn_head ed c n number (some c _ _ number h) l f h)
  ctab_answers ed own _ _ (ctab_size n b h f) = by_turn ed n own b 7 _ (ctab.turn_size ed c n h f)
  ctab_answers ed own _ _ (ctab_byte n k b h size f) = by_turn ed n own b 9 _ (ctab.turn_byte ed c n h k size f)
  ctab_answers ed own _ _ (ctab_again i n b w l e) = by_turn ed n own b 10 _ (ctab.turn_again ed c n w i l e)

  pub contents_answers : (number place : ℕ) → ContentsRefused c number place → contents c ≡ Unsound number place
  unfolding contents
  contents_answers _ _ (sdec_head number h) = rw (head_is c 0 Sdec number h, ne_eqb number 0 (some c 0 Sdec number h))
  contents_answers _ _ (sdec_text h t) = rw (head_none c 0 Sdec h, text_not (take (word c 4) (drop 8 c)) t)
  contents_answers _ _ (of_ctab ed number place own h) = ctab_answers ed own number place h
  contents_answers _ _ (ctb2_cntt n own b l t) = by_ended Second n own b (λ h. (l, t)) ∙ behind_some c (word c 4) n (λ e. absurd (omega arith))
  contents_answers _ _ (cntt_head n j number b l h) = by_cntts n j b number _ (cntts_stop c n j b number _ (cntt.turn_head c n j number (some c _ _ number h) l h))
  contents_answers _ _ (cntt_size n j b h f) = by_cntts n j b 7 _ (cntts_stop c n j b 7 _ (cntt.turn_size c n j h f))
  contents_answers _ _ (cntt_channel_given n j b h size e) = by_cntts n j b 9 _ (cntts_stop c n j b 9 _ (cntt.turn_channel c n j h size e))
  contents_answers _ _ (cntt_value_given n j b h size e f) = by_cntts n j b 9 _ (cntts_stop c n j b 9 _ (cntt.turn_value c n j h size e f))
  contents_answers _ _ (cntt_again i n j b w l e) =
      by_cntts n j b 10 _ (cntts_stop c n j b 10 _ (cntt.turn_fault c n j w 10 (λ z. absurd (omega arith)) (fault_again c n j i l e)))
  contents_answers _ _ (cntt_stray n j b w own f) =
      by_cntts n j b 11 _ (cntts_stop c n j b 11 _ (cntt.turn_fault c n j w 11 (λ z. absurd (omega arith)) (fault_stray c n j own f)))

module _ (p : List ℕ) where
  pub group_answers : (number place : ℕ) → GroupRefused p number place → group_at p ≡ Unsound number place
  unfolding group_at behind_header
  group_answers _ _ (group_head number h) = rw (head_is p 0 CSEG number h, ne_eqb number 0 (some p 0 CSEG number h))
  group_answers _ _ (group_empty h e) = rw (head_none p 0 CSEG h, e)
  group_answers _ _ (group_contents number place h f r) =
      rw (head_none p 0 CSEG h, ne_eqb (word p 4) 0 f) (rw (contents_answers (payload p) number place r, behind_header))
