-- A refused group: its header, its empty payload, or its contents in their order.
use Prim.Native.Nat.{ℕ, ◌+◌}
use mathlib.Core.Path.{◌≡◌, refl}
use mathlib.Core.Bool.{true, not}
use mathlib.Core.List.{List}
use lib.Dec.{eqb}
use lib.ListN.{length, take, drop}
use native.Mathlib.Omega.{arith}
use borrow.Author.Tests.{eqb-true, eqb-false, not-true, not-false}
use Rattle.layout.specs.declared.edition.Edition.{Edition}
use Rattle.layout.specs.declared.edition.Edition.TheVariants.{First, Second}
use Rattle.layout.specs.Scan.{Run}
use Rattle.layout.specs.Scan.{Ended}
use Rattle.layout.specs.Group.{Judged}
use Rattle.layout.specs.Bytes.{word, CSEG, Sdec}
use Rattle.layout.specs.Sdec.{sound_text}
use Rattle.layout.specs.Group.{head_fault, ctab_place, ctabs_of, cntts_of, after_ctb2s, after_ctabs, after_cntts, edition_at, contents, payload, behind_header, group_at}
use Rattle.layout.proofs.Choices.{either}
use Rattle.law_refusals.specs.Heads.{Headed}
use Rattle.law_refusals.specs.Contents.{OfEdition, CtabRefused, ContentsRefused, sdec_head, sdec_text, of_ctab, ctb2_cntt}
use Rattle.law_refusals.specs.Body.{GroupRefused, group_head, group_empty, group_contents}
use Rattle.law_refusals.proofs.Told.{RunTold, JudgedTold}
use Rattle.law_refusals.proofs.Heads.{head_told, headed}
use Rattle.law_refusals.proofs.Texts.{text_told}
use Rattle.law_refusals.proofs.Ctabs.{ctabs_told, ctabs_end}
use Rattle.law_refusals.proofs.Cntts.{cntts_told}
use Rattle.std.specs.Prelude.{Ok, Err}

module _ (c : List ℕ) where
  cntts_judged : (text n : ℕ) (r : Run) → RunTold (ContentsRefused c) r → JudgedTold (ContentsRefused c) (after_cntts First text n r)
  unfolding after_cntts
  cntts_judged text n (Err why) h = h
  cntts_judged text n (Ok m) h = tt

  module _ (sdec : Headed c 0 Sdec) (text : sound_text (take (word c 4) (drop 8 c)) ≡ true) where
    -- what stands behind n Ctabs: Cntts, or behind Ctb2s nothing, since a Cntt there is refused
    ended_judged : (ed : Edition) → OfEdition c ed → (n : ℕ) → ctabs_of ed c (8 + word c 4) ≡ Ended n → JudgedTold (ContentsRefused c) (after_ctabs ed c (word c 4) (Ended n))
    unfolding after_ctabs after_ctb2s
    ended_judged First own n e =
        let r = ctabs_end First c sdec text n e in
        cntts_judged (word c 4) n (cntts_of c (8 + word c 4) n) (cntts_told c n own r.0.1 r.1 r.0.0)
    ended_judged Second own n e =
        let r = ctabs_end Second c sdec text n e in
        let at : ℕ = ctab_place Second (8 + word c 4) n in
        either (JudgedTold (ContentsRefused c)) (eqb at (length c)) _ _ (λ f. tt) (λ f.
        let there = r.1 (omega (arith, r.0.0, eqb-false at (length c) f)) in
        ctb2_cntt n own r.0.1 there.0 there.1)

    ctabs_judged : (ed : Edition) → OfEdition c ed → (r : Run) → ctabs_of ed c (8 + word c 4) ≡ r → RunTold (CtabRefused ed c) r
        → JudgedTold (ContentsRefused c) (after_ctabs ed c (word c 4) r)
    unfolding after_ctabs
    ctabs_judged ed own (Err why) e h = of_ctab ed why.number why.place own h
    ctabs_judged ed own (Ok n) e h = ended_judged ed own n e

  pub contents_told : JudgedTold (ContentsRefused c) (contents c)
  unfolding contents
  contents_told =
      either (JudgedTold (ContentsRefused c)) (not (eqb (head_fault c 0 Sdec) 0)) _ _ (λ e. sdec_head (head_fault c 0 Sdec) (head_told c 0 Sdec (not-true _ e))) (λ e.
      let h = headed c 0 Sdec (eqb-true _ _ (not-false _ e)) in
      either (JudgedTold (ContentsRefused c)) (not (sound_text (take (word c 4) (drop 8 c)))) _ _ (λ f. sdec_text h (text_told _ (not-true _ f))) (λ f.
      let ed = edition_at c (8 + word c 4) in
      ctabs_judged h (not-false _ f) ed refl (ctabs_of ed c (8 + word c 4)) refl (ctabs_told ed c h (not-false _ f))))

module _ (p : List ℕ) where
  behind_told : Headed p 0 CSEG → (word p 4 ≡ 0 → ⊥) → (r : Judged) → JudgedTold (ContentsRefused (payload p)) r → JudgedTold (GroupRefused p) (behind_header r)
  unfolding behind_header
  behind_told h some (Err why) t = group_contents why.number why.place h some t
  behind_told h some (Ok x) t = tt

  pub group_told : JudgedTold (GroupRefused p) (group_at p)
  unfolding group_at
  group_told =
      either (JudgedTold (GroupRefused p)) (not (eqb (head_fault p 0 CSEG) 0)) _ _ (λ e. group_head (head_fault p 0 CSEG) (head_told p 0 CSEG (not-true _ e))) (λ e.
      let h = headed p 0 CSEG (eqb-true _ _ (not-false _ e)) in
      either (JudgedTold (GroupRefused p)) (eqb (word p 4) 0) _ _ (λ f. group_empty h (eqb-true _ _ f)) (λ f.
      behind_told h (eqb-false _ _ f) (contents (payload p)) (contents_told (payload p))))
