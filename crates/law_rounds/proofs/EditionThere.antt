-- The edition of records that were written is read where they begin: the first chunk there is of its tag, and where there is no record nothing stands there.
use Prim.Native.Nat.{ℕ, ◌+◌, ◌≤◌, ◌<◌}
use mathlib.Core.Path.{◌≡◌, refl, sym, ap, ◌∙◌}
use mathlib.Core.Bool.{cond}
use mathlib.Core.List.{List, [], ◌∷◌}
use native.Mathlib.Omega.{arith}
use native.Mathlib.Decide.{dec_lt}
use lib.ListN.{length}
use Rattle.layout.specs.Lists.{same}
use Rattle.layout.specs.Bytes.{tag_at, tagged}
use Rattle.layout.specs.declared.edition.Edition.{Edition}
use Rattle.layout.specs.declared.edition.Edition.TheVariants.{First, Second}
use Rattle.layout.specs.Editions.{tag_of}
use Rattle.layout.specs.declared.record.Record.{Record}
use Rattle.layout.specs.Records.{form_edition}
use Rattle.layout.specs.Group.{ctab_place, edition_at}
use Rattle.layout.specs.Write.{cntts_in, first_edition}
use Rattle.layout.proofs.Same.{same_is}
use Rattle.layout.proofs.Groups.{edition_cut, edition_tagged}
use Rattle.law_rounds.proofs.Chunks.{written_tag, written_fits}
use Rattle.law_rounds.proofs.CtabRounds.{four_bytes}
use Rattle.law_rounds.proofs.RecordsPlaced.{Placed, ctab_there}

by_tag : (e : Edition) → cond (same (tag_of e) (tag_of Second)) Second First ≡ e
unfolding same
by_tag First = refl
by_tag Second = refl

-- where there is no record there is no Cntt, and the edition is the first
pub no_record : (rs : List Record) → length rs ≡ 0 → (first_edition rs ≡ First) × (cntts_in rs ≡ 0)
unfolding first_edition form_edition cntts_in
no_record [] h = (refl, refl)
no_record (r ∷ rs) h = absurd (omega arith)

module _ (e : Edition) (rs : List Record) (c : List ℕ) (p : ℕ) (placed : Placed e rs c p) where
  tag_there : 0 < length rs → (p + 8 ≤ length c) × (tag_at c p ≡ tag_of e)
  unfolding tagged
  tag_there l =
      let z : ctab_place e p 0 ≡ p = omega arith in
      let s = rw z at (ctab_there e rs c p placed 0 l) in
      (omega (arith, written_fits c p (tag_of e) _ _ (four_bytes e) s), same_is (tag_at c p) (tag_of e) (written_tag c p (tag_of e) _ _ (four_bytes e) s))

  pub edition_there : edition_at c p ≡ e
  unfolding tagged
  edition_there = go (dec_lt 0 (length rs))
    where
      go : Dec (0 < length rs) → edition_at c p ≡ e
      go (yes d) =
          let t = tag_there d in
          edition_tagged c p (same (tag_of e) (tag_of Second)) t.0 (ap (λ (x : List ℕ). same x (tag_of Second)) (sym t.1)) ∙ by_tag e
      go (no d) =
          let z : length rs ≡ 0 = omega arith in
          let x = no_record rs z in
          edition_cut c p (omega (arith, placed.cover, x.1, rw z at placed.cover)) ∙ sym x.0 ∙ placed.editions.first
