-- Two sound contents that are alike outside one record have one shape: the text's length, the edition, the Ctabs and the Cntts. All headers stand outside the record.
use Prim.Native.Nat.{ℕ, ◌+◌, ◌*◌, ◌<◌}
use mathlib.Core.Path.{◌≡◌, sym, ap, subst, ◌∙◌}
use mathlib.Core.List.{List}
use native.Mathlib.Omega.{arith}
use native.Mathlib.Decide.{dec_lt}
use lib.ListN.{length}
use Rattle.layout.specs.Bytes.{tagged, Cntt}
use Rattle.layout.specs.declared.edition.Edition.{Edition}
use Rattle.layout.specs.declared.edition.Edition.TheVariants.{Second}
use Rattle.layout.specs.Group.{Sound}
use Rattle.layout.specs.Editions.{tag_of, size}
use Rattle.layout.specs.Group.{ctab_place, edition_at}
use Rattle.layout.proofs.Ctabs.{place_before}
use Rattle.layout.proofs.GroupSound.{Contents}
use Rattle.law_checked.specs.Alike.{AlikeOutside}
use Rattle.law_checked.proofs.SameBytes.{SameBytes, same_word, same_tagged, Clear, short_of, past, clear_same}
use Rattle.law_checked.proofs.CtabsOver.{same_ctabs, same_over}

-- every header in the run of Ctabs is clear of the record of Ctab number i
pub ctab_clear : (e : Edition) (p i j : ℕ) → Clear (ctab_place e p i + 8) (size e) (ctab_place e p j) 8
ctab_clear e p i j = go (dec_lt i j) (dec_lt j i)
  where
    go : Dec (i < j) → Dec (j < i) → Clear (ctab_place e p i + 8) (size e) (ctab_place e p j) 8
    go (yes d) x = past (omega (arith, place_before e p i j d))
    go (no d) (yes x) = short_of (omega (arith, place_before e p j i x))
    go (no d) (no x) = let z : j ≡ i = omega arith in rw z (short_of (omega arith))

same_edition_at : (c d : List ℕ) (p : ℕ) → length c ≡ length d → tagged c p (tag_of Second) ≡ tagged d p (tag_of Second) → edition_at c p ≡ edition_at d p
unfolding edition_at
same_edition_at c d p long tag = rw (long, tag)

module _ (c d : List ℕ) (e : Edition) (t n m i : ℕ) (h : Contents c e t n m) (a : AlikeOutside c d (ctab_place e (8 + t) i + 8) (size e)) where
  -- the four bytes of the tag of Ctab number j
  tag_bytes : (j : ℕ) → SameBytes c d (ctab_place e (8 + t) j) 4
  tag_bytes j k l = clear_same c d (ctab_place e (8 + t) i + 8) (size e) (ctab_place e (8 + t) j) 8 a (ctab_clear e (8 + t) i j) k (omega arith)

  module _ (f : Edition) (u n' m' : ℕ) (h' : Contents d f u n' m') where
    same_text : u ≡ t
    same_text = h'.text ∙ sym (h.text ∙ same_word c d 4 (clear_same c d (ctab_place e (8 + t) i + 8) (size e) 4 4 a (short_of (omega arith))))

    same_edition : f ≡ e
    same_edition =
        let z : ctab_place e (8 + t) 0 ≡ 8 + t = omega arith in
        let tag = same_tagged c d (8 + t) a.long (tag_of Second) (rw z at (tag_bytes 0)) in
        sym h'.edition ∙ ap (λ x. edition_at d (8 + x)) same_text ∙ sym (same_edition_at c d (8 + t) a.long tag) ∙ h.edition

  module _ (n' m' : ℕ) (h' : Contents d e t n' m') where
    same_count : n ≡ n'
    same_count =
        same_ctabs e (8 + t) c d n n' (omega (arith, h.cover)) (omega (arith, h'.cover)) h.ctabs h'.ctabs
        (λ j. same_over c d (ctab_place e (8 + t) j) a.long (same_tagged c d (ctab_place e (8 + t) j) a.long Cntt (tag_bytes j)))

    same_cntts : m' ≡ m
    same_cntts = omega (arith, h.cover, h'.cover, a.long, ap (λ x. (8 + size e) * x) same_count)

  pub same_shape : (f : Edition) (u n' m' : ℕ) → Contents d f u n' m' → Sound f u n' m' ≡ Sound e t n m
  same_shape f u n' m' h' =
      let y : f ≡ e = same_edition f u n' m' h' in
      let z : u ≡ t = same_text f u n' m' h' in
      let x : Contents d e t n' m' = subst (λ (o : Edition). Contents d o t n' m') y (rw z at h') in
      rw (y, z, ← same_count n' m' x, same_cntts n' m' x)
