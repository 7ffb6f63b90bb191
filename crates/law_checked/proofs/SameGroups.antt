-- Two sound groups: of the same payload they are the same group, and of payloads alike outside one record they are the same but for that record.
use Prim.Native.Nat.{ℕ, ◌+◌, ◌<◌}
use mathlib.Core.Path.{◌≡◌, refl, sym, ap, ◌∙◌}
use mathlib.Core.List.{List}
use native.Mathlib.Omega.{arith}
use Rattle.layout.specs.declared.edition.Edition.{Edition}
use Rattle.layout.specs.Group.{Sound}
use Rattle.layout.specs.Editions.{size}
use Rattle.layout.specs.Group.{ctab_place, contents, payload, group_at, group_of}
use Rattle.layout.specs.Body.{group_value}
use Rattle.layout.proofs.GroupSound.{contents_sound_is, group_sound_is}
use Rattle.law_checked.specs.Alike.{AlikeOutside}
use Rattle.law_checked.proofs.SameBytes.{same_word, short_of, clear_same}
use Rattle.law_checked.proofs.SameShape.{same_shape}
use Rattle.law_checked.proofs.ButOne.{ButOne, contents_but_one}
use Rattle.law_checked.proofs.AlikeParts.{alike_payload}

module _ (p q : List ℕ) (e f : Edition) (t n m u n' m' : ℕ) (h : group_at p ≡ Sound e t n m) (h' : group_at q ≡ Sound f u n' m') where
  -- the second by what is known of the first
  by_first : (d : List ℕ) → payload q ≡ d → Sound f u n' m' ≡ Sound e t n m → group_value q (group_at q) ≡ group_of e d t n m
  unfolding group_value
  by_first d x y = ap (group_value q) (h' ∙ y) ∙ ap (λ b. group_of e b t n m) x

  value : group_value p (group_at p) ≡ group_of e (payload p) t n m
  unfolding group_value
  value = ap (group_value p) h

  pub same_payload : payload p ≡ payload q → group_value q (group_at q) ≡ group_value p (group_at p)
  same_payload x =
      let y : Sound f u n' m' ≡ Sound e t n m = sym (group_sound_is q f u n' m' h').inside ∙ ap contents (sym x) ∙ (group_sound_is p e t n m h).inside in
      by_first (payload p) (sym x) y ∙ sym value

  module _ (i : ℕ) (l : i < n) (a : AlikeOutside p q (8 + (ctab_place e (8 + t) i + 8)) (size e)) where
    alike : AlikeOutside (payload p) (payload q) (ctab_place e (8 + t) i + 8) (size e)
    alike =
        alike_payload p q (ctab_place e (8 + t) i + 8) (size e) (same_word p q 4 (clear_same p q (8 + (ctab_place e (8 + t) i + 8)) (size e) 4 4 a (short_of (omega arith)))) a

    pub group_but_one : ButOne (group_value p (group_at p)) (group_value q (group_at q)) i
    group_but_one =
        let c = contents_sound_is (payload p) e t n m (group_sound_is p e t n m h).inside in
        let x = (group_sound_is q f u n' m' h').inside in
        let y : Sound f u n' m' ≡ Sound e t n m = same_shape (payload p) (payload q) e t n m i c alike f u n' m' (contents_sound_is (payload q) f u n' m' x) in
        let d = contents_sound_is (payload q) e t n m (x ∙ y) in
        rw (value, by_first (payload q) refl y) (contents_but_one (payload p) (payload q) e t n m i c d l alike)
