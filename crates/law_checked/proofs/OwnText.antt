-- The text of a group of an accepted body is read where its Sdec stands: what is cut out of the payload is what stands there in the body.
use Prim.Native.Nat.{ℕ, ◌+◌, ◌*◌, ◌≤◌, ◌<◌}
use mathlib.Core.Path.{◌≡◌, sym, ap, ap₂, ◌∙◌}
use mathlib.Core.List.{List}
use native.Mathlib.Omega.{arith}
use lib.ListN.{length, get_or, take, drop, length-take, length-drop}
use lib.Seq.{get_or-take, get_or-drop, drop-drop, ext_get_or}
use Rattle.layout.specs.Bytes.{word}
use Rattle.layout.specs.declared.edition.Edition.{Edition}
use Rattle.layout.specs.Group.{Sound}
use Rattle.layout.specs.Editions.{size}
use Rattle.layout.specs.Group.{payload, group_size, group_at, Group, group_of}
use Rattle.layout.specs.Body.{group_place, text_at, group_value, group_no}
use Rattle.layout.proofs.Numbers.{word_drop}
use Rattle.layout.proofs.GroupSound.{group_sound_is}
use Rattle.layout.proofs.Accepted.{Accepted}

-- a part of a first part is a part of the whole
part_of_part : (l : List ℕ) (w a n : ℕ) → a + n ≤ w → w ≤ length l → take n (drop a (take w l)) ≡ take n (drop a l)
part_of_part l w a n h k =
    ext_get_or 0 (take n (drop a (take w l))) (take n (drop a l))
    (omega (arith, length-take n (drop a (take w l)), length-drop a (take w l), length-take w l, length-take n (drop a l), length-drop a l))
    (λ i b. byte i (omega (arith, length-take n (drop a (take w l)))))
  where
    byte : (i : ℕ) → i < n → get_or (take n (drop a (take w l))) i 0 ≡ get_or (take n (drop a l)) i 0
    byte i b =
        get_or-take n (drop a (take w l)) i 0 b ∙ get_or-drop a (take w l) i 0 ∙ get_or-take w l (a + i) 0 (omega arith) ∙ sym (get_or-take n (drop a l) i 0 b ∙ get_or-drop a l i 0)

module _ (p : List ℕ) (e : Edition) (t n m : ℕ) (h : group_at p ≡ Sound e t n m) where
  text_there : (group_value p (group_at p)).text ≡ take (word p 12) (drop 16 p)
  unfolding group_value group_of payload group_size
  text_there =
      let is = group_sound_is p e t n m h in
      let z : 16 + t + (8 + size e) * n + 10 * m ≡ 8 + word p 4 = sym is.size in
      ap (λ (x : Group). x.text) (ap (group_value p) h)
      ∙ part_of_part (drop 8 p) (word p 4) 8 t (omega arith) (omega (arith, is.within, length-drop 8 p))
      ∙ ap (take t) (drop-drop 8 8 p)
      ∙ ap (λ x. take x (drop 16 p)) is.text

pub own_text : (s : List ℕ) (n : ℕ) → Accepted s n → (k : ℕ) → k < n → text_at s (group_place s k) ≡ (group_no s k).text
unfolding text_at group_no
own_text s n a k l =
    let p : ℕ = group_place s k in
    sym (text_there (drop p s) _ _ _ _ (a.each k l).sound ∙ ap₂ take (word_drop s p 12) (drop-drop 16 p s))
