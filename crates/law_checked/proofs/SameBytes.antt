-- Bytes that two byte strings have in common from a place on: so the number, the tag and the part that stand there are the same in both.
use Prim.Native.Nat.{ℕ, zero, suc, ◌+◌, ◌-◌, ◌≤◌, ◌<◌, min}
use mathlib.Core.Path.{◌≡◌, refl, sym, ap, ◌∙◌}
use mathlib.Core.List.{List}
use native.Mathlib.Omega.{arith}
use lib.ListN.{length, get_or, take, drop, length-take, length-drop}
use lib.Seq.{get_or-take, get_or-drop, ext_get_or}
use Rattle.layout.specs.Lists.{same}
use Rattle.layout.specs.Bytes.{number, word, tag_at, tagged}
use Rattle.law_checked.specs.Alike.{Outside, ahead, behind, AlikeOutside}

-- the w bytes from a on are the same in s and in t
abbrev pub SameBytes : List ℕ → List ℕ → ℕ → ℕ → Type 0
SameBytes s t a w = (k : ℕ) → k < w → get_or s (a + k) 0 ≡ get_or t (a + k) 0

module _ (s t : List ℕ) (a : ℕ) where
  pub same_number : (w : ℕ) → SameBytes s t a w → number s a w ≡ number t a w
  unfolding number
  same_number zero h = refl
  same_number (suc w) h = rw (same_number w (λ k l. h k (omega arith)), h w (omega arith))

  pub same_word : SameBytes s t a 4 → word s a ≡ word t a
  unfolding word
  same_word h = same_number 4 h

  module _ (long : length s ≡ length t) where
    pub same_part : (w : ℕ) → SameBytes s t a w → take w (drop a s) ≡ take w (drop a t)
    same_part w h =
        ext_get_or 0 (take w (drop a s)) (take w (drop a t))
        (length-take w (drop a s) ∙ ap (min w) (length-drop a s ∙ ap (λ x. x - a) long ∙ sym (length-drop a t)) ∙ sym (length-take w (drop a t)))
        (λ i l. byte i (omega (arith, length-take w (drop a s))))
      where
        byte : (i : ℕ) → i < w → get_or (take w (drop a s)) i 0 ≡ get_or (take w (drop a t)) i 0
        byte i l = get_or-take w (drop a s) i 0 l ∙ get_or-drop a s i 0 ∙ h i l ∙ sym (get_or-take w (drop a t) i 0 l ∙ get_or-drop a t i 0)

    pub same_rest : ((k : ℕ) → get_or s (a + k) 0 ≡ get_or t (a + k) 0) → drop a s ≡ drop a t
    same_rest h =
        ext_get_or 0 (drop a s) (drop a t) (omega (arith, length-drop a s, length-drop a t)) (λ i l. get_or-drop a s i 0 ∙ h i ∙ sym (get_or-drop a t i 0))

    pub same_tag : SameBytes s t a 4 → tag_at s a ≡ tag_at t a
    unfolding tag_at
    same_tag h = same_part 4 h

    pub same_tagged : (tag : List ℕ) → SameBytes s t a 4 → tagged s a tag ≡ tagged t a tag
    unfolding tagged
    same_tagged tag h = ap (λ (x : List ℕ). same x tag) (same_tag h)

-- ---- a stretch that is clear of n bytes at a place

-- the w bytes from a on end before the n bytes at `at`, or begin behind them
pub data Clear (at n a w : ℕ) : Type 0 where
  short_of : a + w ≤ at → Clear at n a w
  past : at + n ≤ a → Clear at n a w

outside : (at n a w : ℕ) → Clear at n a w → (k : ℕ) → k < w → Outside at n (a + k)
outside at n a w (short_of h) k l = ahead (omega arith)
outside at n a w (past h) k l = behind (omega arith)

pub clear_same : (s t : List ℕ) (at n a w : ℕ) → AlikeOutside s t at n → Clear at n a w → SameBytes s t a w
clear_same s t at n a w h c k l = h.same (a + k) (outside at n a w c k l)
