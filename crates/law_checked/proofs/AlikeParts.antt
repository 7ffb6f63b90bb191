-- Byte strings that are alike outside some bytes are so from a place on, and so are the payloads of two groups whose lengths are the same.
use Prim.Native.Nat.{ℕ, ◌+◌, ◌-◌, ◌≤◌, ◌<◌, min}
use mathlib.Core.Path.{◌≡◌, sym, ap, ◌∙◌}
use mathlib.Core.List.{List}
use native.Mathlib.Omega.{arith}
use native.Mathlib.Decide.{dec_lt}
use lib.ListN.{get_or, take, drop, length-take, length-drop, get_or-eq_default}
use lib.Seq.{get_or-take, get_or-drop}
use Rattle.layout.specs.Bytes.{word}
use Rattle.layout.specs.Group.{payload}
use Rattle.law_checked.specs.Alike.{Outside, ahead, behind, AlikeOutside}

moved_on : (a at n k : ℕ) → Outside at n k → Outside (a + at) n (a + k)
moved_on a at n k (ahead h) = ahead (omega arith)
moved_on a at n k (behind h) = behind (omega arith)

pub alike_drop : (s t : List ℕ) (a at n : ℕ) → AlikeOutside s t (a + at) n → AlikeOutside (drop a s) (drop a t) at n
alike_drop s t a at n h =
    record {
      long = length-drop a s ∙ ap (λ x. x - a) h.long ∙ sym (length-drop a t);
      same = λ k o. get_or-drop a s k 0 ∙ h.same (a + k) (moved_on a at n k o) ∙ sym (get_or-drop a t k 0);
    }

pub alike_take : (s t : List ℕ) (w at n : ℕ) → AlikeOutside s t at n → AlikeOutside (take w s) (take w t) at n
alike_take s t w at n h = record { long = length-take w s ∙ ap (min w) h.long ∙ sym (length-take w t); same = λ k o. byte k o (dec_lt k w) }
  where
    past_end : (b : List ℕ) (k : ℕ) → w ≤ k → get_or (take w b) k 0 ≡ 0
    past_end b k l = get_or-eq_default (take w b) 0 (omega (arith, length-take w b))

    byte : (k : ℕ) → Outside at n k → Dec (k < w) → get_or (take w s) k 0 ≡ get_or (take w t) k 0
    byte k o (yes l) = get_or-take w s k 0 l ∙ h.same k o ∙ sym (get_or-take w t k 0 l)
    byte k o (no l) = past_end s k (omega arith) ∙ sym (past_end t k (omega arith))

pub alike_payload : (p q : List ℕ) (at n : ℕ) → word p 4 ≡ word q 4 → AlikeOutside p q (8 + at) n → AlikeOutside (payload p) (payload q) at n
unfolding payload
alike_payload p q at n w h = rw w (alike_take (drop 8 p) (drop 8 q) (word q 4) at n (alike_drop p q 8 at n h))
