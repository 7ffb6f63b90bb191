-- Two files with a section at the same place: they are alike outside a record of its body exactly where what surrounds the body is the same
-- and the bodies are alike outside that record.
use Prim.Native.Nat.{ℕ, ◌+◌, ◌-◌, ◌≤◌, ◌<◌}
use mathlib.Core.Path.{◌≡◌, sym, ap, ◌∙◌}
use mathlib.Core.List.{List}
use native.Mathlib.Omega.{arith}
use native.Mathlib.Decide.{dec_lt}
use lib.ListN.{length, get_or, take, drop, length-take, length-drop, get_or-eq_default}
use lib.Seq.{get_or-take, get_or-drop}
use Rattle.layout.specs.Answers.{Span}
use Rattle.layout.specs.Listing.{body_in}
use Rattle.law_checked.specs.Alike.{Outside, ahead, behind, AlikeOutside}
use Rattle.law_checked.proofs.SameBytes.{same_part, same_rest}
use Rattle.law_checked.proofs.AlikeParts.{alike_take, alike_drop}

module _ (file : List ℕ) (x : Span) where
  pub body_length : x.start + 8 + x.size ≤ length file → length (body_in file x) ≡ x.size
  unfolding body_in
  body_length l = omega (arith, length-take x.size (drop (x.start + 8) file), length-drop (x.start + 8) file)

  -- a byte of the body is one of the file
  body_byte : (j : ℕ) → j < x.size → get_or (body_in file x) j 0 ≡ get_or file (x.start + 8 + j) 0
  unfolding body_in
  body_byte j l = get_or-take x.size (drop (x.start + 8) file) j 0 l ∙ get_or-drop (x.start + 8) file j 0

module _ (s t : List ℕ) (x : Span) (at n : ℕ) where
  -- where the body begins and ends
  abbrev begin : ℕ
  begin = x.start + 8

  abbrev end : ℕ
  end = x.start + 8 + x.size

  module _ (alike : AlikeOutside s t (begin + at) n) where
    pub alike_ahead : take begin t ≡ take begin s
    alike_ahead = sym (same_part s t 0 alike.long begin (λ i h. alike.same (0 + i) (ahead (omega arith))))

    pub alike_behind : at + n ≤ x.size → drop end t ≡ drop end s
    alike_behind l = sym (same_rest s t end alike.long (λ i. alike.same (end + i) (behind (omega arith))))

    pub alike_bodies : AlikeOutside (body_in s x) (body_in t x) at n
    unfolding body_in
    alike_bodies = alike_take (drop begin s) (drop begin t) x.size at n (alike_drop s t begin at n alike)

  module _ (fits : end ≤ length s) (again : end ≤ length t) (front : take begin t ≡ take begin s) (rest : drop end t ≡ drop end s) (bodies : AlikeOutside (body_in s x) (body_in t x) at n) where
    pub bodies_alike : AlikeOutside s t (begin + at) n
    bodies_alike = record { long = long; same = λ k o. same k o (dec_lt k begin) (dec_lt k end) }
      where
        long : length s ≡ length t
        long = omega (arith, ap (length {A = ℕ}) rest, length-drop end s, length-drop end t)

        back : (j : ℕ) → Outside (begin + at) n (begin + j) → Outside at n j
        back j (ahead l) = ahead (omega arith)
        back j (behind l) = behind (omega arith)

        same : (k : ℕ) → Outside (begin + at) n k → Dec (k < begin) → Dec (k < end) → get_or s k 0 ≡ get_or t k 0
        same k o (yes l) e = sym (get_or-take begin s k 0 l) ∙ ap (λ (y : List ℕ). get_or y k 0) (sym front) ∙ get_or-take begin t k 0 l
        same k o (no l) (yes h) =
            let j : ℕ = k - begin in
            let z : begin + j ≡ k = omega arith in
            let e : j < x.size = omega arith in
            rw z at (sym (body_byte s x j e) ∙ bodies.same j (back j (rw z o)) ∙ body_byte t x j e)
        same k o (no l) (no h) =
            let j : ℕ = k - end in
            let z : end + j ≡ k = omega arith in
            rw z at (sym (get_or-drop end s j 0) ∙ ap (λ (y : List ℕ). get_or y j 0) (sym rest) ∙ get_or-drop end t j 0)
