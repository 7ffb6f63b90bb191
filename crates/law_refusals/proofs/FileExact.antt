-- A style file is refused wherever the condition of a row holds: the sections before go on, so the walk comes to the one that does not.
use Prim.Native.Nat.{ℕ, zero, suc, ◌+◌, ◌*◌, ◌≤◌, ◌<◌}
use mathlib.Core.Path.{◌≡◌, refl, sym, ◌∙◌}
use mathlib.Core.Bool.{Bool, true, false, true≢false}
use mathlib.Core.List.{List}
use native.Mathlib.Omega.{arith}
use native.Mathlib.Decide.{dec_lt}
use lib.ListN.{length}
use borrow.Author.Tests.{lt-ltb, le-ltb, le-leb, lt-leb, eq-eqb, ne_eqb}
use Rattle.layout.specs.Scan.{Refused, More, Done}
use Rattle.layout.specs.Bytes.{word, tag_at, CASM}
use Rattle.layout.specs.Answers.{refused, after_run}
use Rattle.layout.specs.Style.{no_style, section_place, section_tagged, section_turn_at, section_turn, sections_run, casm_among, casm_found}
use Rattle.layout.proofs.Scans.{first_is, first_none, first_passed}
use Rattle.read_style.proofs.SectionLaws.{has_tag}
use Rattle.law_refusals.specs.File.{NoStyle, section_tag, SectionsBefore, FileRefused, file_over, not_style_given, section_cut, section_past, tag_again_given, no_casm_given, casm_over}
use Rattle.law_refusals.proofs.Files.{style_none, style_some}
use Rattle.law_refusals.proofs.Reached.{run_reaches, run_comes_to, tagged_so, tagged_not}

module _ (s : List ℕ) where
  style_not : NoStyle s → no_style s ≡ true
  style_not n = go (no_style s) refl
    where
      go : (b : Bool) → no_style s ≡ b → b ≡ true
      go true e = refl
      go false e = absurd (style_some s e n)

  style_so : (NoStyle s → ⊥) → no_style s ≡ false
  style_so f = go (no_style s) refl
    where
      go : (b : Bool) → no_style s ≡ b → b ≡ false
      go true e = absurd (f (style_none s e))
      go false e = refl

  -- sections are fewer than the bytes before them
  many : (k : ℕ) → 22 + 8 * k ≤ section_place s k
  unfolding section_place
  many zero = omega arith
  many (suc k) = omega (arith, many k)

  -- which of n sections has a tag
  tag_first : (n k : ℕ) (tag : List ℕ) → k < n → section_tag s k ≡ tag → ((i : ℕ) → i < k → section_tag s i ≡ tag → ⊥) → section_tagged s n tag ≡ k
  unfolding section_tagged
  tag_first n k tag l e f = first_is (has_tag s tag) n k l (tagged_so s (section_place s k) tag e) (λ i h. tagged_not s (section_place s i) tag (f i h))

  tag_none : (n : ℕ) (tag : List ℕ) → ((i : ℕ) → i < n → section_tag s i ≡ tag → ⊥) → section_tagged s n tag ≡ n
  unfolding section_tagged
  tag_none n tag f = first_none (has_tag s tag) n (λ i h. tagged_not s (section_place s i) tag (f i h))

  -- .. or whether one has
  tag_some : (n k : ℕ) (tag : List ℕ) → k < n → section_tag s k ≡ tag → section_tagged s n tag < n
  unfolding section_tagged
  tag_some n k tag l e = go (dec_lt (section_tagged s n tag) n)
    where
      go : Dec (section_tagged s n tag < n) → section_tagged s n tag < n
      go (yes a) = a
      go (no a) = absurd (true≢false (sym (tagged_so s (section_place s k) tag e) ∙ first_passed (has_tag s tag) n k (omega arith)))

  -- ---- the turns

  module _ (n : ℕ) where
    abbrev at : ℕ
    at = section_place s n

    turn_cut : at < length s → length s < at + 8 → section_turn s n ≡ Refused 2 at
    unfolding section_turn section_turn_at
    turn_cut h l = rw (ne_eqb at (length s) (λ e. absurd (omega arith)), lt-ltb (length s) (at + 8) l)

    turn_past : at + 8 ≤ length s → length s < at + 8 + word s (at + 4) → section_turn s n ≡ Refused 2 at
    unfolding section_turn section_turn_at
    turn_past h l = rw (ne_eqb at (length s) (λ e. absurd (omega arith)), le-ltb (length s) (at + 8) h, lt-ltb (length s) (at + 8 + word s (at + 4)) l)

    module _ (w : at + 8 + word s (at + 4) ≤ length s) where
      turn_again : section_tagged s n (tag_at s at) < n → section_turn s n ≡ Refused 4 at
      unfolding section_turn section_turn_at
      turn_again h =
          rw (
            ne_eqb at (length s) (λ e. absurd (omega arith)),
            le-ltb (length s) (at + 8) (omega arith),
            le-ltb (length s) (at + 8 + word s (at + 4)) w,
            lt-ltb (section_tagged s n (tag_at s at)) n h,
          )

      turn_more : section_tagged s n (tag_at s at) ≡ n → section_turn s n ≡ More
      unfolding section_turn section_turn_at
      turn_more h =
          rw (
            ne_eqb at (length s) (λ e. absurd (omega arith)),
            le-ltb (length s) (at + 8) (omega arith),
            le-ltb (length s) (at + 8 + word s (at + 4)) w,
            le-ltb (section_tagged s n (tag_at s at)) n (omega arith),
          )

    turn_end : at ≡ length s → section_turn s n ≡ Done
    unfolding section_turn section_turn_at
    turn_end e = rw (eq-eqb at (length s) e)

  module _ (k : ℕ) (b : SectionsBefore s k) where
    before_more : (i : ℕ) → i < k → section_turn s i ≡ More
    before_more i l = turn_more i (b.within i l) (tag_none i (section_tag s i) (λ j h. b.apart j i h l))

    stopped : (number place : ℕ) → section_place s k ≤ length s → section_turn s k ≡ Refused number place → casm_found s ≡ refused number place
    unfolding sections_run casm_found after_run
    stopped number place l t =
        let r = run_reaches (section_turn s) (length s) k number place (omega (arith, many k)) before_more t in
        rw (le-ltb 1048576 (length s) b.short, style_so b.style, r)

    ended : section_place s k ≡ length s → casm_found s ≡ casm_among s k
    unfolding sections_run casm_found after_run
    ended e =
        let r = run_comes_to (section_turn s) (length s) k (omega (arith, many k)) before_more (turn_end k e) in
        rw (le-ltb 1048576 (length s) b.short, style_so b.style, r)

    among_none : ((i : ℕ) → i < k → section_tag s i ≡ CASM → ⊥) → casm_among s k ≡ refused 5 (length s)
    unfolding casm_among
    among_none f = rw (le-leb k (section_tagged s k CASM) (omega (arith, tag_none k CASM f)))

    among_over : (i : ℕ) → i < k → section_tag s i ≡ CASM → 32768 < word s (section_place s i + 4) → casm_among s k ≡ refused 3 (section_place s i)
    unfolding casm_among
    among_over i l e o =
        let q : section_tagged s k CASM ≡ i = tag_first k i CASM l e (λ j h z. b.apart j i h l (z ∙ sym e)) in
        rw (q, lt-leb k i l, lt-ltb 32768 (word s (section_place s i + 4)) o)

  pub file_answers : (number place : ℕ) → FileRefused s number place → casm_found s ≡ refused number place
  unfolding casm_found
  file_answers _ _ (file_over h) = rw (lt-ltb 1048576 (length s) h)
  file_answers _ _ (not_style_given l n) = rw (le-ltb 1048576 (length s) l, style_not n)
  file_answers _ _ (section_cut k b h l) = stopped k b 2 (section_place s k) (omega arith) (turn_cut k h l)
  file_answers _ _ (section_past k b h l) = stopped k b 2 (section_place s k) (omega arith) (turn_past k h l)
  file_answers _ _ (tag_again_given i k b w l e) = stopped k b 4 (section_place s k) (omega arith) (turn_again k w (tag_some k i (section_tag s k) l e))
  file_answers _ _ (no_casm_given n b e f) = ended n b e ∙ among_none n b f
  file_answers _ _ (casm_over n k b e l c o) = ended n b e ∙ among_over n b k l c o
