-- A refused style file: along the walk the sections before stand within the file with tags of their own, so each way out has the condition of its row.
use Prim.Native.Nat.{ℕ, ◌+◌, ◌≤◌, ◌<◌}
use mathlib.Core.Path.{◌≡◌, refl}
use mathlib.Core.Bool.{Bool, true, false, cond, not, ◌||◌, true≢false, false≢true}
use mathlib.Core.List.{List}
use native.Mathlib.Omega.{arith}
use native.Mathlib.Decide.{dec_lt}
use lib.Dec.{ltb, leb, eqb}
use lib.ListN.{length}
use borrow.Author.Tests.{ltb-true, ltb-false, leb-true, leb-false, eqb-true, eqb-false}
use Rattle.layout.specs.Scan.{Refused, More, Done}
use Rattle.layout.specs.Scan.{Ended}
use Rattle.layout.specs.Bytes.{word, tag_at, tagged, MThd, MTrk, CASM}
use Rattle.layout.specs.Style.{no_style, section_place, section_tagged, section_turn_at, section_turn, sections_run, casm_among, casm_found}
use Rattle.layout.proofs.Scans.{first_passed, first_stands}
use Rattle.layout.proofs.Runs.{run_ended}
use Rattle.read_style.specs.Walk.{Walked}
use Rattle.read_style.proofs.StyleLaws.{track_within}
use Rattle.read_style.proofs.SectionLaws.{has_tag, SectionMore, section_more, walk_start, walk_next}
use Rattle.layout.proofs.Choices.{either}
use Rattle.law_refusals.specs.File.{NoStyle, short, no_mthd, not_six, no_mtrk, track_past, section_tag, SectionsBefore, FileRefused, file_over, not_style_given, section_cut, section_past, tag_again_given, no_casm_given, casm_over}
use Rattle.law_refusals.proofs.Told.{TurnTold, RunTold, AnswerTold, run_told, after_told, tag_there, tag_other}

-- ---- row 1

module _ (s : List ℕ) where
  pub style_none : no_style s ≡ true → NoStyle s
  unfolding no_style
  style_none e = go (ltb (length s) 22) (tagged s 0 MThd) (eqb (word s 4) 6) (tagged s 14 MTrk) (ltb (length s) (22 + word s 18)) refl refl refl refl refl e
    where
      go : (a b c d f : Bool) → ltb (length s) 22 ≡ a → tagged s 0 MThd ≡ b → eqb (word s 4) 6 ≡ c → tagged s 14 MTrk ≡ d → ltb (length s) (22 + word s 18) ≡ f
          → a || (not b || (not c || (not d || f))) ≡ true → NoStyle s
      go true b c d f h i j k l q = short (ltb-true _ _ h)
      go false false c d f h i j k l q = no_mthd (tag_other s 0 MThd i)
      go false true false d f h i j k l q = not_six (eqb-false _ _ j)
      go false true true false f h i j k l q = no_mtrk (tag_other s 14 MTrk k)
      go false true true true true h i j k l q = track_past (ltb-true _ _ l)
      go false true true true false h i j k l q = absurd (false≢true q)

  pub style_some : no_style s ≡ false → NoStyle s → ⊥
  unfolding no_style
  style_some e n = go (ltb (length s) 22) (tagged s 0 MThd) (eqb (word s 4) 6) (tagged s 14 MTrk) (ltb (length s) (22 + word s 18)) refl refl refl refl refl e n
    where
      go : (a b c d f : Bool) → ltb (length s) 22 ≡ a → tagged s 0 MThd ≡ b → eqb (word s 4) 6 ≡ c → tagged s 14 MTrk ≡ d → ltb (length s) (22 + word s 18) ≡ f
          → a || (not b || (not c || (not d || f))) ≡ false → NoStyle s → ⊥
      go true b c d f h i j k l q m = true≢false q
      go false false c d f h i j k l q m = true≢false q
      go false true false d f h i j k l q m = true≢false q
      go false true true false f h i j k l q m = true≢false q
      go false true true true true h i j k l q m = true≢false q
      go false true true true false h i j k l q (short m) = omega (arith, ltb-false (length s) 22 h)
      go false true true true false h i j k l q (no_mthd m) = m (tag_there s 0 MThd i)
      go false true true true false h i j k l q (not_six m) = m (eqb-true _ _ j)
      go false true true true false h i j k l q (no_mtrk m) = m (tag_there s 14 MTrk k)
      go false true true true false h i j k l q (track_past m) = omega (arith, ltb-false (length s) (22 + word s 18) l)

-- ---- the walk

-- the first of n sections that has a tag
module _ (s : List ℕ) (n : ℕ) (tag : List ℕ) where
  tag_seen : section_tagged s n tag < n → section_tag s (section_tagged s n tag) ≡ tag
  unfolding section_tagged
  tag_seen h = tag_there s _ tag (first_stands (has_tag s tag) n h)

  tag_unseen : n ≤ section_tagged s n tag → (i : ℕ) → i < n → section_tag s i ≡ tag → ⊥
  unfolding section_tagged
  tag_unseen h i l = tag_other s (section_place s i) tag (first_passed (has_tag s tag) n i (omega arith))

module _ (s : List ℕ) (l : length s ≤ 1048576) (style : no_style s ≡ false) where
  abbrev Kept : ℕ → Type 0
  Kept n = Walked s n (section_place s n) × SectionsBefore s n

  start : Kept 0
  unfolding section_place
  start = (
    walk_start s (22 + word s 18) refl (track_within s style),
    record { short = l; style = style_some s style; within = λ i h. absurd (omega arith); apart = λ i j h k. absurd (omega arith) },
  )

  next : (n : ℕ) → Kept n → section_turn s n ≡ More → Kept (n + 1)
  unfolding section_turn
  next n held m =
      let more = section_more s n (section_place s n) m in
      let w = walk_next s n (section_place s n) (word s (section_place s n + 4)) held.0 more refl in
      (rw w.stands at w, record { short = l; style = held.1.style; within = w.fit.fits; apart = λ i j h k. go i j more h (dec_lt j n) k })
    where
      go : (i j : ℕ) → SectionMore s n (section_place s n) → i < j → Dec (j < n) → j < n + 1 → section_tag s i ≡ section_tag s j → ⊥
      go i j more h (yes a) k = held.1.apart i j h a
      go i j more h (no a) k = let q : j ≡ n = omega arith in rw q (tag_unseen s n (section_tag s n) more.fresh i (omega arith))

  turn_told : (n : ℕ) → Kept n → TurnTold (FileRefused s) (section_turn s n)
  unfolding section_turn section_turn_at
  turn_told n held =
      let at : ℕ = section_place s n in
      let T = TurnTold (FileRefused s) in
      either T (eqb at (length s)) _ _ (λ e. tt) (λ e.
      either T (ltb (length s) (at + 8)) _ _ (λ h. section_cut n held.1 (omega (arith, held.0.within, eqb-false at (length s) e)) (ltb-true _ _ h)) (λ h.
      either T (ltb (length s) (at + 8 + word s (at + 4))) _ _ (λ i. section_past n held.1 (ltb-false _ _ h) (ltb-true _ _ i)) (λ i.
      either T (ltb (section_tagged s n (tag_at s at)) n) _ _
      (λ j. let k = ltb-true _ _ j in tag_again_given (section_tagged s n (tag_at s at)) n held.1 (ltb-false _ _ i) k (tag_seen s n (tag_at s at) k))
      (λ j. tt))))

  sections_told : RunTold (FileRefused s) (sections_run s)
  unfolding sections_run
  sections_told = run_told (FileRefused s) (section_turn s) Kept next (length s) (λ n l held. turn_told n held) start

  -- the walk ends with the file
  turn_end : (n : ℕ) → section_turn s n ≡ Done → section_place s n ≡ length s
  unfolding section_turn section_turn_at
  turn_end n m =
      let at : ℕ = section_place s n in
      go (eqb at (length s)) (ltb (length s) (at + 8)) (ltb (length s) (at + 8 + word s (at + 4))) (ltb (section_tagged s n (tag_at s at)) n) refl m
    where
      go : (a b c d : Bool) → eqb (section_place s n) (length s) ≡ a
          → cond a Done (cond b (Refused 2 (section_place s n)) (cond c (Refused 2 (section_place s n)) (cond d (Refused 4 (section_place s n)) More))) ≡ Done
          → section_place s n ≡ length s
      go true b c d e q = eqb-true _ _ e
      go false true c d e q = absurd (let z : ◌≡◌ {A = ℕ} 0 1 = cc in omega arith)
      go false false true d e q = absurd (let z : ◌≡◌ {A = ℕ} 0 1 = cc in omega arith)
      go false false false true e q = absurd (let z : ◌≡◌ {A = ℕ} 0 1 = cc in omega arith)
      go false false false false e q = absurd (let z : ◌≡◌ {A = ℕ} 0 1 = cc in omega arith)

  sections_end : (n : ℕ) → sections_run s ≡ Ended n → SectionsBefore s n × (section_place s n ≡ length s)
  unfolding sections_run
  sections_end n e =
      let r = run_ended (section_turn s) Kept next (length s) n start e in
      (r.0.1, turn_end n (r.1 (omega (arith, r.0.0.many, r.0.0.within))))

  among_told : (n : ℕ) → sections_run s ≡ Ended n → AnswerTold (FileRefused s) (casm_among s n)
  unfolding casm_among
  among_told n e =
      let k : ℕ = section_tagged s n CASM in
      let all = sections_end n e in
      either (AnswerTold (FileRefused s)) (leb n k) _ _ (λ h. no_casm_given n all.0 all.1 (tag_unseen s n CASM (leb-true n k h))) (λ h.
      either (AnswerTold (FileRefused s)) (ltb 32768 (word s (section_place s k + 4))) _ _
      (λ i. let l = leb-false n k h in casm_over n k all.0 all.1 l (tag_seen s n CASM l) (ltb-true _ _ i))
      (λ i. tt))

pub casm_told : (s : List ℕ) → AnswerTold (FileRefused s) (casm_found s)
unfolding casm_found
casm_told s =
    either (AnswerTold (FileRefused s)) (ltb 1048576 (length s)) _ _ (λ e. file_over (ltb-true _ _ e)) (λ e.
    let l = ltb-false 1048576 (length s) e in
    either (AnswerTold (FileRefused s)) (no_style s) _ _ (λ h. not_style_given l (style_none s h)) (λ h.
    after_told (FileRefused s) (sections_run s) (casm_among s) (sections_told s l h) (among_told s l h)))
