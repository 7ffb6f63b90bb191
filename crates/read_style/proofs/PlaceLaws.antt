-- The number of a refused file is from 1 to 5, its place one of its bytes or its length; a CASM section that is found stands within the file, its body within the limit.
use Prim.Native.Nat.{ℕ, ◌+◌, ◌≤◌, ◌<◌}
use mathlib.Core.Path.{◌≡◌, refl, subst}
use mathlib.Core.Bool.{false}
use mathlib.Core.List.{List}
use native.Mathlib.Omega.{arith}
use Rattle.std.specs.Prelude.{Ok, Err}
use lib.Dec.{ltb, leb, eqb}
use lib.ListN.{length}
use borrow.Author.Tests.{ltb-false, leb-false}
use Rattle.layout.specs.Bytes.{word, tag_at, CASM}
use Rattle.layout.specs.Answers.{Answer, refused, granted, after_run, number_of, place_of, value_or, Span}
use Rattle.layout.specs.Style.{no_style, section_place, section_tagged, section_turn_at, section_turn, sections_run, casm_among, casm_found, located}
use Rattle.layout.specs.declared.answer.Located.{Located}
use Rattle.layout.specs.Scan.{Run, Stopped, Ended, Turn, More}
use Rattle.layout.proofs.Choices.{either}
use Rattle.layout.proofs.Runs.{run_stopped, run_ended}
use Rattle.read_style.specs.Walk.{Fit, Walked}
use Rattle.read_style.proofs.StyleLaws.{track_within}
use Rattle.read_style.proofs.SectionLaws.{section_more, walk_start, walk_next}

-- a number and a place that a file is refused with
abbrev pub Refusing : List ℕ → ℕ → ℕ → Type 0
Refusing s number place = (0 < number) × ((number ≤ 5) × (place ≤ length s))

-- a section whose header and body stand in the file, the body within its limit
abbrev pub Standing : List ℕ → Span → Type 0
Standing s x = (x.start + 8 + x.size ≤ length s) × (x.size ≤ 32768)

-- what is known of an answer: how it refuses, or where the section stands
abbrev Known : List ℕ → Answer Span → Type 0
Known s (refused number place) = Refusing s number place
Known s (granted x) = Standing s x

module _ (s : List ℕ) (style : no_style s ≡ false) where
  abbrev Kept : ℕ → Type 0
  Kept n = Walked s n (section_place s n)

  next : (n : ℕ) → Kept n → section_turn s n ≡ More → Kept (n + 1)
  unfolding section_turn
  next n held m =
      let w = walk_next s n (section_place s n) (word s (section_place s n + 4)) held (section_more s n (section_place s n) m) refl in
      rw w.stands at w

  start : Kept 0
  unfolding section_place
  start = walk_start s (22 + word s 18) refl (track_within s style)

  abbrev Turned : Turn → Type 0
  Turned (Err why) = Refusing s why.number why.place
  Turned (Ok _) = Unit {0}

  turn_known : (n at : ℕ) → at ≤ length s → Turned (section_turn_at s n at)
  unfolding section_turn_at
  turn_known n at l =
      either Turned (eqb at (length s)) _ _ (λ _. tt) (λ _.
      either Turned (ltb (length s) (at + 8)) _ _ (λ _. (omega arith, (omega arith, l))) (λ _.
      either Turned (ltb (length s) (at + 8 + word s (at + 4))) _ _ (λ _. (omega arith, (omega arith, l))) (λ _.
      either Turned (ltb (section_tagged s n (tag_at s at)) n) _ _ (λ _. (omega arith, (omega arith, l))) (λ _. tt))))

  sections_refuse : (number place : ℕ) → sections_run s ≡ Stopped number place → Refusing s number place
  unfolding sections_run section_turn
  sections_refuse number place e =
      run_stopped (section_turn s) Kept next (λ a b. Refusing s a b) (λ n a b held m. subst Turned m (turn_known n (section_place s n) held.within)) (length s) number place start e

  pub sections_fit : (n : ℕ) → sections_run s ≡ Ended n → Fit s n
  unfolding sections_run
  sections_fit n e = (run_ended (section_turn s) Kept next (length s) n start e).0.fit

  -- what the sections come to, once they end
  among_known : (n : ℕ) → Fit s n → Known s (casm_among s n)
  unfolding casm_among
  among_known n fit =
      let k : ℕ = section_tagged s n CASM in
      let at : ℕ = section_place s k in
      either (Known s) (leb n k) _ _ (λ _. (omega arith, (omega arith, omega arith))) (λ e.
      let stands = fit.fits k (leb-false n k e) in
      either (Known s) (ltb 32768 (word s (at + 4))) _ _ (λ _. (omega arith, (omega arith, omega arith))) (λ l. (stands, ltb-false 32768 (word s (at + 4)) l)))

  after_known : (r : Run) → sections_run s ≡ r → Known s (after_run r (casm_among s))
  unfolding after_run
  after_known (Err why) e = sections_refuse why.number why.place e
  after_known (Ok n) e = among_known n (sections_fit n e)

casm_known : (s : List ℕ) → Known s (casm_found s)
unfolding casm_found
casm_known s =
    either (Known s) (ltb 1048576 (length s)) _ _ (λ _. (omega arith, (omega arith, omega arith))) (λ _.
    either (Known s) (no_style s) _ _ (λ _. (omega arith, (omega arith, omega arith))) (λ e. after_known s e (sections_run s) refl))

pub casm_refuses : (s : List ℕ) (number place : ℕ) → casm_found s ≡ refused number place → Refusing s number place
casm_refuses s number place q = subst (Known s) q (casm_known s)

pub casm_stands : (s : List ℕ) (x : Span) → casm_found s ≡ granted x → Standing s x
casm_stands s x q = subst (Known s) q (casm_known s)

-- ---- what the number of the call's answer says of it

told_refused : (a : Answer Span) (r : Located) → r ≡ located a → (r.number ≡ 0 → ⊥) → a ≡ refused r.number r.place
unfolding located number_of place_of value_or
told_refused (refused number place) r e z = rw e
told_refused (granted x) r e z = absurd (z (rw e))

told_granted : (a : Answer Span) (r : Located) → r ≡ located a → r.number ≡ 0 → ((number place : ℕ) → a ≡ refused number place → 0 < number) → a ≡ granted (record { start = r.tag; size = r.length })
unfolding located number_of place_of value_or
told_granted (refused number place) r e z f = absurd (let y : r.number ≡ number = rw e in omega (arith, f number place refl))
told_granted (granted x) r e z f = rw e

pub casm_none : (s : List ℕ) (r : Located) → r ≡ located (casm_found s) → (r.number ≡ 0 → ⊥) → casm_found s ≡ refused r.number r.place
casm_none s r e z = told_refused (casm_found s) r e z

pub casm_there : (s : List ℕ) (r : Located) → r ≡ located (casm_found s) → r.number ≡ 0 → casm_found s ≡ granted (record { start = r.tag; size = r.length })
casm_there s r e z = told_granted (casm_found s) r e z (λ number place q. (casm_refuses s number place q).0)
