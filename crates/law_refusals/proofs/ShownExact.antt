-- What is shown of a file: each refusal is given under its condition, and wherever that holds; the other fields are then 0.
use Prim.Native.Nat.{ℕ, ◌+◌, ◌<◌, ◌≤◌}
use mathlib.Core.Path.{◌≡◌, ap, ◌∙◌}
use mathlib.Core.Bool.{true}
use mathlib.Core.List.{List}
use native.Mathlib.Omega.{arith}
use lib.Dec.{ltb, leb}
use lib.ListN.{length}
use borrow.Author.Tests.{ltb-true, ltb-false, leb-true, lt-ltb, le-ltb, le-leb}
use Rattle.layout.specs.declared.answer.Measured.{Measured}
use Rattle.layout.specs.declared.answer.Sited.{Sited}
use Rattle.layout.specs.Group.{Judged}
use Rattle.layout.specs.Bytes.{word}
use Rattle.layout.specs.Answers.{refused, sized}
use Rattle.layout.specs.Group.{group_at}
use Rattle.layout.specs.Style.{section_read}
use Rattle.layout.specs.Salvage.{cseg, piece_judged, entry_judged}
use Rattle.layout.specs.Chunks.{Site, no_site, site_of, sited}
use Rattle.layout.specs.Promises.{SectionRead, EntryJudged, PlaceFound}
use Rattle.layout.proofs.Choices.{either}
use Rattle.law_refusals.specs.Given.{GivenUnder}
use Rattle.law_refusals.specs.Body.{GroupRefused}
use Rattle.law_refusals.specs.Shown.{SectionAsked, header_cut, body_past, EntryAsked, entry_over, entry_loose, entry_group, PlaceAsked, place_over, place_past}
use Rattle.law_refusals.proofs.Told.{AnswerTold, JudgedTold}
use Rattle.law_refusals.proofs.Above.{group_above}
use Rattle.law_refusals.proofs.Groups.{group_told}
use Rattle.law_refusals.proofs.GroupExact.{group_answers}
use Rattle.law_refusals.proofs.Given.{given}
use Rattle.law_refusals.proofs.Kept.{none_given}
use Rattle.std.specs.Prelude.{Ok, Err}

-- ---- a section by its place

module _ (s : List ℕ) (tag : ℕ) where
  section_above : (number place : ℕ) → SectionAsked s tag number place → 0 < number
  section_above _ _ (header_cut h) = omega arith
  section_above _ _ (body_past h l) = omega arith

  section_told : AnswerTold (SectionAsked s tag) (section_read s tag)
  unfolding section_read
  section_told =
      either (AnswerTold (SectionAsked s tag)) (ltb (length s) (tag + 8)) _ _ (λ e. header_cut (ltb-true _ _ e)) (λ e.
      either (AnswerTold (SectionAsked s tag)) (ltb (length s) (tag + 8 + word s (tag + 4))) _ _ (λ f. body_past (ltb-false _ _ e) (ltb-true _ _ f)) (λ f. tt))

  section_answers : (number place : ℕ) → SectionAsked s tag number place → section_read s tag ≡ refused number place
  unfolding section_read
  section_answers _ _ (header_cut h) = rw (lt-ltb (length s) (tag + 8) h)
  section_answers _ _ (body_past h l) = rw (le-ltb (length s) (tag + 8) h, lt-ltb (length s) (tag + 8 + word s (tag + 4)) l)

  pub section_given : (r : Measured) → SectionRead s tag r → GivenUnder (SectionAsked s tag) r.number r.place
  unfolding sized
  section_given r p =
      given (SectionAsked s tag) section_above (section_read s tag) section_told section_answers r.number r.place (ap (λ (x : Measured). x.number) p) (ap (λ (x : Measured). x.place) p)

  pub section_nothing : (r : Measured) → SectionRead s tag r → (r.number ≡ 0 → ⊥) → r.length ≡ 0
  unfolding sized
  section_nothing r p z = ap (λ (x : Measured). x.length) p ∙ none_given (section_read s tag) r.number (ap (λ (x : Measured). x.number) p) z 0

-- ---- an entry by itself

module _ (p : List ℕ) where
  entry_above : (number place : ℕ) → EntryAsked p number place → 0 < number
  entry_above _ _ (entry_over h) = omega arith
  entry_above _ _ (entry_loose h e) = omega arith
  entry_above _ _ (entry_group number place h e r) = group_above p number place r

  piece_told : length p ≤ 32768 → cseg p ≡ true → (j : Judged) → JudgedTold (GroupRefused p) j → AnswerTold (EntryAsked p) (piece_judged p j)
  unfolding piece_judged
  piece_told h e (Err why) r = entry_group why.number why.place h e r
  piece_told h e (Ok x) r = tt

  entry_told : AnswerTold (EntryAsked p) (entry_judged p)
  unfolding entry_judged
  entry_told =
      either (AnswerTold (EntryAsked p)) (ltb 32768 (length p)) _ _ (λ e. entry_over (ltb-true _ _ e)) (λ e.
      either (AnswerTold (EntryAsked p)) (cseg p) _ _ (λ f. piece_told (ltb-false _ _ e) f (group_at p) (group_told p)) (λ f. entry_loose (ltb-false _ _ e) f))

  entry_answers : (number place : ℕ) → EntryAsked p number place → entry_judged p ≡ refused number place
  unfolding entry_judged piece_judged
  entry_answers _ _ (entry_over h) = rw (lt-ltb 32768 (length p) h)
  entry_answers _ _ (entry_loose h e) = rw (le-ltb 32768 (length p) h, e)
  entry_answers _ _ (entry_group number place h e r) = rw (le-ltb 32768 (length p) h, e, group_answers p number place r, piece_judged)

  pub entry_given : (r : Measured) → EntryJudged p r → GivenUnder (EntryAsked p) r.number r.place
  unfolding sized
  entry_given r q = given (EntryAsked p) entry_above (entry_judged p) entry_told entry_answers r.number r.place (ap (λ (x : Measured). x.number) q) (ap (λ (x : Measured). x.place) q)

  pub entry_nothing : (r : Measured) → EntryJudged p r → (r.number ≡ 0 → ⊥) → r.length ≡ 0
  unfolding sized
  entry_nothing r q z = ap (λ (x : Measured). x.length) q ∙ none_given (entry_judged p) r.number (ap (λ (x : Measured). x.number) q) z 0

-- ---- what stands at a place

module _ (s : List ℕ) (at : ℕ) where
  site_above : (number place : ℕ) → PlaceAsked s at number place → 0 < number
  site_above _ _ (place_over h) = omega arith
  site_above _ _ (place_past h l) = omega arith

  site_told : AnswerTold (PlaceAsked s at) (site_of s at)
  unfolding site_of
  site_told =
      either (AnswerTold (PlaceAsked s at)) (ltb 32768 (length s)) _ _ (λ e. place_over (ltb-true _ _ e)) (λ e.
      either (AnswerTold (PlaceAsked s at)) (leb (length s) at) _ _ (λ f. place_past (ltb-false _ _ e) (leb-true _ _ f)) (λ f. tt))

  site_answers : (number place : ℕ) → PlaceAsked s at number place → site_of s at ≡ refused number place
  unfolding site_of
  site_answers _ _ (place_over h) = rw (lt-ltb 32768 (length s) h)
  site_answers _ _ (place_past h l) = rw (le-ltb 32768 (length s) h, le-leb (length s) at l)

  pub site_given : (r : Sited) → PlaceFound s at r → GivenUnder (PlaceAsked s at) r.number r.place
  unfolding sited
  site_given r q = given (PlaceAsked s at) site_above (site_of s at) site_told site_answers r.number r.place (ap (λ (x : Sited). x.number) q) (ap (λ (x : Sited). x.place) q)

  pub site_nothing : (r : Sited) → PlaceFound s at r → (r.number ≡ 0 → ⊥) → (r.group ≡ 0) × ((r.child ≡ 0) × (r.chunk ≡ 0))
  unfolding sited
  site_nothing r q z =
      let n = none_given (site_of s at) r.number (ap (λ (x : Sited). x.number) q) z no_site in
      (ap (λ (x : Sited). x.group) q ∙ ap (λ (x : Site). x.group) n, (ap (λ (x : Sited). x.child) q ∙ ap (λ (x : Site). x.child) n, ap (λ (x : Sited). x.chunk) q ∙ ap (λ (x : Site). x.chunk) n))
