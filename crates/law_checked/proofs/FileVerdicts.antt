-- A check of two files that denies nothing has found both CASM sections, read both bodies, and compared the files outside the record; and the way back.
use Prim.Native.Nat.{ℕ, ◌+◌}
use mathlib.Core.Path.{◌≡◌, refl, sym, ◌∙◌}
use mathlib.Core.List.{List}
use Rattle.layout.specs.declared.answer.Which.{Which}
use Rattle.layout.specs.declared.answer.Which.TheVariants.{BeforeFile, AfterFile}
use Rattle.layout.specs.Answers.{Answer, refused, granted, Span}
use Rattle.layout.specs.Editions.{size}
use Rattle.layout.specs.Asked.{Whereabouts}
use Rattle.layout.specs.Style.{casm_found}
use Rattle.layout.specs.Listing.{body_in}
use Rattle.layout.specs.Check.{Verdict, Denied, compared, unless, of_record_before, files_checked}
use Rattle.law_checked.proofs.Verdicts.{BodiesRead, row_before, not_denied, read_asked}

module _ (before after : List ℕ) where
  -- the comparison outside the record of the section at x
  abbrev pub aside : Span → Whereabouts → Verdict
  aside x = λ row. compared before after (x.start + 8 + row.at) (size row.edition)

  module _ (g channel : ℕ) (v : Verdict) where
    pub record FilesRead : Type 0 where
      pub casm : Span
      pub other : Span
      pub found : casm_found before ≡ granted casm
      pub again : casm_found after ≡ granted other
      pub read : BodiesRead (body_in before casm) (body_in after other) g channel
      pub verdict : aside casm (row_before (body_in before casm) g channel) ≡ v

    pub files_read : ((which : Which) (number place : ℕ) → v ≡ Denied which number place → ⊥) → files_checked before after g channel ≡ v → FilesRead
    unfolding files_checked unless
    files_read f e = go (casm_found before) (casm_found after) refl refl e
      where
        go : (p q : Answer Span) → casm_found before ≡ p → casm_found after ≡ q
            → unless BeforeFile 0 p (λ x.
            unless AfterFile 0 q (λ y.
            of_record_before (x.start + 8) (y.start + 8) (body_in before x) (body_in after y) g channel (aside x))) ≡ v
            → FilesRead
        go (refused number place) q i j r = absurd (f BeforeFile number (0 + place) (sym r))
        go (granted x) (refused number place) i j r = absurd (f AfterFile number (0 + place) (sym r))
        go (granted x) (granted y) i j r =
            let w = not_denied (x.start + 8) (y.start + 8) (body_in before x) (body_in after y) g channel (aside x) v f r in
            record { casm = x; other = y; found = i; again = j; read = w.0; verdict = w.1 }

    pub read_files : FilesRead → files_checked before after g channel ≡ v
    unfolding files_checked unless
    read_files r =
        let x = r.casm in
        let y = r.other in
        rw (r.found, r.again) (read_asked (x.start + 8) (y.start + 8) (body_in before x) (body_in after y) g channel (aside x) r.read ∙ r.verdict)
