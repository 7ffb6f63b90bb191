-- A yes of two files: they are alike outside the record, which stands in the CASM body, so the same section is found and what surrounds its body is the same; and the way back.
use Prim.Native.Nat.{ℕ, ◌+◌, ◌≤◌}
use mathlib.Core.Path.{◌≡◌, sym, ◌∙◌}
use mathlib.Core.List.{List}
use native.Mathlib.Omega.{arith}
use Rattle.layout.specs.Answers.{granted, Span}
use Rattle.layout.specs.Editions.{size}
use Rattle.layout.specs.Style.{casm_found}
use Rattle.layout.specs.Listing.{body_in}
use Rattle.layout.specs.Check.{Yes, files_checked}
use Rattle.read_style.proofs.PlaceLaws.{casm_stands}
use Rattle.law_rounds.proofs.Granted.{granted_once}
use Rattle.law_checked.specs.Alike.{AlikeOutside}
use Rattle.law_checked.specs.Files.{SectionsAsBefore}
use Rattle.law_checked.proofs.Alike.{yes_is, is_yes}
use Rattle.law_checked.proofs.Verdicts.{BodiesRead, row_before, yes_denies_not, yes_read, read_checked}
use Rattle.law_checked.proofs.FileVerdicts.{files_read, read_files}
use Rattle.law_checked.proofs.RowWithin.{row_within}
use Rattle.law_checked.proofs.CasmPlace.{casm_at}
use Rattle.law_checked.proofs.SectionsAlike.{casm_alike}
use Rattle.law_checked.proofs.BodiesAlike.{body_length, alike_ahead, alike_behind, alike_bodies, bodies_alike}

module _ (before after : List ℕ) (g channel : ℕ) where
  -- of a section of the before file: its body, and where the record stands in it
  module _ (x : Span) where
    abbrev place : ℕ
    place = (row_before (body_in before x) g channel).at

    abbrev wide : ℕ
    wide = size (row_before (body_in before x) g channel).edition

  as_before : (x : Span) → casm_found before ≡ granted x → (y : Span) → casm_found after ≡ granted y → BodiesRead (body_in before x) (body_in after y) g channel
      → AlikeOutside before after (x.start + 8 + place x) (wide x) → SectionsAsBefore before after g channel
  as_before x found y other read alike =
      let fits = (casm_stands before x found).0 in
      let row : place x + wide x ≤ x.size = omega (arith, row_within (body_in before x) (body_in after y) g channel read, body_length before x fits) in
      let same : casm_found before ≡ casm_found after = casm_alike before after (x.start + 8 + place x) (wide x) alike x (casm_at before x found) (omega arith) (omega arith) in
      let again : casm_found after ≡ granted x = sym same ∙ found in
      let q : y ≡ x = granted_once y x (sym other ∙ again) in
      let both : BodiesRead (body_in before x) (body_in after x) g channel = rw q at read in
      record {
        casm = x;
        found = found;
        again = again;
        ahead = alike_ahead before after x (place x) (wide x) alike;
        behind = alike_behind before after x (place x) (wide x) alike row;
        bodies =
            read_checked (body_in before x) (body_in after x) g channel both
            ∙ is_yes (body_in before x) (body_in after x) (place x) (wide x) (alike_bodies before after x (place x) (wide x) alike);
      }

  pub files_yes : files_checked before after g channel ≡ Yes → SectionsAsBefore before after g channel
  files_yes e =
      let r = files_read before after g channel Yes yes_denies_not e in
      let x = r.casm in
      as_before x r.found r.other r.again r.read (yes_is before after (x.start + 8 + place x) (wide x) r.verdict)

  pub yes_files : SectionsAsBefore before after g channel → files_checked before after g channel ≡ Yes
  yes_files a =
      let x = a.casm in
      let r = yes_read (body_in before x) (body_in after x) g channel a.bodies in
      let bodies = yes_is (body_in before x) (body_in after x) (place x) (wide x) r.1 in
      let alike = bodies_alike before after x (place x) (wide x) (casm_stands before x a.found).0 (casm_stands after x a.again).0 a.ahead a.behind bodies in
      read_files before after g channel Yes
      (record { casm = x; other = x; found = a.found; again = a.again; read = r.0; verdict = is_yes before after (x.start + 8 + place x) (wide x) alike })
