-- Two style files (document 02, §13, at the level of a file): "the sections other than CASM must be equal byte for byte too and stand where they stood".
use Rattle.std.specs.Prelude.{ℕ, ◌+◌, ◌≡◌, List, take, drop}
use Rattle.layout.specs.Answers.{granted, Span}
use Rattle.layout.specs.Style.{casm_found}
use Rattle.layout.specs.Listing.{body_in}
use Rattle.layout.specs.Check.{Yes, bodies_checked}
use Rattle.law_checked.specs.Alike.{FirstUnlike, BothRead, record_place, record_size}

-- the CASM section stands where it stood and is as long, what stands before its body and behind it is the same, and of the bodies the answer is yes
pub record SectionsAsBefore (before after : List ℕ) (group channel : ℕ) : Type 0 where
  pub casm : Span
  pub found : casm_found before ≡ granted casm
  pub again : casm_found after ≡ granted casm
  pub ahead : take (casm.start + 8) after ≡ take (casm.start + 8) before
  pub behind : drop (casm.start + 8 + casm.size) after ≡ drop (casm.start + 8 + casm.size) before
  pub bodies : bodies_checked (body_in before casm) (body_in after casm) group channel ≡ Yes

-- both sections are found, both bodies read, and the files are first unlike at place k, counted from the file's start: no byte of the record counts
pub record FileUnlike (before after : List ℕ) (group channel k : ℕ) : Type 0 where
  pub casm : Span
  pub other : Span
  pub found : casm_found before ≡ granted casm
  pub again : casm_found after ≡ granted other
  pub read : BothRead (body_in before casm) (body_in after other) group channel
  pub first : FirstUnlike before after (casm.start + 8 + record_place (body_in before casm) group channel) (record_size (body_in before casm) group) k
