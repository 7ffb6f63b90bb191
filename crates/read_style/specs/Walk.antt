-- What the walk over the sections of a style file knows on its way, and what it comes to.
use Rattle.std.specs.Prelude.{ℕ, ◌+◌, ◌*◌, ◌<◌, ◌≤◌, ◌≡◌, List, length, Option, None, Some, Result, Ok, Err}
use Rattle.layout.specs.declared.turn.Refusal.{Refusal}
use Rattle.layout.specs.Scan.{Ended}
use Rattle.layout.specs.Bytes.{word, CASM}
use Rattle.layout.specs.Answers.{Answer, refused, granted, Span}
use Rattle.layout.specs.Style.{section_place, section_tagged, sections_run}
use Rattle.read_style.specs.declared.Section.{Section}

-- the first n sections stand within the file
pub record Fit (s : List ℕ) (n : ℕ) : Type 0 where
  pub fits : (k : ℕ) → k < n → section_place s k + 8 + word s (section_place s k + 4) ≤ length s

-- .. and section number n, if there is one, stands at `at`
pub record Walked (s : List ℕ) (n at : ℕ) : Type 0 where
  pub fit : Fit s n
  pub stands : at ≡ section_place s n
  pub within : at ≤ length s
  pub many : 22 + 8 * n ≤ at

-- the place of the CASM tag among the first n sections, None where none has it
pub record CasmAt (s : List ℕ) (n : ℕ) (casm : Option ℕ) : Type 0 where
  pub none : casm ≡ None → section_tagged s n CASM ≡ n
  pub some : (at : ℕ) → casm ≡ Some at → (section_tagged s n CASM < n) × (at ≡ section_place s (section_tagged s n CASM))

-- there are n sections, each within the file, and the CASM tag stands so among them
pub record SectionsEnded (s : List ℕ) (casm : Option ℕ) : Type 0 where
  pub n : ℕ
  pub run : sections_run s ≡ Ended n
  pub fit : Fit s n
  pub stands : CasmAt s n casm

-- what is read of the sections: the refusal of their run, and where it ended the place of the CASM tag
pub record SectionsRead (s : List ℕ) (r : Result (Option ℕ) Refusal) : Type 0 where
  pub stopped : (why : Refusal) → r ≡ Err why → sections_run s ≡ Err why
  pub ended : (casm : Option ℕ) → r ≡ Ok casm → SectionsEnded s casm

-- what a section's length comes to is a call's answer ..
unfoldable pub told : Result ℕ Refusal → Answer ℕ
told (Err why) = refused why.number why.place
told (Ok size) = granted size

-- .. and so is what the CASM section comes to
unfoldable pub told_section : Result Section Refusal → Answer Span
told_section (Err why) = refused why.number why.place
told_section (Ok x) = granted (record { start = x.tag; size = x.length })
