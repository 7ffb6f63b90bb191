-- When an edit inside a style file is refused: the finding's refusals, the body's with places from the file's start, 15 for the part, then those of an edit in a body.
use Rattle.std.specs.Prelude.{ℕ, ◌+◌, ◌≡◌, List}
use Rattle.layout.specs.declared.lock.Override.{Override}
use Rattle.layout.specs.declared.record.Record.{Record}
use Rattle.layout.specs.Refusals.{not_there}
use Rattle.layout.specs.Answers.{granted, Span}
use Rattle.layout.specs.Style.{casm_found}
use Rattle.layout.specs.Listing.{body_in}
use Rattle.law_refusals.specs.File.{FileRefused}
use Rattle.law_refusals.specs.Body.{Named, BodyRefused, HasGroups}
use Rattle.law_refusals.specs.After.{HasGroup, NoPart, EditAsked}

pub data FileEditAsked (file name : List ℕ) (channel : ℕ) (new : Record) (over : Override) : ℕ → ℕ → Type 0 where
  -- the finding's own refusal
  edit_of_file : (number place : ℕ) → FileRefused file number place → FileEditAsked file name channel new over number place
  -- the body's own refusal, its place counted from the file's start
  edit_of_body : (x : Span) (number place : ℕ) → casm_found file ≡ granted x → BodyRefused (body_in file x) number place → FileEditAsked file name channel new over number (x.start + 8 + place)
  -- 15: "no such part", at 0
  edit_of_part : (x : Span) (n : ℕ) → casm_found file ≡ granted x → HasGroups (body_in file x) n → NoPart (body_in file x) n name → FileEditAsked file name channel new over not_there 0
  -- as in the body, of the group that has the part
  edit_in_body : (x : Span) (g number place : ℕ) → casm_found file ≡ granted x → HasGroup (body_in file x) g → Named (body_in file x) g name → EditAsked (body_in file x) g channel new over number place
      → FileEditAsked file name channel new over number place
