-- When a check is refused, and of what (document 02, §13: "the before body's, the after body's, 16, then 15 in the before body; the answer names the body refused").
use Rattle.std.specs.Prelude.{ℕ, ◌+◌, ◌<◌, ◌≤◌, ◌≡◌, List}
use Rattle.layout.specs.declared.answer.Which.{Which}
use Rattle.layout.specs.declared.answer.Which.TheVariants.{Neither, BeforeFile, AfterFile, BeforeBody, AfterBody}
use Rattle.layout.specs.Answers.{granted, Span}
use Rattle.layout.specs.Refusals.{not_there, bad_number}
use Rattle.layout.specs.Asked.{standing}
use Rattle.layout.specs.Style.{casm_found}
use Rattle.layout.specs.Listing.{body_in}
use Rattle.law_refusals.specs.File.{FileRefused}
use Rattle.law_refusals.specs.Body.{BodyRefused, HasGroups}
use Rattle.law_refusals.specs.After.{HasGroup, source_in}

-- two bodies s and t that begin at a and b of what was lent: what is refused, number and place
pub data BodiesRefused (a b : ℕ) (s t : List ℕ) (g channel : ℕ) : Which → ℕ → ℕ → Type 0 where
  -- the before body's own refusal
  before_body : (number place : ℕ) → BodyRefused s number place → BodiesRefused a b s t g channel BeforeBody number (a + place)
  -- the after body's, where the before body is read
  after_body : (n number place : ℕ) → HasGroups s n → BodyRefused t number place → BodiesRefused a b s t g channel AfterBody number (b + place)
  -- 16, both being read: "group number .. out of range", at 0
  no_group_given : (n m : ℕ) → HasGroups s n → HasGroups t m → n ≤ g → BodiesRefused a b s t g channel BeforeBody bad_number 0
  -- 15: "no such channel in the group", at 0
  no_channel_given : (m : ℕ) → HasGroup s g → HasGroups t m → ((i : ℕ) → i < (standing s g).records → source_in s g i ≡ channel → ⊥) → BodiesRefused a b s t g channel BeforeBody not_there 0

-- two style files
pub data FilesRefused (before after : List ℕ) (g channel : ℕ) : Which → ℕ → ℕ → Type 0 where
  -- the before file's finding
  before_file : (number place : ℕ) → FileRefused before number place → FilesRefused before after g channel BeforeFile number place
  -- the after file's, where the CASM section of the before file is found
  after_file : (x : Span) (number place : ℕ) → casm_found before ≡ granted x → FileRefused after number place → FilesRefused before after g channel AfterFile number place
  -- a refusal of the bodies, its place counted from the file's start
  of_bodies : (x y : Span) (which : Which) (number place : ℕ) → casm_found before ≡ granted x → casm_found after ≡ granted y
      → BodiesRefused (x.start + 8) (y.start + 8) (body_in before x) (body_in after y) g channel which number place → FilesRefused before after g channel which number place

-- 0 accepts, at place 0 and of neither; another number is given, with what it speaks of and its place, under the condition of its row: only there, and always there
pub record GivenOf (Condition : Which → ℕ → ℕ → Type 0) (which : Which) (number place : ℕ) : Type 0 where
  pub accepts : number ≡ 0 → (place ≡ 0) × (which ≡ Neither)
  pub only : (number ≡ 0 → ⊥) → Condition which number place
  pub always : (w : Which) (n p : ℕ) → Condition w n p → (which ≡ w) × ((number ≡ n) × (place ≡ p))
