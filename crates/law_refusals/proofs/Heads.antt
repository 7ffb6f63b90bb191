-- A header that is refused has the condition of its row; one without fault stands whole.
use Prim.Native.Nat.{ℕ, ◌+◌, ◌<◌}
use mathlib.Core.Path.{◌≡◌, refl}
use mathlib.Core.Bool.{Bool, false, not}
use mathlib.Core.List.{List}
use lib.Dec.{ltb, eqb}
use lib.ListN.{length}
use borrow.Author.Tests.{ltb-true, ltb-false, eqb-false, not-true, not-false}
use Rattle.layout.specs.Scan.{first}
use Rattle.layout.specs.Bytes.{word, tagged}
use Rattle.layout.specs.Group.{head_fault}
use Rattle.layout.proofs.Heads.{head_sound}
use Rattle.layout.proofs.Scans.{first_passed, first_stands}
use Rattle.layout.proofs.Choices.{either}
use Rattle.law_refusals.specs.Heads.{HeadRefused, header_cut, other_tag, length_past, Headed}
use Rattle.law_refusals.specs.Contents.{FirstSuch}
use Rattle.law_refusals.proofs.Told.{tag_there, tag_other}

module _ (s : List ℕ) (at : ℕ) (tag : List ℕ) where
  faulty : (head_fault s at tag ≡ 0 → ⊥) → HeadRefused s at tag (head_fault s at tag)
  unfolding head_fault
  faulty =
      let T : ℕ → Type 0 = λ f. (f ≡ 0 → ⊥) → HeadRefused s at tag f in
      either T (ltb (length s) (at + 8)) _ _ (λ a z. header_cut (ltb-true _ _ a)) (λ a.
      either T (not (tagged s at tag)) _ _ (λ b z. other_tag (ltb-false _ _ a) (tag_other s at tag (not-true _ b))) (λ b.
      either T (ltb (length s) (at + 8 + word s (at + 4))) _ _ (λ c z. length_past (tag_there s at tag (not-false _ b)) (ltb-false _ _ a) (ltb-true _ _ c)) (λ c z.
      absurd (z refl))))

  -- as the code asks it
  pub head_told : eqb (head_fault s at tag) 0 ≡ false → HeadRefused s at tag (head_fault s at tag)
  head_told e = faulty (eqb-false (head_fault s at tag) 0 e)

  pub headed : head_fault s at tag ≡ 0 → Headed s at tag
  headed e = let h = head_sound s at tag e in record { tagged = tag_there s at tag h.0; within = h.1 }

-- the first of n numbers that passes a test
pub first_such : (test : ℕ → Bool) (n : ℕ) → first test 0 n < n → FirstSuch test n (first test 0 n)
first_such test n h = record { within = h; passes = first_stands test n h; before = first_passed test n }
