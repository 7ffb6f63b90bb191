-- The answers of the two calls, one law for each way out: of two bodies, and of two files whose sections are found.
use Prim.Native.Nat.{ℕ, ◌+◌, ◌≤◌}
use mathlib.Core.Path.{◌≡◌, sym, ap, ◌∙◌}
use mathlib.Core.List.{List}
use native.Mathlib.Omega.{arith}
use lib.ListN.{length, take, drop, length-take}
use Rattle.layout.specs.declared.edition.Edition.{Edition}
use Rattle.layout.specs.declared.answer.Located.{Located}
use Rattle.layout.specs.declared.answer.Which.TheVariants.{BeforeFile, AfterFile, BeforeBody, AfterBody}
use Rattle.layout.specs.Editions.{size}
use Rattle.layout.specs.Answers.{granted}
use Rattle.layout.specs.Body.{body_run}
use Rattle.layout.specs.Asked.{channel_found}
use Rattle.layout.specs.Style.{casm_found, located}
use Rattle.layout.specs.Listing.{body_in}
use Rattle.layout.specs.Check.{Verdict, Denied, compared, unless, of_record_before, bodies_checked, files_checked, checked}
use Rattle.read_style.proofs.PlaceLaws.{casm_stands, casm_none}
use Rattle.ask_check.specs.Both.{Both}
use Rattle.ask_check.specs.Both.{Before, After, Without, At}
use Rattle.ask_check.specs.Both.{both_found}
use Rattle.ask_check.specs.Told.{section}
use Rattle.ask_check.proofs.Verdicts.{of_before, of_after, of_without, of_at, before_place, after_place, at_within}

-- a place counted from the start of what was lent
from_start : (place : ℕ) → 0 + place ≡ place
from_start place = omega arith

-- ---- two bodies

module _ (s t : List ℕ) (g channel : ℕ) where
  abbrev Looked : Both
  Looked = both_found (body_run s) (body_run t) (channel_found s g channel)

  abbrev by : Edition → ℕ → Verdict
  by e at = compared s t at (size e)

  pub bodies_before : (number place : ℕ) → Looked ≡ Before number place → checked (Denied BeforeBody number place) ≡ checked (bodies_checked s t g channel)
  unfolding bodies_checked
  bodies_before number place h = sym (ap checked (of_before 0 0 by s t g channel number place h ∙ ap (Denied BeforeBody number) (from_start place)))

  pub bodies_after : (number place : ℕ) → Looked ≡ After number place → checked (Denied AfterBody number place) ≡ checked (bodies_checked s t g channel)
  unfolding bodies_checked
  bodies_after number place h = sym (ap checked (of_after 0 0 by s t g channel number place h ∙ ap (Denied AfterBody number) (from_start place)))

  pub bodies_without : (number : ℕ) → Looked ≡ Without number → checked (Denied BeforeBody number 0) ≡ checked (bodies_checked s t g channel)
  unfolding bodies_checked
  bodies_without number h = sym (ap checked (of_without 0 0 by s t g channel number h))

  pub bodies_at : (e : Edition) (at n : ℕ) → Looked ≡ At e at → n ≡ size e → checked (compared s t at n) ≡ checked (bodies_checked s t g channel)
  unfolding bodies_checked
  bodies_at e at n h z = rw z (sym (ap checked (of_at 0 0 by s t g channel e at h)))

-- ---- two files, in which no section is found

module _ (before after : List ℕ) (g channel : ℕ) where
  pub before_none : (x : Located) → x ≡ located (casm_found before) → (x.number ≡ 0 → ⊥) → checked (Denied BeforeFile x.number x.place) ≡ checked (files_checked before after g channel)
  unfolding files_checked unless
  before_none x e z = rw (casm_none before x e z, unless) (rw (from_start x.place))

  pub after_none : (x n : ℕ) → casm_found before ≡ granted (section x n) → (y : Located) → y ≡ located (casm_found after) → (y.number ≡ 0 → ⊥)
      → checked (Denied AfterFile y.number y.place) ≡ checked (files_checked before after g channel)
  unfolding files_checked unless
  after_none x n f y e z = rw (f, unless) (rw (casm_none after y e z, unless) (rw (from_start y.place)))

  -- ---- .. and in which both are

  module _ (x n y m : ℕ) (f : (casm_found before ≡ granted (section x n)) × (casm_found after ≡ granted (section y m)))
      (s t : List ℕ) (p : s ≡ take n (drop (x + 8) before)) (q : t ≡ take m (drop (y + 8) after)) where
    abbrev In : Edition → ℕ → Verdict
    In e at = compared before after (x + 8 + at) (size e)

    found : files_checked before after g channel ≡ of_record_before (x + 8) (y + 8) s t g channel (λ row. In row.edition row.at)
    unfolding files_checked unless body_in
    found = rw (f.0, unless) (rw (f.1, unless) (rw (p, q)))

    -- the bodies stand within the files
    pub begins_before : x + 8 ≤ length before
    begins_before = omega (arith, (casm_stands before (section x n) f.0).0)

    pub begins_after : y + 8 ≤ length after
    begins_after = omega (arith, (casm_stands after (section y m) f.1).0)

    -- what lies within a body lies within its file
    pub in_before : (k : ℕ) → k ≤ length s → x + 8 + k ≤ length before
    in_before k l = omega (arith, (casm_stands before (section x n) f.0).0, ap length p, length-take n (drop (x + 8) before))

    pub in_after : (k : ℕ) → k ≤ length t → y + 8 + k ≤ length after
    in_after k l = omega (arith, (casm_stands after (section y m) f.1).0, ap length q, length-take m (drop (y + 8) after))

    pub files_before : (number place : ℕ) → Looked s t g channel ≡ Before number place → checked (Denied BeforeBody number (x + 8 + place)) ≡ checked (files_checked before after g channel)
    files_before number place h = sym (ap checked (found ∙ of_before (x + 8) (y + 8) In s t g channel number place h))

    pub files_after : (number place : ℕ) → Looked s t g channel ≡ After number place → checked (Denied AfterBody number (y + 8 + place)) ≡ checked (files_checked before after g channel)
    files_after number place h = sym (ap checked (found ∙ of_after (x + 8) (y + 8) In s t g channel number place h))

    pub files_without : (number : ℕ) → Looked s t g channel ≡ Without number → checked (Denied BeforeBody number 0) ≡ checked (files_checked before after g channel)
    files_without number h = sym (ap checked (found ∙ of_without (x + 8) (y + 8) In s t g channel number h))

    pub files_at : (e : Edition) (at k : ℕ) → Looked s t g channel ≡ At e at → k ≡ size e → checked (compared before after (x + 8 + at) k) ≡ checked (files_checked before after g channel)
    files_at e at k h z = rw z (sym (ap checked (found ∙ of_at (x + 8) (y + 8) In s t g channel e at h)))

    -- the places, which the call adds up
    pub sum_before : (number place : ℕ) → Looked s t g channel ≡ Before number place → x + 8 + place ≤ length before
    sum_before number place h = in_before place (before_place s t g channel number place h)

    pub sum_after : (number place : ℕ) → Looked s t g channel ≡ After number place → y + 8 + place ≤ length after
    sum_after number place h = in_after place (after_place s t g channel number place h)

    pub sum_at : (e : Edition) (at : ℕ) → Looked s t g channel ≡ At e at → x + 8 + at + size e ≤ length before
    sum_at e at h = omega (arith, in_before (at + size e) (at_within s t g channel e at h))
