-- What a check comes to by what was found in both bodies.
use Prim.Native.Nat.{ℕ, ◌+◌, ◌≤◌}
use mathlib.Core.Path.{◌≡◌, refl, ap, ◌∙◌, subst}
use mathlib.Core.Bool.{Bool, true, false, cond}
use mathlib.Core.List.{List}
use native.Mathlib.Omega.{arith}
use lib.Dec.{leb}
use lib.ListN.{length}
use Rattle.layout.specs.Scan.{Run}
use Rattle.layout.specs.Scan.{Ended}
use Rattle.layout.specs.declared.edition.Edition.{Edition}
use Rattle.layout.specs.declared.answer.Which.TheVariants.{BeforeBody, AfterBody}
use Rattle.layout.specs.Editions.{size}
use Rattle.layout.specs.Answers.{Answer, refused, granted, after_run}
use Rattle.layout.specs.Body.{body_run, body_read}
use Rattle.layout.specs.Asked.{Whereabouts, standing, row_of, row_in, of_group, of_channel, channel_found}
use Rattle.layout.specs.Check.{Verdict, Denied, unless, of_record_before}
use Rattle.layout.proofs.Accepted.{body_place}
use Rattle.read_find.specs.Row.{Sought}
use Rattle.read_find.specs.Row.{sought}
use Rattle.read_find.proofs.RowLaws.{record_within}
use Rattle.ask_check.specs.Both.{Both}
use Rattle.ask_check.specs.Both.{Before, After, Without, At}
use Rattle.ask_check.specs.Both.{row_told, unless_stopped, both_found}
use Rattle.std.specs.Prelude.{Ok, Err}
use Rattle.ask_check.specs.declared.both.NoRecord.TheVariants.{InBefore, InAfter, Nowhere}

-- the refusal of a record that is not found, in a body that is read, has the place 0
place_nought : (s : List ℕ) (g channel n number place : ℕ) → body_run s ≡ Ended n → channel_found s g channel ≡ refused number place → place ≡ 0
unfolding channel_found of_group of_channel after_run
place_nought s g channel n number place e q = go (leb n g) (leb (standing s g).records (row_in s (standing s g) channel)) (rw (e, after_run) at q)
  where
    go : (a b : Bool) → cond a (refused 16 0) (cond b (refused 15 0) (granted (row_of (standing s g) (row_in s (standing s g) channel)))) ≡ refused number place → place ≡ 0
    go true b w = cc
    go false true w = cc
    go false false w = absurd (let z : ◌≡◌ {A = ℕ} 0 1 = cc in omega arith)

module _ (a b : ℕ) (f : Edition → ℕ → Verdict) where
  -- what was found, told of bodies that begin at a and b of what was lent
  unfoldable verdict_of : Both → Verdict
  verdict_of (Err (InBefore why)) = Denied BeforeBody why.number (a + why.place)
  verdict_of (Err (InAfter why)) = Denied AfterBody why.number (b + why.place)
  verdict_of (Err (Nowhere number)) = Denied BeforeBody number 0
  verdict_of (Ok x) = f x.edition x.at

  module _ (s t : List ℕ) (g channel : ℕ) where
    abbrev Looked : Both
    Looked = both_found (body_run s) (body_run t) (channel_found s g channel)

    told : of_record_before a b s t g channel (λ row. f row.edition row.at) ≡ verdict_of Looked
    unfolding of_record_before unless body_read after_run both_found unless_stopped row_told sought verdict_of
    told = go (body_run s) refl (body_run t)
      where
        row : (x : Answer Whereabouts) → ((number place : ℕ) → x ≡ refused number place → place ≡ 0)
            → unless BeforeBody 0 x (λ row. f row.edition row.at) ≡ verdict_of (row_told (sought x))
        row (refused number place) z = let p : 0 + place ≡ 0 = omega (arith, z number place refl) in rw p
        row (granted r) z = refl

        go : (x : Run) → body_run s ≡ x → (y : Run)
            → unless BeforeBody a (after_run x (λ n. granted n)) (λ _. unless AfterBody b (after_run y (λ n. granted n)) (λ _. unless BeforeBody 0 (channel_found s g channel) (λ row. f row.edition row.at)))
            ≡ verdict_of (both_found x y (channel_found s g channel))
        go (Err why) e y = refl
        go (Ok n) e (Err why) = refl
        go (Ok n) e (Ok m) = row (channel_found s g channel) (λ number place q. place_nought s g channel n number place e q)

    pub of_before : (number place : ℕ) → Looked ≡ Before number place → of_record_before a b s t g channel (λ row. f row.edition row.at) ≡ Denied BeforeBody number (a + place)
    unfolding verdict_of
    of_before number place h = told ∙ ap verdict_of h

    pub of_after : (number place : ℕ) → Looked ≡ After number place → of_record_before a b s t g channel (λ row. f row.edition row.at) ≡ Denied AfterBody number (b + place)
    unfolding verdict_of
    of_after number place h = told ∙ ap verdict_of h

    pub of_without : (number : ℕ) → Looked ≡ Without number → of_record_before a b s t g channel (λ row. f row.edition row.at) ≡ Denied BeforeBody number 0
    unfolding verdict_of
    of_without number h = told ∙ ap verdict_of h

    pub of_at : (e : Edition) (at : ℕ) → Looked ≡ At e at → of_record_before a b s t g channel (λ row. f row.edition row.at) ≡ f e at
    unfolding verdict_of
    of_at e at h = told ∙ ap verdict_of h

-- ---- what was found lies within its body

-- the ways that a search in both bodies can come to what it found
module _ (s t : List ℕ) (g channel : ℕ) where
  -- what each says of the places
  abbrev Within : Both → Type 0
  Within (Err (InBefore why)) = why.place ≤ length s
  Within (Err (InAfter why)) = why.place ≤ length t
  Within (Err (Nowhere number)) = Unit {0}
  Within (Ok x) = x.at + size x.edition ≤ length s

  row_within : (x : Sought) → sought (channel_found s g channel) ≡ x → Within (row_told x)
  unfolding row_told
  row_within (Err why) h = tt
  row_within (Ok x) h = record_within s g channel x.edition x.row x.at h

  found_within : Within (both_found (body_run s) (body_run t) (channel_found s g channel))
  unfolding both_found unless_stopped
  found_within = go (body_run s) refl (body_run t) refl
    where
      go : (x : Run) → body_run s ≡ x → (y : Run) → body_run t ≡ y → Within (both_found x y (channel_found s g channel))
      go (Err why) e y h = body_place s why.number why.place e
      go (Ok n) e (Err why) h = body_place t why.number why.place h
      go (Ok n) e (Ok m) h = row_within (sought (channel_found s g channel)) refl

  pub before_place : (number place : ℕ) → both_found (body_run s) (body_run t) (channel_found s g channel) ≡ Before number place → place ≤ length s
  before_place number place h = subst Within h found_within

  pub after_place : (number place : ℕ) → both_found (body_run s) (body_run t) (channel_found s g channel) ≡ After number place → place ≤ length t
  after_place number place h = subst Within h found_within

  pub at_within : (e : Edition) (at : ℕ) → both_found (body_run s) (body_run t) (channel_found s g channel) ≡ At e at → at + size e ≤ length s
  at_within e at h = subst Within h found_within
