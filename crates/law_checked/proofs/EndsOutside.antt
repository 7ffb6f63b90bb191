-- An accepted body that is the same as another up to a record of it does not end inside that record: the length of the group stands before its records, so the group goes on to its end.
use Prim.Native.Nat.{ℕ, suc, ◌+◌, ◌≤◌, ◌<◌}
use mathlib.Core.Path.{◌≡◌}
use mathlib.Core.List.{List}
use native.Mathlib.Omega.{arith}
use native.Mathlib.Decide.{dec_lt}
use lib.ListN.{length, get_or}
use Rattle.layout.specs.Scan.{Ended}
use Rattle.layout.specs.Editions.{size}
use Rattle.layout.specs.Body.{group_place, body_run}
use Rattle.layout.specs.Asked.{standing, row_of, row_in}
use Rattle.layout.proofs.Accepted.{body_accepted}
use Rattle.law_checked.proofs.SameBytes.{same_word}
use Rattle.law_checked.proofs.SamePlaces.{place_suc, places_rise, same_places}
use Rattle.law_checked.proofs.RecordStands.{RecordStands, record_stands}

module _ (s t : List ℕ) (g channel at long i : ℕ) (r : RecordStands s g channel at long i) (same : (k : ℕ) → k < at → get_or s k 0 ≡ get_or t k 0) where
  -- the headers of the groups up to that of the record stand before it
  header_before : (j : ℕ) → j ≤ g → group_place s j + 8 ≤ at
  header_before j h = go (dec_lt j g)
    where
      go : Dec (j < g) → group_place s j + 8 ≤ at
      go (yes d) = omega (arith, r.place, places_rise s j g d, place_suc s j)
      go (no d) = let z : j ≡ g = omega arith in rw z (omega (arith, r.place))

  places : (k : ℕ) → k ≤ suc g → group_place t k ≡ group_place s k
  places k h = same_places s t k (λ j l. same_word s t (group_place s j + 4) (λ b w. same (group_place s j + 4 + b) (omega (arith, header_before j (omega arith)))))

  -- the after body has the group, whole
  ends : (m : ℕ) → group_place t m ≡ length t → at ≤ length t → at + long ≤ length t
  ends m cover h = go (dec_lt g m)
    where
      go : Dec (g < m) → at + long ≤ length t
      go (yes d) = omega (arith, r.ends, places (suc g) (omega arith), places_rise t g m d)
      go (no d) = absurd (omega (arith, places m (omega arith), header_before m (omega arith)))

pub ends_outside : (s t : List ℕ) (n m g channel : ℕ) → body_run s ≡ Ended n → body_run t ≡ Ended m → g < n → row_in s (standing s g) channel < (standing s g).records
    → ((k : ℕ) → k < (row_of (standing s g) (row_in s (standing s g) channel)).at → get_or s k 0 ≡ get_or t k 0)
    → (row_of (standing s g) (row_in s (standing s g) channel)).at ≤ length t
    → (row_of (standing s g) (row_in s (standing s g) channel)).at + size (standing s g).edition ≤ length t
ends_outside s t n m g channel e f l has same h =
    ends s t g channel _ _ (row_in s (standing s g) channel) (record_stands s g channel has) same m (body_accepted t m f).cover h
