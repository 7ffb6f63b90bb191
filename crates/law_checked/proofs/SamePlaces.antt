-- Where the groups of a body stand follows from the lengths in their headers alone: where these are the same in two bodies, the groups stand at the same places.
use Prim.Native.Nat.{ℕ, zero, suc, ◌+◌, ◌≤◌, ◌<◌}
use mathlib.Core.Path.{◌≡◌, refl, ◌∙◌}
use mathlib.Core.List.{List}
use native.Mathlib.Omega.{arith}
use native.Mathlib.Decide.{dec_lt}
use lib.ListN.{length}
use Rattle.layout.specs.Bytes.{word}
use Rattle.layout.specs.Group.{group_size}
use Rattle.layout.specs.Body.{group_place}
use Rattle.layout.proofs.Numbers.{word_drop}

pub place_suc : (s : List ℕ) (k : ℕ) → group_place s (suc k) ≡ group_place s k + 8 + word s (group_place s k + 4)
unfolding group_place group_size
place_suc s k = rw (word_drop s (group_place s k) 4) (omega arith)

-- a later group stands where an earlier one ends, or behind
pub places_rise : (s : List ℕ) (i j : ℕ) → i < j → group_place s (suc i) ≤ group_place s j
places_rise s i zero h = absurd (omega arith)
places_rise s i (suc j) h = go (dec_lt i j) (places_rise s i j)
  where
    go : Dec (i < j) → (i < j → group_place s (suc i) ≤ group_place s j) → group_place s (suc i) ≤ group_place s (suc j)
    go (yes d) more = omega (arith, more d, place_suc s j)
    go (no d) more = let z : i ≡ j = omega arith in rw z (omega arith)

module _ (s t : List ℕ) where
  pub same_places : (k : ℕ) → ((j : ℕ) → j < k → word s (group_place s j + 4) ≡ word t (group_place s j + 4)) → group_place t k ≡ group_place s k
  unfolding group_place
  same_places zero h = refl
  same_places (suc k) h =
      let z : group_place t k ≡ group_place s k = same_places k (λ j l. h j (omega arith)) in
      place_suc t k ∙ rw z (omega (arith, h k (omega arith), place_suc s k))

  -- bodies that end where their groups end have as many groups
  pub same_count : (n m : ℕ) → length s ≡ length t → group_place s n ≡ length s → group_place t m ≡ length t → ((k : ℕ) → k ≤ n → group_place t k ≡ group_place s k) → n ≡ m
  same_count n m long a b h = go (dec_lt n m) (dec_lt m n)
    where
      go : Dec (n < m) → Dec (m < n) → n ≡ m
      go (yes d) x = absurd (omega (arith, places_rise t n m d, place_suc t n, h n (omega arith)))
      go (no d) (yes x) = absurd (omega (arith, places_rise s m n x, place_suc s m, h m (omega arith)))
      go (no d) (no x) = omega arith
