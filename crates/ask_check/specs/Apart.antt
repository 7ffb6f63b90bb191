-- Two lists of bytes, place by place.
use Rattle.std.specs.Prelude.{ℕ, ◌+◌, ◌<◌, ◌≡◌, Bool, false, not, List, eqb, get_or}

-- they have different bytes at place k
unfoldable pub apart_at : List ℕ → List ℕ → ℕ → Bool
apart_at s t k = not (eqb (get_or s k 0) (get_or t k 0))

-- none of the n places from k on is such
abbrev pub SameFrom : List ℕ → List ℕ → ℕ → ℕ → Type 0
SameFrom s t k n = (j : ℕ) → j < n → apart_at s t (k + j) ≡ false
