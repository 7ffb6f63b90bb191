-- Parts put in their places: joined lists, moves, the cover, and what holds of each part said of each entry.
use Prim.Native.Nat.{ℕ, ◌+◌, ◌-◌, ◌<◌}
use native.Mathlib.Nat.{add_assoc, add-zero}
use native.Mathlib.Omega.{arith}
use mathlib.Core.Path.{◌≡◌, refl, sym}
use mathlib.Core.List.{List, [], ◌∷◌, ◌++◌, map, flatten, append_assoc}
use lib.ListN.{length, length-append}
use lib.Seq.{drop-append_seam, take-append_seam}
use Rattle.layout.specs.Salvage.{Part, Entry, entries_from}
use Rattle.layout.specs.Lists.{All}
use Rattle.law_salvage.specs.Salvage.{Covers, entry_bytes, groups_from, moved, moved_by_change}
use Rattle.read_salvage.proofs.Joined.{joined, own}

pub entries_append : (i : ℕ) (ps qs : List Part) → entries_from i (ps ++ qs) ≡ entries_from i ps ++ entries_from (i + length (joined ps)) qs
unfolding entries_from flatten
entries_append i [] qs = rw add-zero
entries_append i (p ∷ ps) qs = rw (entries_append (i + length p.bytes) ps qs, length-append, add_assoc)

pub entries_groups : (i : ℕ) (gs : List (List ℕ)) → entries_from i (map own gs) ≡ groups_from i gs
unfolding entries_from groups_from
entries_groups i [] = refl
entries_groups i (g ∷ gs) = rw (entries_groups (i + length g) gs)

pub groups_append : (i : ℕ) (gs hs : List (List ℕ)) → groups_from i (gs ++ hs) ≡ groups_from i gs ++ groups_from (i + length (flatten gs)) hs
unfolding groups_from flatten
groups_append i [] hs = rw add-zero
groups_append i (g ∷ gs) hs = rw (groups_append (i + length g) gs hs, length-append, add_assoc)

-- parts that begin at k and not at 0 are moved on by k
pub entries_moved : (i k : ℕ) (ps : List Part) → entries_from (i + k) ps ≡ moved k (entries_from i ps)
unfolding entries_from moved
entries_moved i k [] = refl
entries_moved i k (p ∷ ps) =
    let q : i + k + length p.bytes ≡ i + length p.bytes + k = omega arith in
    rw (q, entries_moved (i + length p.bytes) k ps)

-- groups behind o bytes, behind n bytes instead
pub groups_changed : (i o n : ℕ) (gs : List (List ℕ)) → groups_from (i + n) gs ≡ moved_by_change o n (groups_from (i + o) gs)
unfolding groups_from moved_by_change
groups_changed i o n [] = refl
groups_changed i o n (g ∷ gs) =
    let k : ℕ = length g in
    let a : i + o + n - o ≡ i + n = omega arith in
    let b : i + n + k ≡ (i + k) + n = omega arith in
    let c : i + o + k ≡ (i + k) + o = omega arith in
    rw (a, b, c, groups_changed (i + k) o n gs)

-- parts that are not empty cover what they join to
pub entries_cover : (i : ℕ) (ps : List Part) → All (λ (p : Part). 0 < length p.bytes) ps → Covers i (entries_from i ps) (i + length (joined ps))
unfolding entries_from flatten
entries_cover i [] h = sym (add-zero i)
entries_cover i (p ∷ ps) h = (refl, (h.0, rw (length-append, ← add_assoc) (entries_cover (i + length p.bytes) ps h.1)))

-- the bytes of each entry are those of its part
pub entries_bytes : (pre : List ℕ) (ps : List Part) → map (entry_bytes (pre ++ joined ps)) (entries_from (length pre) ps) ≡ map (λ (p : Part). p.bytes) ps
unfolding entries_from flatten entry_bytes
entries_bytes pre [] = refl
entries_bytes pre (p ∷ ps) =
    let r = entries_bytes (pre ++ p.bytes) ps in
    rw (drop-append_seam pre (p.bytes ++ joined ps), take-append_seam p.bytes (joined ps), rw (length-append, append_assoc) at r)

-- what holds of each part and its length holds of each entry's bytes, size and kind
pub entries_all : (P : List ℕ → ℕ → ℕ → Type 0) (pre : List ℕ) (ps : List Part) → All (λ (p : Part). P p.bytes (length p.bytes) p.kind) ps
    → All (λ (e : Entry). P (entry_bytes (pre ++ joined ps) e) e.size e.kind) (entries_from (length pre) ps)
unfolding entries_from flatten entry_bytes
entries_all P pre [] h = tt
entries_all P pre (p ∷ ps) h = (
  rw (drop-append_seam pre (p.bytes ++ joined ps), take-append_seam p.bytes (joined ps)) h.0,
  rw (length-append, append_assoc) at (entries_all P (pre ++ p.bytes) ps h.1),
)
