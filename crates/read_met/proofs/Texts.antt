-- The text of a group where it stands.
use Prim.Native.Nat.{ℕ, ◌+◌, ◌-◌, ◌≤◌, ◌<◌}
use native.Mathlib.Omega.{arith}
use mathlib.Core.Path.{◌≡◌, ap, ◌∙◌}
use mathlib.Core.List.{List}
use lib.ListN.{length, get_or, take, drop}
use Rattle.layout.specs.Bytes.{word}
use Rattle.layout.specs.Body.{group_place, text_at}
use Rattle.read_met.specs.Before.{Places}

-- the part from b on, 16 bytes after the tag, is the text
pub text_there : (s : List ℕ) (at b l : ℕ) → b ≡ at + 16 → l ≡ word s (at + 12) → take (b + l - b) (drop b s) ≡ text_at s at
unfolding text_at
text_there s at b l e f = let z : b + l - b ≡ word s (at + 12) = omega arith in rw (z, e)

-- the text of a group whose place w the table has: it starts 16 bytes on
module _ (s ps : List ℕ) (n k : ℕ) (known : Places s n ps) (l : k < n) (w : ℕ) (e : w ≡ get_or ps k 0) where
  pub text_fits : w + 16 + word s (w + 16 - 4) ≤ length s
  text_fits = let z : w + 16 - 4 ≡ get_or ps k 0 + 12 = omega arith in rw (z, e) (rw (known.place k l) (known.fits k l))

  pub text_part : (v : ℕ) → v ≡ word s (w + 16 - 4) → take (w + 16 + v - (w + 16)) (drop (w + 16) s) ≡ text_at s (group_place s k)
  text_part v f =
      let z : w + 16 - 4 ≡ get_or ps k 0 + 12 = omega arith in
      let b : w + 16 ≡ get_or ps k 0 + 16 = omega arith in
      text_there s (get_or ps k 0) (w + 16) v b (rw z at f) ∙ ap (text_at s) (known.place k l)

-- fewer places
pub places_fewer : (s ps : List ℕ) (n m : ℕ) → m ≤ n → Places s n ps → Places s m ps
places_fewer s ps n m h known = record { size = known.size; place = λ k l. known.place k (omega arith); fits = λ k l. known.fits k (omega arith) }
