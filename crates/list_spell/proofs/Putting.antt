-- Bytes put one behind the other stand together at the first place.
use Prim.Native.Nat.{ℕ, ◌≤◌}
use mathlib.Core.Path.{◌≡◌, ap₂, ◌∙◌}
use mathlib.Core.List.{List, ◌++◌}
use native.Mathlib.Omega.{arith}
use lib.ListN.{length, length-append}
use Rattle.layout.specs.Edit.{replaced}
use Rattle.layout.proofs.Replaced.{replaced_twice}
use Rattle.list_spell.specs.Puts.{Put}

-- the same bytes
pub put_same : (s : List ℕ) (at : ℕ) (b c : List ℕ) (r : ℕ) (after : List ℕ) → b ≡ c → Put s at b r after → Put s at c r after
put_same s at b c r after e p = rw e at p

-- ---- two parts, three, and four

pub two_put : (s : List ℕ) (at : ℕ) (a b : List ℕ) (i : ℕ) (one : List ℕ) (r : ℕ) (after : List ℕ) → at ≤ length s → Put s at a i one → Put one i b r after → Put s at (a ++ b) r after
two_put s at a b i one r after h p q =
    record {
      place = omega (arith, p.place, q.place, length-append a b);
      buffer = q.buffer ∙ (ap₂ (λ (x : List ℕ) (k : ℕ). replaced x k b) p.buffer p.place ∙ replaced_twice s at a b h);
    }

module _ (s : List ℕ) (at : ℕ) (a b c : List ℕ) (i : ℕ) (one : List ℕ) (j : ℕ) (two : List ℕ) (r : ℕ) (after : List ℕ) where
  pub three_put : at ≤ length s → i ≤ length one → Put s at a i one → Put one i b j two → Put two j c r after → Put s at (a ++ (b ++ c)) r after
  three_put h g p q t = two_put s at a (b ++ c) i one r after h p (two_put one i b c j two r after g q t)

module _ (s : List ℕ) (at : ℕ) (a b c d : List ℕ) (i : ℕ) (one : List ℕ) (j : ℕ) (two : List ℕ) (k : ℕ) (three : List ℕ) (r : ℕ) (after : List ℕ) where
  pub four_put : at ≤ length s → i ≤ length one → j ≤ length two → Put s at a i one → Put one i b j two → Put two j c k three → Put three k d r after
      → Put s at (a ++ (b ++ (c ++ d))) r after
  four_put h g f p q t u = two_put s at a (b ++ (c ++ d)) i one r after h p (three_put one i b c d j two k three r after g f q t u)
