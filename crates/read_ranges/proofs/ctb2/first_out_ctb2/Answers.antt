-- The four parts one after the other, by the columns of the edition's table.
use Prim.Native.Nat.{ℕ, ◌≤◌}
use native.Mathlib.Omega.{arith}
use mathlib.Core.Path.{◌≡◌}
use mathlib.Core.List.{List}
use Rattle.layout.specs.declared.edition.Edition.TheVariants.{Second}
use Rattle.layout.specs.Scan.{first}
use Rattle.layout.specs.Ranges.{ranges, common_ranges, set_ranges}
use Rattle.layout.proofs.Outs.{lows, highs, ruleds}
use Rattle.read_ranges.proofs.Judging.{From, standing, from_start, from_here, from_next, from_end}
use Rattle.read_ranges.proofs.ctb2.first_out_ctb2.Goals as goal

-- where a part has no byte out of its range, the search goes on at its end
module _ (s : List ℕ) (at a : ℕ) (q : a ≡ first (standing Second s at) 0 12) (h : 12 ≤ a) where
  from_12 : From Second s at 47 12
  from_12 = from_next Second s at 47 0 (from_start Second s at 47) a 12 (omega arith) (omega arith) q h

  module _ (b : ℕ) (r : b ≡ first (standing Second s at) 12 24) (i : 24 ≤ b) where
    from_24 : From Second s at 47 24
    from_24 = from_next Second s at 47 12 from_12 b 24 (omega arith) (omega arith) r i

    from_36 : (c : ℕ) → c ≡ first (standing Second s at) 24 36 → 36 ≤ c → From Second s at 47 36
    from_36 c t j = from_next Second s at 47 24 from_24 c 36 (omega arith) (omega arith) t j

pub returns-then-a-lt12 : goal.returns-then-a-lt12
unfolding lows highs ruleds ranges common_ranges set_ranges
returns-then-a-lt12 c = from_here Second _ _ _ 0 (from_start Second _ _ _) _ 12 (omega arith) (omega arith) c.first_out_part-a.ensures (omega arith)

pub returns-then-b-lt24 : goal.returns-then-b-lt24
unfolding lows highs ruleds ranges common_ranges set_ranges
returns-then-b-lt24 c = from_here Second _ _ _ 12 (from_12 _ _ _ c.first_out_part-a.ensures (omega arith)) _ 24 (omega arith) (omega arith) c.first_out_part-b.ensures (omega arith)

pub returns-then-c-lt36 : goal.returns-then-c-lt36
unfolding lows highs ruleds ranges common_ranges set_ranges
returns-then-c-lt36 c =
    from_here Second _ _ _ 24 (from_24 _ _ _ c.first_out_part-a.ensures (omega arith) _ c.first_out_part-b.ensures (omega arith)) _ 36 (omega arith) (omega arith) c.first_out_part-c.ensures (omega arith)

pub returns : goal.returns
unfolding lows highs ruleds ranges common_ranges set_ranges
returns c =
    from_end Second _ _ _ 36 (from_36 _ _ _ c.first_out_part-a.ensures (omega arith) _ c.first_out_part-b.ensures (omega arith) _ c.first_out_part-c.ensures (omega arith)) _ c.first_out_part.ensures
