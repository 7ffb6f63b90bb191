-- The two parts one after the other, by the columns of the edition's table.
use native.Mathlib.Omega.{arith}
use Rattle.layout.specs.declared.edition.Edition.TheVariants.{First}
use Rattle.layout.specs.Ranges.{ranges, common_ranges, set_ranges}
use Rattle.layout.proofs.Outs.{lows, highs, ruleds}
use Rattle.read_ranges.proofs.Judging.{from_start, from_here, from_next, from_end}
use Rattle.read_ranges.proofs.ctab.first_out_ctab.Goals as goal

pub returns-then-a-lt13 : goal.returns-then-a-lt13
unfolding lows highs ruleds ranges common_ranges set_ranges
returns-then-a-lt13 c = from_here First _ _ _ 0 (from_start First _ _ _) _ 13 (omega arith) (omega arith) c.first_out_part-a.ensures (omega arith)

pub returns : goal.returns
unfolding lows highs ruleds ranges common_ranges set_ranges
returns c =
    from_end First _ _ _ 13 (from_next First _ _ _ 0 (from_start First _ _ _) _ 13 (omega arith) (omega arith) c.first_out_part-a.ensures (omega arith)) _ c.first_out_part.ensures
