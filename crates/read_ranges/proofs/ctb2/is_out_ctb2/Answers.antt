-- The columns are those of the edition's table.
use mathlib.Core.Path.{◌∙◌}
use Rattle.layout.specs.declared.edition.Edition.TheVariants.{Second}
use Rattle.layout.specs.Ranges.{ranges, common_ranges, set_ranges}
use Rattle.layout.proofs.Outs.{lows, highs, ruleds}
use Rattle.read_ranges.proofs.Judging.{by_table}
use Rattle.read_ranges.proofs.ctb2.is_out_ctb2.Goals as goal

pub returns : goal.returns
unfolding lows highs ruleds ranges common_ranges set_ranges
returns c = c.is_out_by.ensures ∙ by_table Second _ _ _
