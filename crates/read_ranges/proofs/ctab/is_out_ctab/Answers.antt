-- The columns are those of the edition's table.
use mathlib.Core.Path.{◌∙◌}
use Rattle.layout.specs.declared.edition.Edition.TheVariants.{First}
use Rattle.layout.specs.Ranges.{ranges, common_ranges, set_ranges}
use Rattle.layout.proofs.Outs.{lows, highs, ruleds}
use Rattle.read_ranges.proofs.Judging.{by_table}
use Rattle.read_ranges.proofs.ctab.is_out_ctab.Goals as goal

pub returns : goal.returns
unfolding lows highs ruleds ranges common_ranges set_ranges
returns c = c.is_out_by.ensures ∙ by_table First _ _ _
