-- The second table is the one that the row tells.
use Rattle.c_export.proofs.Crossed.{placed_with}
use Rattle.c_export.proofs.asking.place_first.Goals as goal

pub returns : goal.returns
returns c = placed_with _ _ _ _ _ _ c.second_by-second.ensures c.place_ctab.ensures
