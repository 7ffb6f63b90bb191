-- The Ctab with the channel, or none: one law for each way out.
use mathlib.Core.Path.{sym, ◌∙◌}
use native.Mathlib.Omega.{arith}
use Rattle.layout.proofs.Ctabs.{row_fits}
use Rattle.read_body.proofs.TurnLaws.{not_some}
use Rattle.read_find.proofs.RowLaws.{row_none, row_below, row_there}
use Rattle.read_find.proofs.row.find_in.Goals as goal

pub returns-in_default : goal.returns-in_default
returns-in_default c = row_none _ _ _ (sym c.find_row.ensures ∙ not_some _ c.in_default.not-Some)

pub ctab_place-requires : goal.ctab_place-requires
ctab_place-requires c = omega (arith, row_fits _ _ _ _ _ (row_below _ c.args.x _ _ (sym c.find_row.ensures ∙ c.in-Some.is)) c.requires)

pub overflow_add-result : goal.overflow_add-result
overflow_add-result c = omega (arith, c.ctab_place.ensures, row_fits _ _ _ _ _ (row_below _ c.args.x _ _ (sym c.find_row.ensures ∙ c.in-Some.is)) c.requires)

pub returns : goal.returns
returns c = rw c.ctab_place.ensures (row_there _ _ _ _ (sym c.find_row.ensures ∙ c.in-Some.is))
