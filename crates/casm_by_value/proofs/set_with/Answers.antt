-- The record was lent, and came back with the answer.
use Rattle.casm_by_value.proofs.Lending.{back_set}
use Rattle.casm_by_value.proofs.set_with.Goals as goal

pub returns : goal.returns
returns c = back_set _ _ _ _ _ _ c.set_in_place-answer.ensures c.changed_of.ensures
