-- The call by value has set the record; it is stored.
use Rattle.casm.proofs.FieldLaws.{set_there}
use Rattle.casm.proofs.field.set_in_place.Goals as goal

pub returns : goal.returns
returns c = set_there _ _ _ _ _ c.set_field-changed.ensures c.answer_of.ensures
