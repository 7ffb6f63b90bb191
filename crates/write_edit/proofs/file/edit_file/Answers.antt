-- The section that was looked for, then the edit there; or the refusal of the search.
use Rattle.read_style.proofs.PlaceLaws.{casm_there}
use Rattle.write_edit.proofs.FileEditing.{no_section}
use Rattle.write_edit.proofs.file.edit_file.Goals as goal

pub returns-then-found-ne0 : goal.returns-then-found-ne0
returns-then-found-ne0 c = no_section _ _ _ _ _ _ c.find_casm-found.ensures c.if-found-ne0.true _ c.answer.ensures

pub edit_found-requires : goal.edit_found-requires
edit_found-requires c = casm_there _ _ c.find_casm-found.ensures c.if-found-ne0.false
