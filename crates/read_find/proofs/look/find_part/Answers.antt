-- The search for the part, told as an answer.
use mathlib.Core.Path.{sym, ap, ◌∙◌}
use Rattle.read_find.specs.Find.{Search, told}
use Rattle.read_find.proofs.AskLaws.{told_found}
use Rattle.read_find.proofs.ReadLaws.{part_no, part_told, part_there}
use Rattle.read_find.proofs.look.find_part.Goals as goal

pub returns-in-Err : goal.returns-in-Err
returns-in-Err c = part_no _ _ _ _ (part_told _ _ _ (ap (λ (r : Search). told 15 r) (sym c.locate_part.ensures) ∙ (sym c.found_or.ensures ∙ c.in-Err.is)))

pub returns-in-Ok : goal.returns-in-Ok
returns-in-Ok c = part_there _ _ _ _ (sym c.locate_part.ensures ∙ told_found _ _ _ (sym c.found_or.ensures ∙ c.in-Ok.is))
