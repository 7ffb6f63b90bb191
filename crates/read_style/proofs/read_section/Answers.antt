-- The answer is what the section's length comes to, field by field.
use mathlib.Core.Path.{ap, sym, ◌∙◌}
use Rattle.layout.specs.Answers.{number_of, place_of, value_or, sized}
use Rattle.read_style.specs.Walk.{told}
use Rattle.read_style.proofs.read_section.Goals as goal

pub returns-in-Ok : goal.returns-in-Ok
unfolding sized number_of place_of value_or told
returns-in-Ok c = ap (λ r. sized (told r)) (sym c.in-Ok.is) ∙ ap sized c.section_length.ensures

pub returns-in-Err : goal.returns-in-Err
unfolding sized number_of place_of value_or told
returns-in-Err c = ap (λ r. sized (told r)) (sym c.in-Err.is) ∙ ap sized c.section_length.ensures
