-- The answer is what the CASM section comes to, field by field.
use mathlib.Core.Path.{ap, sym, ◌∙◌}
use Rattle.layout.specs.Answers.{number_of, place_of, value_or}
use Rattle.layout.specs.Style.{located}
use Rattle.read_style.specs.Walk.{told_section}
use Rattle.read_style.proofs.find_casm.Goals as goal

pub returns-in-Ok : goal.returns-in-Ok
unfolding located number_of place_of value_or told_section
returns-in-Ok c = ap (λ r. located (told_section r)) (sym c.in-Ok.is) ∙ ap located c.casm_section.ensures

pub returns-in-Err : goal.returns-in-Err
unfolding located number_of place_of value_or told_section
returns-in-Err c = ap (λ r. located (told_section r)) (sym c.in-Err.is) ∙ ap located c.casm_section.ensures
