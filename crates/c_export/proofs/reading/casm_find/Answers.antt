-- What crosses is the face's answer, field by field.
use mathlib.Core.Path.{◌≡◌, refl, ◌∙◌}
use Rattle.layout.specs.declared.answer.Located.{Located}
use Rattle.c_export.proofs.reading.casm_find.Goals as goal

pub returns : goal.returns
returns c =
    let x = c.find_casm-x.result in
    let crossed : ◌≡◌ {A = Located} (record { number = x.number; place = x.place; tag = x.tag; length = x.length }) x = refl in
    crossed ∙ c.find_casm-x.ensures
