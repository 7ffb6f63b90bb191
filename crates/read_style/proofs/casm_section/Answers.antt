-- The rules of the call in their order, one law for each way out.
use mathlib.Core.Path.{refl, sym, ◌∙◌}
use native.Mathlib.Omega.{arith}
use Rattle.std.proofs.lemmas.Result.{err_from_is_err_and}
use Rattle.read_style.specs.Walk.{told_section}
use Rattle.read_style.proofs.StyleLaws.{track_within}
use Rattle.read_style.proofs.CasmLaws.{none_of, file_over, no_style_lem, sections_stopped, casm_none, casm_over, casm_found_lem, casm_fits}
use Rattle.read_style.proofs.casm_section.Goals as goal

pub returns-then-file-gt-FILE : goal.returns-then-file-gt-FILE
unfolding told_section
returns-then-file-gt-FILE c = sym (file_over _ (omega arith))

pub returns-then-is_no_style : goal.returns-then-is_no_style
unfolding told_section
returns-then-is_no_style c = sym (no_style_lem _ (omega arith) (sym c.is_no_style.ensures ∙ c.if-is_no_style.true))

pub read_sections-requires : goal.read_sections-requires
read_sections-requires c = track_within _ (sym c.is_no_style.ensures ∙ c.if-is_no_style.false)

pub returns-in_err-casm : goal.returns-in_err-casm
unfolding told_section
returns-in_err-casm c =
    let p = err_from_is_err_and c.from_residual.result c.from_residual.ensures.1 in
    rw (p.1, p.2) (sym (sections_stopped _ (omega arith) (sym c.is_no_style.ensures ∙ c.if-is_no_style.false) _ (c.in_err-casm.ensures.stopped _ refl)))

pub returns-in_default : goal.returns-in_default
unfolding told_section
returns-in_default c =
    let k = c.in_ok-casm.ensures.ended _ refl in
    sym (casm_none _ (omega arith) (sym c.is_no_style.ensures ∙ c.if-is_no_style.false) k.n _ k.run k.stands (none_of _ c.in_default.not-Some))

pub overflow_add-casm : goal.overflow_add-casm
overflow_add-casm c = let k = c.in_ok-casm.ensures.ended _ refl in omega (arith, casm_fits _ k.n _ _ k.fit k.stands c.in-Some.is)

pub word_at-length-requires : goal.word_at-length-requires
word_at-length-requires c = let k = c.in_ok-casm.ensures.ended _ refl in omega (arith, casm_fits _ k.n _ _ k.fit k.stands c.in-Some.is)

pub returns-then-length-gt-BODY : goal.returns-then-length-gt-BODY
unfolding told_section
returns-then-length-gt-BODY c =
    let k = c.in_ok-casm.ensures.ended _ refl in
    sym (casm_over _ (omega arith) (sym c.is_no_style.ensures ∙ c.if-is_no_style.false) k.n _ k.run k.stands _ c.in-Some.is _ c.word_at-length.ensures.0 (omega arith))

pub returns : goal.returns
unfolding told_section
returns c =
    let k = c.in_ok-casm.ensures.ended _ refl in
    sym (casm_found_lem _ (omega arith) (sym c.is_no_style.ensures ∙ c.if-is_no_style.false) k.n _ k.run k.stands _ c.in-Some.is _ c.word_at-length.ensures.0 (omega arith))
