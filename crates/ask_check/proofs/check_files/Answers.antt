-- Each file's section, found or not.
use mathlib.Core.Path.{◌∙◌}
use Rattle.read_style.proofs.PlaceLaws.{casm_there}
use Rattle.ask_check.proofs.Answers.{before_none, after_none}
use Rattle.ask_check.proofs.check_files.Goals as goal

pub returns-then-x-ne0 : goal.returns-then-x-ne0
returns-then-x-ne0 c = c.denied.ensures ∙ before_none _ _ _ _ _ c.find_casm-x.ensures c.if-x-ne0.true

pub returns-then-y-ne0 : goal.returns-then-y-ne0
returns-then-y-ne0 c =
    let y = c in
    let x = y in
    c.denied-then-y-ne0.ensures ∙ after_none _ _ _ _ _ _ (casm_there _ _ x.find_casm-x.ensures x.if-x-ne0.false) _ y.find_casm-y.ensures c.if-y-ne0.true

pub check_found-requires : goal.check_found-requires
check_found-requires c =
    let y = c in
    let x = y in
    (casm_there _ _ x.find_casm-x.ensures x.if-x-ne0.false, casm_there _ _ y.find_casm-y.ensures c.if-y-ne0.false)
