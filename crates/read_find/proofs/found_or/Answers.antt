-- The body's refusal goes on; nothing found is refused with the number.
use mathlib.Core.Path.{refl, ◌∙◌}
use Rattle.std.proofs.lemmas.Result.{err_from_is_err_and}
use Rattle.read_find.specs.Find.{told}
use Rattle.read_find.proofs.AskLaws.{told_there}
use Rattle.read_find.proofs.found_or.Goals as goal

pub returns-in_err-search : goal.returns-in_err-search
unfolding told
returns-in_err-search c =
    let p = err_from_is_err_and c.from_residual.result c.from_residual.ensures.1 in
    rw (p.1, p.2, c.in_err-search.was) refl

pub returns : goal.returns
returns c = rw c.in_ok-search.was (c.ok_or.ensures.value ∙ told_there _ _)
