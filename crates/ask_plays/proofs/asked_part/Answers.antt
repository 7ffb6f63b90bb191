-- The search for the part, then the chord's numbers, then the part: one law for each way out.
use mathlib.Core.Path.{sym, ap, ◌∙◌}
use native.Mathlib.Omega.{arith}
use Rattle.std.specs.Prelude.{Ok}
use Rattle.std.proofs.lemmas.Result.{err_from_is_err_and}
use Rattle.ask_plays.proofs.PlayLaws.{plays_refused, read_through, not_found, no_such_root, no_such_type, no_such_part, part_plays}
use Rattle.ask_plays.proofs.asked_part.Goals.{then-root-gt-ROOT-via-then-root-gt-ROOT, then-root-gt-ROOT-via-else-root-gt-ROOT+then-kind-gt-KIND}
use Rattle.ask_plays.proofs.asked_part.Goals as goal

pub returns-in_err-found : goal.returns-in_err-found
returns-in_err-found c =
    let p = err_from_is_err_and c.from_residual.result c.from_residual.ensures.1 in
    rw (p.1, p.2) (plays_refused _ _ _ _ _ (sym c.in_err-found.ensures))

pub returns-then-root-gt-ROOT : goal.returns-then-root-gt-ROOT
returns-then-root-gt-ROOT c =
    let r = read_through _ _ _ (sym c.in_ok-found.ensures) in
    elim c.then-root-gt-ROOT.branch [
      | then-root-gt-ROOT-via-then-root-gt-ROOT w ↦ no_such_root _ _ _ _ r.0 r.1 (omega arith)
      | then-root-gt-ROOT-via-else-root-gt-ROOT+then-kind-gt-KIND w ↦ no_such_type _ _ _ _ r.0 r.1 (omega arith) (omega arith)
    ]

pub returns-in_default : goal.returns-in_default
returns-in_default c = no_such_part _ _ _ _ (sym c.in_ok-found.ensures ∙ ap Ok (not_found _ c.in_default.not-Some)) (omega arith) (omega arith)

pub returns : goal.returns
returns c = part_plays _ _ _ _ _ (sym c.in_ok-found.ensures ∙ ap Ok c.in-Some.is) (omega arith) (omega arith)
