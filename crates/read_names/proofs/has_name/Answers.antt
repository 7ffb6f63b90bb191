-- The parts that `split` gives are the names; one of them is the name, or none is.
use mathlib.Core.Path.{◌≡◌, ◌∙◌}
use mathlib.Core.Bool.{true, false}
use borrow.Author.Rules.{rules}
use borrow.Author.Tests.{tests}
use lib.Dec.{eqb}
use Rattle.std.specs.Cmp.Lexicographic.{pointwise}
use Rattle.std.proofs.lemmas.Iterator.{cases_from_any}
use Rattle.std.proofs.lemmas.Iterator.Splits.{YieldsList-from_slice_split}
use Rattle.read_names.proofs.Compare.{has_part, any_told}
use Rattle.read_names.proofs.has_name.Goals as goal

pub returns : goal.returns
returns c =
    let a = c.args in
    let s = c.split.ensures in
    any_told (λ x. pointwise eqb x a.name.now) _ c.any.result (
    cases_from_any _ _ _ (λ x. pointwise eqb x a.name.now ≡ true) (λ x. pointwise eqb x a.name.now ≡ false) c.any.ensures.ran
    (YieldsList-from_slice_split _ (λ b. eqb b 44) a.t.now s.rest s.done s.closure (λ x b q k. search (rules, tests))) (λ x q k. search (rules, tests)) (λ x q k. search (rules, tests))
    )
    ∙ has_part _ _
