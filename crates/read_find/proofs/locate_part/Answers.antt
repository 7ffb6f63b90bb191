-- The body read once; then the texts of its groups are asked, where they lie.
use Prim.Native.Nat.{ℕ}
use mathlib.Core.Path.{sym, ap, ◌∙◌}
use Rattle.std.proofs.lemmas.Result.{err_from_is_err_and}
use Rattle.read_find.specs.Find.{numbered}
use Rattle.read_find.proofs.FindLaws.{part_refused, part_asked}
use Rattle.read_find.proofs.locate_part.Goals as goal

pub returns-in_err-n : goal.returns-in_err-n
returns-in_err-n c =
    let p = err_from_is_err_and c.from_residual.result c.from_residual.ensures.1 in
    rw (p.1, p.2) (sym (part_refused _ _ (sym c.read_groups.ensures.run ∙ c.in_err-n.was) _))

pub returns : goal.returns
returns c =
    let r = c.read_groups.ensures in
    let known = r.known _ c.in_ok-n.was in
    c.group_numbered.ensures ∙ (ap (λ (n : ℕ). numbered c.args.s.now n c.group_named-k.result) known.count ∙ sym (part_asked _ _ (sym r.run ∙ c.in_ok-n.was) _ _ c.group_named-k.ensures))
