-- The body read once; the tables have what is known of its groups.
use Prim.Native.Nat.{ℕ}
use mathlib.Core.Path.{sym, ap, ◌∙◌}
use Rattle.std.proofs.lemmas.Result.{err_from_is_err_and}
use Rattle.read_find.specs.Find.{numbered}
use Rattle.read_find.proofs.FindLaws.{group_refused, group_asked}
use Rattle.read_find.proofs.locate_group.Goals as goal

pub returns-in_err-read_groups : goal.returns-in_err-read_groups
returns-in_err-read_groups c =
    let p = err_from_is_err_and c.from_residual.result c.from_residual.ensures.1 in
    rw (p.1, p.2) (sym (group_refused _ _ (sym c.read_groups.ensures.run ∙ c.in_err-read_groups.was) _))

pub returns : goal.returns
returns c =
    let r = c.read_groups.ensures in
    let known = r.known _ c.in_ok-read_groups.was in
    c.group_numbered.ensures ∙ (ap (λ (n : ℕ). numbered c.args.s.now n c.args.group) known.count ∙ sym (group_asked _ _ (sym r.run ∙ c.in_ok-read_groups.was) _))
