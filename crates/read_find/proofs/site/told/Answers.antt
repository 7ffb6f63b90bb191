-- The counts with the chunk itself.
use Prim.Native.Nat.{ℕ, ◌+◌, ◌-◌}
use mathlib.Core.Path.{ap, ◌∙◌}
use mathlib.Core.Bool.{Bool, cond}
use Rattle.read_find.proofs.Sites.{one_for, site_is}
use Rattle.read_find.proofs.site.told.Goals as goal

pub returns : goal.returns
returns c =
    let a = c.args in
    let t = c.is_group-begins.ensures in
    let one = c.from.ensures ∙ (one_for _ ∙ ap (λ (b : Bool). cond b 1 0) t) in
    site_is _ _ _ _ _ (c.saturating_sub.ensures ∙ ap (λ (x : ℕ). a.groups + x - 1) one) (c.child_of.ensures ∙ ap (λ (b : Bool). cond b 0 a.rank) t)
