-- The header, then the rest.
use mathlib.Core.Path.{refl, sym, ◌∙◌}
use Rattle.layout.proofs.Groups.{cseg_tag, group_head}
use Rattle.std.proofs.lemmas.Result.{err_from_is_err_and}
use Rattle.read_bytes.proofs.Headed.{head_fine, head_faulty, head_told}
use Rattle.read_group.proofs.judge_group.Goals as goal

pub returns-in_err-check_head : goal.returns-in_err-check_head
returns-in_err-check_head c =
    let p = err_from_is_err_and c.from_residual.result c.from_residual.ensures.1 in
    let q = sym c.in_err-check_head.ensures in
    rw (p.1, p.2) (head_told _ _ _ q ∙ sym (group_head _ _ refl (head_faulty _ _ _ q).0))

pub judge_headed-requires : goal.judge_headed-requires
judge_headed-requires c = rw cseg_tag at (head_fine _ _ _ (sym c.in_ok-check_head.ensures))
