-- The header, the count, the group and its edition in their order: one law for each way out.
use mathlib.Core.Path.{sym, ◌∙◌}
use native.Mathlib.Omega.{arith}
use Rattle.std.proofs.lemmas.Result.{err_from_is_err_and}
use Rattle.read_body.proofs.EditionLaws.{unlike_body_lem}
use Rattle.read_body.proofs.TurnLaws.{turned_end, turned_head, turned_many, turned_unsound, turned_unlike, turned_more, headed_there, place_within}
use Rattle.read_body.proofs.survey.group_turn.Goals as goal

pub returns-then-at-s : goal.returns-then-at-s
returns-then-at-s c = turned_end _ _ _ c.requires.0 c.if-at-s.true

pub returns-in_err-check_head : goal.returns-in_err-check_head
returns-in_err-check_head c =
    let p = err_from_is_err_and c.from_residual.result c.from_residual.ensures.1 in
    rw (p.1, p.2) (turned_head _ _ _ c.requires.0 c.if-at-s.false _ (sym c.in_err-check_head.ensures))

pub returns-then-n-ge-GROUPS : goal.returns-then-n-ge-GROUPS
returns-then-n-ge-GROUPS c = turned_many _ _ _ c.requires.0 c.if-at-s.false _ (sym c.in_ok-check_head.ensures) (omega arith)

pub judge_headed-requires : goal.judge_headed-requires
judge_headed-requires c = headed_there _ _ c.requires.1.0 _ (sym c.in_ok-check_head.ensures)

pub overflow_add-result : goal.overflow_add-result
overflow_add-result c = omega (arith, place_within c.args.s.now c.args.at c.requires.1.0 _ (sym c.judge_headed.ensures ∙ c.in-Err.is))

pub returns-in-Err : goal.returns-in-Err
returns-in-Err c =
    turned_unsound _ _ _ c.requires.0 c.if-at-s.false _ (sym c.in_ok-check_head.ensures) (omega arith) c.requires.1.0 _ (sym c.judge_headed.ensures ∙ c.in-Err.is)

pub returns-in-Ok : goal.returns-in-Ok
returns-in-Ok c =
    turned_unlike _ _ _ c.requires.0 c.if-at-s.false _ (sym c.in_ok-check_head.ensures) (omega arith) c.requires.1.0 _ (sym c.judge_headed.ensures ∙ c.in-Ok.is)
    (unlike_body_lem _ _ _ c.requires.1.1.1 _ _ ∙ (sym c.is_unlike.ensures ∙ c.if-is_unlike.true))

pub returns-in-Ok-2 : goal.returns-in-Ok-2
returns-in-Ok-2 c =
    turned_more _ _ _ c.requires.0 c.if-at-s.false _ (sym c.in_ok-check_head.ensures) (omega arith) c.requires.1.0 _ (sym c.judge_headed.ensures ∙ c.in-Ok.is)
    (unlike_body_lem _ _ _ c.requires.1.1.1 _ _ ∙ (sym c.is_unlike.ensures ∙ c.if-is_unlike.false))
