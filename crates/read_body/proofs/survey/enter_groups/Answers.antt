-- The groups before the next one go on but for their names, and the tables hold what is known of them. They grow by one each turn, to 32 at most.
use Prim.Native.Nat.{◌+◌}
use mathlib.Core.Path.{◌≡◌, refl, sym, ap, ◌∙◌}
use native.Mathlib.Omega.{arith}
use Rattle.std.specs.Prelude.{Ok}
use Rattle.layout.specs.Bytes.{word}
use Rattle.layout.specs.Group.{Sound}
use Rattle.layout.specs.Body.{group_place, judged_no}
use Rattle.layout.proofs.Runs.{not_ended, ended_once}
use Rattle.layout.proofs.Bodies.{place_next}
use Rattle.std.proofs.lemmas.Result.{err_from_is_err_and}
use Rattle.read_body.proofs.EditionLaws.{fixed_start, fixed_next, insides_next}
use Rattle.read_body.proofs.TurnLaws.{places_start, insides_start, places_next, more_within, more_turn, stop_turn, done_turn, turns_next, counts_small, not_some}
use Rattle.read_body.proofs.survey.enter_groups.Goals as goal

pub loop-group-init : goal.loop-group-init
unfolding group_place
loop-group-init c =
    (omega arith, (refl, (omega arith, (places_start _ _ (omega arith), (insides_start _ _ (omega arith), ((λ k l. absurd (omega arith)), fixed_start _))))))

pub returns-in_err-group : goal.returns-in_err-group
returns-in_err-group c =
    let p = err_from_is_err_and c.from_residual.result c.from_residual.ensures.1 in
    let i = c.loop-group.invariant in
    rw (p.1, p.2) (record {
      few = i.0;
      stand = i.1.1.1.0;
      insides = i.1.1.1.1.0;
      turns = i.1.1.1.1.1.0;
      rest = stop_turn _ _ _ _ c.group_turn.ensures (omega (arith, i.0)) _ c.in_err-group.was;
      ended = λ n e. not_ended _ _ n e;
    })

pub enter-requires : goal.enter-requires
enter-requires c =
    let i = c.loop-group.invariant in
    let m = c.in_ok-group.was ∙ ap Ok c.in-Some.is in
    let more = more_within _ _ _ _ c.group_turn.ensures i.1.0 _ m i.1.1.0 in
    let small = counts_small c.args.s.now _ _ _ _ (c.group_turn.ensures.sound _ m) in
    (more.0, (omega (arith, i.1.1.0), small))

pub word_at-requires : goal.word_at-requires
word_at-requires c =
    let i = c.loop-group.invariant in
    omega (arith, (more_within _ _ _ _ c.group_turn.ensures i.1.0 _ (c.in_ok-group.was ∙ ap Ok c.in-Some.is) i.1.1.0).1.0)

-- a turn that goes on: what bounds the group, and the group by its number
pub loop-group-preserved : goal.loop-group-preserved
loop-group-preserved c =
    let g = c.group_turn.ensures in
    let l = c.loop-group in
    let t = l.groups in
    let i = l.invariant in
    let s = c.args.s.now in
    let x = c.in-Some.group in
    let m = c.in_ok-group.was ∙ ap Ok c.in-Some.is in
    let more = more_within _ _ _ _ g i.1.0 _ m i.1.1.0 in
    let fixed = i.1.1.1.1.1.1 in
    let numbered : judged_no s t.count ≡ Sound x.edition (word s (group_place s t.count + 12)) x.ctabs x.cntts = rw (← i.1.0) (g.sound _ m) in
    rw c.enter.ensures (
      omega (arith, more.0),
      (
        sym (place_next _ _ _ i.1.0 ∙ omega (arith, c.word_at.ensures.0)),
        (
          omega (arith, more.1.0, c.word_at.ensures.0),
          (
            places_next _ _ _ more.0 i.1.0 _ i.1.1.1.0 more.1.1,
            (
              insides_next _ _ fixed _ _ x numbered i.1.1.1.1.0 more.0 refl (g.like _ m),
              (turns_next _ _ i.1.1.1.1.1.0 (more_turn _ _ _ _ g i.1.0 _ m), fixed_next _ _ _ fixed _ _ _ _ numbered),
            ),
          ),
        ),
      ),
    )

pub returns : goal.returns
returns c =
    let i = c.loop-group.invariant in
    record {
      few = i.0;
      stand = i.1.1.1.0;
      insides = i.1.1.1.1.0;
      turns = i.1.1.1.1.1.0;
      rest = done_turn _ _ _ _ c.group_turn.ensures (omega (arith, i.0)) (c.in_ok-group.was ∙ ap Ok (not_some _ c.in_default.not-Some));
      ended = λ n e. ended_once _ n e;
    }
