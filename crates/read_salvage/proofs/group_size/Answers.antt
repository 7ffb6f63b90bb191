-- The limit, then whether CSEG stands at the start, then the verdict on the group; one law for each way out.
use mathlib.Core.Path.{sym, ◌∙◌}
use native.Mathlib.Omega.{arith}
use borrow.Author.Tests.{not-true, not-false}
use Rattle.std.proofs.lemmas.Result.{err_from_is_err_and}
use Rattle.read_salvage.specs.Entries.{told}
use Rattle.read_salvage.proofs.Verdicts.{sound_at}
use Rattle.read_salvage.proofs.Alone.{alone_over, alone_loose, alone_refused, alone_sound}
use Rattle.read_salvage.proofs.group_size.Goals as goal

pub returns-then-entry-gt-BODY : goal.returns-then-entry-gt-BODY
unfolding told
returns-then-entry-gt-BODY c = sym (alone_over _ (omega arith))

pub returns-then-not-begins : goal.returns-then-not-begins
unfolding told
returns-then-not-begins c = sym (alone_loose _ (omega arith) (sym c.begins.ensures ∙ not-true _ c.if-not-begins.true-raw))

pub returns-in_err-judge_group : goal.returns-in_err-judge_group
unfolding told
returns-in_err-judge_group c =
    let p = err_from_is_err_and c.from_residual.result c.from_residual.ensures.1 in
    let begins = sym c.begins.ensures ∙ not-false _ c.if-not-begins.false-raw in
    rw (p.1, p.2) (sym (alone_refused _ (omega arith) begins _ _ (sym c.in_err-judge_group.ensures)))

pub word_at-requires : goal.word_at-requires
word_at-requires c = omega (arith, (sound_at _ _ _ _ _ (sym c.in_ok-judge_group.ensures)).long)

pub returns : goal.returns
unfolding told
returns c =
    let begins = sym c.begins.ensures ∙ not-false _ c.if-not-begins.false-raw in
    sym (alone_sound _ (omega arith) begins _ _ _ _ _ (sym c.in_ok-judge_group.ensures) c.word_at.ensures.0)
