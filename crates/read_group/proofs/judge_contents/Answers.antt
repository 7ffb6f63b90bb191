-- The contents in their order: the Sdec's header, its text, the Ctabs of the edition that stands there, and what is behind them; one law for each way out.
use mathlib.Core.Path.{refl, sym, ◌∙◌}
use native.Mathlib.Omega.{arith}
use borrow.Author.Tests.{not-true, not-false}
use Rattle.layout.proofs.Heads.{head_within}
use Rattle.layout.proofs.Groups.{contents_head, contents_text, contents_stopped, contents_ended}
use Rattle.std.proofs.lemmas.Result.{err_from_is_err_and}
use Rattle.read_bytes.proofs.Headed.{head_fine, head_faulty, head_told}
use Rattle.read_group.specs.Read.{run_of}
use Rattle.read_group.proofs.judge_contents.Goals as goal

pub returns-in_err-check_head : goal.returns-in_err-check_head
returns-in_err-check_head c =
    let p = err_from_is_err_and c.from_residual.result c.from_residual.ensures.1 in
    let q = sym c.in_err-check_head.ensures in
    rw (p.1, p.2) (head_told _ _ _ q ∙ sym (contents_head _ _ refl (head_faulty _ _ _ q).0))

pub word_at-text-requires : goal.word_at-text-requires
word_at-text-requires c = omega (arith, head_within _ _ _ _ refl (head_fine _ _ _ (sym c.in_ok-check_head.ensures)))

pub slice_bounds-is_sound_text-end : goal.slice_bounds-is_sound_text-end
slice_bounds-is_sound_text-end c = omega (arith, head_within _ _ _ _ refl (head_fine _ _ _ (sym c.in_ok-check_head.ensures)), c.word_at-text.ensures.0)

pub returns-then-not-is_sound_text : goal.returns-then-not-is_sound_text
returns-then-not-is_sound_text c =
    sym (contents_text _ _ refl (head_fine _ _ _ (sym c.in_ok-check_head.ensures)) _ c.word_at-text.ensures.0 (sym c.is_sound_text.ensures ∙ not-true _ c.if-not-is_sound_text.true-raw))

pub edition_at-edition-requires : goal.edition_at-edition-requires
edition_at-edition-requires c = omega (arith, head_within _ _ _ _ refl (head_fine _ _ _ (sym c.in_ok-check_head.ensures)), c.word_at-text.ensures.0)

pub read_ctabs-requires : goal.read_ctabs-requires
read_ctabs-requires c = omega (arith, head_within _ _ _ _ refl (head_fine _ _ _ (sym c.in_ok-check_head.ensures)), c.word_at-text.ensures.0)

pub returns-in_err-ctabs : goal.returns-in_err-ctabs
unfolding run_of
returns-in_err-ctabs c =
    let p = err_from_is_err_and c.from_residual-in_err-ctabs.result c.from_residual-in_err-ctabs.ensures.1 in
    let sound = sym c.is_sound_text.ensures ∙ not-false _ c.if-not-is_sound_text.false-raw in
    rw (p.1, p.2) (sym (contents_stopped _ _ refl (head_fine _ _ _ (sym c.in_ok-check_head.ensures)) _ c.word_at-text.ensures.0 sound _ c.edition_at-edition.ensures _ _ (sym c.in_err-ctabs.ensures.run)))

pub returns : goal.returns
unfolding run_of
returns c =
    let sound = sym c.is_sound_text.ensures ∙ not-false _ c.if-not-is_sound_text.false-raw in
    c.judge_behind.ensures
    ∙ sym (contents_ended _ _ refl (head_fine _ _ _ (sym c.in_ok-check_head.ensures)) _ c.word_at-text.ensures.0 sound _ c.edition_at-edition.ensures _ (sym c.in_ok-ctabs.ensures.run))
