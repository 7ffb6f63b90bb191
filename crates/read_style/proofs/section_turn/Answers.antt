-- The rules of a section in their order, one law for each way out.
use mathlib.Core.Path.{sym, ◌∙◌}
use native.Mathlib.Omega.{arith}
use Rattle.std.proofs.lemmas.Result.{err_from_is_err_and}
use Rattle.read_style.specs.Walk.{told}
use Rattle.read_style.proofs.SectionLaws.{turn_done, turn_cut, turn_last}
use Rattle.read_style.proofs.SectionRead.{section_header}
use Rattle.read_style.proofs.section_turn.Goals as goal

pub returns-then-at-file : goal.returns-then-at-file
returns-then-at-file c = sym (turn_done _ _ _ c.if-at-file.true)

pub returns-in_err-section_length : goal.returns-in_err-section_length
unfolding told
returns-in_err-section_length c =
    let p = err_from_is_err_and c.from_residual.result c.from_residual.ensures.1 in
    rw (p.1, p.2) (sym (turn_cut _ _ _ c.if-at-file.false _ c.in_err-section_length.ensures))

pub word_at-requires : goal.word_at-requires
unfolding told
word_at-requires c = omega (arith, section_header _ _ _ c.in_ok-section_length.ensures)

pub returns-then-is_seen : goal.returns-then-is_seen
unfolding told
returns-then-is_seen c =
    sym (turn_last _ _ _ c.if-at-file.false _ c.in_ok-section_length.ensures _ c.word_at.ensures.1.0 _ (sym c.is_seen.ensures ∙ c.if-is_seen.true))

pub returns : goal.returns
unfolding told
returns c =
    sym (turn_last _ _ _ c.if-at-file.false _ c.in_ok-section_length.ensures _ c.word_at.ensures.1.0 _ (sym c.is_seen.ensures ∙ c.if-is_seen.false))
