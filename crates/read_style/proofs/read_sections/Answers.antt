-- What is still to be read is the run from section number n on, which stands at `at`; `casm` is the place of the CASM tag so far. n goes up.
use mathlib.Core.Path.{refl, ◌∙◌}
use native.Mathlib.Omega.{arith}
use Rattle.layout.specs.Style.{sections_run}
use Rattle.layout.proofs.Runs.{run_stop, run_done, run_more}
use Rattle.std.proofs.lemmas.Result.{err_from_is_err_and}
use Rattle.read_bytes.proofs.Turned.{turn_goes_on, turn_ends, turn_stops}
use Rattle.read_style.proofs.SectionLaws.{section_more, turn_at, walk_start, walk_next}
use Rattle.read_style.proofs.CasmLaws.{casm_start, casm_next, walk_stopped, walk_ended}
use Rattle.read_style.proofs.read_sections.Goals as goal

pub loop-casm-init : goal.loop-casm-init
unfolding sections_run
loop-casm-init c = (walk_start _ _ (omega (arith, c.word_at-start.ensures.0)) c.requires, (casm_start _, refl))

pub section_turn-requires : goal.section_turn-requires
section_turn-requires c = (omega (arith, c.word_at-start.ensures.0), c.loop-casm.invariant.0)

pub returns-in_err-section_turn : goal.returns-in_err-section_turn
returns-in_err-section_turn c =
    let l = c.loop-casm in
    let p = err_from_is_err_and c.from_residual.result c.from_residual.ensures.1 in
    rw (p.1, p.2) (walk_stopped _ _ _ refl (l.invariant.1.1 ∙ run_stop _ _ _ _ _ (omega (arith, l.invariant.0)) (turn_at _ _ _ l.invariant.0.stands ∙ turn_stops _ _ c.in_err-section_turn.ensures)))

pub returns : goal.returns
returns c =
    let l = c.loop-casm in
    walk_ended _ _ _ (l.invariant.1.1 ∙ run_done _ _ _ (omega (arith, l.invariant.0)) (turn_at _ _ _ l.invariant.0.stands ∙ turn_ends _ _ c.in_ok-section_turn.ensures c.in_default.not-Chunk))
    l.invariant.0.fit l.invariant.1.0

pub overflow_add-at-in-Chunk : goal.overflow_add-at-in-Chunk
overflow_add-at-in-Chunk c = omega (arith, (section_more _ _ _ (turn_goes_on _ _ c.in_ok-section_turn.ensures c.in-Chunk.is)).within)

pub overflow_add-at-in-Chunk-2 : goal.overflow_add-at-in-Chunk-2
overflow_add-at-in-Chunk-2 c = omega (arith, (section_more _ _ _ (turn_goes_on _ _ c.in_ok-section_turn.ensures c.in-Chunk.is)).within)

pub word_at-requires : goal.word_at-requires
word_at-requires c = omega (arith, (section_more _ _ _ (turn_goes_on _ _ c.in_ok-section_turn.ensures c.in-Chunk.is)).within)

pub casm_after-casm-requires : goal.casm_after-casm-requires
casm_after-casm-requires c = omega (arith, (section_more _ _ _ (turn_goes_on _ _ c.in_ok-section_turn.ensures c.in-Chunk.is)).within)

pub loop-casm-preserved : goal.loop-casm-preserved
loop-casm-preserved c =
    let l = c.loop-casm in
    let told = turn_goes_on _ _ c.in_ok-section_turn.ensures c.in-Chunk.is in
    let more = section_more _ _ _ told in (
      walk_next _ _ _ _ l.invariant.0 more c.word_at.ensures.0,
      (
        casm_next _ _ _ _ l.invariant.0 more l.invariant.1.0 _ c.casm_after-casm.ensures,
        l.invariant.1.1 ∙ run_more _ _ _ (omega (arith, l.invariant.0)) (turn_at _ _ _ l.invariant.0.stands ∙ told),
      ),
    )
