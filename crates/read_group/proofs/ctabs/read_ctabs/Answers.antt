-- What is still to be read is the run from Ctab number n on; the table holds the channels so far. n goes up.
use mathlib.Core.Path.{refl, sym, ◌∙◌}
use native.Mathlib.Omega.{arith}
use Rattle.layout.specs.Group.{ctabs_of}
use Rattle.layout.proofs.Runs.{run_stop, run_done, run_more}
use Rattle.layout.proofs.Ctabs.{turn_more, ctab_fits, ctab_byte, channel_small}
use Rattle.std.proofs.lemmas.Result.{err_from_is_err_and}
use Rattle.read_bytes.proofs.Turned.{turn_goes_on, turn_ends, turn_stops}
use Rattle.read_group.proofs.SeenLaws.{seen_start}
use Rattle.read_group.proofs.CtabSeen.{ctabs_more}
use Rattle.read_group.specs.Read.{run_of}
use Rattle.read_group.proofs.ctabs.read_ctabs.Goals as goal

pub loop-channel-init : goal.loop-channel-init
unfolding ctabs_of
loop-channel-init c = (omega arith, (seen_start _ _ refl, refl))

pub returns-in_err-ctab_turn : goal.returns-in_err-ctab_turn
unfolding run_of
returns-in_err-ctab_turn c =
    let p = err_from_is_err_and c.from_residual.result c.from_residual.ensures.1 in
    let l = c.loop-channel in
    rw (p.1, p.2) (record { run = sym (l.invariant.1.1 ∙ run_stop _ _ _ _ _ (omega arith) (turn_stops _ _ c.in_err-ctab_turn.ensures)); seen = tt })

pub returns : goal.returns
unfolding run_of
returns c =
    let l = c.loop-channel in
    record { run = sym (l.invariant.1.1 ∙ run_done _ _ _ (omega arith) (turn_ends _ _ c.in_ok-ctab_turn.ensures c.in_default.not-Chunk)); seen = (l.invariant.0, l.invariant.1.0) }

pub byte-channel-requires : goal.byte-channel-requires
byte-channel-requires c =
    omega (arith, ctab_byte _ _ _ _ _ (turn_more _ _ _ _ (turn_goes_on _ _ c.in_ok-ctab_turn.ensures c.in-Chunk.is)), c.ctab_place.ensures)

pub bounds-seen-channel : goal.bounds-seen-channel
bounds-seen-channel c =
    rw (c.byte-channel.ensures.0, c.ctab_place.ensures) (channel_small _ _ _ (turn_more _ _ _ _ (turn_goes_on _ _ c.in_ok-ctab_turn.ensures c.in-Chunk.is)).inside)

pub loop-channel-preserved : goal.loop-channel-preserved
loop-channel-preserved c =
    let l = c.loop-channel in
    let told = turn_goes_on _ _ c.in_ok-ctab_turn.ensures c.in-Chunk.is in
    let more = turn_more _ _ _ _ told in (
      omega (arith, ctab_fits _ _ _ _ _ more),
      (ctabs_more _ _ _ _ _ _ l.invariant.1.0 more (rw (← c.ctab_place.ensures) c.byte-channel.ensures.0), l.invariant.1.1 ∙ run_more _ _ _ (omega arith) told),
    )
