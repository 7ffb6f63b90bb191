-- What is still to be read is the run from Cntt number j on; the table holds the channels so far. j goes up.
use mathlib.Core.Path.{refl, sym, ◌∙◌}
use native.Mathlib.Omega.{arith}
use Rattle.layout.specs.Group.{cntts_of}
use Rattle.layout.proofs.Runs.{run_stop, run_done, run_more}
use Rattle.layout.proofs.Cntts.{cntt_turn_more, cntt_fits}
use Rattle.std.proofs.lemmas.Result.{err_from_is_err_and}
use Rattle.read_bytes.proofs.Turned.{turn_goes_on, turn_ends, turn_stops}
use Rattle.read_group.proofs.SeenLaws.{seen_start}
use Rattle.read_group.proofs.CnttLaws.{small, cntts_more}
use Rattle.read_group.proofs.cntts.read_cntts.Goals as goal

pub loop-channel-init : goal.loop-channel-init
unfolding cntts_of
loop-channel-init c = (omega arith, (seen_start _ _ refl, refl))

pub cntt_turn-requires : goal.cntt_turn-requires
cntt_turn-requires c = (c.loop-channel.invariant.0, (c.requires.1, c.loop-channel.invariant.1.0))

pub returns-in_err-cntt_turn : goal.returns-in_err-cntt_turn
returns-in_err-cntt_turn c =
    let p = err_from_is_err_and c.from_residual.result c.from_residual.ensures.1 in
    rw (p.1, p.2) (sym (c.loop-channel.invariant.1.1 ∙ run_stop _ _ _ _ _ (omega arith) (turn_stops _ _ c.in_err-cntt_turn.ensures)))

pub returns : goal.returns
returns c = sym (c.loop-channel.invariant.1.1 ∙ run_done _ _ _ (omega arith) (turn_ends _ _ c.in_ok-cntt_turn.ensures c.in_default.not-Chunk))

pub byte-channel-requires : goal.byte-channel-requires
byte-channel-requires c = omega (arith, cntt_fits _ _ _ _ _ _ (cntt_turn_more _ _ _ _ _ (turn_goes_on _ _ c.in_ok-cntt_turn.ensures c.in-Chunk.is)))

pub bounds-seen-channel : goal.bounds-seen-channel
bounds-seen-channel c = small _ _ _ _ (cntt_turn_more _ _ _ _ _ (turn_goes_on _ _ c.in_ok-cntt_turn.ensures c.in-Chunk.is)) _ c.byte-channel.ensures.0

pub loop-channel-preserved : goal.loop-channel-preserved
loop-channel-preserved c =
    let l = c.loop-channel in
    let told = turn_goes_on _ _ c.in_ok-cntt_turn.ensures c.in-Chunk.is in
    let more = cntt_turn_more _ _ _ _ _ told in
    (omega (arith, cntt_fits _ _ _ _ _ _ more), (cntts_more _ _ _ _ more _ c.byte-channel.ensures.0 _ l.invariant.1.0, l.invariant.1.1 ∙ run_more _ _ _ (omega arith) told))
