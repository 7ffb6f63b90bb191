-- The places hold those of the first i Ctabs that play. The Ctabs are at most sixteen, so there is room for one more.
use mathlib.Core.Path.{sym, ◌∙◌}
use native.Mathlib.Omega.{arith}
use lib.ListN.{length}
use Rattle.layout.proofs.Ctabs.{row_fits}
use Rattle.ask_plays.proofs.Filled.{filled_start, filled_room, filled_passed, filled_more, filled_end}
use Rattle.ask_plays.proofs.players.Goals as goal

pub loop-i-init : goal.loop-i-init
loop-i-init c = filled_start _ _ _ _ _

pub ctab_place-at-requires : goal.ctab_place-at-requires
ctab_place-at-requires c = omega (arith, row_fits c.args.x.edition c.args.x.ctabs c.loop-i.i c.args.x.records (length c.args.s.now) c.loop-i-test.true c.requires.0)

pub overflow_add-at : goal.overflow_add-at
overflow_add-at c = omega (arith, c.ctab_place-at.ensures, row_fits c.args.x.edition c.args.x.ctabs c.loop-i.i c.args.x.records (length c.args.s.now) c.loop-i-test.true c.requires.0)

pub is_playing-requires : goal.is_playing-requires
is_playing-requires c =
    (omega (arith, c.ctab_place-at.ensures, row_fits c.args.x.edition c.args.x.ctabs c.loop-i.i c.args.x.records (length c.args.s.now) c.loop-i-test.true c.requires.0), c.requires.1.1)

pub loop-i-preserved-then-not-is_playing : goal.loop-i-preserved-then-not-is_playing
loop-i-preserved-then-not-is_playing c = filled_passed _ _ _ _ _ _ _ _ c.loop-i.invariant (rw c.ctab_place-at.ensures at (sym c.is_playing.ensures ∙ c.if-not-is_playing.true))

pub bounds-s-at : goal.bounds-s-at
bounds-s-at c = omega (arith, c.ctab_place-at.ensures, row_fits c.args.x.edition c.args.x.ctabs c.loop-i.i c.args.x.records (length c.args.s.now) c.loop-i-test.true c.requires.0)

pub bounds-channels-count : goal.bounds-channels-count
bounds-channels-count c = filled_room _ _ _ _ _ _ _ _ c.loop-i.invariant (omega arith)

pub overflow_add-count : goal.overflow_add-count
overflow_add-count c = let room = filled_room _ _ _ _ _ _ _ _ c.loop-i.invariant (omega arith) in omega (arith, room)

pub loop-i-preserved : goal.loop-i-preserved
loop-i-preserved c =
    rw c.ctab_place-at.ensures (filled_more _ _ _ _ _ _ _ _ c.loop-i.invariant (omega arith) (rw c.ctab_place-at.ensures at (sym c.is_playing.ensures ∙ c.if-not-is_playing.false)))

pub returns : goal.returns
returns c = filled_end _ _ _ _ _ _ _ _ _ c.loop-i.invariant (omega arith)
