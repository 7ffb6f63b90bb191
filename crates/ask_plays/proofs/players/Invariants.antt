use Rattle.ask_plays.proofs.Filled.{Filled}
use Rattle.ask_plays.proofs.players.Given as goal

abbrev pub invariant-loop-i : goal.invariant-loop-i
invariant-loop-i l = Filled l.x.edition l.s l.x.ctabs l.root l.kind l.i l.count l.channels
