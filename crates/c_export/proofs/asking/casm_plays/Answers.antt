-- The face's answer, its channels as numbers.
use Rattle.c_export.proofs.Crossed.{players_told}
use Rattle.c_export.proofs.asking.casm_plays.Goals as goal

pub returns : goal.returns
returns c = players_told c.who_plays-x.result _ c.numbers-channels.result c.numbers-channels.ensures c.who_plays-x.ensures
