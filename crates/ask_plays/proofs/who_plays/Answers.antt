-- Who plays in the group that is asked, or the refusal with every other field 0.
use mathlib.Core.Path.{sym, ap, ◌∙◌}
use Rattle.layout.specs.Answers.{number_of, place_of, value_or}
use Rattle.layout.specs.Plays.{played, in_sixteen}
use Rattle.ask_plays.proofs.who_plays.Goals as goal

pub players-requires : goal.players-requires
players-requires c =
    let g = c.in-Ok.ensures in
    (g.ctabs, (g.few, (g.root_known, g.type_known)))

pub returns-in-Ok : goal.returns-in-Ok
returns-in-Ok c = c.players.ensures ∙ ap played (sym c.in-Ok.ensures.plays)

pub returns-in-Err : goal.returns-in-Err
unfolding played in_sixteen number_of place_of value_or
returns-in-Err c = ap played (sym c.in-Err.ensures)
