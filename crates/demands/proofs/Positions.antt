-- Document 02, §1: each statement by one law.
use Rattle.law_rounds.proofs.Rearranged.{cntts_rearranged}
use Rattle.law_rounds.proofs.AnyPosition.{edited_any_position, placed_any_position, plays_any_position}
use Rattle.law_rounds.proofs.Rounds.{field_alone}
use Rattle.law_refusals.proofs.Changes.{positions_exactly}
use Rattle.demands.specs.Positions.{CnttsInAnyOrder, PositionsRefusedExactly, EditedWhateverThePosition, PlacedWhateverThePosition, PlaysWhateverThePositions, ScreenKeepsThePosition}

pub cntts_in_any_order : CnttsInAnyOrder
cntts_in_any_order = cntts_rearranged

pub positions_refused_exactly : PositionsRefusedExactly
positions_refused_exactly = positions_exactly

pub edited_whatever_the_position : EditedWhateverThePosition
edited_whatever_the_position = edited_any_position

pub placed_whatever_the_position : PlacedWhateverThePosition
placed_whatever_the_position = placed_any_position

pub plays_whatever_the_positions : PlaysWhateverThePositions
plays_whatever_the_positions = plays_any_position

pub screen_keeps_the_position : ScreenKeepsThePosition
screen_keeps_the_position r after index value set = (field_alone r after index value set).1.1
