-- A record's edition, its bytes, its second table and its position are all that is looked at.
use Rattle.write_plan.proofs.Made.{held_within}
use Rattle.write_plan.proofs.Looking.{taken_held}
use Rattle.write_plan.proofs.look_at.Goals as goal

pub look_at_bytes-after-requires : goal.look_at_bytes-after-requires
look_at_bytes-after-requires c =
    let bytes = c in
    (held_within bytes.args.r bytes.bytes_of-b.result c.edition_of-edition.result bytes.bytes_of-b.ensures, bytes.requires)

pub returns : goal.returns
returns c =
    let position = c in
    let edition = position in
    taken_held _ _ _ _ _ _ _ _ _ edition.bytes_of-b.ensures edition.edition_of-edition.ensures position.second_of-second.ensures position.position_of-position.ensures c.look_at_bytes-after.ensures
