-- The edition that the match found is the record's; of a Ctb2 neither the second table nor the position given is looked at.
use Rattle.layout.specs.Records.{form_of, record_of}
use Rattle.write_plan.proofs.look_at_bytes.Goals as goal

pub look_at_known-requires : goal.look_at_known-requires
look_at_known-requires c =
    let start = c in
    (rw c.in-First.is at start.requires.0, start.requires.1)

pub look_at_known-requires-in-Second : goal.look_at_known-requires-in-Second
look_at_known-requires-in-Second c =
    let start = c in
    (rw c.in-Second.is at start.requires.0, start.requires.1)

pub returns-in-First : goal.returns-in-First
returns-in-First c = rw c.in-First.is c.look_at_known.ensures

pub returns-in-Second : goal.returns-in-Second
unfolding record_of form_of
returns-in-Second c = rw c.in-Second.is c.look_at_known-in-Second.ensures
