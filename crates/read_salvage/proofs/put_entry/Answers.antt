-- Where entries are stored there is room for three numbers more.
use Rattle.read_salvage.specs.Entries.{entry_put}
use Rattle.read_salvage.proofs.put_entry.Goals as goal

pub returns-then-stored : goal.returns-then-stored
unfolding entry_put
returns-then-stored c = rw c.if-stored.true
