-- What the caller asks for is what the match found.
use Rattle.layout.specs.Lock.{locks, keeps}
use Rattle.write_edit.proofs.is_kept.Goals as goal

pub returns-in-NotAsked : goal.returns-in-NotAsked
unfolding keeps locks
returns-in-NotAsked c = rw c.in-NotAsked.is

pub returns-in-Asked : goal.returns-in-Asked
unfolding keeps
returns-in-Asked c = rw c.in-Asked.is
