use Rattle.write_chunks.proofs.Starts.{start_put}
use Rattle.write_chunks.proofs.start.put_start.Goals as goal

pub returns : goal.returns
returns c = let a = c.args in start_put a.text.now a.out.now a.p c.put_front.new.out c.put_front.ensures
