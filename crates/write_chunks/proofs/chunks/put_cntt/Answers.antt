use Rattle.write_chunks.proofs.Stored.{cntt_stored}
use Rattle.write_chunks.proofs.chunks.put_cntt.Goals as goal

pub returns : goal.returns
returns c =
    let a = c.args in
    cntt_stored a.channel a.v a.out.now c.put_head.new.out c.requires c.put_head.ensures
