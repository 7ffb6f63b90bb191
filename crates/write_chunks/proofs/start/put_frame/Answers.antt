use Rattle.write_chunks.proofs.Starts.{frame_none, frame_put}
use Rattle.write_chunks.proofs.start.put_frame.Goals as goal

pub returns-in_default : goal.returns-in_default
returns-in_default c = frame_none _ _ _ _ c.in_default.is

pub returns : goal.returns
returns c =
    let a = c.args in
    frame_put a.text.now a.out.now a.plan _ c.in-Ok.is c.put_start-at.new.out _ _ _ c.put_start-at.ensures c.ctab_place-to.ensures c.put_cntts.ensures
