-- After k turns the lines of the first k entries stand in the buffer; each line has room because all have.
use Rattle.list_text.proofs.Entries.{told_start, told_room, told_next}
use Rattle.list_text.proofs.put_entries.Goals as goal

pub loop-k-init : goal.loop-k-init
loop-k-init c = told_start _ _ _ _

pub put_entry-behind-requires : goal.put_entry-behind-requires
put_entry-behind-requires c = told_room c.args.list.now c.args.n _ _ c.requires.1 _ _ _ c.loop-k.invariant

pub loop-k-preserved : goal.loop-k-preserved
loop-k-preserved c =
    told_next c.args.list.now c.args.n _ _ c.requires.1 _ _ _ c.loop-k.invariant _ _ c.loop-k-test.true c.put_entry-behind.ensures
