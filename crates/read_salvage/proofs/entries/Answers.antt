-- n entries are counted, and stand in the lent list where they are stored; those from i on are still to come. i goes up to the end, where none is.
use Rattle.read_salvage.proofs.Filling.{filling_start, filling_fits, filling_turn, filling_end}
use borrow.Author.Rules.{rules}
use Rattle.read_salvage.proofs.entries.Goals as goal

pub loop-i-init : goal.loop-i-init
loop-i-init c = filling_start _ _ _

pub put_entry-requires : goal.put_entry-requires
put_entry-requires c e =
    let l = c in
    filling_fits _ _ _ _ _ _ _ _ l.loop-i.invariant c.entry_at-f.ensures (l.requires e)

pub loop-i-preserved : goal.loop-i-preserved
loop-i-preserved c =
    let p = c in
    let l = p in
    filling_turn _ _ _ _ _ _ _ _ l.loop-i.invariant p.entry_at-f.ensures l.requires _ p.put_entry.ensures

pub shape_of-list : goal.shape_of-list
shape_of-list c = c.loop-i.invariant.long

pub returns : goal.returns
returns c = let e = filling_end _ _ _ _ _ _ c.loop-i.invariant (search rules) in record { value = e.0; list_after = e.1 }
