-- The bytes held where they stand, and what the Cntt says. From byte 0 of the record on there are as many as are held.
use mathlib.Core.Path.{◌∙◌}
use native.Mathlib.Omega.{arith}
use Rattle.read_table.proofs.Seconds.{held_within, first_within, record_here}
use Rattle.read_table.proofs.record_at.Goals as goal

pub bounds-s-at : goal.bounds-s-at
bounds-s-at c = omega (arith, first_within c.args.plan.edition _ _ _ _ c.ctab_place-at.ensures c.requires.0)

pub overflow_add-at-2 : goal.overflow_add-at-2
overflow_add-at-2 c = omega (arith, held_within c.args.plan.edition _ _ _ _ c.ctab_place-at.ensures c.requires.0 _ c.held_of.ensures)

pub slice_bounds-record_of-end : goal.slice_bounds-record_of-end
slice_bounds-record_of-end c = omega (arith, held_within c.args.plan.edition _ _ _ _ c.ctab_place-at.ensures c.requires.0 _ c.held_of.ensures)

pub returns : goal.returns
returns c =
    c.record_of.ensures ∙ record_here _ _ _ _ _ _ _ _ _ _ c.ctab_place-at.ensures c.held_of.ensures c.second_of-second.ensures.second c.second_of-second.ensures.position
