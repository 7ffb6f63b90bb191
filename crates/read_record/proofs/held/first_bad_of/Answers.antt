-- The table's answer is about the record's own bytes; in the first edition its Cntt value may come before.
use mathlib.Core.Path.{refl, ◌∙◌}
use Rattle.read_record.proofs.BadBytes.{bad_at_first, bad_at_second}
use Rattle.read_record.proofs.held.first_bad_of.Goals as goal

pub first_out_held-k-requires : goal.first_out_held-k-requires
first_out_held-k-requires c = c.requires

pub returns-in-First : goal.returns-in-First
returns-in-First c =
    let f = c in
    c.first_of.ensures ∙ bad_at_first _ _ _ _ _ f.requires refl f.first_out_held-k.ensures c.in-First.is

pub returns-in-Second : goal.returns-in-Second
returns-in-Second c =
    let f = c in
    bad_at_second _ _ _ _ _ f.requires refl f.first_out_held-k.ensures c.in-Second.is
