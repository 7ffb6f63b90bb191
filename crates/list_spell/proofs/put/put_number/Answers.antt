-- The digits that the kit makes of the number are its decimal; a number below 2^64 has at most twenty.
use Rattle.list_spell.proofs.Decimals.{decimal_made}
use Rattle.list_spell.proofs.Putting.{put_same}
use Rattle.list_spell.proofs.put.put_number.Goals as goal

pub returns-clause-put : goal.returns-clause-put
returns-clause-put c =
    put_same c.args.out.now c.args.at _ _ _ _ (decimal_made c.args.n _ _ c.decimal-count.ensures.len c.decimal-count.ensures.digits) c.put_bytes.ensures
