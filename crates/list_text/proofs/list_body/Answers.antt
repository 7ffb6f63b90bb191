-- The list holds all entries, for it has room for those of any body; the three parts of the text follow one another.
use Prim.Native.Nat.{ℕ}
use lib.ListN.{length-replicate}
use native.Mathlib.Omega.{arith}
use Rattle.layout.specs.Listing.{casm_line, end_line}
use Rattle.list_spell.proofs.Putting.{three_put, put_same}
use Rattle.list_text.proofs.Texts.{all_listed, told_most, text_told}
use Rattle.list_text.proofs.list_body.Goals as goal

pub put_entries-told-requires : goal.put_entries-told-requires
put_entries-told-requires c =
    let g = all_listed c.args.body.now _ c.list_salvage-listed.result _ (length-replicate {A = ℕ} 24576 0) c.requires.1 c.list_salvage-listed.ensures in
    (g.within, omega (arith, c.requires.0, told_most _ _ _ g c.requires.1, c.put_casm-named.ensures.upper_bound, c.put_casm-named.auto.out))

pub put_end-requires : goal.put_end-requires
put_end-requires c =
    let g = all_listed c.args.body.now _ c.list_salvage-listed.result _ (length-replicate {A = ℕ} 24576 0) c.requires.1 c.list_salvage-listed.ensures in
    omega (arith, c.requires.0, told_most _ _ _ g c.requires.1, c.put_casm-named.ensures.upper_bound, c.put_casm-named.auto.out, c.put_entries-told.ensures.place, c.put_entries-told.auto.out)

pub returns : goal.returns
returns c =
    let g = all_listed c.args.body.now _ c.list_salvage-listed.result _ (length-replicate {A = ℕ} 24576 0) c.requires.1 c.list_salvage-listed.ensures in
    put_same c.args.out.now 0 _ _ _ _ (text_told _ _ _ g c.args.tag)
    (three_put c.args.out.now 0 (casm_line _) _ (end_line _) _ _ _ _ _ _ (omega arith) (omega arith) c.put_casm-named.ensures.put c.put_entries-told.ensures c.put_end.ensures)
