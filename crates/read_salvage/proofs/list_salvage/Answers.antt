-- The limit, then the room: fits says whether the entries are at most a third of the lent list's numbers. Where they are, all are written.
use mathlib.Core.Path.{sym, ap, ◌∙◌}
use native.Mathlib.Omega.{arith}
use borrow.Author.Tests.{not-true, not-false, leb-true, leb-false}
use Rattle.read_salvage.specs.Entries.{list_after}
use Rattle.read_salvage.proofs.Listing.{has_room, too_long, no_room_given, all_listed}
use borrow.Author.Rules.{rules}
use Rattle.read_salvage.proofs.list_salvage.Goals as goal

pub returns-then-body-gt-BODY : goal.returns-then-body-gt-BODY
returns-then-body-gt-BODY c = too_long _ _ (search rules)

pub returns-then-not-fits : goal.returns-then-not-fits
returns-then-not-fits c =
    let f = c in
    let a = f.args in
    no_room_given a.body.now _ (omega arith) _ f.fits.ensures.list_unchanged (leb-false _ _ (sym f.fits.ensures.value ∙ not-true _ c.if-not-fits.true-raw))

pub entries-n-requires : goal.entries-n-requires
entries-n-requires c e =
    let f = c in
    has_room _ _ _ (sym f.fits.ensures.value ∙ not-false _ c.if-not-fits.false-raw) f.fits.ensures.list_unchanged

pub returns : goal.returns
returns c =
    let f = c in
    let d = f in
    let t = d in
    let a = t.args in
    all_listed a.body.now _ (omega arith) _ _ (leb-true _ _ (sym t.fits.ensures.value ∙ not-false _ d.if-not-fits.false-raw)) f.entries-n.ensures.value (f.entries-n.ensures.list_after ∙ ap (list_after _) t.fits.ensures.list_unchanged)
