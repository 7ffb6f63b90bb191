-- What is still to be looked at is the search from Ctab number i on; i goes up.
use mathlib.Core.Path.{◌≡◌, refl, ◌∙◌}
use native.Mathlib.Omega.{arith}
use borrow.Author.Tests.{eq-eqb, ne_eqb}
use Rattle.layout.specs.Group.{ctab_of, ctab_channel}
use Rattle.layout.proofs.Scans.{first_end, first_here, first_next}
use Rattle.read_find.proofs.RowLaws.{among_some, among_none}
use Rattle.read_find.proofs.row.find_row.Goals as goal

pub loop-i-init : goal.loop-i-init
unfolding ctab_of
loop-i-init c = refl

pub returns-then-s-ctab_place : goal.returns-then-s-ctab_place
unfolding ctab_channel
returns-then-s-ctab_place c =
    rw (c.loop-i.invariant ∙ first_here _ _ _ (omega arith) (eq-eqb _ _ (rw c.ctab_place.ensures at c.if-s-ctab_place.true))) (among_some _ _ (omega arith))

pub loop-i-preserved : goal.loop-i-preserved
unfolding ctab_channel
loop-i-preserved c = c.loop-i.invariant ∙ first_next _ _ _ (omega arith) (ne_eqb _ _ (rw c.ctab_place.ensures at c.if-s-ctab_place.false))

pub returns : goal.returns
returns c =
    let q : ctab_of c.args.edition c.args.s.now c.args.p c.args.n c.args.channel ≡ c.args.n = c.loop-i.invariant ∙ (first_end _ _ _ (omega arith) ∙ omega arith) in
    rw q (among_none _)
