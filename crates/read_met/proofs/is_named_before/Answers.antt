-- The names are passed one after the other: those passed are met and none is taken, so the answer is that of the names still to come.
use Prim.Native.Nat.{ℕ}
use native.Mathlib.Omega.{arith}
use mathlib.Core.Path.{◌≡◌, refl, sym, ap, ◌∙◌}
use mathlib.Core.List.{List, [], ◌∷◌}
use borrow.Author.Rules.{rules}
use borrow.Author.Tests.{tests}
use denote.Ref.{Bor}
use lib.Dec.{eqb}
use Rattle.std.proofs.Common.{Option, Some, None}
use Rattle.std.specs.Iterator.{AlwaysYields}
use Rattle.std.specs.List.{slice_split}
use Rattle.std.specs.Slice.Iter.{split_rest, split_done, split_callee}
use Rattle.std.proofs.lemmas.Iterator.Splits.{YieldsList-from_slice_split}
use Rattle.layout.specs.Sdec.{names}
use Rattle.layout.specs.Body.{group_place, text_at}
use Rattle.read_names.proofs.Compare.{names_parts}
use Rattle.read_met.proofs.Texts.{places_fewer}
use Rattle.read_met.proofs.Marked.{passing_start, passing_taken, passing_next, passing_end}
use Rattle.read_met.proofs.is_named_before.Goals as goal
use Rattle.read_met.proofs.is_named_before.Given.{iterator-loop-name}

-- a step gives the first of the names still to come, or there is none
module _ {S : Type 0} (steps : S → Option (Bor (List ℕ)) → S → Type 0) (s t : S) where
  came : (ns : List (List ℕ)) (x : Bor (List ℕ)) → AlwaysYields steps (λ x. x.now) s ns → steps s (Some x) t
      → (ys : List (List ℕ)) × ((ns ≡ x.now ∷ ys) × AlwaysYields steps (λ x. x.now) t ys)
  came [] x h k = absurd (h x t k)
  came (y ∷ ys) x h k = let m = h.1 x t k in (ys, (ap (λ z. z ∷ ys) (sym m.0), m.1))

  gone : (ns : List (List ℕ)) → AlwaysYields steps (λ x. x.now) s ns → steps s None t → ns ≡ []
  gone [] h k = refl
  gone (y ∷ ys) h k = absurd (h.0 t k)

pub loop-name-init : goal.loop-name-init
loop-name-init c =
    let a = c.args in
    let p = c.split-name-items.ensures in
    let g = c.into_iter-name-iterator.ensures.into_iter_gives in
    let q : slice_split (λ b. eqb b 44) c.text_of.result.now ≡ names (text_at a.s.now (group_place a.s.now a.n)) = names_parts _ ∙ ap names c.text_of.ensures in (
      slice_split (λ b. eqb b 44) c.text_of.result.now,
      (
        (YieldsList-from_slice_split _ (λ b. eqb b 44) c.text_of.result.now (ap split_rest g ∙ p.rest) (ap split_done g ∙ p.done) (ap split_callee g ∙ p.closure) (λ x b q k. search (rules, tests))).runs,
        rw q (passing_start _ _ _ _ c.requires.1.1),
      ),
    )

pub is_name_met-requires : goal.is_name_met-requires
is_name_met-requires c = (omega arith, (places_fewer _ _ _ _ (omega arith) c.requires.1.0, c.loop-name.invariant.1.1.known))

pub returns-then-is_name_met : goal.returns-then-is_name_met
returns-then-is_name_met c =
    let i = c.loop-name.invariant in
    let m = came (iterator-loop-name).next_gives c.loop-name.name-iterator c.next.new.self i.0 c.in-Some.name i.1.0 c.in-Some.ensures.steps in
    passing_taken _ _ _ _ _ m.0 (rw m.1.0 at i.1.1) _ (rw c.if-is_name_met.true at c.is_name_met.ensures)

pub loop-name-preserved : goal.loop-name-preserved
loop-name-preserved c =
    let i = c.loop-name.invariant in
    let m = came (iterator-loop-name).next_gives c.loop-name.name-iterator c.next.new.self i.0 c.in-Some.name i.1.0 c.in-Some.ensures.steps in
    (m.0, (m.1.1, passing_next _ _ _ _ _ m.0 (rw m.1.0 at i.1.1) _ (rw c.if-is_name_met.false at c.is_name_met.ensures)))

pub returns : goal.returns
returns c =
    let i = c.loop-name.invariant in
    passing_end _ _ _ _ (rw (gone (iterator-loop-name).next_gives c.loop-name.name-iterator c.next.new.self i.0 i.1.0 c.in-None.ensures.steps) at i.1.1)
