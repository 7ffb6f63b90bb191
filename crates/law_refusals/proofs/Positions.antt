-- The test of positions says what `PositionsRight` says (document 02, §1): both are layout's `Positions`, and each number is some record's because it is taken.
use Prim.Native.Nat.{ℕ, ◌≤◌, ◌<◌}
use mathlib.Core.Path.{◌≡◌, refl, sym, ◌∙◌}
use mathlib.Core.Bool.{Bool, true, false, true≢false}
use mathlib.Core.List.{List}
use native.Mathlib.Omega.{arith}
use lib.ListN.{length, get_or}
use borrow.Author.Tests.{le-ltb, ltb-false}
use Rattle.layout.specs.Scan.{first}
use Rattle.layout.specs.Records.{SecondTable}
use Rattle.layout.specs.Records.{Absent, Value}
use Rattle.layout.specs.declared.record.Record.{Record}
use Rattle.layout.specs.Records.{blank, second_in}
use Rattle.layout.specs.Write.{cntt_count, at_position, wrong_position, wrong_positions}
use Rattle.layout.proofs.Scans.{first_passed, first_none}
use Rattle.layout.proofs.Positions.{Positions, positions_right, right_positions, position_taken, placed_is}
use Rattle.law_refusals.specs.Records.{PositionsRight}
use Rattle.std.specs.Prelude.{None, Some}

absent_is : (o : SecondTable) → cntt_count o ≡ 0 → o ≡ Absent
unfolding cntt_count
absent_is None e = refl
absent_is (Some v) e = absurd (omega arith)

value_is : (o : SecondTable) → cntt_count o ≡ 1 → (v : ℕ) × (o ≡ Value v)
unfolding cntt_count
value_is None e = absurd (omega arith)
value_is (Some v) e = (v, refl)

absent_none : (o : SecondTable) → o ≡ Absent → cntt_count o ≡ 0
unfolding cntt_count
absent_none o e = rw e

value_one : (o : SecondTable) (v : ℕ) → o ≡ Value v → cntt_count o ≡ 1
unfolding cntt_count
value_one o v e = rw e

module _ (rs : List Record) where
  pub told_right : PositionsRight rs → wrong_positions rs ≡ false
  unfolding wrong_positions
  told_right h =
      let none = first_none (wrong_position rs) (length rs) (right_positions rs said) in
      le-ltb (first (wrong_position rs) 0 (length rs)) (length rs) (omega arith)
    where
      said : Positions rs
      said =
          record {
            none = λ i l e. h.none i l (absent_is _ e);
            within = λ i l e. let v = value_is _ e in h.within i v.0 l v.1;
            apart = λ i j l m a b. let v = value_is _ a in let w = value_is _ b in h.once i j v.0 w.0 l m v.1 w.1;
          }

  pub told_wrong : wrong_positions rs ≡ true → PositionsRight rs → ⊥
  told_wrong e h = true≢false (sym e ∙ told_right h)

  pub right_told : wrong_positions rs ≡ false → PositionsRight rs
  unfolding wrong_positions
  right_told e =
      let all : length rs ≤ first (wrong_position rs) 0 (length rs) = ltb-false _ _ e in
      said (positions_right rs (λ i l. first_passed (wrong_position rs) (length rs) i (omega arith)))
    where
      said : Positions rs → PositionsRight rs
      said p =
          record {
            none = λ i l h. p.none i l (absent_none _ h);
            within = λ i v l h. p.within i l (value_one _ v h);
            once = λ i j v w l m h k. p.apart i j l m (value_one _ v h) (value_one _ w k);
            each = λ k a b.
                let i : ℕ = at_position rs (length rs) k in
                let l : i < length rs = position_taken rs p k a b in
                let x = placed_is rs (length rs) k l in
                let second = value_is (second_in (get_or rs i blank)) x.0 in
                (i, (l, (second.0, (second.1, x.1))));
          }

  pub wrong_told : (PositionsRight rs → ⊥) → wrong_positions rs ≡ true
  wrong_told f = go (wrong_positions rs) refl
    where
      go : (b : Bool) → wrong_positions rs ≡ b → b ≡ true
      go true e = refl
      go false e = absurd (f (right_told e))
