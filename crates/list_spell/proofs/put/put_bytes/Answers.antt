-- The part behind the place holds the bytes, and what lies behind them is as it was.
use Prim.Native.Nat.{◌+◌}
use mathlib.Core.Path.{refl, ap₂}
use mathlib.Core.List.{◌++◌}
use native.Mathlib.Omega.{arith}
use lib.ListN.{length, take}
use borrow.Rule.Slice.PartMut.{Post-is}
use Rattle.layout.specs.Edit.{replaced}
use Rattle.list_spell.proofs.put.put_bytes.Goals as goal

pub returns : goal.returns
unfolding replaced
returns c =
    let a = c.args in
    record {
      place = refl;
      buffer = ap₂ (λ x y. take a.at a.out.now ++ (x ++ y)) c.copy_from_slice.ensures.after (Post-is a.at (a.at + length a.b.now) a.out.now (omega arith));
    }
