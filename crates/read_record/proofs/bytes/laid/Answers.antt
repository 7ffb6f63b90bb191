-- The bytes behind are told one by one.
use Prim.Native.Nat.{ℕ}
use mathlib.Core.Path.{ap}
use mathlib.Core.List.{List, ◌++◌}
use borrow.Author.Rules.{rules}
use Rattle.layout.specs.Records.{head_bytes}
use Rattle.layout.proofs.BytesBack.{spelled, spelled_whole}
use Rattle.read_record.proofs.bytes.laid.Goals as goal

pub returns : goal.returns
unfolding head_bytes spelled
returns c =
    let a = c.args in
    ap (λ (l : List ℕ). head_bytes a.r ++ l) (spelled_whole 27 a.rest (search rules))
