-- The first bad byte of a Ctab's record, from the first of its bytes that is out of its range.
use Rattle.std.specs.Prelude.{ℕ, cond, leb}
use Rattle.layout.specs.Records.{bad_second}
use Rattle.layout.specs.Records.{SecondTable}

-- "a bad Cntt value counts as byte 21"
unfoldable pub with_second : ℕ → SecondTable → ℕ
with_second k second = cond (leb k 21) k (cond (bad_second second) 21 k)
