-- The records that a flat table lends lie within it.
use Prim.Native.Nat.{ℕ, ◌*◌, ◌≤◌}
use native.Mathlib.Omega.{arith}
use mathlib.Core.Path.{◌≡◌}
use Rattle.c_row.specs.Flat.{row_size, lent_rows}

pub rows_lent : (n size : ℕ) → n ≡ lent_rows size → row_size * n ≤ size
rows_lent n size e = omega (arith, e)
