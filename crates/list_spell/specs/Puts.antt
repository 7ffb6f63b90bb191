-- What a function that puts bytes into a lent buffer promises.
use Rattle.std.specs.Prelude.{ℕ, ◌+◌, ◌≡◌, List, length}
use Rattle.layout.specs.Edit.{replaced}

-- the bytes b stand at `at` in place of what stood there, and `behind` is the place behind them
pub record Put (before : List ℕ) (at : ℕ) (b : List ℕ) (behind : ℕ) (after : List ℕ) : Type 0 where
  pub place : behind ≡ at + length b
  pub buffer : after ≡ replaced before at b
