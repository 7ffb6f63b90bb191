-- What a body is cut into (document 01, "The salvage list": "Cut the body at each place where CSEG stands, even inside a name").
use Rattle.std.specs.Prelude.{ℕ, suc, ◌≡◌, true, false, List, drop}
use Rattle.layout.specs.Salvage.{cseg}

-- bytes in which CSEG stands nowhere, as "remaining bytes" and "bytes before the first CSEG" are
abbrev pub Free : List ℕ → Type 0
Free s = (k : ℕ) → cseg (drop k s) ≡ false

-- "a piece that begins with CSEG": CSEG stands at its start and nowhere else, for there the body was cut again
pub record Piece (p : List ℕ) : Type 0 where
  pub first : cseg p ≡ true
  pub only : (k : ℕ) → cseg (drop (suc k) p) ≡ false
