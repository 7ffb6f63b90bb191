-- The eight bytes are stored one after the other; `stored` says which.
use Prim.Native.Nat.{ℕ, ◌/◌, ◌%◌}
use mathlib.Core.List.{List, ◌∷◌, [], ◌++◌}
use native.Mathlib.Omega.{arith}
use lib.ListN.{take}
use lib.Seq.{sets-eq, lt-length-sets}
use Rattle.layout.specs.Bytes.{four}
use Rattle.write_chunks.proofs.put.put_head.Goals as goal

abbrev digits : ℕ → List ℕ
digits n = n / 16777216 % 256 ∷ n / 65536 % 256 ∷ n / 256 % 256 ∷ n % 256 ∷ []

abbrev stored : ℕ → ℕ → List ℕ
stored tag size = digits tag ++ digits size

pub bounds-out-1 : goal.bounds-out-1
bounds-out-1 c = let a = c.args in lt-length-sets a.out.now 0 (take 1 (stored a.tag a.size)) (omega arith)

pub bounds-out-2 : goal.bounds-out-2
bounds-out-2 c = let a = c.args in lt-length-sets a.out.now 0 (take 2 (stored a.tag a.size)) (omega arith)

pub bounds-out-3 : goal.bounds-out-3
bounds-out-3 c = let a = c.args in lt-length-sets a.out.now 0 (take 3 (stored a.tag a.size)) (omega arith)

pub bounds-out-4 : goal.bounds-out-4
bounds-out-4 c = let a = c.args in lt-length-sets a.out.now 0 (take 4 (stored a.tag a.size)) (omega arith)

pub bounds-out-5 : goal.bounds-out-5
bounds-out-5 c = let a = c.args in lt-length-sets a.out.now 0 (take 5 (stored a.tag a.size)) (omega arith)

pub bounds-out-6 : goal.bounds-out-6
bounds-out-6 c = let a = c.args in lt-length-sets a.out.now 0 (take 6 (stored a.tag a.size)) (omega arith)

pub bounds-out-7 : goal.bounds-out-7
bounds-out-7 c = let a = c.args in lt-length-sets a.out.now 0 (take 7 (stored a.tag a.size)) (omega arith)

pub returns : goal.returns
unfolding four
returns c = let a = c.args in sets-eq (stored a.tag a.size) a.out.now 0 (omega arith)
