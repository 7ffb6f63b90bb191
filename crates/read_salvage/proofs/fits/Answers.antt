-- A long enough room needs no count; else the count says it. Nothing is stored.
use Prim.Native.Nat.{ℕ, ◌/◌}
use mathlib.Core.Path.{◌≡◌, refl, sym, ap}
use native.Mathlib.Omega.{arith}
use lib.Dec.{leb}
use lib.ListN.{length}
use borrow.Author.Tests.{le-leb}
use Rattle.layout.specs.Salvage.{salvage}
use Rattle.read_salvage.proofs.Room.{few}
use Rattle.read_salvage.proofs.fits.Goals as goal

pub returns-then-body-room : goal.returns-then-body-room
returns-then-body-room c =
    let a = c.args in
    record { value = sym (le-leb (length (salvage a.body.now)) (length a.list.now / 3) (omega (arith, few a.body.now))); list_unchanged = refl }

pub entries-requires : goal.entries-requires
entries-requires c = λ e. absurd (let z : ◌≡◌ {A = ℕ} 0 1 = cc in omega arith)

pub returns : goal.returns
returns c =
    let f = c in
    let a = f.args in
    record { value = ap (λ (n : ℕ). leb n (length a.list.now / 3)) f.entries.ensures.value; list_unchanged = f.entries.ensures.list_after }
