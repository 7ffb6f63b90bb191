-- The edition that the match found is the row's.
use Prim.Native.Nat.{ℕ, ◌+◌, ◌≤◌}
use mathlib.Core.Path.{◌≡◌, subst}
use Rattle.layout.specs.declared.edition.Edition.{Edition}
use Rattle.layout.specs.declared.edition.Edition.TheVariants.{First, Second}
use Rattle.layout.specs.Editions.{size}
use Rattle.layout.specs.Group.{ctab_place}
use Rattle.c_write.proofs.put_row_ctab.Goals as goal

told : (e f own : Edition) (at i n : ℕ) → e ≡ f → (e ≡ own) × (ctab_place e at i + (8 + size e) ≤ n) → (f ≡ own) × (ctab_place f at i + (8 + size f) ≤ n)
told e f own at i n h l = subst (λ (x : Edition). (x ≡ own) × (ctab_place x at i + (8 + size x) ≤ n)) h l

pub put_row_bytes-requires : goal.put_row_bytes-requires
put_row_bytes-requires c =
    let start = c in
    (start.requires.0, told _ First _ _ _ _ c.in-First.is start.requires.1)

pub put_row_bytes-requires-in-Second : goal.put_row_bytes-requires-in-Second
put_row_bytes-requires-in-Second c =
    let start = c in
    (start.requires.0, told _ Second _ _ _ _ c.in-Second.is start.requires.1)

pub returns-in-First : goal.returns-in-First
returns-in-First c =
    let put = c in
    rw put.in-First.is put.put_row_bytes.ensures

pub returns-in-Second : goal.returns-in-Second
returns-in-Second c =
    let put = c in
    rw put.in-Second.is put.put_row_bytes-in-Second.ensures
