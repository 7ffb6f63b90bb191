-- Where the CASM section that is found stands: it is one of the sections, with the length in its header; and each section stands behind those before it.
use Prim.Native.Nat.{ℕ, zero, suc, ◌+◌, ◌-◌, ◌≤◌}
use mathlib.Core.Path.{◌≡◌, refl}
use mathlib.Core.List.{List}
use native.Mathlib.Omega.{arith}
use lib.Dec.{ltb, leb}
use lib.ListN.{length}
use Rattle.layout.specs.Scan.{Run}
use Rattle.layout.specs.Scan.{Stopped, Ended}
use Rattle.layout.specs.Bytes.{word, CASM}
use Rattle.layout.specs.Answers.{granted, after_run, Span}
use Rattle.layout.specs.Style.{no_style, section_place, section_tagged, sections_run, section_at, casm_among, casm_found}
use Rattle.law_rounds.proofs.Granted.{if_granted, granted_once}
use Rattle.std.specs.Prelude.{Ok, Err}

-- ---- where the CASM section stands

-- it is section number `number`, and its length is the one in its header
pub record CasmAt (s : List ℕ) (x : Span) : Type 0 where
  pub number : ℕ
  pub start : section_place s number ≡ x.start
  pub size : word s (x.start + 4) ≡ x.size

among_at : (s : List ℕ) (n : ℕ) (x : Span) → casm_among s n ≡ granted x → CasmAt s x
unfolding casm_among
among_at s n x e =
    let k : ℕ = section_tagged s n CASM in
    let a = if_granted (leb n k) 5 (length s) _ x e in
    let b = if_granted (ltb 32768 (word s (section_place s k + 4))) 3 (section_place s k) _ x a.1 in
    let q : section_at s (section_place s k) ≡ x = granted_once _ _ b.1 in
    rw (← q) (record { number = k; start = refl; size = refl })

pub casm_at : (s : List ℕ) (x : Span) → casm_found s ≡ granted x → CasmAt s x
unfolding casm_found after_run
casm_at s x e =
    let a = if_granted (ltb 1048576 (length s)) 3 0 _ x e in
    let b = if_granted (no_style s) 1 0 _ x a.1 in
    go (sections_run s) b.1
  where
    go : (r : Run) → after_run r (casm_among s) ≡ granted x → CasmAt s x
    go (Err why) q = absurd (let z : ◌≡◌ {A = ℕ} 0 1 = cc in omega arith)
    go (Ok n) q = among_at s n x q

-- ---- places of sections rise

module _ (s : List ℕ) where
  place_rises : (i j : ℕ) → section_place s i ≤ section_place s (i + j)
  unfolding section_place
  place_rises i zero = let z : i + 0 ≡ i = omega arith in rw z (omega arith)
  place_rises i (suc j) = let z : i + suc j ≡ suc (i + j) = omega arith in rw z (omega (arith, place_rises i j))

  pub place_up_to : (i k : ℕ) → i ≤ k → section_place s i ≤ section_place s k
  place_up_to i k l = let z : i + (k - i) ≡ k = omega arith in rw z at (place_rises i (k - i))

  pub track_first : (k : ℕ) → 22 ≤ section_place s k
  unfolding section_place
  track_first zero = omega arith
  track_first (suc k) = omega (arith, track_first k)
