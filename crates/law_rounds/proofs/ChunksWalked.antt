-- The walk from chunk to chunk over a sound group, towards a place.
use Prim.Native.Nat.{ℕ, zero, suc, ◌+◌, ◌-◌, ◌*◌, ◌≤◌, ◌<◌}
use native.Mathlib.Omega.{arith}
use mathlib.Core.Path.{◌≡◌, refl}
use mathlib.Core.Bool.{true, cond}
use mathlib.Core.List.{List}
use Rattle.layout.specs.Bytes.{tagged, CSEG}
use Rattle.layout.specs.Editions.{size}
use Rattle.layout.specs.declared.edition.Edition.{Edition}
use Rattle.layout.specs.Group.{ctab_place}
use Rattle.layout.specs.Chunks.{step_at, chunk_of, site_no}
use Rattle.read_find.proofs.Sites.{step_group, OnWay, on_next, last_is}
use Rattle.law_rounds.proofs.ChunksLaid.{Plain, Laid}

-- the walk comes to the chunk at x, which is number c in its group; g groups began up to it
abbrev pub At : List ℕ → ℕ → ℕ → ℕ → ℕ → Type 0
At s place x g c = (k : ℕ) × OnWay s place x k g c

-- .. and to x, where such a chunk ends
pub record Passed (s : List ℕ) (place x g c : ℕ) : Type 0 where
  pub at : ℕ
  pub on : At s place at g c
  pub ends : x ≡ at + step_at s at

module _ (s : List ℕ) (place x g c : ℕ) where
  pub leave : (w y : ℕ) → At s place x g c → step_at s x ≡ w → y ≡ x + w → Passed s place y g c
  leave w y o e q = record { at = x; on = o; ends = omega arith }

  module _ (b : Passed s place x g c) (h : x ≤ place) where
    pub onto : (g' c' : ℕ) → g' ≡ g + cond (tagged s x CSEG) 1 0 → c' ≡ cond (tagged s x CSEG) 0 (c + 1) → At s place x g' c'
    onto g' c' f k =
        let o = b.on in
        (o.0 + 1, rw b.ends (on_next s place b.at o.0 g c o.1 (step_at s b.at) g' c' refl (rw (← b.ends) h) (rw (← b.ends) f) (rw (← b.ends) k)))

    pub onto_plain : (w c' : ℕ) → Plain s x w → c' ≡ c + 1 → At s place x g c'
    onto_plain w c' p e = onto g c' (rw p.other (omega arith)) (rw p.other e)

    pub onto_group : (g' : ℕ) → tagged s x CSEG ≡ true → g' ≡ g + 1 → At s place x g' 0
    onto_group g' t e = onto g' 0 (rw t e) (rw t)

  -- over a chunk that is no group
  pub over : (w y c' : ℕ) → Passed s place x g c → x ≤ place → Plain s x w → y ≡ x + w → c' ≡ c + 1 → Passed s place y g c'
  over w y c' b h p q e = record { at = x; on = onto_plain b h w c' p e; ends = omega (arith, p.width) }

  -- the place lies in the chunk
  pub has : At s place x g c → place < x + step_at s x → site_no s (chunk_of s place) ≡ record { group = g - 1; child = c; chunk = x }
  has o h = let w = o.1 in rw (last_is s place x o.0 g c w h) (rw (← w.chunk, ← w.begun, ← w.number))

-- ---- through a group, from its header on

module _ (s : List ℕ) (place at : ℕ) (ed : Edition) (t n m g : ℕ) (laid : Laid s at ed t n m) (on : At s place at g 0) where
  pub to_text : Passed s place (at + 8) g 0
  to_text = leave s place at g 0 8 (at + 8) on (step_group s at laid.head) refl

  pub to_ctab : (i : ℕ) → i ≤ n → ctab_place ed (at + 16 + t) i ≤ place → Passed s place (ctab_place ed (at + 16 + t) i) g (i + 1)
  to_ctab zero l h = over s place (at + 8) g 0 (8 + t) (ctab_place ed (at + 16 + t) 0) (0 + 1) to_text (omega arith) laid.text (omega arith) (omega arith)
  to_ctab (suc i) l h =
      over s place (ctab_place ed (at + 16 + t) i) g (i + 1) (8 + size ed) (ctab_place ed (at + 16 + t) (suc i)) (suc i + 1)
      (to_ctab i (omega arith) (omega arith)) (omega arith) (laid.ctab i (omega arith)) (omega arith) (omega arith)

  pub to_cntt : (j : ℕ) → j ≤ m → ctab_place ed (at + 16 + t) n + 10 * j ≤ place → Passed s place (ctab_place ed (at + 16 + t) n + 10 * j) g (n + j + 1)
  to_cntt zero l h =
      let z : ctab_place ed (at + 16 + t) n + 10 * 0 ≡ ctab_place ed (at + 16 + t) n = omega arith in
      let y : n + 0 + 1 ≡ n + 1 = omega arith in
      rw (z, y) (to_ctab n (omega arith) (omega arith))
  to_cntt (suc j) l h =
      over s place (ctab_place ed (at + 16 + t) n + 10 * j) g (n + j + 1) 10 (ctab_place ed (at + 16 + t) n + 10 * suc j) (n + suc j + 1)
      (to_cntt j (omega arith) (omega arith)) (omega arith) (laid.cntt j (omega arith)) (omega arith) (omega arith)
