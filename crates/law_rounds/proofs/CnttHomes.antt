-- The Ctab that each Cntt belongs to: no two Ctabs have one source channel, nor have two Cntts, and each Cntt has that of its home. So the first chunk that is found for a channel is the only one.
use Prim.Native.Nat.{ℕ, ◌+◌, ◌*◌, ◌<◌}
use mathlib.Core.Path.{◌≡◌, refl, ◌∙◌}
use mathlib.Core.List.{List}
use native.Mathlib.Omega.{arith}
use lib.Dec.{eqb}
use lib.ListN.{get_or}
use borrow.Author.Tests.{lt-ltb, le-ltb, lt-leb, eq-eqb, ne_eqb}
use Rattle.layout.specs.Scan.{first}
use Rattle.layout.specs.declared.edition.Edition.{Edition}
use Rattle.layout.specs.declared.edition.Edition.TheVariants.{First}
use Rattle.layout.specs.Records.{Absent, Value}
use Rattle.layout.specs.Group.{ctab_channel, ctab_of, cntt_channel, cntt_of, cntt_fault, second_of, position_of}
use Rattle.layout.proofs.Scans.{first_none, first_is}
use Rattle.layout.proofs.Pigeonhole.{Apart}
use Rattle.law_rounds.proofs.Runs.{differ, found}

-- Cntt number j of the m from q belongs to Ctab number `home j` of the n of an edition from p
pub record Homes (e : Edition) (c : List ℕ) (p n q m : ℕ) (home : ℕ → ℕ) : Type 0 where
  pub apart : Apart (ctab_channel e c p) n
  pub single : Apart (cntt_channel c q) m
  pub within : (j : ℕ) → j < m → home j < n
  pub named : (j : ℕ) → j < m → ctab_channel e c p (home j) ≡ cntt_channel c q j

-- no Cntt before has the channel, and a Ctab has it
pub homes_faultless : (c : List ℕ) (p n q m : ℕ) (home : ℕ → ℕ) → Homes First c p n q m home → (j : ℕ) → j < m → cntt_fault c p n q j (cntt_channel c q j) ≡ 0
unfolding cntt_fault cntt_of ctab_of
homes_faultless c p n q m home f j l =
    let a : first (λ i. eqb (cntt_channel c q i) (cntt_channel c q j)) 0 j ≡ j = first_none _ j (λ i k. ne_eqb _ _ (f.single i j k l)) in
    rw (a, le-ltb j j (omega arith), lt-leb n _ (found (ctab_channel First c p) n (home j) (cntt_channel c q j) (f.within j l) (f.named j l)).0)

module _ (e : Edition) (c : List ℕ) (p n q m : ℕ) (home : ℕ → ℕ) (f : Homes e c p n q m home) where
  -- what is read for the Ctab of a Cntt ..
  pub home_read : (j : ℕ) → j < m
      → (second_of c q m (ctab_channel e c p (home j)) ≡ Value (get_or c (q + 10 * j + 9) 0)) × (position_of c q m (ctab_channel e c p (home j)) ≡ j + 1)
  unfolding second_of position_of cntt_of
  home_read j l =
      let a : first (λ k. eqb (cntt_channel c q k) (cntt_channel c q j)) 0 m ≡ j =
      first_is (λ k. eqb (cntt_channel c q k) (cntt_channel c q j)) m j l (eq-eqb (cntt_channel c q j) _ refl) (λ k h. ne_eqb _ _ (f.single k j h l)) in
      rw (f.named j l) (rw (a, lt-ltb j m l) (refl, refl))

  -- .. and for one that has none
  pub none_read : (i : ℕ) → i < n → ((j : ℕ) → j < m → home j ≡ i → ⊥)
      → (second_of c q m (ctab_channel e c p i) ≡ Absent) × (position_of c q m (ctab_channel e c p i) ≡ 0)
  unfolding second_of position_of cntt_of
  none_read i h d =
      let a : first (λ k. eqb (cntt_channel c q k) (ctab_channel e c p i)) 0 m ≡ m =
      first_none _ m (λ k l. ne_eqb _ _ (λ x. differ (ctab_channel e c p) n f.apart (home k) i (f.within k l) h (d k l) (f.named k l ∙ x))) in
      rw (a, le-ltb m m (omega arith)) (refl, refl)
