-- Laws of the table of channels: no channel at the start, one set for each chunk.
use Prim.Native.Nat.{ℕ, ◌+◌, ◌<◌}
use mathlib.Core.Path.{◌≡◌, refl, sym, ◌∙◌}
use mathlib.Core.Bool.{Bool, true, false, false≢true}
use mathlib.Core.List.{List}
use native.Mathlib.Omega.{arith}
use lib.Dec.{ltb, eqb}
use lib.ListN.{get_or, set, replicate, length-set, get_or-replicate}
use lib.Seq.{get_or-set_same, get_or-set_other}
use borrow.Author.Tests.{eqb-true, eqb-false, lt-ltb, le-ltb, ltb-true, ltb-false}
use Rattle.layout.specs.Scan.{first}
use Rattle.layout.proofs.Scans.{first_kept, first_grown, first_within, first_passed}
use Rattle.read_group.specs.Seen.{is_seen, Seen}

module _ (chan : ℕ → ℕ) (n channel : ℕ) where
  abbrev p : ℕ → Bool
  p i = eqb (chan i) channel

  -- a chunk more that has the channel, and one that has another
  seen_here : p n ≡ true → is_seen chan (n + 1) channel ≡ true
  unfolding is_seen
  seen_here h = go (ltb (first p 0 (n + 1)) (n + 1)) refl
    where
      go : (b : Bool) → ltb (first p 0 (n + 1)) (n + 1) ≡ b → b ≡ true
      go true e = refl
      go false e = absurd (false≢true (sym (first_passed p (n + 1) n (omega (arith, ltb-false (first p 0 (n + 1)) (n + 1) e))) ∙ h))

  seen_other : p n ≡ false → is_seen chan (n + 1) channel ≡ is_seen chan n channel
  unfolding is_seen
  seen_other h = go (ltb (first p 0 n) n) refl
    where
      go : (b : Bool) → ltb (first p 0 n) n ≡ b → ltb (first p 0 (n + 1)) (n + 1) ≡ b
      go true e =
          let l = ltb-true (first p 0 n) n e in
          lt-ltb (first p 0 (n + 1)) (n + 1) (omega (arith, l, first_kept p n l))
      go false e =
          let z : first p 0 n ≡ n = omega (arith, first_within p n, ltb-false (first p 0 n) n e) in
          le-ltb (first p 0 (n + 1)) (n + 1) (omega (arith, rw h at (first_grown p n z)))

module _ (chan : ℕ → ℕ) where
  pub seen_start : (h : List Bool) → h ≡ replicate 16 false → Seen chan 0 h
  unfolding is_seen
  seen_start h e = record { size = rw e; each = λ channel l. le-ltb (first (λ i. eqb (chan i) channel) 0 0) 0 (omega arith) ∙ rw e (sym (get_or-replicate 16 channel false false l)) }

  pub seen_next : (n channel : ℕ) (h : List Bool) → Seen chan n h → channel < 16 → chan n ≡ channel → Seen chan (n + 1) (set h channel true)
  seen_next n channel h seen l here = record { size = length-set h channel true ∙ seen.size; each = λ k a. go k a (eqb (chan n) k) refl }
    where
      go : (k : ℕ) → k < 16 → (b : Bool) → eqb (chan n) k ≡ b → is_seen chan (n + 1) k ≡ get_or (set h channel true) k false
      go k a true e =
          let q : channel ≡ k = sym here ∙ eqb-true _ _ e in
          seen_here chan n k e ∙ rw (← q) (sym (get_or-set_same h channel true false (omega (arith, seen.size))))
      go k a false e =
          seen_other chan n k e ∙ seen.each k a ∙ sym (get_or-set_other h channel k true false (λ q. eqb-false _ _ e (here ∙ sym q)))
