-- Laws of the source channels seen, a bit for each: none at the start, one set for each record.
use Prim.Native.Nat.{ℕ, ◌+◌, ◌^◌, ◌<◌}
use mathlib.Core.Path.{◌≡◌, refl, sym, ap, ◌∙◌}
use mathlib.Core.Bool.{Bool, true, false, ◌||◌}
use native.Mathlib.Omega.{arith}
use native.Mathlib.Decide.{dec_lt}
use lib.Bits.{bit_or}
use lib.Dec.{ltb, eqb}
use borrow.Author.Tests.{lt-ltb, le-ltb, eqb-true, eqb-false}
use Rattle.layout.specs.Plays.{bit}
use Rattle.layout.specs.Scan.{first}
use Rattle.layout.proofs.Scans.{first_kept, first_grown, first_within}
use Rattle.write_plan.proofs.Bits.{bit_own, bit_other, bit_none}

-- one of n + 1 numbers passes a test: the last, or one before it
pub found_next : (p : ℕ → Bool) (n : ℕ) → ltb (first p 0 (n + 1)) (n + 1) ≡ p n || ltb (first p 0 n) n
found_next p n = go (dec_lt (first p 0 n) n) (p n) refl
  where
    go : Dec (first p 0 n < n) → (b : Bool) → p n ≡ b → ltb (first p 0 (n + 1)) (n + 1) ≡ b || ltb (first p 0 n) n
    go (yes a) true e = lt-ltb (first p 0 (n + 1)) (n + 1) (omega (arith, first_kept p n a))
    go (yes a) false e = lt-ltb (first p 0 (n + 1)) (n + 1) (omega (arith, first_kept p n a)) ∙ sym (lt-ltb (first p 0 n) n a)
    go (no a) true e =
        let w = first_within p n in
        let q : first p 0 (n + 1) ≡ n = first_grown p n (omega arith) ∙ rw e in
        lt-ltb (first p 0 (n + 1)) (n + 1) (omega arith)
    go (no a) false e =
        let w = first_within p n in
        let q : first p 0 (n + 1) ≡ n + 1 = first_grown p n (omega arith) ∙ rw e in
        le-ltb (first p 0 (n + 1)) (n + 1) (omega arith) ∙ sym (le-ltb (first p 0 n) n (omega arith))

-- the bits of s say of every channel whether one of the first n records has it, record number i having the channel `chan i`
pub record Seen (chan : ℕ → ℕ) (n s : ℕ) : Type 0 where
  pub each : (channel : ℕ) → channel < 16 → bit s channel ≡ ltb (first (λ i. eqb (chan i) channel) 0 n) n

module _ (chan : ℕ → ℕ) where
  abbrev has : ℕ → ℕ → Bool
  has k n = ltb (first (λ i. eqb (chan i) k) 0 n) n

  pub seen_start : Seen chan 0 0
  seen_start = record { each = λ channel l. bit_none channel ∙ sym (le-ltb (first (λ i. eqb (chan i) channel) 0 0) 0 (omega arith)) }

  -- one record more: its channel is seen, the others are as they were
  pub seen_next : (n channel s : ℕ) → Seen chan n s → chan n ≡ channel → Seen chan (n + 1) (bit_or s (2 ^ channel))
  seen_next n channel s seen here = record { each = λ k a. go k a (eqb (chan n) k) refl }
    where
      go : (k : ℕ) → k < 16 → (b : Bool) → eqb (chan n) k ≡ b → bit (bit_or s (2 ^ channel)) k ≡ has k (n + 1)
      go k a true e =
          let q : k ≡ channel = sym (eqb-true (chan n) k e) ∙ here in
          ap (bit (bit_or s (2 ^ channel))) q ∙ (bit_own s channel ∙ sym (found_next (λ i. eqb (chan i) k) n ∙ rw e))
      go k a false e =
          bit_other s channel k (λ q. eqb-false (chan n) k e (here ∙ sym q)) ∙ (seen.each k a ∙ sym (found_next (λ i. eqb (chan i) k) n ∙ rw e))
