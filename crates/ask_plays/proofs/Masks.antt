-- The two masks of a record where they stand.
use Prim.Native.Nat.{ℕ, ◌+◌, ◌*◌, ◌/◌, ◌%◌, ◌^◌}
use native.Mathlib.Omega.{arith}
use native.Mathlib.Nat.{add-zero}
use mathlib.Core.Path.{◌≡◌}
use mathlib.Core.Bool.{false}
use mathlib.Core.List.{List}
use lib.Dec.{eqb}
use lib.ListN.{get_or}
use borrow.Author.Tests.{eq-eqb, ne_eqb}
use Rattle.layout.specs.Bytes.{number, word}
use Rattle.layout.specs.Plays.{bit}
use Rattle.ask_plays.specs.PlaysAt.{plays_at}

-- ---- the masks of the record whose byte 0 stands at `at`

module _ (s : List ℕ) (at : ℕ) where
  pub root_mask_lem : (a b : ℕ) → a ≡ get_or s (at + 11) 0 → b ≡ get_or s (at + 12) 0 → a * 256 + b ≡ number s (at + 11) 2
  unfolding number
  root_mask_lem a b e f =
      let y : at + 11 + 1 ≡ at + 12 = omega arith in
      rw (add-zero (at + 11), y, ← e, ← f) (omega arith)

  pub chord_mask_lem : (a w : ℕ) → a ≡ get_or s (at + 13) 0 → w ≡ word s (at + 14) → a * 4294967296 + w ≡ number s (at + 13) 5
  unfolding word number
  chord_mask_lem a w e f =
      let p : at + 13 + 1 ≡ at + 14 = omega arith in
      let q : at + 13 + 2 ≡ at + 14 + 1 = omega arith in
      let r : at + 13 + 3 ≡ at + 14 + 2 = omega arith in
      let t : at + 13 + 4 ≡ at + 14 + 3 = omega arith in
      rw (add-zero (at + 13), p, q, r, t, f, add-zero (at + 14), ← e) (omega arith)

-- the record does not play where the bit of the root mask is not set, and else as the chord mask says
module _ (s : List ℕ) (at root type roots : ℕ) (e : roots ≡ number s (at + 11) 2) where
  pub root_unset : (roots / 2 ^ root % 2 ≡ 1 → ⊥) → false ≡ plays_at s at root type
  unfolding plays_at bit
  root_unset h = rw (← e, ne_eqb (roots / 2 ^ root % 2) 1 h)

  pub root_set : roots / 2 ^ root % 2 ≡ 1 → (chords : ℕ) → chords ≡ number s (at + 13) 5 → eqb (chords / 2 ^ type % 2) 1 ≡ plays_at s at root type
  unfolding plays_at bit
  root_set h chords f = rw (← e, ← f, eq-eqb (roots / 2 ^ root % 2) 1 h)
