-- An entry by its bytes alone: fewer than four have no CSEG at their start, and one law for each answer of the call.
use Prim.Native.Nat.{ℕ, ◌+◌, ◌≤◌, ◌<◌}
use native.Mathlib.Omega.{arith}
use mathlib.Core.Path.{◌≡◌, ap}
use mathlib.Core.Bool.{true, false}
use mathlib.Core.List.{List}
use lib.ListN.{length}
use borrow.Author.Tests.{lt-ltb, le-ltb}
use Rattle.layout.specs.declared.edition.Edition.{Edition}
use Rattle.layout.specs.Group.{Unsound, Sound}
use Rattle.layout.specs.Answers.{refused, granted}
use Rattle.layout.specs.Bytes.{word}
use Rattle.layout.specs.Group.{group_size, group_at}
use Rattle.layout.specs.Salvage.{cseg, piece_judged, entry_judged}
use Rattle.read_salvage.proofs.Cseg.{not_so, cseg_is}

pub short_none : (s : List ℕ) → length s < 4 → cseg s ≡ false
short_none s l = not_so _ (λ e. omega (arith, ap length (cseg_is s e)))

module _ (s : List ℕ) where
  pub alone_over : 32768 < length s → entry_judged s ≡ refused 3 0
  unfolding entry_judged
  alone_over h = rw (lt-ltb 32768 (length s) h)

  module _ (l : length s ≤ 32768) where
    pub alone_loose : cseg s ≡ false → entry_judged s ≡ refused 6 0
    unfolding entry_judged
    alone_loose h = rw (le-ltb 32768 (length s) l, h)

    module _ (h : cseg s ≡ true) where
      pub alone_refused : (number place : ℕ) → group_at s ≡ Unsound number place → entry_judged s ≡ refused number place
      unfolding entry_judged piece_judged
      alone_refused number place v = rw (le-ltb 32768 (length s) l, h, v, piece_judged)

      pub alone_sound : (ed : Edition) (t n m size : ℕ) → group_at s ≡ Sound ed t n m → size ≡ word s 4 → entry_judged s ≡ granted (8 + size)
      unfolding entry_judged piece_judged group_size
      alone_sound ed t n m size v e = rw (le-ltb 32768 (length s) l, h, v, piece_judged, ← e)
