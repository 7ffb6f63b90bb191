-- What the bytes from k on make of a mark: the next byte, then the rest.
use Prim.Native.Nat.{ℕ, ◌+◌, ◌*◌, ◌%◌, ◌<◌}
use mathlib.Core.Path.{◌≡◌, refl, ◌∙◌}
use mathlib.Core.List.{List}
use lib.ListN.{length, get_or, drop}
use lib.Seq.{drop-length}
use Rattle.read_names.specs.Marks.{mark_from, spread, mark}
use Rattle.read_names.proofs.Cuts.{drop_more}

module _ (name : List ℕ) where
  pub mark_start : mark name ≡ spread (mark_from 0 (drop 0 name))
  unfolding mark
  mark_start = refl

  module _ (m k : ℕ) where
    pub mark_next : (b : ℕ) → k < length name → b ≡ get_or name k 0 → spread (mark_from m (drop k name)) ≡ spread (mark_from ((m + b) * 2654435761 % 4294967296) (drop (k + 1) name))
    unfolding mark_from
    mark_next b h e = rw (e, drop_more name k h)

    pub mark_end : mark name ≡ spread (mark_from m (drop k name)) → k ≡ length name → mark name ≡ spread m
    unfolding mark_from
    mark_end h e = h ∙ rw (e, drop-length name)
