-- A header is what it is wherever its parent's bytes are cut off before it.
use Prim.Native.Nat.{ℕ, ◌+◌, ◌-◌, ◌≤◌, ◌<◌}
use native.Mathlib.Omega.{arith}
use native.Mathlib.Decide.{dec_lt}
use mathlib.Core.Path.{◌≡◌, sym, ◌∙◌}
use mathlib.Core.List.{List}
use lib.Dec.{ltb}
use lib.ListN.{length, drop, length-drop}
use lib.Seq.{drop-drop}
use borrow.Author.Tests.{lt-ltb, le-ltb}
use Rattle.layout.specs.Bytes.{word, tag_at, tagged}
use Rattle.layout.specs.Group.{head_fault}
use Rattle.layout.proofs.Numbers.{word_drop}

pub tagged_drop : (s tag : List ℕ) (a b : ℕ) → tagged (drop a s) b tag ≡ tagged s (a + b) tag
unfolding tagged tag_at
tagged_drop s tag a b = rw drop-drop

-- less is left after a bytes
pub shifted : (n a k : ℕ) → a ≤ n → ltb (n - a) k ≡ ltb n (a + k)
shifted n a k h = go (dec_lt n (a + k))
  where
    go : Dec (n < a + k) → ltb (n - a) k ≡ ltb n (a + k)
    go (yes l) = lt-ltb (n - a) k (omega arith) ∙ sym (lt-ltb n (a + k) l)
    go (no l) = le-ltb (n - a) k (omega arith) ∙ sym (le-ltb n (a + k) (omega arith))

-- the header itself
pub head_drop : (s tag : List ℕ) (at : ℕ) → at ≤ length s → head_fault (drop at s) 0 tag ≡ head_fault s at tag
unfolding head_fault
head_drop s tag at h =
    let z : at + 0 ≡ at = omega arith in
    let y : at + (0 + 8 + word s (at + 4)) ≡ at + 8 + word s (at + 4) = omega arith in
    rw (length-drop at s, shifted (length s) at (0 + 8) h, tagged_drop s tag at 0, z, word_drop s at (0 + 4), shifted (length s) at (0 + 8 + word s (at + 4)) h, y)
