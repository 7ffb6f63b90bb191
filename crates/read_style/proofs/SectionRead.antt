-- One section by the place of its tag: one law for each answer of the call, and where its header stands.
use Prim.Native.Nat.{ℕ, ◌+◌, ◌≤◌, ◌<◌}
use mathlib.Core.Path.{◌≡◌, refl}
use mathlib.Core.Bool.{Bool, true, false, cond}
use mathlib.Core.List.{List}
use native.Mathlib.Omega.{arith}
use lib.Dec.{ltb}
use lib.ListN.{length}
use borrow.Author.Tests.{lt-ltb, le-ltb, ltb-false}
use Rattle.layout.specs.Bytes.{word}
use Rattle.layout.specs.Answers.{Answer, refused, granted}
use Rattle.layout.specs.Style.{section_read}

module _ (s : List ℕ) (at : ℕ) where
  pub header_cut : length s < at + 8 → section_read s at ≡ refused 2 at
  unfolding section_read
  header_cut h = rw (lt-ltb (length s) (at + 8) h)

  module _ (size : ℕ) (e : size ≡ word s (at + 4)) where
    pub section_cut : at + 8 ≤ length s → length s < at + 8 + size → section_read s at ≡ refused 2 at
    unfolding section_read
    section_cut h l = rw (le-ltb (length s) (at + 8) h, ← e, lt-ltb (length s) (at + 8 + size) l)

    pub section_whole : at + 8 + size ≤ length s → section_read s at ≡ granted size
    unfolding section_read
    section_whole l =
        let h : at + 8 ≤ length s = omega arith in
        rw (le-ltb (length s) (at + 8) h, ← e, le-ltb (length s) (at + 8 + size) l)

  -- the header of a section that is read stands within the file
  pub section_header : (size : ℕ) → granted size ≡ section_read s at → at + 8 ≤ length s
  unfolding section_read
  section_header size e = go (ltb (length s) (at + 8)) _ refl e
    where
      go : (b : Bool) (rest : Answer ℕ) → ltb (length s) (at + 8) ≡ b → granted size ≡ cond b (refused 2 at) rest → at + 8 ≤ length s
      go true rest h q = absurd (let z : ◌≡◌ {A = ℕ} 0 1 = cc in omega arith)
      go false rest h q = ltb-false _ _ h
