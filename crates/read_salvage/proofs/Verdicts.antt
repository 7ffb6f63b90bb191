-- What salvage needs of a sound group: it has bytes, lies within its piece, begins with CSEG and is judged by its own bytes alone.
use Prim.Native.Nat.{ℕ, ◌+◌, ◌≤◌, ◌<◌}
use native.Mathlib.Omega.{arith}
use mathlib.Core.Path.{◌≡◌, refl, sym, ◌∙◌}
use mathlib.Core.Bool.{true}
use mathlib.Core.List.{List, ◌++◌}
use lib.ListN.{length, take, drop, length-append, length-drop, take-append-drop, get_or-append}
use lib.Seq.{length-take-le, take-take, take-append-le, drop-append-le}
use borrow.Author.Tests.{ne_eqb}
use Rattle.layout.specs.declared.edition.Edition.{Edition}
use Rattle.layout.specs.Group.{Sound}
use Rattle.layout.specs.Bytes.{number, word, tag_at, tagged, CSEG}
use Rattle.layout.specs.Group.{contents, payload, group_size, behind_header, group_at}
use Rattle.layout.specs.Salvage.{cseg}
use Rattle.layout.proofs.Numbers.{word_take}
use Rattle.layout.proofs.Heads.{head_sound, fault_none}
use Rattle.layout.proofs.GroupSound.{group_sound_is}
use Rattle.read_salvage.proofs.Cseg.{cseg_more}

-- when a sound group stands at the start of p
pub record SoundAt (p : List ℕ) (ed : Edition) (t n m : ℕ) : Type 0 where
  pub tag : cseg p ≡ true
  pub long : 8 + word p 4 ≤ length p
  pub some : word p 4 ≡ 0 → ⊥
  pub inside : contents (payload p) ≡ Sound ed t n m

-- the verdict and those facts: either way
pub sound_at : (p : List ℕ) (ed : Edition) (t n m : ℕ) → group_at p ≡ Sound ed t n m → SoundAt p ed t n m
unfolding cseg group_size
sound_at p ed t n m q =
    let g = group_sound_is p ed t n m q in
    let h = head_sound p 0 CSEG g.head in
    record { tag = h.0; long = h.1; some = λ z. absurd (omega (arith, g.size)); inside = g.inside }

pub at_sound : (p : List ℕ) (ed : Edition) (t n m : ℕ) → SoundAt p ed t n m → group_at p ≡ Sound ed t n m
unfolding group_at behind_header cseg
at_sound p ed t n m h =
    let l = h.long in
    rw (fault_none p 0 CSEG (omega arith) h.tag l, ne_eqb (word p 4) 0 h.some, h.inside, behind_header)

module _ (p : List ℕ) (ed : Edition) (t n m : ℕ) (v : group_at p ≡ Sound ed t n m) where
  pub size_some : 8 < group_size p
  unfolding group_size
  size_some = let h = (sound_at p ed t n m v).some in omega arith

  pub size_within : group_size p ≤ length p
  unfolding group_size
  size_within = (sound_at p ed t n m v).long

  pub sound_cseg : cseg p ≡ true
  sound_cseg = (sound_at p ed t n m v).tag

-- ---- a sound group is judged by its own bytes alone

-- the first eight bytes are the header
word_more : (g x : List ℕ) → 8 ≤ length g → word (g ++ x) 4 ≡ word g 4
unfolding word number
word_more g x h =
    rw (get_or-append g x 0 4 (omega arith), get_or-append g x 0 5 (omega arith), get_or-append g x 0 6 (omega arith), get_or-append g x 0 7 (omega arith))

cseg_take : (n : ℕ) (p : List ℕ) → 4 ≤ n → cseg (take n p) ≡ cseg p
unfolding cseg tagged tag_at
cseg_take n p h = rw (take-take 4 n p h)

payload_more : (g x : List ℕ) → 8 + word g 4 ≤ length g → payload (g ++ x) ≡ payload g
unfolding payload
payload_more g x l =
    let a : 8 ≤ length g = omega arith in
    let b : word g 4 ≤ length (drop 8 g) = rw length-drop (omega arith) in
    rw (word_more g x a, drop-append-le 8 g x a, take-append-le (word g 4) (drop 8 g) x b)

module _ (p x : List ℕ) (l : 8 + word p 4 ≤ length p) where
  -- the length that a group's own bytes state, whatever follows them
  own_word : word (take (8 + word p 4) p ++ x) 4 ≡ word p 4
  own_word = word_more (take (8 + word p 4) p) x (rw (length-take-le (8 + word p 4) p l) (omega arith)) ∙ word_take p (8 + word p 4) 4 (omega arith)

  own_payload : payload (take (8 + word p 4) p ++ x) ≡ payload p
  own_payload =
      let k : ℕ = 8 + word p 4 in
      let g : List ℕ = take k p in
      let w : word g 4 ≡ word p 4 = word_take p k 4 (omega arith) in
      let h : 8 + word g 4 ≤ length g = rw (length-take-le k p l) (omega arith) in
      payload_more g x h ∙ sym (payload_more g (drop k p) h) ∙ rw (take-append-drop k p) refl

module _ (p x : List ℕ) (ed : Edition) (t n m : ℕ) (v : group_at p ≡ Sound ed t n m) where
  -- whatever follows a sound group's own bytes, its size stays ..
  pub size_own : group_size (take (group_size p) p ++ x) ≡ group_size p
  unfolding group_size
  size_own = rw (own_word p x (sound_at p ed t n m v).long)

  -- .. and so does the verdict
  pub sound_own : group_at (take (group_size p) p ++ x) ≡ Sound ed t n m
  unfolding group_size
  sound_own =
      let h = sound_at p ed t n m v in
      let k : ℕ = 8 + word p 4 in
      let w : word (take k p ++ x) 4 ≡ word p 4 = own_word p x h.long in
      at_sound (take k p ++ x) ed t n m
      (record {
        tag = cseg_more (take k p) x (cseg_take k p (omega arith) ∙ h.tag);
        long = rw (w, length-append, length-take-le k p h.long) (omega arith);
        some = λ z. h.some (sym w ∙ z);
        inside = rw (own_payload p x h.long) h.inside;
      })
