-- A chunk read and a chunk written (document 01, "What the tool covers"): a tag of four bytes, a length of four bytes, and that many bytes.
use Prim.Native.Nat.{ℕ, suc, ◌+◌, ◌/◌, ◌%◌, ◌≤◌, ◌<◌}
use mathlib.Core.Path.{◌≡◌, refl, sym, ap, ap₂, ◌∙◌}
use mathlib.Core.Bool.{true}
use mathlib.Core.List.{List, ◌∷◌, ◌++◌, append_assoc}
use native.Mathlib.Omega.{arith}
use native.Mathlib.Nat.{add-zero}
use native.Mathlib.Decide.{dec_lt}
use lib.ListN.{length, get_or, take, drop, length-append, length-take, length-drop, take-append-drop, get_or-append, get_or-eq_default}
use lib.Seq.{drop-drop, drop_at, take_at, get_or-take, get_or-drop, drop-cons, length-take-le}
use Rattle.layout.specs.Lists.{same}
use Rattle.layout.specs.Bytes.{word, four, tag_at, tagged, chunk}
use Rattle.layout.specs.Group.{head_fault}
use Rattle.layout.proofs.Numbers.{word_drop, word_is, four_back, four_of}
use Rattle.layout.proofs.Heads.{fault_none}
use Rattle.layout.proofs.Same.{same_is, same_itself}
use Rattle.law_rounds.specs.Rounds.{Bytes}
use Rattle.law_rounds.proofs.Blocks.{moved}

-- ---- bytes of a part

pub bytes_drop : (s : List ℕ) (k : ℕ) → Bytes s → Bytes (drop k s)
bytes_drop s k b i = rw (get_or-drop k s i 0) (b (k + i))

pub bytes_part : (s : List ℕ) (l k : ℕ) → Bytes s → Bytes (take l (drop k s))
bytes_part s l k b i = go (dec_lt i l)
  where
    go : Dec (i < l) → get_or (take l (drop k s)) i 0 < 256
    go (yes h) = rw (get_or-take l (drop k s) i 0 h, get_or-drop k s i 0) (b (k + i))
    go (no h) = rw (get_or-eq_default (take l (drop k s)) 0 {n = i} (rw length-take (omega arith))) (omega arith)

-- ---- four bytes as a number, and back

four_word : (s : List ℕ) (at : ℕ) → Bytes s → at + 4 ≤ length s → drop at s ≡ four (word s at) ++ drop (at + 4) s
four_word s at b h =
    drop-cons s at 0 (omega arith)
    ∙ ap (λ x. get_or s at 0 ∷ x) (step (at + 1) (suc at) (omega arith) (omega arith)
    ∙ ap (λ x. get_or s (at + 1) 0 ∷ x) (step (at + 2) (suc (at + 1)) (omega arith) (omega arith)
    ∙ ap (λ x. get_or s (at + 2) 0 ∷ x) (step (at + 3) (suc (at + 2)) (omega arith) (omega arith)
    ∙ ap (λ x. get_or s (at + 3) 0 ∷ x) (moved s (suc (at + 3)) (at + 4) (omega arith)))))
    ∙ ap (λ x. x ++ drop (at + 4) s) (sym (ap four (sym (word_is s at _ _ _ _ refl refl refl refl)) ∙ four_of (get_or s at 0) (get_or s (at + 1) 0) (get_or s (at + 2) 0) (get_or s (at + 3) 0) (b at) (b (at + 1)) (b (at + 2)) (b (at + 3))))
  where
    step : (i j : ℕ) → j ≡ i → i < length s → drop j s ≡ get_or s i 0 ∷ drop (suc i) s
    step i j e l = moved s j i e ∙ drop-cons s i 0 l

word_four : (n : ℕ) (x : List ℕ) → n < 4294967296 → word (four n ++ x) 0 ≡ n
unfolding four
word_four n x h = sym (word_is (four n ++ x) 0 (n / 16777216 % 256) (n / 65536 % 256) (n / 256 % 256) (n % 256) refl refl refl refl) ∙ four_back n h

pub length_four : (n : ℕ) → length (four n) ≡ 4
unfolding four
length_four n = refl

-- ---- a chunk read: its tag and its length stand at `at`, and it ends within s

pub chunk_read : (s : List ℕ) (at : ℕ) (tag : List ℕ) (l : ℕ) → Bytes s → tagged s at tag ≡ true → word s (at + 4) ≡ l → at + 8 + l ≤ length s
    → drop at s ≡ chunk tag (take l (drop (at + 8) s)) ++ drop (at + 8 + l) s
unfolding chunk tagged tag_at
chunk_read s at tag l b t f h =
    sym (take-append-drop 4 (drop at s))
    ∙ ap₂ (λ x y. x ++ y) (same_is (take 4 (drop at s)) tag t) (drop-drop 4 at s ∙ four_word s (at + 4) b (omega arith) ∙ ap₂ (λ x y. four x ++ y) (f ∙ sym size) (moved s (at + 4 + 4) (at + 8) (omega arith) ∙ cut))
    ∙ sym (append_assoc tag _ _ ∙ ap (λ x. tag ++ x) (append_assoc (four (length (take l (drop (at + 8) s)))) _ _))
  where
    size : length (take l (drop (at + 8) s)) ≡ l
    size = length-take-le l (drop (at + 8) s) (rw length-drop (omega arith))

    cut : drop (at + 8) s ≡ take l (drop (at + 8) s) ++ drop (at + 8 + l) s
    cut = sym (take-append-drop l (drop (at + 8) s)) ∙ ap (λ x. take l (drop (at + 8) s) ++ x) (drop-drop l (at + 8) s)

-- ---- a chunk written: it stands at `at`, and x behind it

pub length_chunk : (tag b : List ℕ) → length tag ≡ 4 → length (chunk tag b) ≡ 8 + length b
unfolding chunk
length_chunk tag b h = length-append tag (four (length b) ++ b) ∙ omega (arith, length-append (four (length b)) b, length_four (length b))

module _ (s : List ℕ) (at : ℕ) (tag b x : List ℕ) (four_bytes : length tag ≡ 4) (e : drop at s ≡ chunk tag b ++ x) where
  spread : drop at s ≡ tag ++ (four (length b) ++ (b ++ x))
  unfolding chunk
  spread = e ∙ append_assoc tag (four (length b) ++ b) x ∙ ap (λ y. tag ++ y) (append_assoc (four (length b)) b x)

  pub written_tag : tagged s at tag ≡ true
  unfolding tagged tag_at
  written_tag = ap (λ y. same y tag) (ap (take 4) spread ∙ take_at tag (four (length b) ++ (b ++ x)) 4 four_bytes) ∙ same_itself tag

  after_tag : drop (at + 4) s ≡ four (length b) ++ (b ++ x)
  after_tag = sym (drop-drop 4 at s) ∙ ap (drop 4) spread ∙ drop_at tag (four (length b) ++ (b ++ x)) 4 four_bytes

  pub written_length : length b < 4294967296 → word s (at + 4) ≡ length b
  written_length h =
      ap (word s) (sym (add-zero (at + 4))) ∙ sym (word_drop s (at + 4) 0) ∙ ap (λ l. word l 0) after_tag ∙ word_four (length b) (b ++ x) h

  pub written_rest : drop (at + 8) s ≡ b ++ x
  written_rest =
      moved s (at + 8) (at + 4 + 4) (omega arith) ∙ sym (drop-drop 4 (at + 4) s) ∙ ap (drop 4) after_tag ∙ drop_at (four (length b)) (b ++ x) 4 (length_four (length b))

  pub written_fits : at + 8 + length b + length x ≤ length s
  written_fits =
      let y : length (drop at s) ≡ 8 + length b + length x = ap length e ∙ (length-append (chunk tag b) x ∙ omega (arith, length_chunk tag b four_bytes)) in
      omega (arith, rw length-drop at y)

  pub written_byte : (k : ℕ) → k < length b → get_or s (at + 8 + k) 0 ≡ get_or b k 0
  written_byte k h = sym (get_or-drop (at + 8) s k 0) ∙ ap (λ l. get_or l k 0) written_rest ∙ get_or-append b x 0 k h

  pub written_head : length b < 4294967296 → head_fault s at tag ≡ 0
  written_head h = fault_none s at tag (omega (arith, written_fits)) written_tag (omega (arith, written_fits, written_length h))
