-- The rules on a text, one law for each way out: the names so far are of right size and all different, and the rest of the text has the others.
use Prim.Native.Nat.{ℕ, ◌+◌, ◌-◌, ◌^◌, ◌≤◌, ◌<◌}
use native.Mathlib.Omega.{arith}
use mathlib.Core.Path.{◌≡◌, refl, ap, ◌∙◌}
use mathlib.Core.Bool.{Bool, true, false, ◌&&◌, and-false}
use mathlib.Core.List.{List, [], ◌∷◌, ◌++◌, append-nil, append_assoc}
use lib.Bits.{bit_or}
use lib.Dec.{leb}
use lib.ListN.{length, get_or, set, take, drop, drop_of_length-le}
use lib.Seq.{slice, slice-cons, slice_empty, take-suc-set}
use native.Mathlib.Numerals.{add-one}
use borrow.Author.Tests.{le-leb, lt-leb}
use Rattle.layout.specs.Lists.{has, distinct, every}
use Rattle.layout.specs.Ranges.{◌to◌, inside}
use Rattle.layout.specs.Sdec.{names, sound_text}
use Rattle.read_names.specs.Parts.{part, names_from, Ends, cuts, next, Placed, none, more}
use Rattle.read_names.specs.Marks.{sign}
use Rattle.read_names.proofs.Signs.{Met, met_none, met_more}
use Rattle.read_names.proofs.Cuts.{drop_more, part_length, names_start, names_end}
use Rattle.read_names.proofs.Compare.{every_append, distinct_again, distinct_more}

-- ---- ranges

module _ (a b v : ℕ) where
  pub inside_low : v < a → inside (a to b) v ≡ false
  unfolding inside
  inside_low h = rw (lt-leb a v h)

  pub inside_high : b < v → inside (a to b) v ≡ false
  unfolding inside
  inside_high h = rw (lt-leb v b h) (and-false (leb a v))

  pub inside_yes : a ≤ v → v ≤ b → inside (a to b) v ≡ true
  unfolding inside
  inside_yes h k = rw (le-leb a v h, le-leb v b k)

-- ---- the bytes from k on

-- each byte from k on is 20H to 7EH
abbrev pub plain : List ℕ → ℕ → Bool
plain t k = every (inside (0x20 to 0x7E)) (drop k t)

module _ (t : List ℕ) (k : ℕ) where
  pub plain_next : (r : Bool) → k < length t → inside (0x20 to 0x7E) (get_or t k 0) ≡ r → plain t k ≡ r && plain t (k + 1)
  unfolding every
  plain_next r h q = rw (drop_more t k h, q)

  pub plain_end : length t ≤ k → plain t k ≡ true
  unfolding every
  plain_end h = rw (drop_of_length-le t h)

-- ---- the names that end at the bytes of a list, from number k up to m

module _ (es : List ℕ) (i k m e : ℕ) (h : k < m) (l : m ≤ length es) (q : e ≡ get_or es k 0) where
  ends_next : slice k m es ≡ e ∷ slice (k + 1) m es
  ends_next = rw (q, add-one k) (slice-cons k m es 0 h l)

  pub cuts_next : (t : List ℕ) → cuts t i (slice k m es) ≡ part t i e ∷ cuts t (e + 1) (slice (k + 1) m es)
  unfolding cuts
  cuts_next t = rw (ends_next, cuts)

  pub placed_next : (n : ℕ) → Placed n i (slice k m es) → (i ≤ e) × ((e ≤ n) × Placed n (e + 1) (slice (k + 1) m es))
  placed_next n p = go (rw ends_next at p)
    where
      go : Placed n i (e ∷ slice (k + 1) m es) → (i ≤ e) × ((e ≤ n) × Placed n (e + 1) (slice (k + 1) m es))
      go (more a b r) = (a, (b, r))

pub cuts_end : (t es : List ℕ) (i k m : ℕ) → k ≡ m → cuts t i (slice k m es) ≡ []
unfolding cuts
cuts_end t es i k m h = rw (h, slice_empty m es)

-- ---- the names that end at the bytes of a list, from number k on

module _ (es : List ℕ) (i k e : ℕ) (h : k < length es) (q : e ≡ get_or es k 0) where
  pub cuts_rest : (t : List ℕ) → cuts t i (drop k es) ≡ part t i e ∷ cuts t (e + 1) (drop (k + 1) es)
  unfolding cuts
  cuts_rest t = rw (q, drop_more es k h, cuts)

  pub placed_rest : (n : ℕ) → Placed n i (drop k es) → (i ≤ e) × ((e ≤ n) × Placed n (e + 1) (drop (k + 1) es))
  placed_rest n p = go (rw (drop_more es k h, ← q) at p)
    where
      go : Placed n i (e ∷ drop (k + 1) es) → (i ≤ e) × ((e ≤ n) × Placed n (e + 1) (drop (k + 1) es))
      go (more a b r) = (a, (b, r))

pub cuts_over : (t es : List ℕ) (i k : ℕ) → length es ≤ k → cuts t i (drop k es) ≡ []
unfolding cuts
cuts_over t es i k h = rw (drop_of_length-le es h)

pub ends_grow : (es : List ℕ) (m e : ℕ) → m < length es → take (m + 1) (set es m e) ≡ take m es ++ (e ∷ [])
ends_grow es m e h = rw (add-one m) (take-suc-set es m e h)

cuts_grow : (t es : List ℕ) (i e : ℕ) → cuts t i (es ++ e ∷ []) ≡ cuts t i es ++ (part t (next i es) e ∷ [])
unfolding cuts next
cuts_grow t [] i e = refl
cuts_grow t (x ∷ es) i e = ap (λ l. part t i x ∷ l) (cuts_grow t es (x + 1) e)

next_grow : (es : List ℕ) (i e : ℕ) → next i (es ++ e ∷ []) ≡ e + 1
unfolding next
next_grow [] i e = refl
next_grow (x ∷ es) i e = next_grow es (x + 1) e

placed_grow : (n : ℕ) (es : List ℕ) (i e : ℕ) → Placed n i es → next i es ≤ e → e ≤ n → Placed n i (es ++ e ∷ [])
unfolding next
placed_grow n [] i e none h l = more h l none
placed_grow n (x ∷ es) i e (more p q r) h l = more p q (placed_grow n es (x + 1) e r h l)

-- ---- the names so far

-- the names of t that start before i, which end at es, keep the rules, are all different and have their bits in met, and no byte before i breaks them
pub record Kept (t es : List ℕ) (met i : ℕ) : Type 0 where
  pub cut : names t ≡ cuts t 0 es ++ names_from t i
  pub bytes : every (inside (0x20 to 0x7E)) t ≡ plain t i
  pub sizes : every (λ n. inside (1 to 16) (length n)) (cuts t 0 es) ≡ true
  pub apart : distinct (cuts t 0 es) ≡ true
  pub placed : Placed (length t) 0 es
  pub here : next 0 es ≡ i
  pub bits : Met met (cuts t 0 es)

pub kept_none : (t : List ℕ) → Kept t [] 0 0
unfolding cuts every distinct next
kept_none t = record { cut = names_start t; bytes = refl; sizes = refl; apart = refl; placed = none; here = refl; bits = met_none 0 }

-- ---- the ways out

module _ (t : List ℕ) where
  pub text_long : 255 < length t → sound_text t ≡ false
  unfolding sound_text
  text_long h = rw (inside_high 1 255 (length t) h)

  text_names : (every (λ n. inside (1 to 16) (length n)) (names t) && distinct (names t)) ≡ false → sound_text t ≡ false
  unfolding sound_text
  text_names h = rw (h, and-false (every (inside (0x20 to 0x7E)) t)) (and-false (inside (1 to 255) (length t)))

  module _ (es : List ℕ) (met i : ℕ) (s : Kept t es met i) where
    pub text_sound : length t < i → 1 ≤ length t → length t ≤ 255 → sound_text t ≡ true
    unfolding sound_text
    text_sound h k l =
        let q : names t ≡ cuts t 0 es = s.cut ∙ rw (names_end t i h) (append-nil (cuts t 0 es)) in
        rw (inside_yes 1 255 (length t) k l, s.bytes, plain_end t i (omega arith), q, s.sizes) s.apart

    pub text_bytes : plain t i ≡ false → sound_text t ≡ false
    unfolding sound_text
    text_bytes h = rw (s.bytes, h) (and-false (inside (1 to 255) (length t)))

    module _ (e : ℕ) (n : Ends t i e) where
      cut_here : names t ≡ cuts t 0 es ++ (part t i e ∷ names_from t (e + 1))
      cut_here = s.cut ∙ rw n.cut refl

      pub text_size : inside (1 to 16) (e - i) ≡ false → sound_text t ≡ false
      unfolding every
      text_size h = text_names (rw (cut_here, every_append, s.sizes, part_length t i e n.within, h))

      pub text_again : has (cuts t 0 es) (part t i e) ≡ true → sound_text t ≡ false
      text_again h =
          text_names (rw (cut_here, distinct_again (cuts t 0 es) (part t i e) (names_from t (e + 1)) h)
          (and-false (every (λ n. inside (1 to 16) (length n)) (cuts t 0 es ++ (part t i e ∷ names_from t (e + 1))))))

      pub kept_more : plain t i ≡ plain t (e + 1) → 1 ≤ e - i → e - i ≤ 16 → has (cuts t 0 es) (part t i e) ≡ false → (p : ℕ) → p ≡ 2 ^ sign (part t i e) → Kept t (es ++ e ∷ []) (bit_or met p) (e + 1)
      unfolding every
      kept_more b h k f p w =
          let g : cuts t 0 (es ++ e ∷ []) ≡ cuts t 0 es ++ (part t i e ∷ []) = rw (cuts_grow t es 0 e, s.here) refl in
          record {
            cut = cut_here ∙ rw (g, append_assoc) refl;
            bytes = s.bytes ∙ b;
            sizes = rw (g, every_append, s.sizes, part_length t i e n.within) (rw (inside_yes 1 16 (e - i) h k));
            apart = rw g (distinct_more (cuts t 0 es) (part t i e) s.apart f);
            placed = placed_grow (length t) es 0 e s.placed (omega (arith, s.here, n.from)) n.within;
            here = next_grow es 0 e;
            bits = rw g (met_more met (cuts t 0 es) s.bits (part t i e) p w);
          }
