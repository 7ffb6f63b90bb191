-- A text is cut at its commas: what stands before the next comma is a name, and what stands after it is the text of the names that follow.
use Prim.Native.Nat.{ℕ, suc, ◌+◌, ◌-◌, ◌≤◌, ◌<◌}
use native.Mathlib.Omega.{arith}
use native.Mathlib.Numerals.{add-one}
use mathlib.Core.Path.{◌≡◌, refl, ◌∙◌}
use mathlib.Core.List.{List, [], ◌∷◌, ◌++◌, append-nil, append_assoc}
use lib.ListN.{length, get_or, drop, length-drop}
use lib.Seq.{drop-cons, drop-length, take-suc, get_or-drop, length-take-le}
use borrow.Author.Tests.{eq-eqb, ne_eqb, le-leb, lt-leb}
use Rattle.layout.specs.Sdec.{first_name, later_names, names}
use Rattle.read_names.specs.Parts.{part, names_from, Ends}

-- ---- parts

pub part_none : (t : List ℕ) (i e : ℕ) → e ≡ i → part t i e ≡ []
part_none t i e h = let z : e - i ≡ 0 = omega arith in rw z

pub drop_more : (t : List ℕ) (i : ℕ) → i < length t → drop i t ≡ get_or t i 0 ∷ drop (i + 1) t
drop_more t i h = rw (add-one i) (drop-cons t i 0 h)

pub part_more : (t : List ℕ) (i e : ℕ) → i < e → e ≤ length t → part t i e ≡ get_or t i 0 ∷ part t (i + 1) e
part_more t i e h l = let z : e - i ≡ suc (e - (i + 1)) = omega arith in rw (z, drop_more t i (omega arith))

pub part_length : (t : List ℕ) (i e : ℕ) → e ≤ length t → length (part t i e) ≡ e - i
part_length t i e h = length-take-le (e - i) (drop i t) (omega (arith, length-drop i t))

part_grows : (t : List ℕ) (i k : ℕ) → i ≤ k → k < length t → part t i (k + 1) ≡ part t i k ++ (get_or t k 0 ∷ [])
part_grows t i k h l =
    let z : k + 1 - i ≡ suc (k - i) = omega arith in
    let y : i + (k - i) ≡ k = omega arith in
    rw z (take-suc (drop i t) (k - i) 0 (omega (arith, length-drop i t)) ∙ rw (get_or-drop i t (k - i) 0, y))

-- ---- from a name's start to its end

-- the names from i on, where no comma stands from i up to k
unfoldable pub cut_at : List ℕ → ℕ → ℕ → List (List ℕ)
cut_at t i k = (part t i k ++ first_name (drop k t)) ∷ later_names (drop k t)

module _ (t : List ℕ) (i : ℕ) where
  pub cut_start : i ≤ length t → names_from t i ≡ cut_at t i i
  unfolding names_from cut_at names
  cut_start h = rw (le-leb i (length t) h, part_none t i i refl)

  pub cut_next : (k : ℕ) → i ≤ k → k < length t → (get_or t k 0 ≡ 44 → ⊥) → cut_at t i k ≡ cut_at t i (k + 1)
  unfolding cut_at first_name later_names
  cut_next k h l n = rw (drop_more t k l, ne_eqb (get_or t k 0) 44 n, part_grows t i k h l) (rw append_assoc)

  module _ (k : ℕ) (h : i ≤ k) (c : names_from t i ≡ cut_at t i k) where
    pub ends_comma : k < length t → get_or t k 0 ≡ 44 → Ends t i k
    unfolding cut_at first_name later_names names_from names
    ends_comma l q =
        record {
          from = h;
          within = omega arith;
          cut = c ∙ rw (drop_more t k l, eq-eqb (get_or t k 0) 44 q, le-leb (k + 1) (length t) (omega arith)) (rw append-nil);
        }

    pub ends_last : k ≡ length t → Ends t i (length t)
    unfolding cut_at first_name later_names names_from
    ends_last e =
        rw (← e) (record {
          from = h;
          within = omega arith;
          cut = c ∙ rw (lt-leb (k + 1) (length t) (omega arith)) (rw (e, drop-length t) (rw append-nil));
        })

-- ---- the names from a place on

pub names_start : (t : List ℕ) → names t ≡ names_from t 0
unfolding names_from
names_start t = rw (le-leb 0 (length t) (omega arith))

pub names_end : (t : List ℕ) (i : ℕ) → length t < i → names_from t i ≡ []
unfolding names_from
names_end t i h = rw (lt-leb i (length t) h)
