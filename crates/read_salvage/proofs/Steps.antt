-- The step of the loop from place i to place e, the next CSEG or the end, and the entry that it gives.
use Prim.Native.Nat.{ℕ, suc, ◌+◌, ◌-◌, ◌≤◌, ◌<◌}
use native.Mathlib.Nat.{not-suc-le-zero, zero-lt-suc}
use native.Mathlib.Decide.{dec_lt}
use native.Mathlib.Omega.{arith}
use mathlib.Core.Path.{◌≡◌, refl}
use mathlib.Core.Bool.{true, false}
use mathlib.Core.List.{List, [], ◌∷◌, ◌++◌}
use lib.ListN.{length, take, drop, length-drop, drop_of_length-le}
use lib.Seq.{length-take-le, take-length, drop-length, drop-drop}
use Rattle.layout.specs.declared.edition.Edition.{Edition}
use Rattle.layout.specs.Group.{Unsound, Sound}
use Rattle.layout.specs.Bytes.{word}
use Rattle.layout.specs.Group.{group_size, group_at}
use Rattle.layout.specs.Salvage.{cseg, Part, rest, listed, judged, parts, entries_from, salvage}
use Rattle.read_salvage.specs.Cut.{Free, Piece}
use Rattle.read_salvage.specs.Entries.{Next, PieceLed, left, EntryAt}
use Rattle.read_salvage.proofs.Positions.{part, length_part, drop_part, part_rest}
use Rattle.read_salvage.proofs.Cseg.{Opens, no_cseg, not_so, cseg_part, opens_apart}
use Rattle.read_salvage.proofs.Letters.{next_after}
use Rattle.read_salvage.proofs.Parts.{parts_nil, parts_free, parts_piece}
use Rattle.read_salvage.proofs.Verdicts.{sound_at}

-- ---- where a search stops, the body is cut

-- a search that stops where it starts, before the end, has found CSEG
pub next_here : (s : List ℕ) (i e : ℕ) → Next s i e → e ≤ i → i < length s → cseg (drop i s) ≡ true
next_here s i e n h l = let q : e ≡ i = omega (arith, n.from) in rw q at (n.here (omega arith))

opens_of : (t : List ℕ) → (0 < length t → cseg t ≡ true) → Opens t
opens_of [] h = tt
opens_of (b ∷ t) h = h (zero-lt-suc (length t))

pub next_opens : (s : List ℕ) (i e : ℕ) → Next s i e → Opens (drop e s)
next_opens s i e n = opens_of (drop e s) (λ h. let l : 0 < length s - e = rw length-drop at h in n.here (omega arith))

-- CSEG stands in the bytes from i up to e only where it stands in s
part_none : (s : List ℕ) (i e k : ℕ) → i ≤ e → e ≤ length s → (i + k < e → cseg (drop (i + k) s) ≡ false) → cseg (drop k (part i e s)) ≡ false
part_none s i e k h l f = go (dec_lt (i + k) e)
  where
    go : Dec (i + k < e) → cseg (drop k (part i e s)) ≡ false
    go (yes m) = cseg_part k (part i e s) (drop e s) (rw (← drop_part i e s h, drop-drop) (f m))
    go (no m) =
        let z : length (part i e s) ≤ k = rw (length_part i e s l) (omega arith) in
        rw (drop_of_length-le (part i e s) z) (not_so _ no_cseg)

pub part_free : (s : List ℕ) (i e : ℕ) → Next s i e → Free (part i e s)
part_free s i e n k = part_none s i e k n.from n.within (λ m. n.none (i + k) m (omega arith))

pub part_piece : (s : List ℕ) (i e : ℕ) → cseg (drop i s) ≡ true → Next s (i + 1) e → Piece (part i e s)
part_piece s i e c n =
    let h : i ≤ e = omega arith in
    let w : e ≤ length s = n.within in
    let l : 0 < length (part i e s) = rw (length_part i e s w) (omega arith) in
    record {
      first = opens_apart (part i e s) (drop e s) (next_opens s (i + 1) e n) 0 l (rw (← drop_part i e s h) c);
      only = λ k. part_none s i e (suc k) h w (λ m. n.none (i + suc k) m (omega arith));
    }

pub step_free : (s : List ℕ) (i e : ℕ) → Next s i e → parts (drop i s) ≡ rest (part i e s) ++ parts (drop e s)
step_free s i e n =
    let h : i ≤ e = n.from in
    rw (← drop_part i e s h) at (parts_free (part i e s) (drop e s) (part_free s i e n) (next_opens s i e n))

pub step_piece : (s : List ℕ) (i e : ℕ) → cseg (drop i s) ≡ true → Next s (i + 1) e → parts (drop i s) ≡ judged (part i e s) ++ parts (drop e s)
step_piece s i e c n =
    let h : i ≤ e = omega arith in
    rw (← drop_part i e s h) at (parts_piece (part i e s) (drop e s) (part_piece s i e c n) (next_opens s (i + 1) e n))

-- ---- the answers of `judge_piece`

pub led_unsound : (p : List ℕ) (number place : ℕ) → 0 < length p → group_at p ≡ Unsound number place → PieceLed p (length p) number
unfolding judged listed rest
led_unsound p number place h v = record { some = h; within = omega arith; is = rw (v, listed, take-length, drop-length) }

pub led_sound : (p : List ℕ) (ed : Edition) (t n m l : ℕ) → group_at p ≡ Sound ed t n m → l ≡ word p 4 → PieceLed p (8 + l) 0
unfolding judged listed group_size
led_sound p ed t n m l v q =
    let h = (sound_at p ed t n m v).long in
    record { some = omega arith; within = omega arith; is = rw (v, listed, ← q) }

-- ---- the answers of `entry_at`

entries_rest : (i e : ℕ) (t : List ℕ) (ps : List Part) → 0 < length t → i + length t ≡ e
    → entries_from i (rest t ++ ps) ≡ record { place = i; size = length t; kind = 6 } ∷ entries_from e ps
unfolding entries_from rest
entries_rest i e [] ps h q = absurd (not-suc-le-zero h)
entries_rest i e (b ∷ t) ps h q = rw q

pub entry_rest : (s : List ℕ) (i e : ℕ) → i < e → Next s i e → EntryAt s i (e - i) 6
unfolding left
entry_rest s i e h n =
    let l : length (part i e s) ≡ e - i = length_part i e s n.within in
    let q : i + (e - i) ≡ e = omega arith in
    record {
      some = omega arith;
      within = omega (arith, n.within);
      is = rw (q, step_free s i e n) (rw l at (entries_rest i e (part i e s) (parts (drop e s)) (omega arith) (omega arith)));
    }

pub entry_piece : (s : List ℕ) (i e size kind : ℕ) → cseg (drop i s) ≡ true → Next s (i + 4) e → PieceLed (part i e s) size kind → EntryAt s i size kind
unfolding left entries_from
entry_piece s i e size kind c a p =
    let n : Next s (i + 1) e = next_after s i e c a in
    let l = length_part i e s n.within in
    let h : i + size ≤ e = omega (arith, p.within, l, n.from) in
    let lt : length (take size (part i e s)) ≡ size = length-take-le size (part i e s) p.within in
    let r : Next s (i + size) e = record { from = h; within = n.within; none = λ k a b. n.none k a (omega (arith, p.some)); here = n.here } in
    record {
      some = p.some;
      within = omega (arith, n.within);
      is = rw (step_piece s i e c n, p.is, lt, part_rest, ← step_free s (i + size) e r);
    }

-- ---- the loop's start and end

pub left_start : (s : List ℕ) → left s 0 ≡ salvage s
unfolding left salvage
left_start s = refl

pub left_end : (s : List ℕ) (i : ℕ) → length s ≤ i → left s i ≡ []
unfolding left entries_from
left_end s i h = rw (drop_of_length-le s h, parts_nil)
