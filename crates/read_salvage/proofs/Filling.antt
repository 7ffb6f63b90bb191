-- The loop that fills the lent list: n entries are written, the rest of the list is still to come; a turn stores three numbers at the seam.
use Prim.Native.Nat.{ℕ, suc, ◌+◌, ◌*◌, ◌≤◌, ◌<◌}
use native.Mathlib.Nat.{suc-add}
use native.Mathlib.Omega.{arith}
use mathlib.Core.Path.{◌≡◌, refl, sym, ap, ◌∙◌}
use mathlib.Core.Bool.{Bool, true, false, cond}
use mathlib.Core.List.{List, [], ◌∷◌, ◌++◌, append_assoc, flat_map}
use lib.ListN.{length, get_or, take, drop, set, length-drop, length-set}
use lib.Seq.{drop-drop, length-take-le, take-add, drop-cons, take-length}
use Rattle.layout.specs.Salvage.{Entry, salvage, entry_numbers, list_numbers}
use Rattle.read_salvage.specs.Entries.{left, EntryAt, entry_put, list_after}
use Rattle.layout.proofs.Lists.{flat_map_append}
use Rattle.read_salvage.proofs.Steps.{left_start, left_end}
use Rattle.read_salvage.proofs.Room.{numbers_length}

-- three stores at the seam of xs and what follows it
stored : (xs : List ℕ) (a b c : ℕ) (ys : List ℕ) (at x y z : ℕ) → length xs ≡ at
    → set (set (set (xs ++ a ∷ b ∷ c ∷ ys) at x) (at + 1) y) (at + 2) z ≡ xs ++ x ∷ y ∷ z ∷ ys
stored [] a b c ys at x y z q = rw (← q) refl
stored (w ∷ xs) a b c ys at x y z q = rw (← q, suc-add (length xs) 1, suc-add (length xs) 2) (ap (λ (t : List ℕ). w ∷ t) (stored xs a b c ys (length xs) x y z refl))

three : (n : ℕ) (l : List ℕ) → n + 3 ≤ length l → drop n l ≡ get_or l n 0 ∷ get_or l (suc n) 0 ∷ get_or l (suc (suc n)) 0 ∷ drop (n + 3) l
three n l h =
    let q : n + 3 ≡ suc (suc (suc n)) = omega arith in
    rw q (drop-cons l n 0 (omega arith) ∙ rw (drop-cons l (suc n) 0 (omega arith), drop-cons l (suc (suc n)) 0 (omega arith)))

-- n entries of w are written, and r are left
pub record Written (w : List Entry) (n : ℕ) (r : List Entry) : Type 0 where
  pub done : n ≤ length w
  pub rest : drop n w ≡ r

module _ (w : List Entry) (n : ℕ) (e : Entry) (r : List Entry) (t : Written w n (e ∷ r)) where
  pub written_room : n < length w
  written_room = omega (arith, t.done, length-drop n w, ap length t.rest)

  take_more : take (n + 1) w ≡ take n w ++ (e ∷ [])
  take_more = rw (take-add, t.rest)

  numbers_more : list_numbers (take (n + 1) w) ≡ list_numbers (take n w) ++ (e.place ∷ e.size ∷ e.kind ∷ [])
  unfolding list_numbers flat_map entry_numbers
  numbers_more = rw (take_more, flat_map_append)

  pub written_next : Written w (n + 1) r
  written_next = record { done = omega (arith, written_room); rest = rw (← drop-drop, t.rest) }

  -- the stores of one entry's numbers
  pub written_list : (old now : List ℕ) → 3 * length w ≤ length old → now ≡ list_after (take n w) old
      → set (set (set now (3 * n) e.place) (3 * n + 1) e.size) (3 * n + 2) e.kind ≡ list_after (take (n + 1) w) old
  unfolding list_after
  written_list old now h q =
      let l : length (take n w) ≡ n = length-take-le n w t.done in
      let ln : length (list_numbers (take n w)) ≡ 3 * n = numbers_length (take n w) ∙ omega arith in
      let l₁ : length (take (n + 1) w) ≡ n + 1 = length-take-le (n + 1) w (omega (arith, written_room)) in
      let ln₁ : length (list_numbers (take (n + 1) w)) ≡ 3 * n + 3 = numbers_length (take (n + 1) w) ∙ omega arith in
      rw (q, ln, ln₁, numbers_more, append_assoc, three (3 * n) old (omega (arith, written_room)))
      (stored (list_numbers (take n w)) _ _ _ (drop (3 * n + 3) old) (3 * n) e.place e.size e.kind ln)

pub written_start : (s : List ℕ) → Written (salvage s) 0 (left s 0)
written_start s = record { done = omega arith; rest = sym (left_start s) }

-- at the end all is written
pub written_end : (w : List Entry) (n : ℕ) → Written w n [] → n ≡ length w
written_end w n t = omega (arith, t.done, length-drop n w, ap length t.rest)

-- ---- the loop of `entries`

pub record Filling (s old : List ℕ) (stored : Bool) (now : List ℕ) (n i : ℕ) : Type 0 where
  pub within : i ≤ length s
  pub few : n ≤ i
  pub turn : Written (salvage s) n (left s i)
  pub list : now ≡ cond stored (list_after (take n (salvage s)) old) old
  pub long : length now ≡ length old

pub filling_start : (s old : List ℕ) (stored : Bool) → Filling s old stored old 0 0
unfolding list_after list_numbers flat_map
filling_start s old stored = record { within = omega arith; few = omega arith; turn = written_start s; list = either stored; long = refl }
  where
    either : (b : Bool) → old ≡ cond b old old
    either true = refl
    either false = refl

module _ (s old : List ℕ) (stored : Bool) (now : List ℕ) (n i size kind : ℕ) (h : Filling s old stored now n i) (e : EntryAt s i size kind) where
  here : Written (salvage s) n (record { place = i; size = size; kind = kind } ∷ left s (i + size))
  here = rw e.is at h.turn

  pub filling_fits : 3 * length (salvage s) ≤ length old → 3 * n + 3 ≤ length now
  filling_fits r = omega (arith, written_room _ n _ _ here, h.long)

  put_long : (b : Bool) → length (cond b (entry_put now n i size kind) now) ≡ length old
  unfolding entry_put
  put_long true = length-set (set (set now (3 * n) i) (3 * n + 1) size) (3 * n + 2) kind ∙ length-set (set now (3 * n) i) (3 * n + 1) size ∙ length-set now (3 * n) i ∙ h.long
  put_long false = h.long

  put_list : (b : Bool) → (b ≡ true → 3 * length (salvage s) ≤ length old) → now ≡ cond b (list_after (take n (salvage s)) old) old
      → cond b (entry_put now n i size kind) now ≡ cond b (list_after (take (n + 1) (salvage s)) old) old
  unfolding entry_put
  put_list true r q = written_list _ n _ _ here old now (r refl) q
  put_list false r q = q

  pub filling_turn : (stored ≡ true → 3 * length (salvage s) ≤ length old) → (after : List ℕ) → after ≡ cond stored (entry_put now n i size kind) now → Filling s old stored after (n + 1) (i + size)
  filling_turn r after q =
      record {
        within = e.within;
        few = omega (arith, h.few, e.some);
        turn = written_next _ n _ _ here;
        list = q ∙ put_list stored r h.list;
        long = ap length q ∙ put_long stored;
      }

pub filling_end : (s old : List ℕ) (stored : Bool) (now : List ℕ) (n i : ℕ) → Filling s old stored now n i → length s ≤ i → (n ≡ length (salvage s)) × (now ≡ cond stored (list_after (salvage s) old) old)
filling_end s old stored now n i h z =
    let t : Written (salvage s) n [] = rw (left_end s i z) at h.turn in
    let q : n ≡ length (salvage s) = written_end _ n t in
    (q, rw (q, take-length) at h.list)
