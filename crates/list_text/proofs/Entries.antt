-- The lines of the entries that a list holds, one behind the other; and a list that holds the entries it was filled with.
use Prim.Native.Nat.{ℕ, zero, suc, ◌+◌, ◌-◌, ◌*◌, ◌≤◌, ◌<◌}
use mathlib.Core.Path.{◌≡◌, refl, sym, ap, ap₂, ◌∙◌}
use mathlib.Core.List.{List, [], ◌∷◌, ◌++◌, flat_map}
use native.Mathlib.Omega.{arith}
use native.Mathlib.Numerals.{add-one}
use lib.ListN.{length, length-append}
use Rattle.layout.specs.Lists.{rows}
use Rattle.layout.specs.Salvage.{Entry, entry_numbers, list_numbers}
use Rattle.layout.specs.Listing.{entry_line}
use Rattle.layout.proofs.Lists.{rows_last, flat_map_last}
use Rattle.layout.proofs.Replaced.{replaced_none, replaced_length}
use Rattle.list_spell.specs.Puts.{Put}
use Rattle.list_text.specs.Held.{entry_at, entries_in}
use Rattle.list_spell.proofs.Putting.{two_put, put_same}

-- ---- the entries that were filled in

rows_on : (f g : ℕ → Entry) (k n : ℕ) → ((i : ℕ) → f (suc i) ≡ g i) → rows f (suc k) n ≡ rows g k n
unfolding rows
rows_on f g k zero h = refl
rows_on f g k (suc n) h = ap₂ (λ (x : Entry) (xs : List Entry). x ∷ xs) (h k) (rows_on f g (suc k) n h)

entry_on : (a b c : ℕ) (l : List ℕ) (i : ℕ) → entry_at (a ∷ b ∷ c ∷ l) (suc i) ≡ entry_at l i
entry_on a b c l i =
    let x : 3 * suc i ≡ suc (suc (suc (3 * i))) = omega arith in
    let y : suc (suc (suc (3 * i))) + 1 ≡ suc (suc (suc (3 * i + 1))) = omega arith in
    let z : suc (suc (suc (3 * i))) + 2 ≡ suc (suc (suc (3 * i + 2))) = omega arith in
    rw (x, y, z)

pub holds_what_was_listed : (es : List Entry) (rest : List ℕ) → entries_in (list_numbers es ++ rest) (length es) ≡ es
unfolding list_numbers flat_map entry_numbers rows
holds_what_was_listed [] rest = refl
holds_what_was_listed (e ∷ es) rest =
    ap (λ (xs : List Entry). e ∷ xs)
    (rows_on (entry_at (e.place ∷ e.size ∷ e.kind ∷ (list_numbers es ++ rest))) (entry_at (list_numbers es ++ rest)) 0 (length es) (entry_on e.place e.size e.kind (list_numbers es ++ rest))
    ∙ holds_what_was_listed es rest)

-- ---- their lines

module _ (list : List ℕ) where
  abbrev pub lines : ℕ → List ℕ
  lines k = flat_map entry_line (entries_in list k)

  lines_none : lines 0 ≡ []
  unfolding rows flat_map
  lines_none = refl

  lines_suc : (k : ℕ) → lines (suc k) ≡ lines k ++ entry_line (entry_at list k)
  lines_suc k =
      let z : 0 + k ≡ k = omega arith in
      ap (flat_map entry_line) (rw z at (rows_last (entry_at list) 0 k)) ∙ flat_map_last entry_line (entries_in list k) (entry_at list k)

  lines_more : (k d : ℕ) → length (lines k) ≤ length (lines (k + d))
  lines_more k zero = let z : k + 0 ≡ k = omega arith in rw z (omega arith)
  lines_more k (suc d) =
      let z : k + suc d ≡ suc (k + d) = omega arith in
      rw z (omega (arith, lines_more k d, ap length (lines_suc (k + d)), length-append (lines (k + d)) (entry_line (entry_at list (k + d)))))

  lines_most : (k n : ℕ) → k ≤ n → length (lines k) ≤ length (lines n)
  lines_most k n h = let z : k + (n - k) ≡ n = omega arith in rw z at (lines_more k (n - k))

  -- the lines of the first k of n entries are put
  module _ (n : ℕ) (old : List ℕ) (at : ℕ) where
    pub record Told (now : List ℕ) (behind k : ℕ) : Type 0 where
      pub some : k ≤ n
      pub so : Put old at (lines k) behind now

    pub told_start : Told old at 0
    told_start =
        record {
          some = omega arith;
          so = record { place = omega (arith, ap length lines_none); buffer = sym (replaced_none old at (lines 0) lines_none) };
        }

    module _ (room : at + length (lines n) + 63 ≤ length old) (now : List ℕ) (behind k : ℕ) (t : Told now behind k) where
      so_far : at + length (lines k) + 63 ≤ length old
      so_far = omega (arith, room, lines_most k n t.some)

      told_length : length now ≡ length old
      told_length = ap length t.so.buffer ∙ replaced_length old at (lines k) (omega (arith, so_far))

      pub told_room : behind + 63 ≤ length now
      told_room = omega (arith, so_far, told_length, t.so.place)

      pub told_next : (r : ℕ) (after : List ℕ) → k < n → Put now behind (entry_line (entry_at list k)) r after → Told after r (k + 1)
      told_next r after h p =
          record {
            some = omega arith;
            so =
                put_same old at (lines k ++ entry_line (entry_at list k)) (lines (k + 1)) r after (sym (ap lines (add-one k) ∙ lines_suc k))
                (two_put old at (lines k) (entry_line (entry_at list k)) behind now r after (omega (arith, so_far)) t.so p);
          }
