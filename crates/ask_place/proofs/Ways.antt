-- One law for each way out of placing a note, and of its shift.
use Prim.Native.Nat.{ℕ, ◌≤◌, ◌<◌}
use mathlib.Core.Path.{◌≡◌, sym, ap, ◌∙◌}
use mathlib.Core.Bool.{Bool, true, false, ◌||◌, true≢false}
use mathlib.Core.List.{List}
use borrow.Author.Tests.{lt-ltb, le-ltb, lt-leb, le-leb, leb-false, ne_eqb}
use lib.Dec.{eqb, leb}
use lib.ListN.{get_or}
use lib.IntN.{ℤ, pos, ◌+ℤ◌, ◌-ℤ◌}
use Rattle.layout.specs.Records.{SecondTable}
use Rattle.layout.specs.declared.record.Set.{Set}
use Rattle.layout.specs.declared.edition.Edition.{Edition}
use Rattle.layout.specs.Editions.{held}
use Rattle.layout.specs.Records.{form_of, record_with, record_of, first_bad}
use Rattle.layout.specs.Answers.{Answer, refused, granted}
use Rattle.layout.specs.Plays.{root_count}
use Rattle.layout.specs.Place.{note_count, set_for, table_for, bypass, shift, fixed, heard, note_placed, placed}
use Rattle.layout.proofs.BytesBack.{edition_made}
use Rattle.ask_place.specs.Sets.{by_set}

-- ---- bypass

module _ (table : ℕ) where
  pub bypass_00 : table ≡ 0x00 → bypass table ≡ true
  unfolding bypass
  bypass_00 h = rw h

  pub bypass_80 : (table ≡ 0x00 → ⊥) → bypass table ≡ eqb table 0x80
  unfolding bypass
  bypass_80 h = rw (ne_eqb table 0x00 h)

-- ---- refusal 17

module _ (rule table : ℕ) where
  pub fixed_always : rule ≡ 2 → fixed rule table ≡ true
  unfolding fixed
  fixed_always h = rw h

  module _ (n : rule ≡ 2 → ⊥) where
    pub fixed_bypass : bypass table ≡ true → fixed rule table ≡ false
    unfolding fixed
    fixed_bypass b = rw (ne_eqb rule 2 n, b)

    pub fixed_else : bypass table ≡ false → fixed rule table ≡ eqb rule 1
    unfolding fixed
    fixed_else b = rw (ne_eqb rule 2 n, b)

-- ---- the shift

module _ (table key from root : ℕ) where
  pub shift_none : bypass table ≡ true → shift table key from root ≡ pos 0
  unfolding shift
  shift_none b = rw b

  module _ (b : bypass table ≡ false) where
    pub shift_down : key < root → shift table key from root ≡ pos root -ℤ pos from -ℤ pos 12
    unfolding shift
    shift_down h = rw (b, lt-ltb key root h)

    pub shift_plain : root ≤ key → shift table key from root ≡ pos root -ℤ pos from
    unfolding shift
    shift_plain h = rw (b, le-ltb key root h)

-- ---- what a set answers

module _ (set : Set) (table from root n : ℕ) where
  pub set_fixed : fixed set.rule table ≡ true → by_set set table from root n ≡ refused 17 0
  unfolding by_set
  set_fixed f = rw f

  pub set_shifted : fixed set.rule table ≡ false → (by : ℤ) → by ≡ shift table set.key from root
      → by_set set table from root n ≡ granted (heard (pos n +ℤ by) set.low set.high)
  unfolding by_set
  set_shifted f by e = rw (f, e)

-- ---- a chord root and a note that are none

module _ (root n : ℕ) where
  pub number_root : 12 ≤ root → true ≡ leb root_count root || leb note_count n
  number_root h = sym (rw (le-leb 12 root h))

  pub number_note : root < 12 → leb note_count n ≡ leb root_count root || leb note_count n
  number_note h = sym (rw (lt-leb 12 root h))

  -- .. and a note that is one
  pub note_some : (none : Bool) → none ≡ leb root_count root || leb note_count n → none ≡ false → n < note_count
  note_some none told some = leb-false note_count n (other (leb root_count root) (leb note_count n) (sym told ∙ some))
    where
      other : (s t : Bool) → s || t ≡ false → t ≡ false
      other true t h = absurd (true≢false h)
      other false t h = h

-- ---- the call

-- what the definitions answer makes the answer of the call
pub answers : {x y : Answer ℕ} → x ≡ y → placed y ≡ placed x
answers e = sym (ap placed e)

-- the record of these bytes, where a call told whether chord root or note is none
module _ (e : Edition) (b : List ℕ) (second : SecondTable) (root n : ℕ) (none : Bool) (told : none ≡ leb root_count root || leb note_count n) where
  pub placed_none : none ≡ true → note_placed (record_of e b second 0) root n ≡ refused 16 0
  unfolding note_placed
  placed_none h = rw (sym told ∙ h)

  module _ (some : none ≡ false) (k : ℕ) (first : k ≡ first_bad (record_of e b second 0)) where
    pub placed_bad : k < held e → note_placed (record_of e b second 0) root n ≡ refused 9 k
    unfolding note_placed
    placed_bad h = rw (sym told ∙ some, ← first, edition_made b second 0 e, lt-ltb k (held e) h)

    pub placed_set : held e ≤ k → (set : Set) (table : ℕ) → set ≡ set_for (form_of e b second 0) n → table ≡ table_for (form_of e b second 0) n
        → note_placed (record_of e b second 0) root n ≡ by_set set table (get_or b 18 0) root n
    unfolding note_placed by_set record_of record_with
    placed_set h set table s t = rw (sym told ∙ some, ← first, edition_made b second 0 e, le-ltb k (held e) h, ← s, ← t)
