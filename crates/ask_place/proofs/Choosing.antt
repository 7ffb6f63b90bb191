-- The set that places a note and its effective table: one law for each way out, and what no bad byte means for them.
use Prim.Native.Nat.{ℕ, ◌≤◌, ◌<◌}
use mathlib.Core.Path.{◌≡◌, sym, ap, ◌∙◌}
use mathlib.Core.Bool.{Bool, true, false, cond}
use mathlib.Core.List.{List, ◌++◌}
use native.Mathlib.Omega.{arith}
use borrow.Author.Tests.{lt-ltb, le-ltb}
use lib.Dec.{ltb}
use lib.ListN.{get_or}
use Rattle.layout.specs.declared.edition.Edition.{Edition}
use Rattle.layout.specs.declared.edition.Edition.TheVariants.{First, Second}
use Rattle.layout.specs.Records.{SecondTable}
use Rattle.layout.specs.Records.{Absent}
use Rattle.layout.specs.declared.record.Set.{Set}
use Rattle.layout.specs.declared.record.Triple.{Triple}
use Rattle.layout.specs.declared.record.Form.{Form}
use Rattle.layout.specs.declared.record.Form.TheVariants.{One, Three}
use Rattle.layout.specs.declared.record.Record.{Record}
use Rattle.layout.specs.Editions.{held}
use Rattle.layout.specs.Ranges.{ranges, common_ranges, set_ranges}
use Rattle.layout.specs.Records.{bytes_of, head_bytes, form_bytes, set_bytes, tail_bytes, triple_bytes, set_at, form_of, record_with, record_of, form_edition, edition_of, first_bad}
use Rattle.layout.specs.Place.{note_count, effective, set_for, table_for}
use Rattle.layout.proofs.Outs.{highs}
use Rattle.layout.proofs.BytesBack.{edition_made}
use Rattle.read_record.proofs.BadBytes.{in_its_range}

-- ---- the set of a Ctb2, where its bytes stand

module _ (b : List ℕ) (n : ℕ) where
  pub set_low : n < get_or b 20 0 → set_at b 22 ≡ set_for (form_of Second b Absent 0) n
  unfolding set_for form_of
  set_low h = sym (rw (lt-ltb n (get_or b 20 0) h))

  module _ (h : get_or b 20 0 ≤ n) where
    pub set_high : get_or b 21 0 < n → set_at b 34 ≡ set_for (form_of Second b Absent 0) n
    unfolding set_for form_of
    set_high l = sym (rw (le-ltb n (get_or b 20 0) h, lt-ltb (get_or b 21 0) n l))

    pub set_middle : n ≤ get_or b 21 0 → set_at b 28 ≡ set_for (form_of Second b Absent 0) n
    unfolding set_for form_of
    set_middle l = sym (rw (le-ltb n (get_or b 20 0) h, le-ltb (get_or b 21 0) n l))

-- ---- the set of a Ctab, and the effective table of either

module _ (b : List ℕ) (second : SecondTable) (n : ℕ) (s : Set) where
  pub set_of_ctab : s ≡ set_at b 20 → s ≡ set_for (form_of First b second 0) n
  unfolding set_for form_of
  set_of_ctab h = h

  pub table_of_ctab : s ≡ set_at b 20 → (t : ℕ) → t ≡ effective second s.table → t ≡ table_for (form_of First b second 0) n
  unfolding table_for form_of
  table_of_ctab h t e = e ∙ ap (λ (x : Set). effective second x.table) h

  pub table_of_ctb2 : s ≡ set_for (form_of Second b second 0) n → s.table ≡ table_for (form_of Second b second 0) n
  unfolding table_for form_of
  table_of_ctb2 h = ap (λ (x : Set). x.table) h

-- ---- a record with no bad byte

-- each byte from byte 20 on is in its range
abbrev Within : Record → Form → Type 0
Within r f = (k : ℕ) → k < held (form_edition f) → get_or (head_bytes r ++ form_bytes f) k 0 ≤ get_or (highs (form_edition f)) k 0

-- what holds of each of three holds of the one chosen
chosen : (P : Set → Type 0) (a b : Bool) (x : Triple) → P x.low → P x.high → P x.middle → P (cond a x.low (cond b x.high x.middle))
chosen P true b x l h m = l
chosen P false true x l h m = h
chosen P false false x l h m = m

low_within : (r : Record) (f : Form) (n : ℕ) → Within r f → (set_for f n).low ≤ 127
unfolding head_bytes form_bytes set_bytes triple_bytes tail_bytes form_edition highs ranges common_ranges set_ranges set_for
low_within r (One x) n h = h 23 (omega arith)
low_within r (Three x) n h = chosen (λ s. s.low ≤ 127) (ltb n x.from) (ltb x.to n) x (h 25 (omega arith)) (h 37 (omega arith)) (h 31 (omega arith))

high_within : (r : Record) (f : Form) (n : ℕ) → Within r f → (set_for f n).high ≤ 127
unfolding head_bytes form_bytes set_bytes triple_bytes tail_bytes form_edition highs ranges common_ranges set_ranges set_for
high_within r (One x) n h = h 24 (omega arith)
high_within r (Three x) n h = chosen (λ s. s.high ≤ 127) (ltb n x.from) (ltb x.to n) x (h 26 (omega arith)) (h 38 (omega arith)) (h 32 (omega arith))

table_within : (r : Record) (b : List ℕ) (second : SecondTable) → Within r (form_of First b second 0) → (set_at b 20).table ≤ 5
unfolding head_bytes form_bytes set_bytes form_of form_edition highs ranges common_ranges set_ranges
table_within r b second h = h 21 (omega arith)

module _ (r : Record) (h : held (edition_of r) ≤ first_bad r) where
  within : Within r r.form
  unfolding bytes_of
  within k l = in_its_range r k h l

  -- the limits of each set are notes
  pub low_is_a_note : (n : ℕ) → (set_for r.form n).low ≤ 127
  low_is_a_note n = low_within r r.form n within

  pub high_is_a_note : (n : ℕ) → (set_for r.form n).high ≤ 127
  high_is_a_note n = high_within r r.form n within

-- .. of these bytes
module _ (b : List ℕ) (second : SecondTable) (k : ℕ) where
  module _ (e : Edition) (first : k ≡ first_bad (record_of e b second 0)) (h : held e ≤ k) where
    made_sound : held (edition_of (record_of e b second 0)) ≤ first_bad (record_of e b second 0)
    made_sound = rw (edition_made b second 0 e, ← first) h

    pub limits_made : (n : ℕ) (s : Set) → s ≡ set_for (form_of e b second 0) n → (s.low < note_count) × (s.high < note_count)
    unfolding record_of record_with
    limits_made n s q =
        let r = record_of e b second 0 in
        rw q (omega (arith, low_is_a_note r made_sound n), omega (arith, high_is_a_note r made_sound n))

  -- .. and the table of a Ctab is one that becomes another
  pub table_made : k ≡ first_bad (record_of First b second 0) → held First ≤ k → (s : Set) → s ≡ set_at b 20 → s.table < 6
  unfolding record_of record_with
  table_made first h s q =
      let r = record_of First b second 0 in
      rw q (omega (arith, table_within r b second (within r (made_sound First first h))))
