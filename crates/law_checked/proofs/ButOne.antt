-- Two groups that are the same but for one record, which keeps its edition and its Cntt: so are groups whose contents are alike outside that record.
use Prim.Native.Nat.{ℕ, ◌+◌, ◌<◌}
use mathlib.Core.Path.{◌≡◌, sym, ap, ◌∙◌}
use mathlib.Core.List.{List}
use native.Mathlib.Omega.{arith}
use native.Mathlib.Decide.{dec_lt}
use lib.ListN.{length, get_or, get_or-eq_default}
use Rattle.layout.specs.Lists.{rows}
use Rattle.layout.specs.declared.edition.Edition.{Edition}
use Rattle.layout.specs.declared.record.Record.{Record}
use Rattle.layout.specs.Editions.{size}
use Rattle.layout.specs.Records.{blank, edition_of, second_in, position_in}
use Rattle.layout.specs.Group.{ctab_place, record_at, Group, group_of}
use Rattle.layout.proofs.Lists.{rows_length, get_d_rows}
use Rattle.layout.proofs.GroupSound.{Contents}
use Rattle.law_checked.specs.Alike.{AlikeOutside}
use Rattle.law_checked.proofs.SameBytes.{same_part, short_of, clear_same}
use Rattle.law_checked.proofs.SameRecords.{same_record}
use Rattle.law_checked.proofs.SameCntt.{kept_second, kept_position, row_edition}

-- the groups x and y differ in record number i alone
pub record ButOne (x y : Group) (i : ℕ) : Type 0 where
  pub text : y.text ≡ x.text
  pub count : length y.records ≡ length x.records
  pub its : i < length x.records
  pub others : (j : ℕ) → (j ≡ i → ⊥) → get_or y.records j blank ≡ get_or x.records j blank
  pub edition : edition_of (get_or y.records i blank) ≡ edition_of (get_or x.records i blank)
  pub second : second_in (get_or y.records i blank) ≡ second_in (get_or x.records i blank)
  pub position : position_in (get_or y.records i blank) ≡ position_in (get_or x.records i blank)

module _ (c d : List ℕ) (e : Edition) (t n m i : ℕ) (h : Contents c e t n m) (h' : Contents d e t n m) (l : i < n) (a : AlikeOutside c d (ctab_place e (8 + t) i + 8) (size e)) where
  -- record number j of contents b
  abbrev row : List ℕ → ℕ → Record
  row b j = record_at e b (8 + t) (ctab_place e (8 + t) n) m j

  other : (j : ℕ) → (j ≡ i → ⊥) → get_or (rows (row d) 0 n) j blank ≡ get_or (rows (row c) 0 n) j blank
  other j o = go (dec_lt j n)
    where
      go : Dec (j < n) → get_or (rows (row d) 0 n) j blank ≡ get_or (rows (row c) 0 n) j blank
      go (yes k) = get_d_rows (row d) blank n j k ∙ sym (get_d_rows (row c) blank n j k ∙ same_record e c d (8 + t) n m i l a j o)
      go (no k) =
          get_or-eq_default (rows (row d) 0 n) blank (rw rows_length (omega arith)) ∙ sym (get_or-eq_default (rows (row c) 0 n) blank (rw rows_length (omega arith)))

  -- what is asked of record number i
  own : {A : Type 0} (f : Record → A) → f (row d i) ≡ f (row c i) → f (get_or (rows (row d) 0 n) i blank) ≡ f (get_or (rows (row c) 0 n) i blank)
  own f q = ap f (get_d_rows (row d) blank n i l) ∙ q ∙ sym (ap f (get_d_rows (row c) blank n i l))

  pub contents_but_one : ButOne (group_of e c t n m) (group_of e d t n m) i
  unfolding group_of
  contents_but_one =
      record {
        text = sym (same_part c d 8 a.long t (clear_same c d (ctab_place e (8 + t) i + 8) (size e) 8 t a (short_of (omega arith))));
        count = rows_length (row d) 0 n ∙ sym (rows_length (row c) 0 n);
        its = rw rows_length l;
        others = other;
        edition = own (λ r. edition_of r) (row_edition e d _ _ m i ∙ sym (row_edition e c _ _ m i));
        second = own (λ r. second_in r) (kept_second c d e t n m i h h' l a);
        position = own (λ r. position_in r) (kept_position c d e t n m i h h' l a);
      }
