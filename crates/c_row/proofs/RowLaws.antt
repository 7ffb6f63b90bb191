-- A list of known length is its elements, and a second table is there or not: so a row spelled out is the record's.
use Prim.Native.Nat.{ℕ, zero, suc}
use mathlib.Core.Path.{◌≡◌, refl, sym, ap, subst, ◌∙◌}
use mathlib.Core.Bool.{Bool, cond}
use mathlib.Core.List.{List, [], ◌∷◌, ◌++◌}
use lib.ListN.{length, get_or}
use borrow.Author.Tests.{eq-eqb, ne_eqb}
use Rattle.layout.specs.Records.{SecondTable}
use Rattle.layout.specs.Records.{Absent, Value}
use Rattle.layout.specs.declared.record.Record.{Record}
use Rattle.layout.specs.declared.edition.Edition.{Edition}
use Rattle.layout.specs.declared.edition.Edition.TheVariants.{First, Second}
use Rattle.layout.specs.Records.{edition_of, second_in, position_in, laid_out}
use Rattle.layout.proofs.Records.{laid_length}
use Rattle.c_row.specs.Rows.{edition_by, edition_number, second_by, has_of, value_of, row_for}
use Rattle.c_row.specs.Flat.{row_bytes}

module _ {A : Type 0} (d : A) where
  -- n elements from k on
  abbrev pub elements : List A → ℕ → ℕ → List A
  elements l k zero = []
  elements l k (suc n) = get_or l k d ∷ elements l (suc k) n

  behind : (a : A) (l : List A) (k n : ℕ) → elements (a ∷ l) (suc k) n ≡ elements l k n
  behind a l k zero = refl
  behind a l k (suc n) = ap {B = List A} (λ r. get_or l k d ∷ r) (behind a l (suc k) n)

  all : (l : List A) → elements l 0 (length l) ≡ l
  all [] = refl
  all (a ∷ l) = ap {B = List A} (λ r. a ∷ r) (behind a l 0 (length l) ∙ all l)

  pub its_elements : (l : List A) (n : ℕ) → length l ≡ n → elements l 0 n ≡ l
  its_elements l n e = subst (λ (m : ℕ). elements l 0 m ≡ l) e (all l)

pub second_absent : (has cntt : ℕ) → has ≡ 0 → Absent ≡ second_by has cntt
unfolding second_by
second_absent has cntt h = sym (ap (λ (t : Bool). cond t Absent (Value cntt)) (eq-eqb has 0 h))

pub second_there : (has cntt : ℕ) → (has ≡ 0 → ⊥) → Value cntt ≡ second_by has cntt
unfolding second_by
second_there has cntt h = sym (ap (λ (t : Bool). cond t Absent (Value cntt)) (ne_eqb has 0 h))

pub edition_second : (n : ℕ) → n ≡ 2 → Second ≡ edition_by n
unfolding edition_by
edition_second n h = sym (rw h)

pub edition_first : (n : ℕ) → (n ≡ 2 → ⊥) → First ≡ edition_by n
unfolding edition_by
edition_first n h = sym (rw (ne_eqb n 2 h))

-- a record by what is told of it
module _ (r : Record) (e : Edition) (t : SecondTable) (number has value position : ℕ) (b : List ℕ) (is : e ≡ edition_of r) (told : t ≡ second_in r) (n : number ≡ edition_number e)
    (h : has ≡ has_of t) (v : value ≡ value_of t) (p : position ≡ position_in r) (laid : b ≡ laid_out r) where
  pub row_is : record { edition = number; bytes = b; has_cntt = has; cntt = value; position = position } ≡ row_for r
  unfolding row_for
  row_is = rw (n, is, laid, h, v, told, p)

  pub row_spelled : number ∷ (elements 0 b 0 47 ++ (has ∷ value ∷ position ∷ [])) ≡ row_bytes r
  unfolding row_bytes
  row_spelled =
      ap (λ (l : List ℕ). number ∷ (l ++ (has ∷ value ∷ position ∷ []))) (its_elements 0 b 47 (ap length laid ∙ laid_length r) ∙ laid)
      ∙ rw (n, is, h, v, told, p)
