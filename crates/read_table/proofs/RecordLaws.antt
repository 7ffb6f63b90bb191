-- A lent table that is filled record by record: what it holds after n stores, and what a plan that was carried out has promised.
use Prim.Native.Nat.{ℕ, suc, ◌+◌, ◌≤◌, ◌<◌}
use native.Mathlib.Omega.{arith}
use native.Mathlib.Numerals.{add-one}
use mathlib.Core.Path.{◌≡◌, refl, sym, ap, ◌∙◌}
use mathlib.Core.List.{List, [], ◌∷◌, ◌++◌}
use lib.ListN.{length, get_or, set, drop, length-append, length-drop}
use lib.Seq.{drop-cons, set_at, append_snoc}
use Rattle.layout.specs.Lists.{rows}
use Rattle.layout.specs.declared.record.Record.{Record}
use Rattle.layout.specs.declared.answer.Counted.{Counted}
use Rattle.std.specs.Prelude.{Result, Ok, Err}
use Rattle.layout.specs.declared.turn.Refusal.{Refusal}
use Rattle.layout.specs.Answers.{lent_after}
use Rattle.layout.specs.Promises.{RecordsRead}
use Rattle.layout.proofs.Lists.{rows_length, rows_last}
use Rattle.read_table.specs.declared.Reading.{Reading}
use Rattle.read_table.specs.Reading.{told_of, planned_record, ReadingGranted, ReadingPlanned}
use Rattle.read_table.proofs.Plans.{told_answer}

-- ---- n stores into ys, of f 0, f 1, ..

module _ {A : Type 0} (f : ℕ → A) where
  -- the first n places hold them, and the others are as they were
  abbrev pub filled : ℕ → List A → List A
  filled n ys = rows f 0 n ++ drop n ys

  pub filled_none : (ys : List A) → ys ≡ filled 0 ys
  unfolding rows
  filled_none ys = refl

  pub filled_next : (n : ℕ) (ys : List A) → n < length ys → set (filled n ys) n (f n) ≡ filled (n + 1) ys
  filled_next n ys l =
      let z : 0 + n ≡ n = omega arith in
      let last : rows f 0 (suc n) ≡ rows f 0 n ++ (f n ∷ []) = rw z at (rows_last f 0 n) in
      ap (λ (x : List A). set (rows f 0 n ++ x) n (f n)) (drop-cons ys n (f n) l)
      ∙ (set_at (rows f 0 n) (get_or ys n (f n)) (drop (suc n) ys) (f n) n (rows_length f 0 n)
      ∙ (sym (append_snoc (rows f 0 n) (f n) (drop (suc n) ys))
      ∙ (ap (λ (x : List A). x ++ drop (suc n) ys) (sym last) ∙ ap (λ (k : ℕ). filled k ys) (sym (add-one n)))))

  pub filled_length : (n : ℕ) (ys : List A) → n ≤ length ys → length (filled n ys) ≡ length ys
  filled_length n ys l = length-append (rows f 0 n) (drop n ys) ∙ omega (arith, rows_length f 0 n, length-drop n ys)

-- ---- a plan carried out

-- with no plan the table is as it was
pub none_read : (s : List ℕ) (g : ℕ) (ys : List Record) (p : Result Reading Refusal) (r : Counted) → ReadingPlanned s g (length ys) p → ((x : Reading) → p ≡ Ok x → ⊥) → r ≡ told_of p → RecordsRead s g ys r ys
unfolding lent_after
none_read s g ys (Err why) r h f e = record { answer = told_answer s g (length ys) (Err why) r h e; table = rw h }
none_read s g ys (Ok x) r h f e = absurd (f x refl)

pub all_read : (s : List ℕ) (g : ℕ) (ys : List Record) (p : Reading) (r : Counted) → ReadingGranted s g (length ys) p → r ≡ told_of (Ok p) → RecordsRead s g ys r (filled (planned_record s p) p.count ys)
unfolding lent_after
all_read s g ys p r h e =
    record { answer = told_answer s g (length ys) (Ok p) r h e; table = rw (h.records, rows_length (planned_record s p) 0 p.count) }
