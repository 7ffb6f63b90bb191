-- A table of 32 records in memory: its machine value, its cells cut behind the first n and joined again, and how many of them are lent, which is `lent_of`'s.
use Rattle.walk.proofs.Words.{◌≡◌, refl, sym, ℕ, List, [], ◌++◌, ◌∷◌, map, drop-list, length, take, take-append-drop, Holds}
use Rattle.walk.proofs.Words.{Ura, full_share, Ty, ty_array, w64, Val, WT, has_ty, vint, SProp, ent, sep, Fml, fat, fsep, Memory, Routine, sem, Fun}
use Rattle.walk.proofs.Words.{ !, ◌$◌, ◌∵◌, ◌⊛◌, by, done, drop, feq_i, feq_l, fjoin, fpack, frame, fsplit, join, move, qed, rewrite, split, use1, use2, ‵, Arr, cells, arr_parts, nothing}
use Rattle.walk.proofs.Words.{RattleType, Is, cell_at, mem, part_at, shares, part_of, usize, Array, Array-Lawful, array_val, Array-apart, Array-whole, row, whole_in, whole_out, at, cut_app, join_app}
use Rattle.walk.proofs.Words.{triple_of, Contract}
use denote.Struct.Laws as LL
use Rattle.walk.proofs.Records.{R, val}
use Rattle.layout.specs.declared.record.Record.{Record}
use Rattle.layout.specs.contracts.record.Record as T
use Rattle.layout.proofs.record.Record.TheLaws as L
use Rattle.casm_by_value.specs.contracts.lent_of as lent
use types.Logic.{Logic, sem}

abbrev pub AR : RattleType
AR = Array R 32

-- a table's machine value
abbrev pub arrv : List Record → Val
arrv xs = array_val (map val xs)

abbrev pub arr_ty : Ty
arr_ty = ty_array L.mir 32

module _ {M : Type 1} {𝓤 : Ura M} (𝓛 : Logic 𝓤) where
  -- a table's machine value has the table's MIR type
  open 𝓛 use {H}

  pub typed : (ys : List Record) → Is AR ys (arrv ys ∷ []) → Holds (has_ty arr_ty (arrv ys)) × WT (arrv ys)
  typed ys p = ((Array-Lawful 𝓛 R (LL.lawful T.the_type L.the_laws 𝓛) 32).typed ys _ p).0

  -- what stands behind the first n records
  abbrev pub Rest : List Record → ℕ → ℕ → Fml
  Rest xs n l = cells (mem R) (drop-list n xs) l (at 0 (mem R).size (length (take n xs)))

  -- a table in memory is its first n records in memory, and the rest after them
  pub to_cells : (xs : List Record) (n l : ℕ) → ent 𝓤 (sep 𝓤 (H.at full_share arr_ty l 0 (arrv xs)) (sem 𝓛 (AR.own_val xs (arrv xs ∷ [])))) (sep 𝓤 (sem 𝓛 (cells (mem R) (take n xs) l 0)) (sem 𝓛 (Rest xs n l)))
  unfolding part_of
  to_cells xs n l =
      qed 𝓛 (‵ (fat full_share arr_ty l 0 (arrv xs)) ∷ ‵ (AR.own_val xs (arrv xs ∷ [])) ∷ []) ∵ use1 𝓛 (‵ (cell_at full_share AR.mir (arrv xs ∷ []) l 0)) (𝓛.laws.at_raw full_share arr_ty l 0 (arrv xs)) $ fjoin ! $
      fpack ! (List Val) (λ us. fsep (cell_at full_share AR.mir us l 0) (AR.own_val xs us)) (arrv xs ∷ []) $
      use1 𝓛 (‵ ((arr_parts (shares R) 32).part full_share xs l 0)) (Array-apart 𝓛 R full_share tt 32 xs l 0) $ fsplit ! $ drop ! $ use1 𝓛 (‵ (cells (mem R) xs l 0)) (whole_in 𝓛 R xs l 0) $
      rewrite ! 0 (λ (ys : List Record). ‵ (cells (mem R) ys l 0)) (sym (take-append-drop n xs)) refl $ by ! (cut_app 𝓛 (mem R) (take n xs) (drop-list n xs) l 0)

  join_cells : (zs ys : List Record) (l : ℕ) → length (zs ++ ys) ≡ 32
      → ent 𝓤 (sep 𝓤 (sem 𝓛 (cells (mem R) zs l 0)) (sem 𝓛 (cells (mem R) ys l (at 0 (mem R).size (length zs))))) (sem 𝓛 (part_at AR full_share (zs ++ ys) l 0))
  join_cells zs ys l len =
      qed 𝓛 (‵ (cells (mem R) zs l 0) ∷ ‵ (cells (mem R) ys l (at 0 (mem R).size (length zs))) ∷ []) ∵ use2 𝓛 (‵ (cells (mem R) (zs ++ ys) l 0)) (join_app 𝓛 (mem R) zs ys l 0) $
      use1 𝓛 (‵ (row R full_share (zs ++ ys) l 0)) (whole_out 𝓛 R (zs ++ ys) l 0) $ feq_i ! ℕ (length (zs ++ ys)) 32 len $ fjoin ! $ by ! (Array-whole 𝓛 R full_share 32 (zs ++ ys) l 0)

  -- records zs that came back for the first m, and the rest after them, are a table
  pub from_cells : (zs ys : List Record) (m l : ℕ) → length (zs ++ ys) ≡ 32 → ent 𝓤 (sep 𝓤 (sem 𝓛 ((Arr (mem R) m).own_at zs l 0)) (sem 𝓛 (cells (mem R) ys l (at 0 (mem R).size m)))) (sem 𝓛 (part_at AR full_share (zs ++ ys) l 0))
  from_cells zs ys m l len =
      qed 𝓛 (‵ ((Arr (mem R) m).own_at zs l 0) ∷ ‵ (cells (mem R) ys l (at 0 (mem R).size m)) ∷ []) ∵ fsplit ! $ feq_l ! (λ e. rewrite ! 1 (λ (n : ℕ). ‵ (cells (mem R) ys l (at 0 (mem R).size n))) (sym e) refl $ by ! (join_cells zs ys l len))

  -- the whole share of records that are lent to be read, as a `&[Record]` holds it
  abbrev pub Part : List Record → ℕ → Fml
  Part ys l = (arr_parts (shares R) (length ys)).part full_share ys l 0

  pub to_parts : (xs : List Record) (n l : ℕ) → ent 𝓤 (sep 𝓤 (H.at full_share arr_ty l 0 (arrv xs)) (sem 𝓛 (AR.own_val xs (arrv xs ∷ [])))) (sep 𝓤 (sem 𝓛 (Part (take n xs) l)) (sem 𝓛 (Rest xs n l)))
  to_parts xs n l =
      qed 𝓛 (‵ (fat full_share arr_ty l 0 (arrv xs)) ∷ ‵ (AR.own_val xs (arrv xs ∷ [])) ∷ []) ∵ use2 𝓛 (‵ (cells (mem R) (take n xs) l 0) ⊛ ‵ (Rest xs n l)) (to_cells xs n l) $ split ! $
      use1 𝓛 (‵ (row R full_share (take n xs) l 0)) (whole_out 𝓛 R (take n xs) l 0) $ feq_i ! ℕ (length (take n xs)) (length (take n xs)) refl $ fjoin ! $ done !

  pub from_parts : (xs : List Record) (n l : ℕ) → length xs ≡ 32 → ent 𝓤 (sep 𝓤 (sem 𝓛 (Part (take n xs) l)) (sem 𝓛 (Rest xs n l))) (sem 𝓛 (part_at AR full_share xs l 0))
  from_parts xs n l len =
      qed 𝓛 (‵ (Part (take n xs) l) ∷ ‵ (Rest xs n l) ∷ []) ∵ fsplit ! $ drop ! $ use1 𝓛 (‵ (cells (mem R) (take n xs) l 0)) (whole_in 𝓛 R (take n xs) l 0) $
      use2 𝓛 (‵ (part_at AR full_share (take n xs ++ drop-list n xs) l 0)) (join_cells (take n xs) (drop-list n xs) l (rw (take-append-drop n xs) len)) $
      rewrite ! 0 (λ (ys : List Record). ‵ (part_at AR full_share ys l 0)) (take-append-drop n xs) refl $ done !

-- ---- how many are lent

module _ {M : Type 1} {𝓤 : Ura M} (𝓛 : Logic 𝓤) (at_mem : Memory → SProp 𝓤) (run : Routine → Fun 𝓤) where
  abbrev pub Lent : Contract 𝓤
  Lent = triple_of 𝓛 lent.signature (lent.spec 𝓛 at_mem run)

  abbrev pub to_lent : ℕ → Lent.Ghost
  to_lent asked = ((tt, tt, tt, (asked, tt), (vint w64 asked ∷ [], tt)), tt)

  pub goes_lent : (asked : ℕ) → ent 𝓤 (sem 𝓛 (usize.own_val asked (vint w64 asked ∷ []))) (Lent.pre (to_lent asked))
  goes_lent asked = qed 𝓛 (‵ (usize.own_val asked (vint w64 asked ∷ [])) ∷ []) ∵ nothing ! $ move ! (1 ∷ 0 ∷ []) $ fjoin ! $ nothing ! $ join ! $ frame ! $ done !
