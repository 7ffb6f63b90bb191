-- Records laid one behind the other as 51 bytes each.
use Prim.Native.Nat.{ℕ, suc, ◌+◌, ◌-◌, ◌*◌, ◌≤◌, ◌<◌}
use native.Mathlib.Omega.{arith}
use native.Mathlib.Numerals.{add-one}
use mathlib.Core.Path.{◌≡◌, refl, sym, ap, subst, ◌∙◌}
use mathlib.Core.List.{List, [], ◌∷◌, ◌++◌, append_assoc, flat_map}
use lib.ListN.{length, get_or, take, drop, length-append, length-drop}
use lib.Seq.{take-suc, length-take-le}
use borrow.Rule.Slice.PartMut.{mid_of, put_mid}
use Rattle.layout.specs.Records.{laid_out, second_in, position_in}
use Rattle.layout.specs.declared.record.Record.{Record}
use Rattle.layout.proofs.Lists.{flat_map_last}
use Rattle.layout.proofs.Records.{laid_length as laid_long}
use Rattle.write_chunks.proofs.Tails.{tail_written}
use Rattle.c_row.specs.Rows.{has_of, value_of}
use Rattle.c_row.specs.Flat.{row_size, row_bytes}

-- ---- one record

pub row_length : (r : Record) → length (row_bytes r) ≡ row_size
unfolding row_bytes
row_length r = omega (arith, length-append (laid_out r) (has_of (second_in r) ∷ value_of (second_in r) ∷ position_in r ∷ []), laid_long r)

-- a row is put over as many bytes
pub row_put : (r : Record) (b old xs : List ℕ) → b ≡ row_bytes r → xs ≡ b ++ drop (length b) old → xs ≡ row_bytes r ++ drop row_size old
row_put r b old xs e q = q ∙ (ap (λ (x : List ℕ). x ++ drop (length x) old) e ∙ ap (λ (k : ℕ). row_bytes r ++ drop k old) (row_length r))

-- ---- one behind the other

pub rows_long : (rs : List Record) → length (flat_map row_bytes rs) ≡ row_size * length rs
unfolding flat_map
rows_long [] = refl
rows_long (r ∷ rs) = length-append (row_bytes r) (flat_map row_bytes rs) ∙ omega (arith, row_length r, rows_long rs)

-- old after the first i records of a table were laid at its start
abbrev pub laid : List Record → ℕ → List ℕ → List ℕ
laid table i old = flat_map row_bytes (take i table) ++ drop (row_size * i) old

pub laid_none : (table : List Record) (old : List ℕ) → old ≡ laid table 0 old
unfolding flat_map
laid_none table old = refl

first_long : (table : List Record) (i : ℕ) → i ≤ length table → length (flat_map row_bytes (take i table)) ≡ row_size * i
first_long table i l = rows_long (take i table) ∙ ap (λ (k : ℕ). row_size * k) (length-take-le i table l)

pub laid_length : (table : List Record) (i : ℕ) (old out : List ℕ) → i ≤ length table → row_size * i ≤ length old → out ≡ laid table i old → length out ≡ length old
laid_length table i old out l h e =
    ap length e
    ∙ (length-append (flat_map row_bytes (take i table)) (drop (row_size * i) old) ∙ omega (arith, first_long table i l, length-drop (row_size * i) old, h))

pub laid_next : (table : List Record) (i : ℕ) (d : Record) (old out ys : List ℕ) → i < length table → row_size * i + row_size ≤ length old → out ≡ laid table i old
    → ys ≡ row_bytes (get_or table i d) ++ drop row_size (mid_of (row_size * i) (length out - row_size * i) out)
    → put_mid (row_size * i) (length out - row_size * i) out ys ≡ laid table (i + 1) old
laid_next table i d old out ys l h q w =
    let hs = flat_map row_bytes (take i table) in
    let r = get_or table i d in
    let long : length out ≡ length old = laid_length table i old out (omega (arith, l)) (omega (arith, h)) q in
    let z : i + 1 ≡ suc i = add-one i in
    let more : flat_map row_bytes (take (suc i) table) ≡ hs ++ row_bytes r = ap (flat_map row_bytes) (take-suc table i d l) ∙ flat_map_last row_bytes (take i table) r in
    let y : row_size * i + row_size ≡ row_size * (i + 1) = omega arith in
    tail_written hs old out (row_size * i) (first_long table i (omega (arith, l))) (omega (arith, long, h)) q (row_bytes r) ys row_size (row_length r) w
    ∙ (ap (λ (k : ℕ). hs ++ (row_bytes r ++ drop k old)) y
    ∙ (sym (append_assoc hs (row_bytes r) (drop (row_size * (i + 1)) old))
    ∙ ap (λ (t : List ℕ). t ++ drop (row_size * (i + 1)) old) (sym more ∙ ap (λ (k : ℕ). flat_map row_bytes (take k table)) (sym z))))

pub laid_last : (table : List Record) (n i : ℕ) (old out : List ℕ) → out ≡ laid table i old → i ≤ n → n ≤ i → out ≡ laid table n old
laid_last table n i old out e l g = let z : i ≡ n = omega arith in e ∙ ap (λ (k : ℕ). laid table k old) z

-- what is lent to the next record
pub room_left : (i n : ℕ) (old out : List ℕ) → length out ≡ length old → i < n → row_size * n ≤ length old → row_size ≤ length (mid_of (row_size * i) (length out - row_size * i) out)
room_left i n old out e l h =
    let long = length-drop (row_size * i) out in
    subst (λ (k : ℕ). row_size ≤ k) (sym (length-take-le (length out - row_size * i) (drop (row_size * i) out) (omega (arith, long)))) (omega (arith, e, l, h))
