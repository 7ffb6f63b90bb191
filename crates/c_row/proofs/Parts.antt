-- A row as the record that it stands for: its first byte says the edition, the bytes held stand behind it, and its last three say which Cntt there is and where it stands.
use Prim.Native.Nat.{ℕ, ◌-◌, ◌≤◌}
use mathlib.Core.Path.{◌≡◌, sym, ap, ◌∙◌}
use mathlib.Core.List.{List, [], ◌++◌, append-nil}
use native.Mathlib.Omega.{arith}
use lib.ListN.{length, get_or, take, drop, length-drop, length-take, drop_of_length-le}
use lib.Seq.{take_all, take-take}
use Rattle.layout.specs.declared.edition.Edition.{Edition}
use Rattle.layout.specs.declared.edition.Edition.TheVariants.{Second}
use Rattle.layout.specs.Records.{SecondTable}
use Rattle.layout.specs.Editions.{held}
use Rattle.layout.specs.Records.{bytes_of, record_of}
use Rattle.layout.proofs.Editions.{held_spare}
use Rattle.layout.proofs.BytesBack.{read_bytes}
use Rattle.c_row.specs.Rows.{edition_by, second_by}
use Rattle.c_row.specs.Flat.{row_size, record_in}

module _ (row : List ℕ) where
  -- all that stands behind the edition
  pub row_behind : take (length row - 1) (drop 1 row) ≡ drop 1 row
  row_behind = take_all (length row - 1) (drop 1 row) (omega (arith, length-drop 1 row))

  module _ (e : Edition) (is : e ≡ edition_by (get_or row 0 0)) where
    pub row_bytes_lem : length row ≡ row_size → take (held e) (drop 1 row) ≡ bytes_of (record_in row)
    unfolding record_in
    row_bytes_lem h =
        rw (← is) (sym (read_bytes e (drop 1 row) (second_by (get_or row 48 0) (get_or row 49 0)) (get_or row 50 0) (omega (arith, h, length-drop 1 row, held_spare e))))

    -- as many as either edition may hold are put over as many others
    pub row_taken : (b old : List ℕ) → length row ≡ row_size → length old ≡ held Second
        → b ≡ take (held Second) (drop 1 row) ++ drop (length (take (held Second) (drop 1 row))) old → take (held e) b ≡ bytes_of (record_in row)
    row_taken b old h l q =
        let most = take (held Second) (drop 1 row) in
        let k : length old ≤ length most = omega (arith, length-take 47 (drop 1 row), length-drop 1 row, h, l) in
        let z : drop (length most) old ≡ [] = drop_of_length-le old k in
        let y : b ≡ most = q ∙ (ap (λ (x : List ℕ). most ++ x) z ∙ append-nil most) in
        ap (take (held e)) y ∙ (take-take (held e) (held Second) (drop 1 row) (omega (arith, held_spare e)) ∙ row_bytes_lem h)

    pub row_record : (bytes : List ℕ) (second : SecondTable) → bytes ≡ drop 1 row → second ≡ second_by (get_or row 48 0) (get_or row 49 0)
        → record_of e bytes second (get_or row 50 0) ≡ record_in row
    unfolding record_in
    row_record bytes second b t = rw (b, t, is)
