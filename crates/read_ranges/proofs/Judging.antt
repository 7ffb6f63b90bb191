-- A byte judged by the columns of a table of ranges is judged by the table of the edition whose columns they are.
use Prim.Native.Nat.{ℕ, ◌+◌, ◌≤◌, ◌<◌}
use mathlib.Core.Path.{◌≡◌, sym, ◌∙◌}
use mathlib.Core.Bool.{Bool}
use mathlib.Core.List.{List}
use lib.ListN.{get_or}
use Rattle.layout.specs.declared.edition.Edition.{Edition}
use Rattle.layout.specs.Scan.{first}
use Rattle.layout.specs.Ranges.{rule_at, out_of, out_at, first_out}
use Rattle.layout.proofs.Scans.{first_alike, first_cut, first_on}
use Rattle.layout.proofs.Outs.{lows, highs, ruleds, out_columns}
use Rattle.read_ranges.specs.Judging.{out_by, out_standing}

-- a byte where it stands
pub stands_at : (low high : List ℕ) (ruled : List Bool) (s : List ℕ) (at k rule : ℕ) (t : Bool) → rule ≡ rule_at s at k → t ≡ out_by low high ruled k rule (get_or s (at + k) 0) → out_standing low high ruled s at k ≡ t
unfolding out_standing
stands_at low high ruled s at k rule t f g = rw (← f) (sym g)

-- ---- the columns of an edition's table

pub by_table : (e : Edition) (k rule v : ℕ) → out_by (lows e) (highs e) (ruleds e) k rule v ≡ out_of e k rule v
unfolding out_by
by_table e k rule v = out_columns e k rule v

abbrev pub standing : Edition → List ℕ → ℕ → ℕ → Bool
standing e s at k = out_standing (lows e) (highs e) (ruleds e) s at k

-- ---- its bytes gone over part by part

module _ (e : Edition) (s : List ℕ) (at n : ℕ) where
  -- no byte before byte k is out of its range: the first is looked for from there on
  abbrev pub From : ℕ → Type 0
  From k = first_out e s at n ≡ first (standing e s at) k n

  pub from_start : From 0
  unfolding first_out out_at out_standing
  from_start = first_alike (out_at e s at) (standing e s at) n (λ i l. sym (by_table e i (rule_at s at i) (get_or s (at + i) 0)))

  module _ (k : ℕ) (f : From k) (r : ℕ) where
    pub from_end : r ≡ first (standing e s at) k n → r ≡ first_out e s at n
    from_end q = q ∙ sym f

    module _ (m : ℕ) (l : k ≤ m) (g : m ≤ n) (q : r ≡ first (standing e s at) k m) where
      pub from_here : r < m → r ≡ first_out e s at n
      from_here h = q ∙ (sym (first_cut (standing e s at) k m n l g (rw (← q) h)) ∙ sym f)

      pub from_next : m ≤ r → From m
      from_next h = f ∙ first_on (standing e s at) k m n l g (rw (← q) h)
