-- Blocks put one behind the other in place of what stands there: after i turns the first i of them are there.
use Prim.Native.Nat.{ℕ, ◌+◌, ◌-◌, ◌*◌, ◌≤◌, ◌<◌}
use mathlib.Core.Path.{◌≡◌, refl, sym, ap, ap₂, ◌∙◌}
use mathlib.Core.List.{List, [], ◌++◌, flat_map}
use native.Mathlib.Omega.{arith}
use native.Mathlib.Numerals.{add-one}
use lib.ListN.{length, get_or, take, drop, length-append}
use lib.Seq.{take-suc, length-take-le}
use borrow.Rule.Slice.PartMut.{mid_of, put_mid}
use Rattle.layout.specs.declared.edition.Edition.{Edition}
use Rattle.layout.specs.declared.edition.Edition.TheVariants.{First, Second}
use Rattle.layout.specs.declared.record.Record.{Record}
use Rattle.layout.specs.Records.{Value}
use Rattle.layout.specs.Bytes.{four, chunk}
use Rattle.layout.specs.Edit.{replaced}
use Rattle.layout.specs.Editions.{size}
use Rattle.layout.specs.Group.{ctab_place}
use Rattle.layout.specs.Records.{blank}
use Rattle.layout.specs.Write.{ctab_bytes, cntt_bytes}
use Rattle.layout.proofs.Ctabs.{place_before}
use Rattle.layout.proofs.Lists.{flat_map_last}
use Rattle.layout.proofs.Replaced.{replaced_none, replaced_length, replaced_twice}
use Rattle.write_plan.specs.Checking.{OneEdition}
use Rattle.write_plan.specs.Chunks.{cntt_down, cntts_down}
use Rattle.write_plan.proofs.Down.{cntts_next, cntts_length}
use Rattle.write_plan.proofs.Planning.{ctab_length, ctabs_length, editions_take}
use Rattle.write_chunks.proofs.Stored.{cntt_placed}

module _ (blocks : ℕ → List ℕ) (old : List ℕ) (at n : ℕ) where
  pub record Putting (now : List ℕ) (i : ℕ) : Type 0 where
    pub some : i ≤ n
    pub long : length now ≡ length old
    pub so : now ≡ replaced old at (blocks i)

  pub putting_start : blocks 0 ≡ [] → Putting old 0
  putting_start e = record { some = omega arith; long = refl; so = sym (replaced_none old at (blocks 0) e) }

  module _ (now : List ℕ) (i : ℕ) (p : Putting now i) where
    -- block number i behind those that are there
    pub putting_next : i < n → (to : ℕ) (block after : List ℕ) → blocks (i + 1) ≡ blocks i ++ block → to ≡ at + length (blocks i) → to + length block ≤ length old → after ≡ replaced now to block → Putting after (i + 1)
    putting_next h to block after more place room s =
        let e : after ≡ replaced old at (blocks (i + 1)) =
        s ∙ (ap₂ (λ (a : List ℕ) (k : ℕ). replaced a k block) p.so place ∙ (replaced_twice old at (blocks i) block (omega arith) ∙ ap (replaced old at) (sym more))) in
        record {
          some = omega arith;
          long = ap length e ∙ replaced_length old at (blocks (i + 1)) (omega (arith, ap length more, length-append (blocks i) block, place, room));
          so = e;
        }

    pub putting_end : n ≤ i → now ≡ replaced old at (blocks n)
    putting_end h = let z : i ≡ n = omega (arith, p.some) in p.so ∙ ap (λ (k : ℕ). replaced old at (blocks k)) z

-- ---- the Ctabs of records

-- no earlier one stands behind
pub place_within : (e : Edition) (p i n : ℕ) → i ≤ n → ctab_place e p i ≤ ctab_place e p n
place_within First p i n h = omega arith
place_within Second p i n h = omega arith

module _ (rs : List Record) where
  abbrev pub ctabs : ℕ → List ℕ
  ctabs i = flat_map ctab_bytes (take i rs)

  ctabs_none : ctabs 0 ≡ []
  unfolding flat_map
  ctabs_none = refl

  ctabs_more : (i : ℕ) → i < length rs → ctabs (i + 1) ≡ ctabs i ++ ctab_bytes (get_or rs i blank)
  ctabs_more i h = rw (add-one i) (ap (flat_map ctab_bytes) (take-suc rs i blank h) ∙ flat_map_last ctab_bytes (take i rs) (get_or rs i blank))

  module _ (e : Edition) (old : List ℕ) (at n : ℕ) where
    pub ctabs_start : Putting ctabs old at n old 0
    ctabs_start = putting_start ctabs old at n ctabs_none

    module _ (within : n ≤ length rs) (same : OneEdition e rs n) (room : ctab_place e at n ≤ length old) where
      ctabs_long : (i : ℕ) → i ≤ n → length (ctabs i) ≡ (8 + size e) * i
      ctabs_long i h =
          rw (length-take-le i rs (omega arith)) at (ctabs_length e (take i rs) (editions_take e rs i (omega arith) (λ j l. same j (omega arith))))

      -- the first i of them put
      pub ctabs_put : (i : ℕ) → i ≤ n → Putting ctabs old at n (replaced old at (ctabs i)) i
      ctabs_put i h = record { some = h; long = replaced_length old at (ctabs i) (omega (arith, ctabs_long i h, place_within e at i n h, room)); so = refl }

      -- one Ctab more, at its place
      pub ctabs_next : (now : List ℕ) (i : ℕ) → Putting ctabs old at n now i → i < n
          → (after : List ℕ) → after ≡ replaced now (ctab_place e at i) (ctab_bytes (get_or rs i blank)) → Putting ctabs old at n after (i + 1)
      ctabs_next now i p h after s =
          putting_next ctabs old at n now i p h (ctab_place e at i) (ctab_bytes (get_or rs i blank)) after (ctabs_more i (omega arith)) (omega (arith, ctabs_long i (omega arith)))
          (omega (arith, ctab_length (get_or rs i blank), ap size (same i h), place_before e at i n h, room)) s

-- ---- the Cntts that are laid down

module _ (cntts : List ℕ) (old : List ℕ) (at n : ℕ) (room : at + 10 * n ≤ length old) (now : List ℕ) (i : ℕ) (p : Putting (cntts_down cntts) old at n now i) (h : i < n) where
  -- one more, where the tail from its place on was lent and is back as ys
  pub cntts_on : (ys : List ℕ) → ys ≡ cntt_bytes (get_or cntts (2 * i) 0) (Value (get_or cntts (2 * i + 1) 0)) ++ drop 10 (mid_of (at + 10 * i) (length now - (at + 10 * i)) now)
      → Putting (cntts_down cntts) old at n (put_mid (at + 10 * i) (length now - (at + 10 * i)) now ys) (i + 1)
  unfolding cntt_down cntt_bytes chunk four
  cntts_on ys w =
      let l = cntts_length cntts i in
      putting_next (cntts_down cntts) old at n now i p h (at + 10 * i) (cntt_down cntts i) _ (cntts_next cntts i) (omega (arith, l)) (omega arith)
      (cntt_placed now (at + 10 * i) (omega (arith, p.long)) (get_or cntts (2 * i) 0) (get_or cntts (2 * i + 1) 0) ys w)
