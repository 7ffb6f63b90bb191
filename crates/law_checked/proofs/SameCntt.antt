-- The record itself keeps its Cntt. Where its source channel stays, what is found for it stays; where it changes, neither channel has a Cntt:
-- such a Cntt stands in both contents, and in the other its channel would be that of a second Ctab.
use Prim.Native.Nat.{ℕ, ◌+◌, ◌<◌}
use mathlib.Core.Path.{◌≡◌, refl, sym, ap, ◌∙◌}
use mathlib.Core.Bool.{Bool, true, false}
use mathlib.Core.List.{List}
use native.Mathlib.Omega.{arith}
use lib.Dec.{eqb}
use lib.ListN.{take, drop}
use borrow.Author.Tests.{eqb-true, eqb-false, ne_eqb, le-ltb}
use Rattle.layout.specs.declared.edition.Edition.{Edition}
use Rattle.layout.specs.Records.{Absent}
use Rattle.layout.specs.Editions.{size, held}
use Rattle.layout.specs.Records.{edition_of, second_in, position_in}
use Rattle.layout.specs.Group.{ctab_place, ctab_channel, cntt_channel, cntt_of, second_of, position_of, record_at}
use Rattle.layout.proofs.Scans.{first_none}
use Rattle.layout.proofs.BytesBack.{edition_made}
use Rattle.layout.proofs.GroupSound.{Contents}
use Rattle.law_rounds.proofs.Runs.{differ}
use Rattle.law_rounds.proofs.RecordBack.{read_cntt}
use Rattle.law_rounds.proofs.CnttHomes.{Homes}
use Rattle.law_rounds.proofs.CnttsBehind.{no_cntts_lem, none_behind_ctb2s, homes_behind}
use Rattle.law_checked.specs.Alike.{AlikeOutside}
use Rattle.law_checked.proofs.SameRecords.{same_cntt_channel, same_channel, same_second, same_position}

-- where record number i has another source channel in d than in c, no Cntt of c has the one in c
module _ (e : Edition) (c d : List ℕ) (p n q m i : ℕ) (home home' : ℕ → ℕ) (h : Homes e c p n q m home) (h' : Homes e d p n q m home') (l : i < n) where
  module _ (others : (j : ℕ) → (j ≡ i → ⊥) → ctab_channel e c p j ≡ ctab_channel e d p j) (cntts : (j : ℕ) → cntt_channel c q j ≡ cntt_channel d q j) where
    module _ (changed : ctab_channel e c p i ≡ ctab_channel e d p i → ⊥) where
      no_cntt : (j : ℕ) → j < m → cntt_channel c q j ≡ ctab_channel e c p i → ⊥
      no_cntt j k has = go (eqb (home' j) i) refl
        where
          named : ctab_channel e d p (home' j) ≡ ctab_channel e c p i
          named = h'.named j k ∙ sym (cntts j) ∙ has

          go : (b : Bool) → eqb (home' j) i ≡ b → ⊥
          go true z = changed (sym (rw (eqb-true (home' j) i z) at named))
          go false z =
              let other : home' j ≡ i → ⊥ = eqb-false (home' j) i z in
              differ (ctab_channel e c p) n h.apart (home' j) i (h'.within j k) l other (others (home' j) other ∙ named)

      none_found : (second_of c q m (ctab_channel e c p i) ≡ Absent) × (position_of c q m (ctab_channel e c p i) ≡ 0)
      unfolding second_of position_of cntt_of
      none_found =
          let z = first_none (λ j. eqb (cntt_channel c q j) (ctab_channel e c p i)) m (λ j k. ne_eqb _ _ (no_cntt j k)) in
          rw (z, le-ltb m m (omega arith)) (refl, refl)

module _ (c d : List ℕ) (e : Edition) (t n m i : ℕ) (h : Contents c e t n m) (h' : Contents d e t n m) (l : i < n) (a : AlikeOutside c d (ctab_place e (8 + t) i + 8) (size e)) where
  abbrev p : ℕ
  p = 8 + t

  abbrev q : ℕ
  q = ctab_place e (8 + t) n

  same_found : (second_of c q m (ctab_channel e c p i) ≡ second_of d q m (ctab_channel e d p i)) × (position_of c q m (ctab_channel e c p i) ≡ position_of d q m (ctab_channel e d p i))
  same_found = go (eqb (ctab_channel e c p i) (ctab_channel e d p i)) refl
    where
      others : (j : ℕ) → (j ≡ i → ⊥) → ctab_channel e c p j ≡ ctab_channel e d p j
      others j o = same_channel e c d p n m i l a j o

      cntts : (j : ℕ) → cntt_channel c q j ≡ cntt_channel d q j
      cntts = same_cntt_channel e c d p n m i l a

      go : (b : Bool) → eqb (ctab_channel e c p i) (ctab_channel e d p i) ≡ b
          → (second_of c q m (ctab_channel e c p i) ≡ second_of d q m (ctab_channel e d p i)) × (position_of c q m (ctab_channel e c p i) ≡ position_of d q m (ctab_channel e d p i))
      go true z =
          let x = eqb-true (ctab_channel e c p i) (ctab_channel e d p i) z in
          (ap (second_of c q m) x ∙ same_second e c d p n m i l a (ctab_channel e d p i), ap (position_of c q m) x ∙ same_position e c d p n m i l a (ctab_channel e d p i))
      go false z =
          let x = eqb-false (ctab_channel e c p i) (ctab_channel e d p i) z in
          let u = homes_behind c t n m e h.ctabs h.behind in
          let v = homes_behind d t n m e h'.ctabs h'.behind in
          let y = none_found e c d p n q m i _ _ u v l others cntts x in
          let w = none_found e d c p n q m i _ _ v u l (λ j o. sym (others j o)) (λ j. sym (cntts j)) (λ o. x (sym o)) in
          (y.0 ∙ sym w.0, y.1 ∙ sym w.1)

  row_cntt : (b : List ℕ) → Contents b e t n m
      → (second_in (record_at e b p q m i) ≡ second_of b q m (ctab_channel e b p i)) × (position_in (record_at e b p q m i) ≡ position_of b q m (ctab_channel e b p i))
  unfolding record_at
  row_cntt b x = read_cntt (take (held e) (drop (ctab_place e p i + 8) b)) _ _ e (λ is. no_cntts_lem b q m (ctab_channel e b p i) (none_behind_ctb2s b t n m e x.behind is))

  pub kept_second : second_in (record_at e d p q m i) ≡ second_in (record_at e c p q m i)
  kept_second = (row_cntt d h').0 ∙ sym ((row_cntt c h).0 ∙ same_found.0)

  pub kept_position : position_in (record_at e d p q m i) ≡ position_in (record_at e c p q m i)
  kept_position = (row_cntt d h').1 ∙ sym ((row_cntt c h).1 ∙ same_found.1)

-- a record is of its contents' edition
pub row_edition : (e : Edition) (c : List ℕ) (p q m i : ℕ) → edition_of (record_at e c p q m i) ≡ e
unfolding record_at
row_edition e c p q m i = edition_made (take (held e) (drop (ctab_place e p i + 8) c)) _ _ e
