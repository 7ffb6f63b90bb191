-- Two accepted bodies that are alike outside the record of a source channel: nothing but that record is another in the one than in the other.
-- The groups stand at the same places; the others have the same payload, and that of the record is the same but for it.
use Prim.Native.Nat.{ℕ, ◌+◌, ◌<◌}
use mathlib.Core.Path.{◌≡◌, refl, sym, ap, ◌∙◌}
use mathlib.Core.Bool.{Bool, true, false}
use mathlib.Core.List.{List}
use native.Mathlib.Omega.{arith}
use native.Mathlib.Decide.{dec_lt}
use lib.Dec.{eqb}
use lib.ListN.{length, get_or, drop}
use lib.Seq.{drop-drop}
use borrow.Author.Tests.{eqb-true, eqb-false}
use Rattle.layout.specs.Bytes.{word}
use Rattle.layout.specs.Scan.{Ended}
use Rattle.layout.specs.Editions.{size}
use Rattle.layout.specs.Records.{blank}
use Rattle.layout.specs.Group.{ctab_place, payload, group_at, Group}
use Rattle.layout.specs.Body.{group_place, body_run, group_value, group_no}
use Rattle.layout.specs.Asked.{standing, row_of, row_in}
use Rattle.layout.proofs.Numbers.{word_drop}
use Rattle.layout.proofs.Bodies.{GroupMore}
use Rattle.layout.proofs.Accepted.{Accepted, body_accepted}
use Rattle.law_checked.specs.Alike.{AlikeOutside}
use Rattle.law_checked.specs.Others.{OthersAsBefore}
use Rattle.law_checked.proofs.SameBytes.{same_word, same_part, Clear, short_of, past, clear_same}
use Rattle.law_checked.proofs.SamePlaces.{place_suc, places_rise, same_places, same_count}
use Rattle.law_checked.proofs.RecordStands.{RecordStands, record_stands, header_clear}
use Rattle.law_checked.proofs.AlikeParts.{alike_drop}
use Rattle.law_checked.proofs.ButOne.{ButOne}
use Rattle.law_checked.proofs.OwnChannel.{own_channel}
use Rattle.law_checked.proofs.SameGroups.{same_payload, group_but_one}

module _ (s t : List ℕ) (n m g channel at long i : ℕ) (A : Accepted s n) (B : Accepted t m) (l : g < n) (r : RecordStands s g channel at long i) (a : AlikeOutside s t at long) where
  -- the length of group number k is the same
  lengths : (k : ℕ) → word s (group_place s k + 4) ≡ word t (group_place s k + 4)
  lengths k = same_word s t (group_place s k + 4) (clear_same s t at long (group_place s k + 4) 4 a (header_clear s g channel at long i r k))

  places : (k : ℕ) → group_place t k ≡ group_place s k
  places k = same_places s t k (λ j o. lengths j)

  groups_counted : n ≡ m
  groups_counted = same_count s t n m a.long A.cover B.cover (λ k o. places k)

  -- what the group rules say of group number h of the after body, by its place in the body before
  again : (h : ℕ) → h < n → GroupMore t h (group_place s h)
  again h o = rw (places h) at (B.each h (omega (arith, groups_counted)))

  at_same_place : (h : ℕ) → group_no t h ≡ group_value (drop (group_place s h) t) (group_at (drop (group_place s h) t))
  unfolding group_no
  at_same_place h = rw (places h)

  -- another group lies before the record or behind it
  group_clear : (h : ℕ) → (h ≡ g → ⊥) → Clear at long (group_place s h + 8) (word s (group_place s h + 4))
  group_clear h other = go (dec_lt g h)
    where
      go : Dec (g < h) → Clear at long (group_place s h + 8) (word s (group_place s h + 4))
      go (yes d) = past (omega (arith, r.ends, places_rise s g h d))
      go (no d) = short_of (omega (arith, r.place, places_rise s h g (omega (arith, other)), place_suc s h))

  payloads : (h : ℕ) → (h ≡ g → ⊥) → payload (drop (group_place s h) s) ≡ payload (drop (group_place s h) t)
  unfolding payload
  payloads h other =
      let p : ℕ = group_place s h in
      let same = same_part s t (p + 8) a.long (word s (p + 4)) (clear_same s t at long (p + 8) (word s (p + 4)) a (group_clear h other)) in
      rw (word_drop s p 4, word_drop t p 4, drop-drop 8 p s, drop-drop 8 p t, ← lengths h) same

  other_group : (h : ℕ) → h < n → (h ≡ g → ⊥) → group_no t h ≡ group_no s h
  unfolding group_no
  other_group h o other =
      at_same_place h ∙ same_payload (drop (group_place s h) s) (drop (group_place s h) t) _ _ _ _ _ _ _ _ (A.each h o).sound (again h o).sound (payloads h other)

  own_group : ButOne (group_no s g) (group_no t g) i
  unfolding group_no
  own_group =
      let p : ℕ = group_place s g in
      let z : at ≡ p + (8 + (ctab_place r.edition (8 + r.text) i + 8)) = omega (arith, r.place) in
      let x = alike_drop s t p (8 + (ctab_place r.edition (8 + r.text) i + 8)) (size r.edition) (rw (z, r.sized) at a) in
      rw (at_same_place g) (group_but_one (drop p s) (drop p t) _ _ _ _ _ _ _ _ r.sound (again g l).sound i r.within x)

  -- what holds of the group of the record, and of a group that is the same in both, holds of each
  of_each : (P : ℕ → Group → Group → Type 0) → P g (group_no s g) (group_no t g) → ((h : ℕ) → (h ≡ g → ⊥) → group_no t h ≡ group_no s h → P h (group_no s h) (group_no t h))
      → (h : ℕ) → h < n → P h (group_no s h) (group_no t h)
  of_each P own others h o = go (eqb h g) refl
    where
      go : (b : Bool) → eqb h g ≡ b → P h (group_no s h) (group_no t h)
      go true z = rw (eqb-true h g z) own
      go false z = let x = eqb-false h g z in others h x (other_group h o x)

  kept : body_run s ≡ Ended n → body_run t ≡ Ended m → OthersAsBefore s t g channel
  kept e f =
      record {
        n = n;
        index = i;
        accepted = e;
        again = f ∙ ap Ended (sym groups_counted);
        there = l;
        its = own_group.its;
        channelled = own_channel s g channel at long i r;
        texts = of_each (λ h x y. y.text ≡ x.text) own_group.text (λ h o q. ap (λ (x : Group). x.text) q);
        counts = of_each (λ h x y. length y.records ≡ length x.records) own_group.count (λ h o q. ap (λ (x : Group). length x.records) q);
        records =
            λ h j o.
            of_each (λ h x y. (h ≡ g → j ≡ i → ⊥) → get_or y.records j blank ≡ get_or x.records j blank) (λ other. own_group.others j (other refl))
            (λ h o q other. ap (λ (x : Group). get_or x.records j blank) q) h o;
        edition = own_group.edition;
        second = own_group.second;
        position = own_group.position;
      }

-- a yes, with both bodies accepted, leaves everything but that record as it was
pub others_as_before : (s t : List ℕ) (n m g channel : ℕ) → body_run s ≡ Ended n → body_run t ≡ Ended m → g < n
    → row_in s (standing s g) channel < (standing s g).records
    → AlikeOutside s t (row_of (standing s g) (row_in s (standing s g) channel)).at (size (standing s g).edition) → OthersAsBefore s t g channel
others_as_before s t n m g channel e f l has a =
    kept s t n m g channel _ _ (row_in s (standing s g) channel) (body_accepted s n e) (body_accepted t m f) l (record_stands s g channel has) a e f
