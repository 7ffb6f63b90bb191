-- Two contents of one shape, alike outside the record of Ctab number i: every other record is the same, with its Cntt and the Cntt's position, since both are read outside that record.
use Prim.Native.Nat.{ℕ, ◌+◌, ◌*◌, ◌<◌}
use mathlib.Core.Path.{◌≡◌, ap}
use mathlib.Core.Bool.{cond}
use mathlib.Core.List.{List}
use native.Mathlib.Omega.{arith}
use native.Mathlib.Decide.{dec_lt}
use lib.Dec.{ltb, eqb}
use lib.ListN.{get_or, take, drop}
use Rattle.layout.specs.declared.edition.Edition.{Edition}
use Rattle.layout.specs.Records.{Absent, Value}
use Rattle.layout.specs.Editions.{size, held}
use Rattle.layout.specs.Group.{ctab_place, ctab_channel, cntt_channel, cntt_of, second_of, position_of, record_at}
use Rattle.layout.proofs.Editions.{held_size, size_least}
use Rattle.layout.proofs.Scans.{first_alike}
use Rattle.layout.proofs.Ctabs.{place_before}
use Rattle.law_checked.specs.Alike.{behind, AlikeOutside}
use Rattle.law_checked.proofs.SameBytes.{SameBytes, same_part, Clear, short_of, past, clear_same}

-- another record is clear of that of Ctab number i
other_clear : (e : Edition) (p i j : ℕ) → (j ≡ i → ⊥) → Clear (ctab_place e p i + 8) (size e) (ctab_place e p j + 8) (size e)
other_clear e p i j other = go (dec_lt i j)
  where
    go : Dec (i < j) → Clear (ctab_place e p i + 8) (size e) (ctab_place e p j + 8) (size e)
    go (yes d) = past (omega (arith, place_before e p i j d))
    go (no d) = short_of (omega (arith, place_before e p j i (omega (arith, other))))

module _ (e : Edition) (c d : List ℕ) (p n m i : ℕ) (l : i < n) (a : AlikeOutside c d (ctab_place e p i + 8) (size e)) where
  -- where the Cntts begin
  abbrev q : ℕ
  q = ctab_place e p n

  -- what stands behind the Ctabs is the same
  later_byte : (k : ℕ) → get_or c (q + k) 0 ≡ get_or d (q + k) 0
  later_byte k = a.same (q + k) (behind (omega (arith, place_before e p i n l)))

  pub same_cntt_channel : (j : ℕ) → cntt_channel c q j ≡ cntt_channel d q j
  unfolding cntt_channel
  same_cntt_channel j = let z : q + 10 * j + 8 ≡ q + (10 * j + 8) = omega arith in rw z (later_byte (10 * j + 8))

  same_cntt_of : (channel : ℕ) → cntt_of c q m channel ≡ cntt_of d q m channel
  unfolding cntt_of
  same_cntt_of channel = first_alike (λ k. eqb (cntt_channel c q k) channel) (λ k. eqb (cntt_channel d q k) channel) m (λ k h. ap (λ x. eqb x channel) (same_cntt_channel k))

  pub same_second : (channel : ℕ) → second_of c q m channel ≡ second_of d q m channel
  unfolding second_of
  same_second channel =
      let j = cntt_of d q m channel in
      let z : q + 10 * j + 9 ≡ q + (10 * j + 9) = omega arith in
      let b : get_or c (q + 10 * j + 9) 0 ≡ get_or d (q + 10 * j + 9) 0 = rw z (later_byte (10 * j + 9)) in
      rw (same_cntt_of channel) (ap (λ x. cond (ltb j m) (Value x) Absent) b)

  pub same_position : (channel : ℕ) → position_of c q m channel ≡ position_of d q m channel
  unfolding position_of
  same_position channel = rw (same_cntt_of channel)

  -- ---- another record

  module _ (j : ℕ) (other : j ≡ i → ⊥) where
    same_bytes : SameBytes c d (ctab_place e p j + 8) (size e)
    same_bytes = clear_same c d (ctab_place e p i + 8) (size e) (ctab_place e p j + 8) (size e) a (other_clear e p i j other)

    pub same_channel : ctab_channel e c p j ≡ ctab_channel e d p j
    unfolding ctab_channel
    same_channel = let z : ctab_place e p j + 8 + 0 ≡ ctab_place e p j + 8 = omega arith in rw z at (same_bytes 0 (omega (arith, size_least e)))

    same_held : take (held e) (drop (ctab_place e p j + 8) c) ≡ take (held e) (drop (ctab_place e p j + 8) d)
    same_held = same_part c d (ctab_place e p j + 8) a.long (held e) (λ k h. same_bytes k (omega (arith, held_size e)))

    pub same_record : record_at e c p q m j ≡ record_at e d p q m j
    unfolding record_at
    same_record =
        rw (same_held, same_channel, same_second (ctab_channel e d p j), same_position (ctab_channel e d p j))
