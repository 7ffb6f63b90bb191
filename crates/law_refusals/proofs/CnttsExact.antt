-- The Cntts before go on, so the run of Cntts comes to the child that does not.
use Prim.Native.Nat.{ℕ, zero, suc, ◌+◌, ◌≤◌, ◌<◌}
use mathlib.Core.Path.{◌≡◌, refl}
use mathlib.Core.Bool.{true, false}
use mathlib.Core.List.{List}
use native.Mathlib.Omega.{arith}
use native.Mathlib.Decide.{dec_lt}
use lib.ListN.{length, get_or}
use borrow.Author.Tests.{lt-ltb, le-ltb, le-leb, lt-leb, ne_eqb}
use Rattle.layout.specs.Scan.{Refused, More}
use Rattle.layout.specs.Scan.{Stopped}
use Rattle.layout.specs.Bytes.{word, Cntt}
use Rattle.layout.specs.declared.edition.Edition.TheVariants.{First}
use Rattle.layout.specs.Ranges.{out_of, cntt_value}
use Rattle.layout.specs.Group.{ctab_of, cntt_channel, cntt_of, cntt_fault, cntt_at, cntt_turn, cntts_of}
use Rattle.law_refusals.specs.Heads.{HeadRefused, Headed}
use Rattle.law_refusals.specs.Contents.{ctab_tag, ctab_source, cntt_tag, cntt_source, CnttInRange, CnttsBefore}
use Rattle.law_refusals.proofs.Reached.{run_reaches, head_is, head_none}
use Rattle.layout.proofs.Seen.{cntt_seen, cntt_unseen}
use Rattle.law_refusals.proofs.CtabsExact.{ctab_has, ctab_has_not, ctabs_within}

-- whether a channel stands among j Cntts
module _ (c : List ℕ) (q j channel : ℕ) where
  cntt_has : (i : ℕ) → i < j → cntt_channel c q i ≡ channel → cntt_of c q j channel < j
  cntt_has i l e = go (dec_lt (cntt_of c q j channel) j)
    where
      go : Dec (cntt_of c q j channel < j) → cntt_of c q j channel < j
      go (yes a) = a
      go (no a) = absurd (cntt_unseen c q j channel (omega arith) i l e)

  cntt_has_not : ((i : ℕ) → i < j → cntt_channel c q i ≡ channel → ⊥) → j ≤ cntt_of c q j channel
  cntt_has_not f = go (dec_lt (cntt_of c q j channel) j)
    where
      go : Dec (cntt_of c q j channel < j) → j ≤ cntt_of c q j channel
      go (yes a) = absurd (f (cntt_of c q j channel) a (cntt_seen c q j channel a))
      go (no a) = omega arith

module _ (c : List ℕ) (n : ℕ) where
  abbrev p : ℕ
  p = 8 + word c 4

  abbrev q : ℕ
  q = ctab_tag First c n

  module _ (j : ℕ) where
    abbrev at : ℕ
    at = cntt_tag c n j

    pub turn_head : (number : ℕ) → (number ≡ 0 → ⊥) → at < length c → HeadRefused c at Cntt number → cntt_turn c p n q j ≡ Refused number at
    unfolding cntt_turn cntt_at
    turn_head number z l h = rw (ne_eqb at (length c) (λ e. absurd (omega arith)), head_is c at Cntt number h, ne_eqb number 0 z)

    module _ (h : Headed c at Cntt) where
      begun : at ≡ length c → ⊥
      begun e = let w = h.within in absurd (omega arith)

      pub turn_size : (word c (at + 4) ≡ 2 → ⊥) → cntt_turn c p n q j ≡ Refused 7 at
      unfolding cntt_turn cntt_at
      turn_size f = rw (ne_eqb at (length c) begun, head_none c at Cntt h, ne_eqb (word c (at + 4)) 2 f)

      module _ (size : word c (at + 4) ≡ 2) where
        pub turn_channel : out_of First 0 0 (get_or c (at + 8) 0) ≡ true → cntt_turn c p n q j ≡ Refused 9 (at + 8)
        unfolding cntt_turn cntt_at
        turn_channel e = rw (ne_eqb at (length c) begun, head_none c at Cntt h, size, e)

        pub turn_value : out_of First 0 0 (get_or c (at + 8) 0) ≡ false → cntt_value (get_or c (at + 9) 0) ≡ false → cntt_turn c p n q j ≡ Refused 9 (at + 9)
        unfolding cntt_turn cntt_at
        turn_value e f = rw (ne_eqb at (length c) begun, head_none c at Cntt h, size, e, f)

    module _ (w : CnttInRange c n j) where
      pub turn_fault : (f : ℕ) → (f ≡ 0 → ⊥) → cntt_fault c p n q j (cntt_source c n j) ≡ f → cntt_turn c p n q j ≡ Refused f at
      unfolding cntt_turn cntt_at cntt_channel
      turn_fault f z e = rw (ne_eqb at (length c) (begun w.head), head_none c at Cntt w.head, w.size, w.channel, w.value, e, ne_eqb f 0 z)

      turn_more : cntt_fault c p n q j (cntt_source c n j) ≡ 0 → cntt_turn c p n q j ≡ More
      unfolding cntt_turn cntt_at cntt_channel
      turn_more e = rw (ne_eqb at (length c) (begun w.head), head_none c at Cntt w.head, w.size, w.channel, w.value, e)

    -- ---- 10, then 11

    pub fault_again : (i : ℕ) → i < j → cntt_source c n i ≡ cntt_source c n j → cntt_fault c p n q j (cntt_source c n j) ≡ 10
    unfolding cntt_fault
    fault_again i l e = rw (lt-ltb (cntt_of c q j (cntt_source c n j)) j (cntt_has c q j (cntt_source c n j) i l e))

    module _ (own : (i : ℕ) → i < j → cntt_source c n i ≡ cntt_source c n j → ⊥) where
      pub fault_stray : ((i : ℕ) → i < n → ctab_source First c i ≡ cntt_source c n j → ⊥) → cntt_fault c p n q j (cntt_source c n j) ≡ 11
      unfolding cntt_fault
      fault_stray f =
          rw (
            le-ltb (cntt_of c q j (cntt_source c n j)) j (cntt_has_not c q j (cntt_source c n j) own),
            le-leb n (ctab_of First c p n (cntt_source c n j)) (ctab_has_not First c p n (cntt_source c n j) f),
          )

      fault_none : ctab_of First c p n (cntt_source c n j) < n → cntt_fault c p n q j (cntt_source c n j) ≡ 0
      unfolding cntt_fault
      fault_none home =
          rw (le-ltb (cntt_of c q j (cntt_source c n j)) j (cntt_has_not c q j (cntt_source c n j) own), lt-leb n (ctab_of First c p n (cntt_source c n j)) home)

  module _ (j : ℕ) (b : CnttsBefore c n j) where
    before_more : (i : ℕ) → i < j → cntt_turn c p n q i ≡ More
    before_more i l =
        let h = b.cntts i l in
        let home = h.home in
        turn_more i h.cntt (fault_none i h.apart (ctab_has First c p n (cntt_source c n i) home.0 home.1.0 home.1.1))

    pub cntts_within : cntt_tag c n j ≤ length c
    cntts_within = go j refl
      where
        go : (k : ℕ) → k ≡ j → cntt_tag c n k ≤ length c
        go zero e = omega (arith, ctabs_within First c n b.ctabs)
        go (suc k) e = let h = (b.cntts k (omega arith)).cntt in omega (arith, h.head.within, h.size)

    pub cntts_stop : (number place : ℕ) → cntt_turn c p n q j ≡ Refused number place → cntts_of c p n ≡ Stopped number place
    unfolding cntts_of
    cntts_stop number place t = run_reaches (cntt_turn c p n q) (length c + 1) j number place (omega (arith, cntts_within)) before_more t
