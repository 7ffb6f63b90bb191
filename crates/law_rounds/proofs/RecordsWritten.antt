-- Allowed records of one edition whose Ctabs and Cntts were written into c from p to its end are read there: each Ctab's turn goes on, their run ends, and each record is given back.
use Prim.Native.Nat.{ℕ, zero, suc, ◌+◌, ◌*◌, ◌≤◌, ◌<◌}
use mathlib.Core.Path.{◌≡◌, refl, sym, ap, subst, ◌∙◌}
use mathlib.Core.Logic.{◌⊎◌, inl, inr}
use mathlib.Core.Bool.{true, ◌&&◌, ◌||◌}
use mathlib.Core.List.{List}
use native.Mathlib.Omega.{arith}
use native.Mathlib.Nat.{add-zero}
use lib.Dec.{leb, eqb}
use lib.ListN.{length, get_or}
use borrow.Author.Tests.{le-leb, eq-eqb, ne_eqb}
use Rattle.layout.specs.Lists.{rows}
use Rattle.layout.specs.Bytes.{tagged, Cntt}
use Rattle.layout.specs.Scan.{More}
use Rattle.layout.specs.Scan.{Ended}
use Rattle.layout.specs.declared.edition.Edition.{Edition}
use Rattle.layout.specs.declared.edition.Edition.TheVariants.{First, Second}
use Rattle.layout.specs.Editions.{held}
use Rattle.layout.specs.declared.record.Record.{Record}
use Rattle.layout.specs.Records.{SecondTable}
use Rattle.layout.specs.Records.{Absent, Value}
use Rattle.layout.specs.Records.{head_bytes, bytes_of, record_of, blank, channel_of, edition_of, second_in, position_in, first_bad}
use Rattle.layout.specs.Group.{ctabs_over, ctab_place, ctab_channel, ctab_turn, ctabs_of, second_of, position_of, record_at}
use Rattle.layout.specs.Write.{cntt_count, cntts_in, Whole}
use Rattle.layout.proofs.Heads.{head_sound}
use Rattle.layout.proofs.Pigeonhole.{Apart}
use Rattle.layout.proofs.Records.{Ranged, ranged, ranged_channel}
use Rattle.layout.proofs.Ctabs.{ctab_over}
use Rattle.layout.proofs.Sixteen.{at_most_sixteen}
use Rattle.layout.proofs.Positions.{one_or_none}
use Rattle.law_rounds.proofs.RecordBack.{bytes_read}
use Rattle.law_rounds.proofs.Runs.{ran_run}
use Rattle.law_rounds.proofs.Blocks.{rows_is}
use Rattle.law_rounds.proofs.CnttNumbers.{home_of}
use Rattle.law_rounds.proofs.CnttHomes.{Homes, home_read, none_read}
use Rattle.law_rounds.proofs.CtabRounds.{ctab_goes, held_at, ctab_written}
use Rattle.law_rounds.proofs.RecordsPlaced.{Placed, ctab_there, held_there, ctab_channel_lem, homes}
use Rattle.law_rounds.proofs.CnttRounds.{cntt_headed, written_value}
use Rattle.std.specs.Prelude.{None, Some}

none_absent : (o : SecondTable) → cntt_count o ≡ 0 → o ≡ Absent
unfolding cntt_count
none_absent None e = refl
none_absent (Some v) e = absurd (omega arith)

-- Ctabs are fewer than their bytes
few : (e : Edition) (p n k : ℕ) → ctab_place e p n ≤ k → n < k + 1
few First p n k h = omega arith
few Second p n k h = omega arith

module _ (e : Edition) (rs : List Record) (whole : (i : ℕ) → i < length rs → Whole (get_or rs i blank))
    (good : (i : ℕ) → i < length rs → first_bad (get_or rs i blank) ≡ held (edition_of (get_or rs i blank)))
    (apart : Apart (λ i. channel_of (get_or rs i blank)) (length rs)) (c : List ℕ) (p : ℕ) (placed : Placed e rs c p) where
  abbrev n : ℕ
  n = length rs

  abbrev m : ℕ
  m = cntts_in rs

  abbrev q : ℕ
  q = ctab_place e p (length rs)

  own : Homes e c p n q m (home_of rs)
  own = homes e rs c p placed apart

  -- ---- the run of the Ctabs

  in_range : (i : ℕ) → i < n → Ranged e (bytes_of (get_or rs i blank))
  in_range i l = subst (λ (x : Edition). Ranged x (bytes_of (get_or rs i blank))) (placed.editions.each i l) (ranged (get_or rs i blank) (omega (arith, good i l)))

  ctab_more : (i : ℕ) → i < n → ctab_turn e c p i ≡ More
  unfolding ctab_turn channel_of bytes_of head_bytes
  ctab_more i l =
      ctab_goes e c p i (ctab_place e p i)
      (ctab_written e c (ctab_place e p i) (bytes_of (get_or rs i blank)) _ (held_there e rs c p placed i l) (ctab_there e rs c p placed i l) (in_range i l) p i
      (λ k u x. apart k i u l (sym (ctab_channel_lem e rs c p placed k (omega arith)) ∙ x)))

  over : ctabs_over c q ≡ true
  unfolding ctabs_over
  over = go m refl
    where
      go : (k : ℕ) → m ≡ k → eqb q (length c) || (leb (q + 8) (length c) && tagged c q Cntt) ≡ true
      go zero h = rw (eq-eqb q (length c) (omega (arith, placed.cover)))
      go (suc k) h =
          let x = head_sound c (q + 10 * 0) Cntt (cntt_headed c (q + 10 * 0) _ _ _ (placed.cntt 0 (omega arith)).bytes) in
          let t : tagged c q Cntt ≡ true = ap (λ y. tagged c y Cntt) (sym (add-zero q)) ∙ x.0 in
          rw (ne_eqb q (length c) (λ y. omega (arith, placed.cover)), le-leb (q + 8) (length c) (omega (arith, placed.cover)), t)

  pub ctabs_run : ctabs_of e c p ≡ Ended n
  unfolding ctabs_of ctab_turn
  ctabs_run = ran_run (ctab_turn e c p) (length c + 1) n (few e p n (length c) (omega (arith, placed.cover))) ctab_more (ctab_over e c p n q over)

  -- ---- the records

  -- the Cntt of a record and its position are read back
  cntt_back : (i : ℕ) → i < length rs
      → (second_of c q m (ctab_channel e c p i) ≡ second_in (get_or rs i blank)) × (position_of c q m (ctab_channel e c p i) ≡ position_in (get_or rs i blank))
  cntt_back i l = go (one_or_none (second_in (get_or rs i blank)))
    where
      go : (cntt_count (second_in (get_or rs i blank)) ≡ 0) ⊎ (cntt_count (second_in (get_or rs i blank)) ≡ 1)
          → (second_of c q m (ctab_channel e c p i) ≡ second_in (get_or rs i blank)) × (position_of c q m (ctab_channel e c p i) ≡ position_in (get_or rs i blank))
      go (inl x) =
          let z = none_read e c p n q m (home_of rs) own i l (λ j u y. omega (arith, x, placed.numbers.has j u, ap (λ k. cntt_count (second_in (get_or rs k blank))) y)) in
          (z.0 ∙ sym (none_absent (second_in (get_or rs i blank)) x), z.1 ∙ sym (placed.numbers.none i l x))
      go (inr x) =
          let h = placed.numbers.complete i l x in
          let t = placed.cntt h.0 h.1 in
          let z = home_read e c p n q m (home_of rs) own h.0 h.1 in
          rw (← h.2) (z.0 ∙ ap Value (written_value c (q + 10 * h.0) _ _ _ t.bytes) ∙ sym t.second, z.1 ∙ sym (placed.numbers.at h.0 h.1))

  record_back : (i : ℕ) → i < length rs → record_at e c p q m i ≡ get_or rs i blank
  unfolding record_at
  record_back i l =
      let k = cntt_back i l in
      let r : Record = get_or rs i blank in
      rw (held_at e c (ctab_place e p i) (bytes_of (get_or rs i blank)) _ (held_there e rs c p placed i l) (ctab_there e rs c p placed i l), k.0, k.1)
      (ap (λ (x : Edition). record_of x (bytes_of r) (second_in r) (position_in r)) (sym (placed.editions.each i l)) ∙ bytes_read r (whole i l))

  pub records_back : rows (record_at e c p q m) 0 n ≡ rs
  records_back = rows_is (record_at e c p q m) blank rs record_back

-- ---- how many there are

-- "a source channel has at most one in a group, so at most 16"
pub at_most : (rs : List Record) → ((i : ℕ) → i < length rs → first_bad (get_or rs i blank) ≡ held (edition_of (get_or rs i blank))) → Apart (λ i. channel_of (get_or rs i blank)) (length rs) → length rs ≤ 16
at_most rs good apart = at_most_sixteen (λ i. channel_of (get_or rs i blank)) (length rs) (record { low = λ i l. ranged_channel _ (ranged (get_or rs i blank) (omega (arith, good i l))); apart = apart })
