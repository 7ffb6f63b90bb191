-- What stands behind the Ctabs of sound contents, over the edition: the Cntts of the first edition, and behind Ctb2s none, so that what holds of each Cntt holds there too.
use Prim.Native.Nat.{ℕ, ◌+◌, ◌*◌, ◌<◌}
use mathlib.Core.Path.{◌≡◌, refl}
use mathlib.Core.List.{List}
use native.Mathlib.Omega.{arith}
use lib.ListN.{length, get_or}
use borrow.Author.Tests.{le-ltb}
use Rattle.layout.specs.declared.edition.Edition.{Edition}
use Rattle.layout.specs.declared.edition.Edition.TheVariants.{First, Second}
use Rattle.layout.specs.Scan.{Ended}
use Rattle.layout.specs.Records.{Absent}
use Rattle.layout.specs.Group.{ctab_place, ctab_of, ctabs_of, cntt_channel, cntt_of, cntt_turn, cntts_of, second_of, position_of}
use Rattle.layout.proofs.Cntts.{CnttMore, cntt_turn_more, no_fault}
use Rattle.layout.proofs.GroupSound.{Behind, cntts_of_lem, none_of}
use Rattle.layout.proofs.Seen.{ctab_seen}
use Rattle.layout.proofs.Sixteen.{channels_apart, cntts_apart}
use Rattle.law_rounds.proofs.Runs.{run_ran}
use Rattle.law_rounds.proofs.CnttHomes.{Homes}

-- where there is no Cntt, no source channel has one
pub no_cntts_lem : (c : List ℕ) (q m channel : ℕ) → m ≡ 0 → (second_of c q m channel ≡ Absent) × (position_of c q m channel ≡ 0)
unfolding second_of position_of
no_cntts_lem c q m channel h = rw (le-ltb (cntt_of c q m channel) m (omega arith)) (refl, refl)

module _ (c : List ℕ) (t n m : ℕ) where
  -- behind Ctb2s stands none
  pub none_behind_ctb2s : (e : Edition) → Behind c t n m e → e ≡ Second → m ≡ 0
  none_behind_ctb2s First k h = absurd (let z : ◌≡◌ {A = ℕ} 0 1 = cc in omega arith)
  none_behind_ctb2s Second k h = none_of c t n m k

  -- each Cntt is a turn that goes on
  pub cntt_behind : (e : Edition) → Behind c t n m e → (j : ℕ) → j < m → CnttMore c (8 + t) n (ctab_place e (8 + t) n) j (ctab_place e (8 + t) n + 10 * j)
  unfolding cntts_of
  cntt_behind First k j l =
      let q = ctab_place First (8 + t) n in
      cntt_turn_more c (8 + t) n q j ((run_ran (cntt_turn c (8 + t) n q) (length c + 1) m (cntts_of_lem c t n m k)).goes j l)
  cntt_behind Second k j l = absurd (omega (arith, none_of c t n m k))

  -- the Ctab that each belongs to
  pub homes_behind : (e : Edition) → ctabs_of e c (8 + t) ≡ Ended n → Behind c t n m e
      → Homes e c (8 + t) n (ctab_place e (8 + t) n) m (λ j. ctab_of e c (8 + t) n (cntt_channel c (ctab_place e (8 + t) n) j))
  unfolding cntt_channel
  homes_behind First h k =
      let q = ctab_place First (8 + t) n in
      let free : (j : ℕ) → j < m → ctab_of First c (8 + t) n (cntt_channel c q j) < n =
      λ j l. (no_fault c (8 + t) n q j (get_or c (q + 10 * j + 8) 0) (cntt_behind First k j l).fault).1 in
      record {
        apart = (channels_apart First c (8 + t) n h).apart;
        single = (cntts_apart c (8 + t) n m (cntts_of_lem c t n m k)).apart;
        within = free;
        named = λ j l. ctab_seen First c (8 + t) n (cntt_channel c q j) (free j l);
      }
  homes_behind Second h k =
      let z = none_of c t n m k in
      record {
        apart = (channels_apart Second c (8 + t) n h).apart;
        single = λ i j u l. absurd (omega arith);
        within = λ j l. absurd (omega arith);
        named = λ j l. absurd (omega arith);
      }
