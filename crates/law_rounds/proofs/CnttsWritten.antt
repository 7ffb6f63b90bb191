-- What was written behind the Ctabs of allowed records is read: the Cntts of the first edition, and of the second nothing.
use Prim.Native.Nat.{ℕ, ◌+◌, ◌*◌, ◌<◌}
use mathlib.Core.Path.{◌≡◌, refl, sym, ap, ◌∙◌}
use mathlib.Core.List.{List}
use native.Mathlib.Omega.{arith}
use lib.ListN.{length, get_or}
use Rattle.layout.specs.Scan.{Ended}
use Rattle.layout.specs.Group.{Sound}
use Rattle.layout.specs.declared.edition.Edition.{Edition}
use Rattle.layout.specs.declared.edition.Edition.TheVariants.{First, Second}
use Rattle.layout.specs.Editions.{held}
use Rattle.layout.specs.declared.record.Record.{Record}
use Rattle.layout.specs.Records.{blank, channel_of, edition_of, first_bad}
use Rattle.layout.specs.Group.{ctab_place, cntt_channel, cntt_turn, cntts_of, after_ctabs}
use Rattle.layout.specs.Write.{cntts_in}
use Rattle.layout.proofs.Pigeonhole.{Apart}
use Rattle.layout.proofs.Records.{ranged, second_good, ranged_channel}
use Rattle.layout.proofs.Cntts.{CnttMore, cntt_over}
use Rattle.layout.proofs.Groups.{behind_cntts, behind_none}
use Rattle.law_rounds.proofs.Runs.{ran_run}
use Rattle.law_rounds.proofs.CnttNumbers.{home_of}
use Rattle.law_rounds.proofs.CnttHomes.{homes_faultless}
use Rattle.law_rounds.proofs.InRange.{good_value}
use Rattle.law_rounds.proofs.CnttRounds.{cntt_goes, cntt_written}
use Rattle.law_rounds.proofs.RecordsPlaced.{Placed, homes, no_cntt_written}

module _ (rs : List Record) (good : (i : ℕ) → i < length rs → first_bad (get_or rs i blank) ≡ held (edition_of (get_or rs i blank)))
    (apart : Apart (λ i. channel_of (get_or rs i blank)) (length rs)) (c : List ℕ) where
  abbrev n : ℕ
  n = length rs

  abbrev m : ℕ
  m = cntts_in rs

  module _ (p : ℕ) (placed : Placed First rs c p) where
    abbrev q : ℕ
    q = ctab_place First p (length rs)

    cntt_stands : (j : ℕ) → j < m → CnttMore c p n q j (q + 10 * j)
    unfolding cntt_channel
    cntt_stands j l =
        let t = placed.cntt j l in
        let r : Record = get_or rs (home_of rs j) blank in
        let ok = good (home_of rs j) (placed.numbers.within j l) in
        cntt_written c (q + 10 * j) (channel_of r) t.value t.behind t.bytes p n q j
        (ranged_channel r (ranged r (omega (arith, ok)))) (good_value _ _ t.second (second_good r (omega (arith, ok))))
        (homes_faultless c p n q m (home_of rs) (homes First rs c p placed apart) j l)

    cntts_run : cntts_of c p n ≡ Ended m
    unfolding cntts_of cntt_turn
    cntts_run =
        ran_run (cntt_turn c p n q) (length c + 1) m (omega (arith, placed.cover)) (λ j l. cntt_goes c p n q j (q + 10 * j) (cntt_stands j l))
        (cntt_over c p n q m (q + 10 * m) (omega (arith, placed.cover)))

  pub behind_read : (e : Edition) (l : ℕ) → Placed e rs c (8 + l) → after_ctabs e c l (Ended n) ≡ Sound e l n m
  behind_read First l placed = behind_cntts c l n m (cntts_run (8 + l) placed)
  behind_read Second l placed =
      let z = no_cntt_written Second rs c (8 + l) placed refl in
      behind_none c l n (omega (arith, placed.cover)) ∙ ap (λ (k : ℕ). Sound Second l n k) (sym z)
