-- Records of one edition whose Ctabs and Cntts were written into c from p to its end: where each chunk stands, its source channel there, and the Ctab that each Cntt belongs to.
use Prim.Native.Nat.{ℕ, suc, ◌+◌, ◌*◌, ◌≤◌, ◌<◌}
use mathlib.Core.Path.{◌≡◌, sym, ap, ◌∙◌}
use mathlib.Core.List.{List, ◌++◌, append-nil, flat_map}
use native.Mathlib.Omega.{arith}
use native.Mathlib.Decide.{dec_lt}
use lib.ListN.{length, get_or, drop, length-append, length-drop}
use Rattle.layout.specs.Bytes.{chunk}
use Rattle.layout.specs.declared.edition.Edition.{Edition}
use Rattle.layout.specs.declared.edition.Edition.TheVariants.{Second}
use Rattle.layout.specs.Editions.{tag_of, size, held, closing}
use Rattle.layout.specs.declared.record.Record.{Record}
use Rattle.layout.specs.Records.{head_bytes, bytes_of, blank, channel_of, edition_of, second_in, file_bytes}
use Rattle.layout.specs.Group.{ctab_place, ctab_channel, cntt_channel}
use Rattle.layout.specs.Write.{ctab_bytes, cntt_count, cntts_in, cntts_bytes, first_edition}
use Rattle.layout.proofs.Records.{bytes_length}
use Rattle.layout.proofs.Pigeonhole.{Apart}
use Rattle.layout.proofs.Positions.{Positions}
use Rattle.law_rounds.proofs.RecordBack.{ctb2_none}
use Rattle.law_rounds.proofs.Runs.{differ}
use Rattle.law_rounds.proofs.Blocks.{moved, blocks_written, length_blocks}
use Rattle.law_rounds.proofs.CnttNumbers.{CnttNumbers, CnttThere, home_of, positions_number, homes_apart, length_cntts, cntts_there}
use Rattle.law_rounds.proofs.CnttHomes.{Homes}
use Rattle.law_rounds.proofs.CtabRounds.{length_ctab, channel_at}
use Rattle.law_rounds.proofs.CnttRounds.{written_channel}

-- every record is of this edition, and where there is none it is that of the first all the same
pub record OneEdition (e : Edition) (rs : List Record) : Type 0 where
  pub first : first_edition rs ≡ e
  pub each : (i : ℕ) → i < length rs → edition_of (get_or rs i blank) ≡ e

pub record Placed (e : Edition) (rs : List Record) (c : List ℕ) (p : ℕ) : Type 0 where
  pub editions : OneEdition e rs
  pub numbers : CnttNumbers rs (cntts_in rs) (home_of rs)
  -- record number i has its Ctab here ..
  pub ctab : (i : ℕ) → i < length rs → drop (ctab_place e p i) c ≡ ctab_bytes (get_or rs i blank) ++ (flat_map ctab_bytes (drop (suc i) rs) ++ cntts_bytes rs)
  -- .. and Cntt number j stands here, after all Ctabs
  pub cntt : (j : ℕ) → j < cntts_in rs → CnttThere c (ctab_place e p (length rs) + 10 * j) (get_or rs (home_of rs j) blank)
  pub cover : length c ≡ ctab_place e p (length rs) + 10 * cntts_in rs

module _ (e : Edition) (rs : List Record) (one : OneEdition e rs) where
  -- each Ctab is as long as the edition's
  pub length_each : (i : ℕ) → i < length rs → length (ctab_bytes (get_or rs i blank)) ≡ 8 + size e
  length_each i l = length_ctab (get_or rs i blank) ∙ ap (λ (x : Edition). 8 + size x) (one.each i l)

  module _ (right : Positions rs) (c : List ℕ) (p : ℕ) (s : drop p c ≡ flat_map ctab_bytes rs ++ cntts_bytes rs) (f : p ≤ length c) where
    ctabs : ((i : ℕ) → i < length rs → drop (ctab_place e p i) c ≡ ctab_bytes (get_or rs i blank) ++ (flat_map ctab_bytes (drop (suc i) rs) ++ cntts_bytes rs))
        × (drop (ctab_place e p (length rs)) c ≡ cntts_bytes rs)
    ctabs =
        blocks_written c (λ i. ctab_place e p i) blank ctab_bytes (cntts_bytes rs) rs (λ i y l r. omega (arith, length_each i l)) (moved c (ctab_place e p 0) p (omega arith) ∙ s)

    pub records_placed : Placed e rs c p
    records_placed =
        let numbers = positions_number rs right in
        let x = ap length s ∙ length-append (flat_map ctab_bytes rs) (cntts_bytes rs) in
        record {
          editions = one;
          numbers = numbers;
          ctab = ctabs.0;
          cntt = cntts_there rs (cntts_in rs) (home_of rs) numbers c (ctab_place e p (length rs)) _ (ctabs.1 ∙ sym (append-nil _));
          cover = omega (arith, rw length-drop at x, length_blocks (8 + size e) blank ctab_bytes rs length_each, length_cntts rs (cntts_in rs) (home_of rs) numbers);
        }

module _ (e : Edition) (rs : List Record) (c : List ℕ) (p : ℕ) (h : Placed e rs c p) where
  -- what is held of record number i, closed and behind its header
  pub ctab_there : (i : ℕ) → i < length rs
      → drop (ctab_place e p i) c ≡ chunk (tag_of e) (bytes_of (get_or rs i blank) ++ closing e) ++ (flat_map ctab_bytes (drop (suc i) rs) ++ cntts_bytes rs)
  unfolding ctab_bytes file_bytes
  ctab_there i l = rw (h.editions.each i l) at (h.ctab i l)

  pub held_there : (i : ℕ) → i < length rs → length (bytes_of (get_or rs i blank)) ≡ held e
  held_there i l = bytes_length (get_or rs i blank) ∙ ap held (h.editions.each i l)

  pub ctab_channel_lem : (i : ℕ) → i < length rs → ctab_channel e c p i ≡ channel_of (get_or rs i blank)
  unfolding ctab_channel channel_of bytes_of head_bytes
  ctab_channel_lem i l = channel_at e c (ctab_place e p i) (bytes_of (get_or rs i blank)) _ (held_there i l) (ctab_there i l)

  pub cntt_channel_given : (j : ℕ) → j < cntts_in rs → cntt_channel c (ctab_place e p (length rs)) j ≡ channel_of (get_or rs (home_of rs j) blank)
  unfolding cntt_channel
  cntt_channel_given j l = written_channel c (ctab_place e p (length rs) + 10 * j) _ _ _ (h.cntt j l).bytes

  pub homes : Apart (λ i. channel_of (get_or rs i blank)) (length rs) → Homes e c p (length rs) (ctab_place e p (length rs)) (cntts_in rs) (home_of rs)
  homes apart =
      let own = h.numbers in
      record {
        apart = λ i j k l x. apart i j k l (sym (ctab_channel_lem i (omega arith)) ∙ x ∙ ctab_channel_lem j l);
        single = λ i j k l x. differ (λ i. channel_of (get_or rs i blank)) (length rs) apart (home_of rs i) (home_of rs j) (own.within i (omega arith)) (own.within j l)
            (homes_apart rs (cntts_in rs) (home_of rs) own i j k l) (sym (cntt_channel_given i (omega arith)) ∙ x ∙ cntt_channel_given j l);
        within = own.within;
        named = λ j l. ctab_channel_lem (home_of rs j) (own.within j l) ∙ sym (cntt_channel_given j l);
      }

  -- records of the second edition have no Cntt
  pub no_cntt_written : e ≡ Second → cntts_in rs ≡ 0
  unfolding cntt_count
  no_cntt_written is = go (dec_lt 0 (cntts_in rs))
    where
      go : Dec (0 < cntts_in rs) → cntts_in rs ≡ 0
      go (yes d) =
          let r : Record = get_or rs (home_of rs 0) blank in
          let z : cntt_count (second_in r) ≡ 0 = ap cntt_count (ctb2_none r.form (h.editions.each (home_of rs 0) (h.numbers.within 0 d) ∙ is)).0 in
          absurd (omega (arith, h.numbers.has 0 d))
      go (no d) = omega arith
