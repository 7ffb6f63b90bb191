-- Records in memory are refused wherever the condition of a row holds: placement, writing, the screen; and so is the salvage list.
use Prim.Native.Nat.{ℕ, ◌+◌, ◌*◌, ◌≤◌, ◌<◌}
use mathlib.Core.Bool.{or-true}
use mathlib.Core.Path.{◌≡◌, sym, ap, ◌∙◌}
use mathlib.Core.List.{List}
use native.Mathlib.Omega.{arith}
use native.Mathlib.Decide.{dec_lt}
use lib.Dec.{leb}
use lib.ListN.{length, get_or, take}
use lib.Seq.{length-take-le, get_or-take}
use borrow.Author.Tests.{lt-ltb, le-ltb, le-leb, lt-leb, ne_eqb}
use Rattle.layout.specs.declared.edition.Edition.{Edition}
use Rattle.layout.specs.Scan.{Refused, More}
use Rattle.layout.specs.Scan.{Stopped, Ended}
use Rattle.layout.specs.declared.record.Record.{Record}
use Rattle.layout.specs.Editions.{size, held}
use Rattle.layout.specs.Records.{blank, channel_of, edition_of, bad_byte, first_bad}
use Rattle.layout.specs.Answers.{refused, after_run}
use Rattle.layout.specs.Salvage.{salvage, list_numbers, salvaged}
use Rattle.layout.specs.Place.{table_for, bypass, fixed, note_placed}
use Rattle.layout.specs.Write.{first_edition, group_bytes, record_on, record_turn, records_run, group_from, written}
use Rattle.layout.specs.Screen.{field_set}
use Rattle.layout.proofs.Scans.{first_none}
use Rattle.layout.proofs.Runs.{run_end}
use Rattle.read_salvage.proofs.Room.{numbers_length}
use Rattle.law_refusals.specs.Records.{FirstBadByte, InRange, PlaceRefused, root_out, note_out, record_byte, root_fixed_given, rule_two, RecordsBefore, WriteRefused, count_over, text_broken, table_edition, table_byte, table_again, positions_wrong, buffer_short}
use Rattle.law_refusals.specs.Records.{FieldRefused, index_out, field_locked, value_out, SalvageRefused, list_over, list_short}
use Rattle.law_refusals.proofs.Reached.{run_from, run_reaches, such_first, alike_so, alike_not}
use Rattle.law_refusals.proofs.TextExact.{text_not}
use Rattle.law_refusals.proofs.Written.{record_seen, record_unseen}
use Rattle.law_refusals.proofs.Positions.{told_right, wrong_told}

-- ---- one record in memory

module _ (r : Record) where
  bad_is : (k : ℕ) → FirstBadByte r k → first_bad r ≡ k
  unfolding first_bad
  bad_is k f = such_first (bad_byte r) (held (edition_of r)) k f

  pub bad_none : InRange r → first_bad r ≡ held (edition_of r)
  unfolding first_bad
  bad_none f = first_none (bad_byte r) (held (edition_of r)) f

  pub place_answers : (root note number place : ℕ) → PlaceRefused r root note number place → note_placed r root note ≡ refused number place
  unfolding note_placed fixed bypass
  place_answers root note _ _ (root_out l) = rw (le-leb 12 root l)
  place_answers root note _ _ (note_out l) = rw (le-leb 128 note l, or-true (leb 12 root))
  place_answers root note _ _ (record_byte k l m f) = rw (lt-leb 12 root l, lt-leb 128 note m, bad_is k f, lt-ltb k (held (edition_of r)) f.within)
  place_answers root note _ _ (root_fixed_given l m f e g h) =
      rw (lt-leb 12 root l, lt-leb 128 note m, bad_none f, le-ltb (held (edition_of r)) (held (edition_of r)) (omega arith), ne_eqb (table_for r.form note) 0x00 g, ne_eqb (table_for r.form note) 0x80 h, e)
  place_answers root note _ _ (rule_two l m f e) =
      rw (lt-leb 12 root l, lt-leb 128 note m, bad_none f, le-ltb (held (edition_of r)) (held (edition_of r)) (omega arith), e)

  pub field_answers : (index value number place : ℕ) → FieldRefused r index value number place → field_set r index value ≡ refused number place
  unfolding field_set
  field_answers index value _ _ (index_out l) = rw (le-leb (held (edition_of r)) index l)
  field_answers index value _ _ (field_locked l v) = rw (lt-leb (held (edition_of r)) index l, v)
  field_answers index value _ _ (value_out l v e) = rw (lt-leb (held (edition_of r)) index l, v, e)

-- ---- writing

module _ (rs : List Record) where
  -- the edition that every record is to have
  abbrev e : Edition
  e = first_edition rs

  module _ (i : ℕ) where
    turn_edition : (e ≡ edition_of (get_or rs i blank) → ⊥) → record_turn rs i ≡ Refused 21 (size e * i)
    unfolding record_turn
    turn_edition f = rw (alike_not e (edition_of (get_or rs i blank)) f)

    module _ (like : e ≡ edition_of (get_or rs i blank)) where
      turn_byte : (k : ℕ) → FirstBadByte (get_or rs i blank) k → record_turn rs i ≡ Refused 9 (size e * i + k)
      unfolding record_turn
      turn_byte k f =
          let l : k < held e = rw like f.within in
          rw (alike_so e (edition_of (get_or rs i blank)) like, bad_is (get_or rs i blank) k f, lt-ltb k (held e) l)

      module _ (f : InRange (get_or rs i blank)) where
        none_bad : first_bad (get_or rs i blank) ≡ held e
        none_bad = bad_none (get_or rs i blank) f ∙ ap held (sym like)

        turn_again : (j : ℕ) → j < i → channel_of (get_or rs j blank) ≡ channel_of (get_or rs i blank) → record_turn rs i ≡ Refused 10 (size e * i)
        unfolding record_turn
        turn_again j l q =
            rw (alike_so e (edition_of (get_or rs i blank)) like, none_bad, le-ltb (held e) (held e) (omega arith), lt-ltb (record_on rs i (channel_of (get_or rs i blank))) i (go (dec_lt _ i)))
          where
            go : Dec (record_on rs i (channel_of (get_or rs i blank)) < i) → record_on rs i (channel_of (get_or rs i blank)) < i
            go (yes a) = a
            go (no a) = absurd (record_unseen rs i (channel_of (get_or rs i blank)) (omega arith) j l q)

        turn_more : ((j : ℕ) → j < i → channel_of (get_or rs j blank) ≡ channel_of (get_or rs i blank) → ⊥) → record_turn rs i ≡ More
        unfolding record_turn
        turn_more g =
            rw (alike_so e (edition_of (get_or rs i blank)) like, none_bad, le-ltb (held e) (held e) (omega arith), le-ltb (record_on rs i (channel_of (get_or rs i blank))) i (go (dec_lt _ i)))
          where
            go : Dec (record_on rs i (channel_of (get_or rs i blank)) < i) → i ≤ record_on rs i (channel_of (get_or rs i blank))
            go (yes a) = absurd (g (record_on rs i (channel_of (get_or rs i blank))) a (record_seen rs i (channel_of (get_or rs i blank)) a))
            go (no a) = omega arith

  module _ (k : ℕ) (b : RecordsBefore rs k) where
    before_more : (i : ℕ) → i < k → record_turn rs i ≡ More
    unfolding first_edition
    before_more i l = turn_more i (b.editions i l) (b.inside i l) (λ j h. b.apart j i h l)

    records_stop : (number place : ℕ) → k < length rs → record_turn rs k ≡ Refused number place → records_run rs ≡ Stopped number place
    unfolding records_run
    records_stop number place l t = run_reaches (record_turn rs) (length rs) k number place l before_more t

    records_end : length rs ≡ k → records_run rs ≡ Ended k
    unfolding records_run
    records_end e = run_from (record_turn rs) (length rs) k (omega arith) before_more ∙ run_end (record_turn rs) k (length rs) e

module _ (text : List ℕ) (table : List Record) (count room : ℕ) where
  -- the records that are written are those of the table
  abbrev rs : List Record
  rs = take count table

  same_record : (i : ℕ) → i < count → get_or table i blank ≡ get_or rs i blank
  same_record i l = sym (get_or-take count table i blank l)

  abbrev its : Edition
  its = first_edition rs

  same_edition : (i : ℕ) → i < count → edition_of (get_or table i blank) ≡ edition_of (get_or rs i blank)
  same_edition i l = ap edition_of (same_record i l)

  before_rs : (i : ℕ) → i ≤ count → RecordsBefore table i → RecordsBefore rs i
  before_rs i l h =
      record {
        editions = λ j k. rw (same_record 0 (omega arith), same_record j (omega arith)) at (h.editions j k);
        inside = λ j k. rw (same_record j (omega arith)) at (h.inside j k);
        apart = λ a b m n. rw (same_record a (omega arith), same_record b (omega arith)) at (h.apart a b m n);
      }

  pub write_answers : (number place : ℕ) → WriteRefused text table count room number place → written text table count room ≡ refused number place
  unfolding written after_run
  write_answers _ _ (count_over l) = rw (lt-ltb (length table) count l)
  write_answers _ _ (text_broken l t) = rw (le-ltb (length table) count l, text_not text t)
  write_answers _ _ (table_edition i l few sound b f) =
      let long : length rs ≡ count = length-take-le count table few in
      rw (
        le-ltb (length table) count few,
        sound,
        records_stop rs i (before_rs i (omega arith) b) 21 (size its * i) (omega arith) (turn_edition rs i (λ q. f (q ∙ sym (same_edition i l)))),
      )
  write_answers _ _ (table_byte i k l few sound b like f) =
      let long : length rs ≡ count = length-take-le count table few in
      rw (
        le-ltb (length table) count few,
        sound,
        records_stop rs i (before_rs i (omega arith) b) 9 (size its * i + k) (omega arith) (turn_byte rs i (like ∙ same_edition i l) k (rw (same_record i l) at f)),
      )
  write_answers _ _ (table_again j i m l few sound b like f e) =
      let long : length rs ≡ count = length-take-le count table few in
      rw (
        le-ltb (length table) count few,
        sound,
        records_stop rs i (before_rs i (omega arith) b) 10 (size its * i) (omega arith)
            (turn_again rs i (like ∙ same_edition i l) (rw (same_record i l) at f) j m (rw (same_record i l, same_record j (omega arith)) at e)),
      )
  write_answers _ _ (positions_wrong few sound b f) =
      rw (
        le-ltb (length table) count few,
        sound,
        records_end rs count (before_rs count (omega arith) b) (length-take-le count table few),
        wrong_told rs f,
      )
  write_answers _ _ (buffer_short few sound b right l) =
      rw (
        le-ltb (length table) count few,
        sound,
        records_end rs count (before_rs count (omega arith) b) (length-take-le count table few),
        told_right rs right,
        lt-ltb room (length (group_bytes (group_from text table count))) l,
      )

-- ---- the salvage list

pub salvage_answers : (s : List ℕ) (room number place : ℕ) → SalvageRefused s room number place → salvaged s room ≡ refused number place
unfolding salvaged
salvage_answers s room _ _ (list_over l) = rw (lt-ltb 32768 (length s) l)
salvage_answers s room _ _ (list_short l h) =
    rw (le-ltb 32768 (length s) l, lt-ltb room (length (list_numbers (salvage s))) (rw (numbers_length (salvage s)) h))
