-- A refused writing: the records before are of one edition, in range and of source channels of their own, so each way out of a turn has the condition of its row.
use Prim.Native.Nat.{ℕ, ◌+◌, ◌*◌, ◌≤◌, ◌<◌}
use mathlib.Core.Path.{◌≡◌, refl, sym, ap, ◌∙◌}
use mathlib.Core.Bool.{Bool, true, false, cond, not}
use mathlib.Core.List.{List}
use native.Mathlib.Omega.{arith}
use native.Mathlib.Decide.{dec_lt}
use lib.Dec.{ltb, eqb}
use lib.ListN.{length, get_or, take}
use lib.Seq.{length-take-le, get_or-take}
use borrow.Author.Tests.{ltb-true, ltb-false, eqb-true, eqb-false, not-true, not-false}
use Rattle.layout.specs.declared.edition.Edition.{Edition}
use Rattle.layout.specs.Scan.{Turn}
use Rattle.layout.specs.Scan.{Refused, More, Done}
use Rattle.layout.specs.Scan.{Ended}
use Rattle.layout.specs.declared.record.Record.{Record}
use Rattle.layout.specs.Editions.{size, held, alike}
use Rattle.layout.specs.Records.{blank, channel_of, edition_of, first_bad}
use Rattle.layout.specs.Sdec.{sound_text}
use Rattle.layout.specs.Write.{first_edition, group_bytes, record_on, record_turn, records_run, wrong_positions, group_from, written}
use Rattle.layout.proofs.Scans.{first_passed, first_stands}
use Rattle.layout.proofs.Runs.{run_ended}
use Rattle.layout.proofs.Choices.{either}
use Rattle.layout.proofs.Editions.{alike_is, unlike_is}
use Rattle.law_refusals.specs.Records.{FirstBadByte, InRange, RecordsBefore, WriteRefused, count_over, text_broken, table_edition, table_byte, table_again, positions_wrong, buffer_short}
use Rattle.law_refusals.proofs.Told.{TurnTold, RunTold, AnswerTold, run_told, after_told}
use Rattle.law_refusals.proofs.Texts.{text_told}
use Rattle.law_refusals.proofs.Records.{bad_byte_lem, in_range}
use Rattle.law_refusals.proofs.Positions.{right_told, told_wrong}

-- ---- the records before

module _ (rs : List Record) where
  -- the first of i records that has a source channel
  pub record_seen : (i channel : ℕ) → record_on rs i channel < i → channel_of (get_or rs (record_on rs i channel) blank) ≡ channel
  unfolding record_on
  record_seen i channel h = eqb-true _ _ (first_stands (λ j. eqb (channel_of (get_or rs j blank)) channel) i h)

  pub record_unseen : (i channel : ℕ) → i ≤ record_on rs i channel → (j : ℕ) → j < i → channel_of (get_or rs j blank) ≡ channel → ⊥
  unfolding record_on
  record_unseen i channel h j l = eqb-false _ _ (first_passed (λ j. eqb (channel_of (get_or rs j blank)) channel) i j (omega arith))

  start : RecordsBefore rs 0
  start = record { editions = λ i h. absurd (omega arith); inside = λ i h. absurd (omega arith); apart = λ i j h k. absurd (omega arith) }

  module _ (i : ℕ) where
    -- the record that is judged, and the edition that it is to have
    abbrev r : Record
    r = get_or rs i blank

    abbrev e : Edition
    e = first_edition rs

    -- a turn, over its three tests
    abbrev turn_of : Bool → Bool → Bool → Turn
    turn_of c a b = cond (not c) (Refused 21 (size e * i)) (cond a (Refused 9 (size e * i + first_bad r)) (cond b (Refused 10 (size e * i)) More))

    turn_more : record_turn rs i ≡ More → (e ≡ edition_of r) × ((held e ≤ first_bad r) × (i ≤ record_on rs i (channel_of r)))
    unfolding record_turn
    turn_more m = go (alike e (edition_of r)) (ltb (first_bad r) (held e)) (ltb (record_on rs i (channel_of r)) i) refl refl refl m
      where
        go : (c a b : Bool) → alike e (edition_of r) ≡ c → ltb (first_bad r) (held e) ≡ a → ltb (record_on rs i (channel_of r)) i ≡ b → turn_of c a b ≡ More
            → (e ≡ edition_of r) × ((held e ≤ first_bad r) × (i ≤ record_on rs i (channel_of r)))
        go false a b d f g q = absurd (let z : ◌≡◌ {A = ℕ} 0 1 = cc in omega arith)
        go true true b d f g q = absurd (let z : ◌≡◌ {A = ℕ} 0 1 = cc in omega arith)
        go true false true d f g q = absurd (let z : ◌≡◌ {A = ℕ} 0 1 = cc in omega arith)
        go true false false d f g q = (alike_is _ _ d, (ltb-false _ _ f, ltb-false _ _ g))

    not_done : record_turn rs i ≡ Done → ⊥
    unfolding record_turn
    not_done m = go (alike e (edition_of r)) (ltb (first_bad r) (held e)) (ltb (record_on rs i (channel_of r)) i) m
      where
        go : (c a b : Bool) → turn_of c a b ≡ Done → ⊥
        go false a b q = let z : ◌≡◌ {A = ℕ} 0 1 = cc in omega arith
        go true true b q = let z : ◌≡◌ {A = ℕ} 0 1 = cc in omega arith
        go true false true q = let z : ◌≡◌ {A = ℕ} 0 1 = cc in omega arith
        go true false false q = let z : ◌≡◌ {A = ℕ} 0 1 = cc in omega arith

  -- as the first record's edition counts it
  in_range_as : (i : ℕ) → first_edition rs ≡ edition_of (get_or rs i blank) → held (first_edition rs) ≤ first_bad (get_or rs i blank) → InRange (get_or rs i blank)
  in_range_as i like h = in_range (get_or rs i blank) (rw like at h)

  bad_byte_as : (i : ℕ) → first_edition rs ≡ edition_of (get_or rs i blank) → first_bad (get_or rs i blank) < held (first_edition rs) → FirstBadByte (get_or rs i blank) (first_bad (get_or rs i blank))
  bad_byte_as i like h = bad_byte_lem (get_or rs i blank) (rw like at h)

  next : (i : ℕ) → RecordsBefore rs i → record_turn rs i ≡ More → RecordsBefore rs (i + 1)
  unfolding first_edition
  next i known m =
      let more = turn_more i m in
      record {
        editions = λ j l. editions j (dec_lt j i) more.0 l;
        inside = λ j l. inside j (dec_lt j i) (in_range_as i more.0 more.1.0) l;
        apart = λ a b h l. apart a b h (dec_lt b i) more.1.1 l;
      }
    where
      editions : (j : ℕ) → Dec (j < i) → first_edition rs ≡ edition_of (get_or rs i blank) → j < i + 1 → edition_of (get_or rs 0 blank) ≡ edition_of (get_or rs j blank)
      editions j (yes d) h l = known.editions j d
      editions j (no d) h l = let q : j ≡ i = omega arith in rw q h

      inside : (j : ℕ) → Dec (j < i) → InRange (get_or rs i blank) → j < i + 1 → InRange (get_or rs j blank)
      inside j (yes d) h l = known.inside j d
      inside j (no d) h l = let q : j ≡ i = omega arith in rw q h

      apart : (a b : ℕ) → a < b → Dec (b < i) → i ≤ record_on rs i (channel_of (get_or rs i blank)) → b < i + 1
          → channel_of (get_or rs a blank) ≡ channel_of (get_or rs b blank) → ⊥
      apart a b h (yes d) f l = known.apart a b h d
      apart a b h (no d) f l = let q : b ≡ i = omega arith in rw q (record_unseen i (channel_of (get_or rs i blank)) f a (omega arith))

-- ---- the lent table

module _ (text : List ℕ) (table : List Record) (count room : ℕ) (few : count ≤ length table) (sound : sound_text text ≡ true) where
  -- the records that are written are those of the table
  abbrev rs : List Record
  rs = take count table

  same_record : (i : ℕ) → i < count → get_or rs i blank ≡ get_or table i blank
  same_record i l = get_or-take count table i blank l

  before : (i : ℕ) → i ≤ count → RecordsBefore rs i → RecordsBefore table i
  before i l h =
      record {
        editions = λ j k. rw (same_record 0 (omega arith), same_record j (omega arith)) at (h.editions j k);
        inside = λ j k. rw (same_record j (omega arith)) at (h.inside j k);
        apart = λ a b m n. rw (same_record a (omega arith), same_record b (omega arith)) at (h.apart a b m n);
      }

  bad_there : (r t : Record) (k : ℕ) → r ≡ t → FirstBadByte r k → FirstBadByte t k
  bad_there r t k e h = rw (← e) h

  channel_there : (a b c d : Record) → a ≡ c → b ≡ d → channel_of a ≡ channel_of b → channel_of c ≡ channel_of d
  channel_there a b c d e f h = rw (← e, ← f) h

  edition_there : (r t : Record) → r ≡ t → edition_of r ≡ edition_of t
  edition_there r t e = ap edition_of e

  turn_told : (i : ℕ) → i < count → RecordsBefore rs i → TurnTold (WriteRefused text table count room) (record_turn rs i)
  unfolding record_turn
  turn_told i l before-it =
      let r : Record = get_or rs i blank in
      let e : Edition = first_edition rs in
      let k : ℕ = first_bad r in
      let j : ℕ = record_on rs i (channel_of r) in
      let known = before i (omega arith) before-it in
      let same = edition_there r (get_or table i blank) (same_record i l) in
      let T = TurnTold (WriteRefused text table count room) in
      either T (not (alike e (edition_of r))) _ _
      (λ u.
      let other : e ≡ edition_of (get_or table i blank) → ⊥ = λ q. unlike_is e (edition_of r) (not-true _ u) (q ∙ sym same) in
      table_edition i l few sound known other) (λ u.
      let like : e ≡ edition_of r = alike_is _ _ (not-false _ u) in
      either T (ltb k (held e)) _ _
      (λ f. table_byte i k l few sound known (like ∙ same) (bad_there r (get_or table i blank) k (same_record i l) (bad_byte_as rs i like (ltb-true _ _ f)))) (λ f.
      either T (ltb j i) _ _
      (λ g.
      let m = ltb-true j i g in
      let inside : InRange r = in_range_as rs i like (ltb-false _ _ f) in
      table_again j i m l few sound known (like ∙ same) (rw (same_record i l) at inside)
      (channel_there (get_or rs j blank) r (get_or table j blank) (get_or table i blank) (same_record j (omega arith)) (same_record i l) (record_seen rs i (channel_of r) m)))
      (λ g. tt)))

  long : length rs ≡ count
  long = length-take-le count table few

  records_told : RunTold (WriteRefused text table count room) (records_run rs)
  unfolding records_run
  records_told =
      run_told (WriteRefused text table count room) (record_turn rs) (RecordsBefore rs) (next rs) (length rs)
      (λ i l h. turn_told i (rw long at l) h) (start rs)

  all_before : (n : ℕ) → records_run rs ≡ Ended n → RecordsBefore table count
  unfolding records_run
  all_before n e =
      let r = run_ended (record_turn rs) (RecordsBefore rs) (next rs) (length rs) n (start rs) e in
      let l : count ≤ n = whole (dec_lt n count) r.1 in
      before count (omega arith) (record { editions = λ i h. r.0.editions i (omega arith); inside = λ i h. r.0.inside i (omega arith); apart = λ i j h k. r.0.apart i j h (omega arith) })
    where
      whole : Dec (n < count) → (n < length rs → record_turn rs n ≡ Done) → count ≤ n
      whole (yes a) f = absurd (not_done rs n (f (rw long a)))
      whole (no a) f = omega arith

pub write_told : (text : List ℕ) (table : List Record) (count room : ℕ) → AnswerTold (WriteRefused text table count room) (written text table count room)
unfolding written
write_told text table count room =
    let P = WriteRefused text table count room in
    either (AnswerTold P) (ltb (length table) count) _ _ (λ e. count_over (ltb-true _ _ e)) (λ e.
    let few = ltb-false (length table) count e in
    either (AnswerTold P) (not (sound_text text)) _ _ (λ f. text_broken few (text_told text (not-true _ f))) (λ f.
    after_told P (records_run (take count table)) _ (records_told text table count room few (not-false _ f)) (λ n g.
    let all = all_before text table count room few (not-false _ f) n g in
    either (AnswerTold P) (wrong_positions (take count table)) _ _
    (λ h. positions_wrong few (not-false _ f) all (told_wrong (take count table) h)) (λ h.
    either (AnswerTold P) (ltb room (length (group_bytes (group_from text table count)))) _ _
    (λ k. buffer_short few (not-false _ f) all (right_told (take count table) h) (ltb-true _ _ k))
    (λ k. tt)))))
