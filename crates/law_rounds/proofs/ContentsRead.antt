-- What stands in sound contents is given back by writing its records: Ctab by Ctab, then the Cntts, each at the position that its record was read with. Over the edition.
use Prim.Native.Nat.{ℕ, suc, ◌+◌, ◌*◌, ◌<◌}
use mathlib.Core.Path.{◌≡◌, refl, sym, ap, ap₂, ◌∙◌}
use mathlib.Core.Bool.{Bool, true, false, cond}
use mathlib.Core.List.{List, ◌++◌, append-nil, flat_map}
use native.Mathlib.Omega.{arith}
use lib.Dec.{ltb}
use lib.ListN.{length, get_or, take, drop}
use lib.Seq.{drop-length, take_all}
use borrow.Author.Tests.{ltb-true}
use Rattle.layout.specs.Lists.{rows}
use Rattle.layout.specs.Bytes.{word, Sdec, chunk}
use Rattle.layout.specs.declared.edition.Edition.{Edition}
use Rattle.layout.specs.Editions.{tag_of, size, held, closing}
use Rattle.layout.specs.declared.record.Record.{Record}
use Rattle.layout.specs.Records.{Absent, Value}
use Rattle.layout.specs.Records.{bytes_of, blank, channel_of, edition_of, second_in, position_in, bad_second, first_bad, file_bytes}
use Rattle.layout.specs.Group.{ctab_place, ctab_channel, ctab_of, ctab_turn, ctabs_of, cntt_place, cntt_channel, cntt_of, second_of, position_of, record_at, group_of}
use Rattle.layout.specs.Write.{ctab_bytes, cntt_bytes, cntt_count, cntts_in, cntts_bytes, payload_bytes, first_edition, Allowed}
use Rattle.layout.proofs.Heads.{head_sound}
use Rattle.layout.proofs.Ctabs.{CtabMore, turn_more}
use Rattle.layout.proofs.Cntts.{CnttMore}
use Rattle.layout.proofs.GroupSound.{Contents}
use Rattle.layout.proofs.Lists.{rows_length, get_d_rows}
use Rattle.layout.proofs.Positions.{right_positions}
use Rattle.layout.proofs.RecordBytes.{record_channel}
use Rattle.layout.proofs.BytesBack.{read_bytes}
use Rattle.law_rounds.specs.Rounds.{Bytes}
use Rattle.law_rounds.proofs.RecordBack.{read_whole, read_cntt}
use Rattle.layout.proofs.BytesBack.{edition_made}
use Rattle.law_rounds.proofs.Runs.{run_ran}
use Rattle.law_rounds.proofs.Blocks.{moved, blocks_read}
use Rattle.law_rounds.proofs.Chunks.{chunk_read}
use Rattle.layout.proofs.Pigeonhole.{Apart}
use Rattle.law_rounds.proofs.CnttNumbers.{own_cntt, CnttNumbers, rows_number, numbers_right, counted, numbers_bytes}
use Rattle.law_rounds.proofs.InRange.{none_bad, value_good, absent_good}
use Rattle.law_rounds.proofs.CtabRounds.{held_size, held_ranged, ctab_read}
use Rattle.law_rounds.proofs.CnttHomes.{Homes, home_read, none_read}
use Rattle.law_rounds.proofs.CnttRounds.{cntt_read}
use Rattle.law_rounds.proofs.CnttsBehind.{no_cntts_lem, none_behind_ctb2s, cntt_behind, homes_behind}

module _ (c : List ℕ) (e : Edition) (t n m : ℕ) where
  -- where the Ctabs begin
  abbrev p : ℕ
  p = 8 + t

  -- where the Cntts begin
  abbrev q : ℕ
  q = ctab_place e (8 + t) n

  -- where Ctab number i stands
  abbrev place : ℕ → ℕ
  place i = ctab_place e (8 + t) i

  -- record number i
  abbrev row : ℕ → Record
  row i = record_at e c (8 + t) (ctab_place e (8 + t) n) m i

  -- what is held of it
  abbrev own : ℕ → List ℕ
  own i = take (held e) (drop (ctab_place e (8 + t) i + 8) c)

  -- the number of the Ctab that Cntt number j belongs to
  abbrev home : ℕ → ℕ
  home j = ctab_of e c (8 + t) n (cntt_channel c (ctab_place e (8 + t) n) j)

  channels : (i : ℕ) → channel_of (row i) ≡ ctab_channel e c p i
  unfolding channel_of
  channels i = record_channel e c p q m i

  row_edition : (i : ℕ) → edition_of (row i) ≡ e
  unfolding record_at
  row_edition i = edition_made (own i) _ _ e

  -- each record is of the edition
  pub contents_edition : (i : ℕ) → i < n → edition_of (get_or (group_of e c t n m).records i blank) ≡ e
  unfolding group_of
  contents_edition i l = ap (λ (r : Record). edition_of r) (get_d_rows row blank n i l) ∙ row_edition i

  module _ (h : Contents c e t n m) where
    ctab : (i : ℕ) → i < n → CtabMore e c p i (place i)
    unfolding ctabs_of
    ctab i l = turn_more e c p i ((run_ran (ctab_turn e c p) (length c + 1) n h.ctabs).goes i l)

    cntt : (j : ℕ) → j < m → CnttMore c p n q j (q + 10 * j)
    cntt j l = cntt_behind c t n m e h.behind j l

    -- ---- the Cntts

    homes : Homes e c p n q m home
    homes = homes_behind c t n m e h.ctabs h.behind

    row_cntt : (i : ℕ) → (second_in (row i) ≡ second_of c q m (ctab_channel e c p i)) × (position_in (row i) ≡ position_of c q m (ctab_channel e c p i))
    unfolding record_at
    row_cntt i = read_cntt (own i) _ _ e (λ is. no_cntts_lem c q m (ctab_channel e c p i) (none_behind_ctb2s c t n m e h.behind is))

    home_second : (j : ℕ) → j < m → second_in (row (home j)) ≡ Value (get_or c (q + 10 * j + 9) 0)
    home_second j l = (row_cntt (home j)).0 ∙ (home_read e c p n q m home homes j l).0

    numbers : CnttNumbers (rows row 0 n) m home
    unfolding cntt_count
    numbers =
        rows_number row n m home homes.within (λ j l. (rw (home_second j l), (row_cntt (home j)).1 ∙ (home_read e c p n q m home homes j l).1))
        (λ i l d. let x = none_read e c p n q m home homes i l d in (rw ((row_cntt i).0 ∙ x.0), (row_cntt i).1 ∙ x.1))

    pub contents_counted : cntts_in (group_of e c t n m).records ≡ m
    unfolding group_of
    contents_counted = counted (rows row 0 n) m home numbers

    row_bytes_lem : (i : ℕ) → i < n → bytes_of (row i) ≡ own i
    unfolding record_at
    row_bytes_lem i l =
        let z = held_size e c p i (place i) (ctab i l) in
        read_bytes e (own i) (second_of c q m (ctab_channel e c p i)) (position_of c q m (ctab_channel e c p i)) (omega arith)
        ∙ take_all (held e) (own i) (omega arith)

    -- ---- the bytes

    ctab_back : Bytes c → (i : ℕ) → i < n → drop (place i) c ≡ ctab_bytes (row i) ++ drop (place (suc i)) c
    unfolding ctab_bytes file_bytes
    ctab_back b i l =
        rw (row_bytes_lem i l, row_edition i)
        (ctab_read e c p i (place i) (ctab i l) b ∙ ap (λ x. chunk (tag_of e) (own i ++ closing e) ++ x) (moved c (place i + 8 + size e) (place (suc i)) (omega arith)))

    ctabs_back : Bytes c → drop p c ≡ flat_map ctab_bytes (rows row 0 n) ++ drop q c
    ctabs_back b = moved c p (place 0) (omega arith) ∙ blocks_read c place row ctab_bytes n (ctab_back b)

    cntt_row : (j : ℕ) → j < m → Bytes c → drop (q + 10 * j) c ≡ own_cntt (get_or (rows row 0 n) (home j) blank) ++ drop (q + 10 * suc j) c
    unfolding cntt_channel
    cntt_row j l b =
        cntt_read c p n q j (q + 10 * j) (cntt j l) b
        ∙ ap₂ (λ x y. x ++ y) (sym (ap own_cntt (get_d_rows row blank n (home j) (homes.within j l)) ∙ ap₂ cntt_bytes (channels (home j) ∙ homes.named j l) (home_second j l)))
        (moved c (q + 10 * j + 10) (q + 10 * suc j) (omega arith))

    cntts_back : Bytes c → drop q c ≡ cntts_bytes (rows row 0 n)
    cntts_back b =
        moved c q (q + 10 * 0) (omega arith)
        ∙ blocks_read c (λ j. q + 10 * j) (λ j. get_or (rows row 0 n) (home j) blank) own_cntt m (λ j l. cntt_row j l b)
        ∙ ap (λ x. flat_map own_cntt (rows (λ j. get_or (rows row 0 n) (home j) blank) 0 m) ++ x) (moved c (q + 10 * m) (length c) h.cover ∙ drop-length c)
        ∙ append-nil _
        ∙ sym (numbers_bytes (rows row 0 n) m home numbers)

    pub contents_back : Bytes c → payload_bytes (group_of e c t n m) ≡ c
    unfolding payload_bytes group_of
    contents_back b =
        let s = head_sound c 0 Sdec h.tagged in
        let w : word c 4 ≡ t = sym h.text in
        sym (chunk_read c 0 Sdec t b s.0 w (omega (arith, s.1))
        ∙ ap (λ x. chunk Sdec (take t (drop 8 c)) ++ x) (ctabs_back b ∙ ap (λ x. flat_map ctab_bytes (rows row 0 n) ++ x) (cntts_back b)))

    -- ---- the rules

    second_ok : (channel : ℕ) → bad_second (second_of c q m channel) ≡ false
    unfolding second_of
    second_ok channel = go (ltb (cntt_of c q m channel) m) refl
      where
        go : (b : Bool) → ltb (cntt_of c q m channel) m ≡ b → bad_second (cond b (Value (get_or c (cntt_place q (cntt_of c q m channel) + 9) 0)) Absent) ≡ false
        go true x = value_good _ (cntt (cntt_of c q m channel) (ltb-true _ _ x)).value
        go false x = absent_good

    row_ok : (i : ℕ) → i < n → first_bad (row i) ≡ held (edition_of (row i))
    row_ok i l =
        none_bad (row i) (rw (row_edition i, row_bytes_lem i l) (held_ranged e c p i (place i) (ctab i l))) (ap bad_second (row_cntt i).0 ∙ second_ok (ctab_channel e c p i))

    pub contents_allowed : Allowed (group_of e c t n m)
    unfolding group_of record_at first_edition
    contents_allowed =
        let apart : Apart (ctab_channel e c p) n = homes.apart in
        let below : (i : ℕ) → i < length (rows row 0 n) → i < n = λ i u. rw rows_length at u in
        let at : (i : ℕ) → i < length (rows row 0 n) → get_or (rows row 0 n) i blank ≡ row i = λ i u. get_d_rows row blank n i (below i u) in
        record {
          text = h.letters;
          editions = λ i u. ap edition_of (at 0 (omega arith)) ∙ row_edition 0 ∙ sym (ap edition_of (at i u) ∙ row_edition i);
          whole = λ i u. rw (at i u) (read_whole _ _ _ _);
          ranges = λ i u. rw (at i u) (row_ok i (below i u));
          apart = λ i j u v x. apart i j u (below j v)
              (sym (channels i) ∙ ap channel_of (sym (at i (omega arith))) ∙ x ∙ ap channel_of (at j v) ∙ channels j);
          positions = right_positions (rows row 0 n) (numbers_right (rows row 0 n) m home numbers);
        }
