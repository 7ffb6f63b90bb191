-- The two round trips of a group: what is sound is given back byte for byte and is allowed; what is allowed and written is read, whatever stands behind it.
use Prim.Native.Nat.{ℕ, ◌+◌, ◌*◌, ◌-◌, ◌≤◌, ◌<◌}
use mathlib.Core.Path.{◌≡◌, refl, sym, ap, ap₂, ◌∙◌}
use mathlib.Core.List.{List, ◌++◌, flat_map}
use native.Mathlib.Omega.{arith}
use native.Mathlib.Decide.{dec_lt}
use lib.ListN.{length, take, drop}
use lib.Seq.{drop-drop, take_at, drop_at}
use Rattle.layout.specs.declared.edition.Edition.{Edition}
use Rattle.layout.specs.Bytes.{word, CSEG, Sdec, chunk}
use Rattle.layout.specs.declared.edition.Edition.TheVariants.{First, Second}
use Rattle.layout.specs.Group.{Sound}
use Rattle.layout.specs.Group.{ctab_place, contents, payload, group_size, group_at, Group, group_of}
use Rattle.layout.specs.Write.{ctab_bytes, cntts_in, cntts_bytes, payload_bytes, group_bytes, first_edition, Allowed}
use Rattle.layout.proofs.Texts.{text_most}
use Rattle.layout.proofs.Heads.{head_sound}
use Rattle.layout.proofs.Groups.{sdec_tag, cseg_tag, contents_ended, group_sound}
use Rattle.layout.proofs.GroupPlaces.{payload_length}
use Rattle.layout.proofs.Positions.{positions_right, cntts_most}
use Rattle.layout.proofs.GroupSound.{Contents, contents_sound_is, empty_first, group_sound_is}
use Rattle.layout.proofs.Lists.{rows_length}
use Rattle.law_rounds.specs.Rounds.{Bytes, GroupRead}
use Rattle.law_rounds.proofs.Chunks.{bytes_part, chunk_read, length_chunk, written_length, written_rest, written_fits, written_head}
use Rattle.law_rounds.proofs.ContentsRead.{contents_edition, contents_back, contents_counted, contents_allowed}
use Rattle.law_rounds.proofs.RecordsPlaced.{OneEdition, Placed, records_placed, no_cntt_written}
use Rattle.law_rounds.proofs.EditionThere.{no_record, edition_there}
use Rattle.law_rounds.proofs.RecordsWritten.{ctabs_run, records_back, at_most}
use Rattle.law_rounds.proofs.CnttsWritten.{behind_read}

-- ---- read

module _ (p : List ℕ) (ed : Edition) (t n m : ℕ) (e : group_at p ≡ Sound ed t n m) where
  inside : Contents (payload p) ed t n m
  inside = contents_sound_is (payload p) ed t n m (group_sound_is p ed t n m e).inside

  pub group_allowed : Allowed (group_of ed (payload p) t n m)
  group_allowed = contents_allowed (payload p) ed t n m inside

  -- its records are of its edition, and where it has none it is of the first
  pub group_edition : first_edition (group_of ed (payload p) t n m).records ≡ ed
  unfolding group_of first_edition
  group_edition = go (dec_lt 0 n)
    where
      go : Dec (0 < n) → first_edition (group_of ed (payload p) t n m).records ≡ ed
      go (yes d) = contents_edition (payload p) ed t n m 0 d
      go (no d) =
          let z : n ≡ 0 = omega arith in
          (no_record (group_of ed (payload p) t n m).records (rows_length _ 0 n ∙ z)).0 ∙ sym (empty_first (payload p) ed t m (rw z at inside))

  -- its records have as many Cntts as it has
  pub group_counted : cntts_in (group_of ed (payload p) t n m).records ≡ m
  group_counted = contents_counted (payload p) ed t n m inside

  pub group_back : Bytes p → group_bytes (group_of ed (payload p) t n m) ≡ take (group_size p) p
  unfolding group_bytes payload group_size
  group_back b =
      let g = group_sound_is p ed t n m e in
      let h = head_sound p 0 CSEG g.head in
      let long = payload_length p (omega (arith, h.1)) in
      ap (chunk CSEG) (contents_back (payload p) ed t n m inside (bytes_part p (word p 4) 8 b))
      ∙ sym (ap (take (8 + word p 4)) (chunk_read p 0 CSEG (word p 4) b h.0 refl h.1)
      ∙ take_at (chunk CSEG (payload p)) _ (8 + word p 4) (length_chunk CSEG (payload p) refl ∙ ap (λ x. 8 + x) long))

-- ---- written

-- what stands behind the Sdec
unfoldable pub rest : Group → List ℕ
rest g = flat_map ctab_bytes g.records ++ cntts_bytes g.records

-- 16 records and as many Cntts at the most, and of the second edition no Cntt
most : (e : Edition) (t n m : ℕ) → t ≤ 255 → n ≤ 16 → m ≤ n → (e ≡ Second → m ≡ 0) → ctab_place e (8 + t) n + 10 * m ≤ 1143
most First t n m a b d none = omega arith
most Second t n m a b d none = omega (arith, none refl)

module _ (g : Group) (a : Allowed g) where
  pub spread : payload_bytes g ≡ chunk Sdec g.text ++ rest g
  unfolding payload_bytes rest
  spread = refl

  -- the edition of its records
  abbrev pub own : Edition
  own = first_edition g.records

  pub one : OneEdition own g.records
  one = record { first = refl; each = λ i l. sym (a.editions i l) }

  pub short : length g.text ≤ 255
  short = text_most g.text a.text

  sdec_rest : drop 8 (payload_bytes g) ≡ g.text ++ rest g
  sdec_rest = written_rest (payload_bytes g) 0 Sdec g.text (rest g) refl spread

  text_back : take (length g.text) (drop 8 (payload_bytes g)) ≡ g.text
  text_back = ap (take (length g.text)) sdec_rest ∙ take_at g.text (rest g) (length g.text) refl

  ctabs_there : drop (8 + length g.text) (payload_bytes g) ≡ flat_map ctab_bytes g.records ++ cntts_bytes g.records
  unfolding rest
  ctabs_there =
      sym (drop-drop (length g.text) 8 (payload_bytes g)) ∙ ap (drop (length g.text)) sdec_rest ∙ drop_at g.text (rest g) (length g.text) refl

  sdec_fits : 8 + length g.text ≤ length (payload_bytes g)
  sdec_fits = omega (arith, written_fits (payload_bytes g) 0 Sdec g.text (rest g) refl spread)

  pub placed : Placed own g.records (payload_bytes g) (8 + length g.text)
  placed = records_placed own g.records one (positions_right g.records a.positions) (payload_bytes g) (8 + length g.text) ctabs_there sdec_fits

  pub payload_short : (8 ≤ length (payload_bytes g)) × (length (payload_bytes g) ≤ 1143)
  payload_short =
      let w = placed.cover in
      let n = at_most g.records a.ranges a.apart in
      let m = cntts_most g.records in
      (omega arith, omega (arith, most own (length g.text) (length g.records) (cntts_in g.records) short n m (no_cntt_written own g.records (payload_bytes g) (8 + length g.text) placed)))

  pub contents_written : contents (payload_bytes g) ≡ Sound own (length g.text) (length g.records) (cntts_in g.records)
  contents_written =
      let l : ℕ = length g.text in
      let c : List ℕ = payload_bytes g in
      let z : 8 + length g.text - 8 ≡ length g.text = omega arith in
      contents_ended c 0 (sym (rw sdec_tag (written_head c 0 Sdec g.text (rest g) refl spread (omega (arith, short))))) refl l
      (sym (written_length c 0 Sdec g.text (rest g) refl spread (omega (arith, short))))
      (rw (z, text_back) a.text) own (sym (edition_there own g.records c (8 + l) placed))
      (length g.records) (ctabs_run own g.records a.whole a.ranges a.apart c (8 + l) placed)
      ∙ behind_read g.records a.ranges a.apart c own l placed

  pub value_back : group_of own (payload_bytes g) (length g.text) (length g.records) (cntts_in g.records) ≡ g
  unfolding group_of
  value_back =
      λ i. record { text = text_back i; records = records_back own g.records a.whole a.ranges a.apart (payload_bytes g) (8 + length g.text) placed i }

  module _ (x : List ℕ) where
    chunked : group_bytes g ++ x ≡ chunk CSEG (payload_bytes g) ++ x
    unfolding group_bytes
    chunked = refl

    length_there : word (group_bytes g ++ x) 4 ≡ length (payload_bytes g)
    length_there = written_length (group_bytes g ++ x) 0 CSEG (payload_bytes g) x refl chunked (omega (arith, payload_short.1))

    payload_there : payload (group_bytes g ++ x) ≡ payload_bytes g
    unfolding payload
    payload_there = ap₂ take length_there (written_rest (group_bytes g ++ x) 0 CSEG (payload_bytes g) x refl chunked) ∙ take_at (payload_bytes g) x (length (payload_bytes g)) refl

    pub group_read : GroupRead g x
    unfolding group_size group_bytes payload
    group_read =
        let l : ℕ = length (payload_bytes g) in
        let z : 8 + length (payload_bytes g) - 8 ≡ length (payload_bytes g) = omega arith in
        let rest-there = written_rest (group_bytes g ++ x) 0 CSEG (payload_bytes g) x refl chunked in
        record {
          cntts = cntts_in g.records;
          sound = group_sound (group_bytes g ++ x) 0 (sym (rw cseg_tag (written_head (group_bytes g ++ x) 0 CSEG (payload_bytes g) x refl chunked (omega (arith, payload_short.1))))) refl l
              (sym length_there) (omega (arith, payload_short.0)) _ _ _ _
              (rw (z, rest-there, take_at (payload_bytes g) x (length (payload_bytes g)) refl) contents_written);
          size = ap (λ y. 8 + y) length_there ∙ sym (length_chunk CSEG (payload_bytes g) refl);
          back = rw payload_there value_back;
        }
