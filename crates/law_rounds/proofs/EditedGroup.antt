-- A group with one record replaced by a new one of the same source channel and edition, its Cntt and its position kept: it is allowed, and its bytes are the old ones but for that record's.
use Prim.Native.Nat.{ℕ, ◌+◌, ◌*◌, ◌≤◌, ◌<◌}
use mathlib.Core.Path.{◌≡◌, refl, sym, ap, ap₂, ◌∙◌}
use mathlib.Core.List.{List, ◌++◌, flat_map}
use native.Mathlib.Omega.{arith}
use lib.ListN.{length, get_or, take, set, length-append, length-set}
use lib.Seq.{length-take-le, get_or-take}
use Rattle.layout.specs.Bytes.{CSEG, Sdec, chunk}
use Rattle.layout.specs.declared.edition.Edition.{Edition}
use Rattle.layout.specs.declared.record.Record.{Record}
use Rattle.layout.specs.Editions.{tag_of, size, held, closing}
use Rattle.layout.specs.Records.{head_bytes, bytes_of, blank, channel_of, edition_of, second_in, position_in, bad_second, first_bad, file_bytes}
use Rattle.layout.specs.Group.{Group}
use Rattle.layout.specs.Write.{ctab_bytes, cntt_bytes, cntts_in, cntts_bytes, payload_bytes, group_bytes, Whole, first_edition, Allowed}
use Rattle.layout.specs.Edit.{replaced}
use Rattle.layout.proofs.Ctabs.{place_before}
use Rattle.law_rounds.specs.Rounds.{with_second_of, with_record}
use Rattle.law_rounds.proofs.Blocks.{flat_alike, length_blocks}
use Rattle.law_rounds.proofs.Sets.{set_each, set_same}
use Rattle.law_rounds.proofs.Chunks.{length_chunk}
use Rattle.law_rounds.proofs.CnttNumbers.{own_cntt, CnttNumbers, home_of, positions_number, numbers_kept, numbers_right, numbers_bytes}
use Rattle.layout.proofs.Records.{Ranged, second_good}
use Rattle.layout.proofs.Positions.{positions_right, right_positions}
use Rattle.law_rounds.proofs.InRange.{none_bad}
use Rattle.law_rounds.proofs.CtabRounds.{length_file, four_bytes}
use Rattle.law_rounds.proofs.RecordsPlaced.{length_each}
use Rattle.law_rounds.proofs.GroupRounds.{rest, spread, one}
use Rattle.law_rounds.proofs.KeptForms.{kept_bytes, kept_cntt}
use Rattle.layout.proofs.Replaced.{replaced_behind, replaced_before, replaced_whole, replaced_chunk, replaced_block}

-- where record number i stands among the Ctabs of a group: its byte 0
abbrev pub byte_of : Group → ℕ → ℕ
byte_of g i = (8 + size (first_edition g.records)) * i + 8

-- the group with record number i replaced, and its bytes in those of the group before
pub record Edited (g : Group) (i : ℕ) (new : Record) : Type 0 where
  pub edition : first_edition (with_record g i new).records ≡ first_edition g.records
  pub allowed : Allowed (with_record g i new)
  pub room : 8 + (8 + length g.text + byte_of g i) + length (file_bytes new) ≤ length (group_bytes g)
  pub bytes : replaced (group_bytes g) (8 + (8 + length g.text + byte_of g i)) (file_bytes new) ≡ group_bytes (with_record g i new)

module _ (g : Group) (a : Allowed g) (i : ℕ) (l : i < length g.records) (new : Record) (w : Whole new) (r : Ranged (edition_of new) (bytes_of new))
    (own : channel_of new ≡ channel_of (get_or g.records i blank)) (like : edition_of new ≡ edition_of (get_or g.records i blank)) where
  -- the record that was there
  abbrev old : Record
  old = get_or g.records i blank

  -- the record that is there after
  abbrev put : Record
  put = with_second_of (get_or g.records i blank) new

  put_bytes : bytes_of put ≡ bytes_of new
  unfolding bytes_of head_bytes
  put_bytes = ap (λ (x : List ℕ). head_bytes new ++ x) (kept_bytes old.form new.form).0

  put_edition : edition_of put ≡ edition_of new
  put_edition = (kept_bytes old.form new.form).1

  put_cntt : (second_in put ≡ second_in old) × (position_in put ≡ position_in old)
  put_cntt = kept_cntt old.form new.form like

  put_channel : channel_of put ≡ channel_of old
  unfolding channel_of
  put_channel = own

  -- ---- it is allowed

  put_good : first_bad put ≡ held (edition_of put)
  put_good = none_bad put (rw (put_edition, put_bytes) r) (ap bad_second put_cntt.0 ∙ second_good old (omega (arith, a.ranges i l)))

  -- the Cntts have the numbers that they had
  numbers : CnttNumbers g.records (cntts_in g.records) (home_of g.records)
  numbers = positions_number g.records (positions_right g.records a.positions)

  kept : CnttNumbers (set g.records i put) (cntts_in g.records) (home_of g.records)
  kept =
      numbers_kept g.records (set g.records i put) _ _ (length-set g.records i put) (set_same (λ (x : Record). second_in x) g.records i put blank put_cntt.0)
      (set_same (λ (x : Record). position_in x) g.records i put blank put_cntt.1) numbers

  -- every record is of the edition that it was of
  editions_kept : (j : ℕ) → j < length g.records → edition_of (get_or (set g.records i put) j blank) ≡ edition_of (get_or g.records j blank)
  editions_kept = set_same (λ (x : Record). edition_of x) g.records i put blank (put_edition ∙ like)

  first_kept : first_edition (set g.records i put) ≡ first_edition g.records
  unfolding first_edition
  first_kept = editions_kept 0 (omega arith)

  edited_allowed : Allowed (with_record g i new)
  edited_allowed =
      let same : (j : ℕ) → j < length g.records → channel_of (get_or (set g.records i put) j blank) ≡ channel_of (get_or g.records j blank) = set_same channel_of g.records i put blank put_channel in
      record {
        text = a.text;
        editions = λ j u. let z : j < length g.records = rw (length-set g.records i put) at u in first_kept ∙ a.editions j z ∙ sym (editions_kept j z);
        whole = set_each Whole g.records i put blank (record { voice = w.voice; roots = w.roots; chords = w.chords }) a.whole;
        ranges = set_each (λ x. first_bad x ≡ held (edition_of x)) g.records i put blank put_good a.ranges;
        apart = λ j k u v x. let z : k < length g.records = rw (length-set g.records i put) at v in
            a.apart j k u z (sym (same j (omega arith)) ∙ x ∙ same k z);
        positions = right_positions (set g.records i put) (numbers_right (set g.records i put) _ _ kept);
      }

  -- ---- its bytes

  -- the bytes of the new record
  abbrev file : List ℕ
  file = file_bytes new

  -- the edition of the group
  abbrev ed : Edition
  ed = first_edition g.records

  put_file : file_bytes put ≡ file_bytes new
  unfolding file_bytes
  put_file = ap₂ (λ (x : List ℕ) (y : Edition). x ++ closing y) put_bytes put_edition

  new_size : length (file_bytes new) ≡ size ed
  new_size = length_file new ∙ ap size (like ∙ sym (a.editions i l))

  old_size : length (file_bytes old) ≡ size ed
  old_size = length_file old ∙ ap size (sym (a.editions i l))

  ctab_replaced : replaced (ctab_bytes old) 8 file ≡ ctab_bytes put
  unfolding ctab_bytes
  ctab_replaced =
      replaced_chunk (tag_of (edition_of old)) (file_bytes old) 0 file (four_bytes (edition_of old)) (omega (arith, old_size, new_size))
      ∙ ap₂ (λ (x : Edition) (y : List ℕ). chunk (tag_of x) y) (sym (put_edition ∙ like)) (replaced_whole (file_bytes old) file (old_size ∙ sym new_size) ∙ sym put_file)

  length_ctabs : length (flat_map ctab_bytes g.records) ≡ (8 + size ed) * length g.records
  length_ctabs = length_blocks (8 + size ed) blank ctab_bytes g.records (length_each ed g.records (one g a))

  length_before : length (flat_map ctab_bytes (take i g.records)) ≡ (8 + size ed) * i
  length_before = length_blocks (8 + size ed) blank ctab_bytes (take i g.records) each ∙ ap (λ x. (8 + size ed) * x) (length-take-le i g.records (omega arith))
    where
      each : (j : ℕ) → j < length (take i g.records) → length (ctab_bytes (get_or (take i g.records) j blank)) ≡ 8 + size ed
      each j u =
          let k : j < i = rw (length-take-le i g.records (omega arith)) at u in
          ap (λ (x : Record). length (ctab_bytes x)) (get_or-take i g.records j blank k) ∙ length_each ed g.records (one g a) j (omega arith)

  ctabs_replaced : replaced (flat_map ctab_bytes g.records) (byte_of g i) file ≡ flat_map ctab_bytes (set g.records i put)
  ctabs_replaced =
      rw length_before at (replaced_block blank ctab_bytes g.records i 8 put file l (omega (arith, new_size, length_each ed g.records (one g a) i l)) ctab_replaced)

  -- the record ends within the Ctabs
  within : byte_of g i + length file ≤ length (flat_map ctab_bytes g.records)
  within = omega (arith, new_size, length_ctabs, place_before ed 0 i (length g.records) l)

  cntts_kept : cntts_bytes (set g.records i put) ≡ cntts_bytes g.records
  cntts_kept =
      numbers_bytes (set g.records i put) _ _ kept
      ∙ flat_alike own_cntt own_cntt _ _ (cntts_in g.records)
      (λ j u. set_same own_cntt g.records i put blank (ap₂ cntt_bytes put_channel put_cntt.0) (home_of g.records j) (numbers.within j u))
      ∙ sym (numbers_bytes g.records _ _ numbers)

  rest_replaced : replaced (rest g) (byte_of g i) file ≡ rest (with_record g i new)
  unfolding rest
  rest_replaced =
      replaced_before (flat_map ctab_bytes g.records) (cntts_bytes g.records) (byte_of g i) file within
      ∙ ap₂ (λ x y. x ++ y) ctabs_replaced (sym cntts_kept)

  payload_replaced : replaced (payload_bytes g) (8 + length g.text + (byte_of g i)) file ≡ payload_bytes (with_record g i new)
  payload_replaced =
      ap₂ (λ x y. replaced x (y + (byte_of g i)) file) (spread g a) (sym (length_chunk Sdec g.text refl))
      ∙ replaced_behind (chunk Sdec g.text) (rest g) (byte_of g i) file
      ∙ ap (λ x. chunk Sdec g.text ++ x) rest_replaced
      ∙ sym (spread (with_record g i new) edited_allowed)

  payload_room : 8 + length g.text + (byte_of g i) + length file ≤ length (payload_bytes g)
  unfolding rest
  payload_room =
      let x : length (payload_bytes g) ≡ length (chunk Sdec g.text) + length (flat_map ctab_bytes g.records ++ cntts_bytes g.records) =
      ap length (spread g a) ∙ length-append (chunk Sdec g.text) (rest g) in
      omega (arith, length_chunk Sdec g.text refl, length-append (flat_map ctab_bytes g.records) (cntts_bytes g.records), within)

  pub group_edited : Edited g i new
  unfolding group_bytes
  group_edited =
      record {
        edition = first_kept;
        allowed = edited_allowed;
        room = omega (arith, length_chunk CSEG (payload_bytes g) refl, payload_room);
        bytes = replaced_chunk CSEG (payload_bytes g) (8 + length g.text + (byte_of g i)) file refl payload_room ∙ ap (chunk CSEG) payload_replaced;
      }
