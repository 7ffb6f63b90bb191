-- An allowed group whose bytes stand at a place of a body: its size, its header, its text and its value are read there.
use Prim.Native.Nat.{ℕ, ◌+◌, ◌≤◌, ◌<◌}
use mathlib.Core.Path.{◌≡◌, refl, sym, ap, ap₂, ◌∙◌}
use mathlib.Core.List.{List, ◌++◌, append_assoc, flat_map}
use native.Mathlib.Omega.{arith}
use lib.ListN.{length, get_or, take, drop}
use lib.Seq.{drop-drop, take_at, drop_at}
use Rattle.layout.specs.Editions.{held}
use Rattle.layout.specs.Bytes.{word, CSEG, Sdec, chunk}
use Rattle.layout.specs.Group.{Sound}
use Rattle.layout.specs.Records.{head_bytes, bytes_of, blank, channel_of, file_bytes}
use Rattle.layout.specs.Group.{head_fault, ctab_place, payload, group_size, group_at, Group, group_of}
use Rattle.layout.specs.Body.{text_at, records_of, edition_in, group_value}
use Rattle.layout.specs.Write.{ctab_bytes, cntts_bytes, payload_bytes, group_bytes, first_edition, Allowed}
use Rattle.layout.proofs.Records.{bytes_length}
use Rattle.law_rounds.proofs.Blocks.{moved, blocks_written}
use Rattle.law_rounds.proofs.Chunks.{length_chunk, written_length, written_rest, written_fits, written_head}
use Rattle.law_rounds.proofs.CtabRounds.{channel_at}
use Rattle.law_rounds.proofs.RecordsPlaced.{length_each}
use Rattle.law_rounds.proofs.GroupRounds.{rest, spread, one, short, payload_short, group_read}

module _ (s : List ℕ) (at : ℕ) (g : Group) (y : List ℕ) (e : drop at s ≡ group_bytes g ++ y) (a : Allowed g) where
  chunked : drop at s ≡ chunk CSEG (payload_bytes g) ++ y
  unfolding group_bytes
  chunked = e

  pub there_cntts : ℕ
  there_cntts = (group_read g a y).cntts

  pub there_sound : group_at (drop at s) ≡ Sound (first_edition g.records) (length g.text) (length g.records) there_cntts
  unfolding there_cntts
  there_sound = ap group_at e ∙ (group_read g a y).sound

  -- its edition, and how many records it has
  pub there_edition : edition_in (group_at (drop at s)) ≡ first_edition g.records
  unfolding edition_in
  there_edition = ap edition_in there_sound

  pub there_count : records_of (group_at (drop at s)) ≡ length g.records
  unfolding records_of
  there_count = ap records_of there_sound

  pub there_size : group_size (drop at s) ≡ length (group_bytes g)
  there_size = ap group_size e ∙ (group_read g a y).size

  pub there_value : group_value (drop at s) (group_at (drop at s)) ≡ g
  unfolding group_value there_cntts
  there_value =
      ap (group_value (drop at s)) there_sound ∙ ap (λ x. group_of (first_edition g.records) (payload x) (length g.text) (length g.records) there_cntts) e ∙ (group_read g a y).back

  pub there_fits : at + 16 ≤ length s
  there_fits = omega (arith, written_fits s at CSEG (payload_bytes g) y refl chunked, (payload_short g a).0)

  pub there_ends : at + length (group_bytes g) ≤ length s
  unfolding group_bytes
  there_ends = omega (arith, written_fits s at CSEG (payload_bytes g) y refl chunked, length_chunk CSEG (payload_bytes g) refl)

  pub there_head : head_fault s at CSEG ≡ 0
  there_head = written_head s at CSEG (payload_bytes g) y refl chunked (omega (arith, (payload_short g a).1))

  sdec_there : drop (at + 8) s ≡ chunk Sdec g.text ++ (rest g ++ y)
  sdec_there =
      written_rest s at CSEG (payload_bytes g) y refl chunked ∙ ap (λ x. x ++ y) (spread g a) ∙ append_assoc (chunk Sdec g.text) (rest g) y

  text_there : drop (at + 16) s ≡ g.text ++ (rest g ++ y)
  text_there = moved s (at + 16) (at + 8 + 8) (omega arith) ∙ written_rest s (at + 8) Sdec g.text (rest g ++ y) refl sdec_there

  pub there_text : text_at s at ≡ g.text
  unfolding text_at
  there_text =
      let l : word s (at + 8 + 4) ≡ length g.text = written_length s (at + 8) Sdec g.text (rest g ++ y) refl sdec_there (omega (arith, short g a)) in
      let z : at + 12 ≡ at + 8 + 4 = omega arith in
      ap₂ take (ap (word s) z ∙ l) text_there ∙ take_at g.text (rest g ++ y) (length g.text) refl

  -- the source channel of record number i, where its Ctab stands
  pub there_channel : (i : ℕ) → i < length g.records
      → get_or s (ctab_place (first_edition g.records) (at + 16 + length g.text) i + 8) 0 ≡ channel_of (get_or g.records i blank)
  unfolding rest ctab_bytes file_bytes channel_of bytes_of head_bytes
  there_channel i l =
      let e = first_edition g.records in
      let r = get_or g.records i blank in
      let own = one g a in
      channel_at e s (ctab_place e (at + 16 + length g.text) i) (bytes_of r) _ (bytes_length r ∙ ap held (own.each i l))
      (rw (own.each i l) at ((blocks_written s (λ i. ctab_place e (at + 16 + length g.text) i) blank ctab_bytes (cntts_bytes g.records ++ y) g.records
      (λ i x l r. omega (arith, length_each e g.records own i l))
      (moved s (ctab_place e (at + 16 + length g.text) 0) (at + 16 + length g.text) (omega arith) ∙ sym (drop-drop (length g.text) (at + 16) s)
      ∙ ap (drop (length g.text)) text_there ∙ drop_at g.text (rest g ++ y) (length g.text) refl
      ∙ append_assoc (flat_map ctab_bytes g.records) (cntts_bytes g.records) y)).0 i l))
