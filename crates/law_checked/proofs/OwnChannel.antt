-- The record that stands at a place of a body is the group's record of that number, and byte 0 there is its source channel.
use Prim.Native.Nat.{ℕ, ◌+◌, ◌<◌}
use mathlib.Core.Path.{◌≡◌, ap, ◌∙◌}
use mathlib.Core.List.{List}
use native.Mathlib.Omega.{arith}
use lib.ListN.{get_or, drop}
use lib.Seq.{get_or-take, get_or-drop}
use Rattle.layout.specs.Bytes.{word}
use Rattle.layout.specs.declared.record.Record.{Record}
use Rattle.layout.specs.Records.{blank, channel_of}
use Rattle.layout.specs.Group.{ctab_place, ctab_channel, payload, record_at, Group, group_of}
use Rattle.layout.specs.Body.{group_place, group_value, group_no}
use Rattle.layout.proofs.Editions.{size_least}
use Rattle.layout.proofs.Lists.{get_d_rows}
use Rattle.layout.proofs.Numbers.{word_drop}
use Rattle.layout.proofs.RecordBytes.{record_channel}
use Rattle.law_checked.specs.Others.{record_no}
use Rattle.law_checked.proofs.SamePlaces.{place_suc}
use Rattle.law_checked.proofs.RecordStands.{RecordStands}

module _ (s : List ℕ) (g channel at long i : ℕ) (r : RecordStands s g channel at long i) where
  -- byte 0 of the record, from the payload's start
  abbrev from : ℕ
  from = ctab_place r.edition (8 + r.text) i + 8

  byte_there : get_or (payload (drop (group_place s g) s)) from 0 ≡ channel
  unfolding payload
  byte_there =
      let p : ℕ = group_place s g in
      let w : word (drop p s) 4 ≡ word s (p + 4) = word_drop s p 4 in
      let within : from < word (drop p s) 4 = omega (arith, r.ends, r.place, r.sized, size_least r.edition, place_suc s g) in
      let z : p + (8 + from) ≡ at = omega (arith, r.place) in
      get_or-take (word (drop p s) 4) (drop 8 (drop p s)) from 0 within ∙ get_or-drop 8 (drop p s) from 0 ∙ get_or-drop p s (8 + from) 0 ∙ ap (λ k. get_or s k 0) z ∙ r.channelled

  row_is : record_no s g i ≡ record_at r.edition (payload (drop (group_place s g) s)) (8 + r.text) (ctab_place r.edition (8 + r.text) r.ctabs) r.cntts i
  unfolding group_no group_value group_of
  row_is =
      let value = ap (group_value (drop (group_place s g) s)) r.sound in
      ap (λ (x : Group). get_or x.records i blank) value
      ∙ get_d_rows (record_at r.edition (payload (drop (group_place s g) s)) (8 + r.text) (ctab_place r.edition (8 + r.text) r.ctabs) r.cntts) blank r.ctabs i r.within

  pub own_channel : channel_of (record_no s g i) ≡ channel
  unfolding channel_of ctab_channel
  own_channel =
      ap (λ (x : Record). x.source.0) row_is
      ∙ record_channel r.edition (payload (drop (group_place s g) s)) (8 + r.text) (ctab_place r.edition (8 + r.text) r.ctabs) r.cntts i
      ∙ byte_there
