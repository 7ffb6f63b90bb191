-- Every number of refusal is above 0.
use mathlib.Core.Path.{◌≡◌}
use Prim.Native.Nat.{ℕ, ◌<◌}
use mathlib.Core.List.{List}
use native.Mathlib.Omega.{arith}
use Rattle.layout.specs.declared.lock.Override.{Override}
use Rattle.layout.specs.declared.record.Record.{Record}
use Rattle.law_refusals.specs.Heads.{HeadRefused, header_cut, other_tag, length_past}
use Rattle.law_refusals.specs.File.{FileRefused, file_over, not_style_given, section_cut, section_past, tag_again_given, no_casm_given, casm_over}
use Rattle.layout.specs.declared.edition.Edition.{Edition}
use Rattle.law_refusals.specs.Contents.{ContentsRefused, CtabRefused, sdec_head, sdec_text, of_ctab, ctb2_cntt, ctab_head, ctab_size, ctab_byte, ctab_again, cntt_head, cntt_size, cntt_channel_given, cntt_value_given, cntt_again, cntt_stray}
use Rattle.law_refusals.specs.Body.{GroupRefused, group_head, group_empty, group_contents, BodyRefused, body_over, head_refused, too_many, group_refused, name_again_given}
use Rattle.law_refusals.specs.Body as body
use Rattle.law_refusals.specs.After.{GroupAsked, of_body, no_group_given, RecordsAsked, of_group_given, no_room_given, PartAsked, part_of_body, no_part}
use Rattle.law_refusals.specs.After.{PlayersAsked, players_of_body, root_over, type_over, no_players, ChannelAsked, channel_of_group, no_channel_given, EditAsked, edit_of_channel, other_source, read_only_given, new_byte}
use Rattle.law_refusals.specs.After as after
use Rattle.law_refusals.specs.Records.{PlaceRefused, root_out, note_out, record_byte, root_fixed_given, rule_two, WriteRefused, count_over, text_broken, table_edition, table_byte, table_again, positions_wrong, buffer_short}
use Rattle.law_refusals.specs.Records.{FieldRefused, index_out, field_locked, value_out, SalvageRefused, list_over, list_short}

-- a condition holds of numbers above 0 alone
abbrev pub Above : (ℕ → ℕ → Type 0) → Type 0
Above P = (number place : ℕ) → P number place → 0 < number

pub file_above : (file : List ℕ) → Above (FileRefused file)
file_above file _ _ (file_over a) = omega arith
file_above file _ _ (not_style_given a b) = omega arith
file_above file _ _ (section_cut a b c d) = omega arith
file_above file _ _ (section_past a b c d) = omega arith
file_above file _ _ (tag_again_given a b c d e f) = omega arith
file_above file _ _ (no_casm_given a b c d) = omega arith
file_above file _ _ (casm_over a b c d e f g) = omega arith

-- .. and those of a body below 22, which is an edit's and the screen's alone
abbrev Known : (ℕ → ℕ → Type 0) → Type 0
Known P = (number place : ℕ) → P number place → (0 < number) × (number < 22)

head_known : (s : List ℕ) (at : ℕ) (tag : List ℕ) (number : ℕ) → HeadRefused s at tag number → (0 < number) × (number < 22)
head_known s at tag _ (header_cut a) = (omega arith, omega arith)
head_known s at tag _ (other_tag a b) = (omega arith, omega arith)
head_known s at tag _ (length_past a b c) = (omega arith, omega arith)

ctabs_known : (e : Edition) (c : List ℕ) → Known (CtabRefused e c)
ctabs_known e c _ _ (ctab_head n number a b d h) = head_known c _ _ number h
ctabs_known e c _ _ (ctab_size n a b d) = (omega arith, omega arith)
ctabs_known e c _ _ (ctab_byte n k a b d f) = (omega arith, omega arith)
ctabs_known e c _ _ (ctab_again i n a b d f) = (omega arith, omega arith)

contents_known : (c : List ℕ) → Known (ContentsRefused c)
contents_known c _ _ (sdec_head number h) = head_known c _ _ number h
contents_known c _ _ (sdec_text a b) = (omega arith, omega arith)
contents_known c _ _ (of_ctab e number place o h) = ctabs_known e c number place h
contents_known c _ _ (ctb2_cntt n o a b d) = (omega arith, omega arith)
contents_known c _ _ (cntt_head n j number a b h) = head_known c _ _ number h
contents_known c _ _ (cntt_size n j a b d) = (omega arith, omega arith)
contents_known c _ _ (cntt_channel_given n j a b d e) = (omega arith, omega arith)
contents_known c _ _ (cntt_value_given n j a b d e f) = (omega arith, omega arith)
contents_known c _ _ (cntt_again i n j a b d e) = (omega arith, omega arith)
contents_known c _ _ (cntt_stray n j a b d e) = (omega arith, omega arith)

group_known : (p : List ℕ) → Known (GroupRefused p)
group_known p _ _ (group_head number h) = head_known p _ _ number h
group_known p _ _ (group_empty a b) = (omega arith, omega arith)
group_known p _ _ (group_contents number place a b h) = contents_known _ number place h

pub body_known : (s : List ℕ) → Known (BodyRefused s)
body_known s _ _ (body_over a) = (omega arith, omega arith)
body_known s _ _ (head_refused k number a b d h) = head_known s _ _ number h
body_known s _ _ (too_many a b) = (omega arith, omega arith)
body_known s _ _ (group_refused k number place a b d h) = group_known _ number place h
body_known s _ _ (body.other_edition_given i k e f a b d g h m) = (omega arith, omega arith)
body_known s _ _ (name_again_given i k name a b d e f g h) = (omega arith, omega arith)

pub head_above : (s : List ℕ) (at : ℕ) (tag : List ℕ) (number : ℕ) → HeadRefused s at tag number → 0 < number
head_above s at tag number h = (head_known s at tag number h).0

pub group_above : (p : List ℕ) → Above (GroupRefused p)
group_above p number place h = (group_known p number place h).0

pub body_above : (s : List ℕ) → Above (BodyRefused s)
body_above s number place h = (body_known s number place h).0

module _ (s : List ℕ) where
  pub group_asked_above : (g : ℕ) → Above (GroupAsked s g)
  group_asked_above g _ _ (of_body number place h) = body_above s number place h
  group_asked_above g _ _ (no_group_given n a b) = omega arith

  pub records_asked_above : (g room : ℕ) → Above (RecordsAsked s g room)
  records_asked_above g room _ _ (of_group_given number place h) = group_asked_above g number place h
  records_asked_above g room _ _ (no_room_given a b) = omega arith

  pub part_asked_above : (name : List ℕ) → Above (PartAsked s name)
  part_asked_above name _ _ (part_of_body number place h) = body_above s number place h
  part_asked_above name _ _ (no_part n a b) = omega arith

  pub players_asked_above : (name : List ℕ) (root type : ℕ) → Above (PlayersAsked s name root type)
  players_asked_above name root type _ _ (players_of_body number place h) = body_above s number place h
  players_asked_above name root type _ _ (root_over n a b) = omega arith
  players_asked_above name root type _ _ (type_over n a b) = omega arith
  players_asked_above name root type _ _ (no_players n a b c d) = omega arith

  pub channel_asked_above : (g channel : ℕ) → Above (ChannelAsked s g channel)
  channel_asked_above g channel _ _ (channel_of_group number place h) = group_asked_above g number place h
  channel_asked_above g channel _ _ (no_channel_given a b) = omega arith

  -- what is asked before an edit looks at its record is not refused with 22
  pub channel_not_locked : (g channel number place : ℕ) → ChannelAsked s g channel number place → number ≡ 22 → ⊥
  channel_not_locked g channel _ _ (channel_of_group _ _ (of_body number place h)) z = let k = body_known s number place h in omega (arith, k.1, z)
  channel_not_locked g channel _ _ (channel_of_group _ _ (no_group_given n a b)) z = omega (arith, z)
  channel_not_locked g channel _ _ (no_channel_given a b) z = omega (arith, z)

  pub edit_asked_above : (g channel : ℕ) (new : Record) (over : Override) → Above (EditAsked s g channel new over)
  edit_asked_above g channel new over _ _ (edit_of_channel number place h) = channel_asked_above g channel number place h
  edit_asked_above g channel new over _ _ (other_source a b) = omega arith
  edit_asked_above g channel new over _ _ (after.other_edition_given a b c) = omega arith
  edit_asked_above g channel new over _ _ (read_only_given a b c d) = omega arith
  edit_asked_above g channel new over _ _ (new_byte k a b c d e) = omega arith

pub place_above : (r : Record) (root note : ℕ) → Above (PlaceRefused r root note)
place_above r root note _ _ (root_out a) = omega arith
place_above r root note _ _ (note_out a) = omega arith
place_above r root note _ _ (record_byte k a b c) = omega arith
place_above r root note _ _ (root_fixed_given a b c d e f) = omega arith
place_above r root note _ _ (rule_two a b c d) = omega arith

pub write_above : (text : List ℕ) (table : List Record) (count room : ℕ) → Above (WriteRefused text table count room)
write_above text table count room _ _ (count_over a) = omega arith
write_above text table count room _ _ (text_broken a b) = omega arith
write_above text table count room _ _ (table_edition i a b c d e) = omega arith
write_above text table count room _ _ (table_byte i k a b c d e f) = omega arith
write_above text table count room _ _ (table_again j i a b c d e f g h) = omega arith
write_above text table count room _ _ (positions_wrong a b c d) = omega arith
write_above text table count room _ _ (buffer_short a b c d e) = omega arith

pub field_above : (r : Record) (index value : ℕ) → Above (FieldRefused r index value)
field_above r index value _ _ (index_out a) = omega arith
field_above r index value _ _ (field_locked a b) = omega arith
field_above r index value _ _ (value_out a b c) = omega arith

pub salvage_above : (s : List ℕ) (room : ℕ) → Above (SalvageRefused s room)
salvage_above s room _ _ (list_over a) = omega arith
salvage_above s room _ _ (list_short a b) = omega arith
