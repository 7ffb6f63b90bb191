-- A question is refused wherever the condition of a row holds.
use Prim.Native.Nat.{ℕ, ◌<◌}
use mathlib.Core.Path.{◌≡◌, refl, ◌∙◌}
use mathlib.Core.Bool.{Bool, true, false, or-true}
use mathlib.Core.List.{List}
use native.Mathlib.Omega.{arith}
use lib.Dec.{leb}
use lib.ListN.{length}
use borrow.Author.Tests.{lt-ltb, le-leb, lt-leb, eq-eqb, ne_eqb}
use Rattle.layout.specs.declared.lock.Override.{Override}
use Rattle.layout.specs.declared.record.Record.{Record}
use Rattle.layout.specs.Lists.{has}
use Rattle.layout.specs.Editions.{held}
use Rattle.layout.specs.Ranges.{out_at, first_out}
use Rattle.layout.specs.Records.{bytes_of, channel_of, edition_of}
use Rattle.layout.specs.Sdec.{names}
use Rattle.layout.specs.Answers.{Answer, refused, after_run}
use Rattle.layout.specs.Body.{group_place, text_at, body_read, group_no}
use Rattle.layout.specs.Asked.{standing, of_group, group_found, group_named, of_part, part_found, Whereabouts, row_of, row_in, of_channel, channel_found, records_read}
use Rattle.layout.specs.Voice.{voice_span}
use Rattle.layout.specs.Plays.{who_plays}
use Rattle.layout.specs.Edit.{first_edited, edited}
use Rattle.layout.proofs.Scans.{first_is, first_none}
use Rattle.law_refusals.specs.Contents.{FirstSuch}
use Rattle.law_refusals.specs.Body.{BodyRefused}
use Rattle.law_refusals.specs.After.{HasGroup, GroupAsked, of_body, no_group_given, RecordsAsked, of_group_given, no_room_given, NoPart, PartAsked, part_of_body, no_part}
use Rattle.law_refusals.specs.After.{PlayersAsked, players_of_body, root_over, type_over, no_players, ChannelAsked, channel_of_group, no_channel_given, HasChannel, EditAsked, edit_of_channel, other_source, other_edition_given, read_only_given, new_byte}
use Rattle.law_refusals.proofs.Reached.{alike_so, alike_not}
use Rattle.law_refusals.proofs.CtabsExact.{ctab_has, ctab_has_not}
use Rattle.law_refusals.proofs.BodyExact.{body_answers, body_ended}

module _ (s : List ℕ) where
  pub body_read_answers : (number place : ℕ) → BodyRefused s number place → body_read s ≡ refused number place
  unfolding body_read after_run
  body_read_answers number place h = rw (body_answers s number place h)

  -- ---- a group

  module _ {A : Type 0} (g : ℕ) (ask : Answer A) where
    group_not : (number place : ℕ) → GroupAsked s g number place → of_group s g ask ≡ refused number place
    unfolding of_group after_run
    group_not _ _ (of_body number place h) = rw (body_answers s number place h)
    group_not _ _ (no_group_given n h l) = rw (body_ended s n h, le-leb n g l)

    group_so : HasGroup s g → of_group s g ask ≡ ask
    unfolding of_group after_run
    group_so h = rw (body_ended s h.count h.groups, lt-leb h.count g h.there)

  pub group_found_answers : (g number place : ℕ) → GroupAsked s g number place → group_found s g ≡ refused number place
  unfolding group_found
  group_found_answers g number place h = group_not g _ number place h

  pub records_answers : (g room number place : ℕ) → RecordsAsked s g room number place → records_read s g room ≡ refused number place
  unfolding records_read
  records_answers g room _ _ (of_group_given number place h) = group_not g _ number place h
  records_answers g room _ _ (no_room_given h l) = group_so g _ h ∙ rw (lt-ltb room (length (group_no s g).records) l)

  -- ---- a part

  module _ (n : ℕ) (name : List ℕ) (f : NoPart s n name) where
    none_named : group_named s n name ≡ n
    unfolding group_named
    none_named = first_none (λ k. has (names (text_at s (group_place s k))) name) n (λ k l. off k l (has (names (text_at s (group_place s k))) name) refl)
      where
        off : (k : ℕ) → k < n → (d : Bool) → has (names (text_at s (group_place s k))) name ≡ d → d ≡ false
        off k l true q = absurd (f k l q)
        off k l false q = refl

    part_not : {A : Type 0} (ask : ℕ → Answer A) → of_part s name n ask ≡ refused 15 0
    unfolding of_part
    part_not ask = rw (le-leb n (group_named s n name) (omega (arith, none_named)))

  pub part_answers : (name : List ℕ) (number place : ℕ) → PartAsked s name number place → part_found s name ≡ refused number place
  unfolding part_found after_run
  part_answers name _ _ (part_of_body number place h) = rw (body_answers s number place h)
  part_answers name _ _ (no_part n h f) = rw (body_ended s n h) (part_not n name f _)

  pub players_answers : (name : List ℕ) (root type number place : ℕ) → PlayersAsked s name root type number place → who_plays s name root type ≡ refused number place
  unfolding who_plays after_run
  players_answers name root type _ _ (players_of_body number place h) = rw (body_answers s number place h)
  players_answers name root type _ _ (root_over n h l) = rw (body_ended s n h, le-leb 12 root l)
  players_answers name root type _ _ (type_over n h l) = rw (body_ended s n h, le-leb 34 type l, or-true (leb 12 root))
  players_answers name root type _ _ (no_players n h k l f) = rw (body_ended s n h, lt-leb 12 root k, lt-leb 34 type l) (part_not n name f _)

  -- ---- a source channel

  module _ {A : Type 0} (g channel : ℕ) (ask : Whereabouts → Answer A) where
    channel_not : (number place : ℕ) → ChannelAsked s g channel number place → of_group s g (of_channel s (standing s g) channel ask) ≡ refused number place
    unfolding of_channel row_in
    channel_not _ _ (channel_of_group number place h) = group_not g _ number place h
    channel_not _ _ (no_channel_given h f) =
        let x = standing s g in
        group_so g _ h ∙ rw (le-leb x.records _ (ctab_has_not x.edition s x.ctabs x.records channel f))

    pub channel_so : HasChannel s g channel → of_group s g (of_channel s (standing s g) channel ask) ≡ ask (row_of (standing s g) (row_in s (standing s g) channel))
    unfolding of_channel row_in
    channel_so h =
        let x = standing s g in
        group_so g _ h.group ∙ rw (lt-leb x.records _ (ctab_has x.edition s x.ctabs x.records channel h.row h.within h.source))

  module _ (g channel number place : ℕ) where
    pub channel_answers : ChannelAsked s g channel number place → channel_found s g channel ≡ refused number place
    unfolding channel_found
    channel_answers h = channel_not g channel _ number place h

    pub voice_answers : ChannelAsked s g channel number place → voice_span s g channel ≡ refused number place
    unfolding voice_span
    voice_answers h = channel_not g channel _ number place h

  -- the first byte of a new record out of its range
  first_edited_lem : (new : Record) (k : ℕ) → FirstSuch (out_at (edition_of new) (bytes_of new) 0) (held (edition_of new)) k → first_edited new ≡ k
  unfolding first_edited first_out
  first_edited_lem new k f = first_is (out_at (edition_of new) (bytes_of new) 0) (held (edition_of new)) k f.within f.passes f.before

  pub edit_answers : (g channel : ℕ) (new : Record) (over : Override) (number place : ℕ) → EditAsked s g channel new over number place → edited s g channel new over ≡ refused number place
  unfolding edited
  edit_answers g channel new over _ _ (edit_of_channel number place h) = channel_not g channel _ number place h
  edit_answers g channel new over _ _ (other_source h f) = channel_so g channel _ h ∙ rw (ne_eqb (channel_of new) channel f)
  edit_answers g channel new over _ _ (other_edition_given h e f) = channel_so g channel _ h ∙ rw (eq-eqb (channel_of new) channel e, alike_not (standing s g).edition (edition_of new) f)
  edit_answers g channel new over _ _ (read_only_given h e q v) = channel_so g channel _ h ∙ rw (eq-eqb (channel_of new) channel e, alike_so (standing s g).edition (edition_of new) q, v)
  edit_answers g channel new over _ _ (new_byte k h e q v f) =
      channel_so g channel _ h ∙ rw (eq-eqb (channel_of new) channel e, alike_so (standing s g).edition (edition_of new) q, v, first_edited_lem new k f, lt-ltb k (held (edition_of new)) f.within)
