-- A refused question about a body: the body's own refusal, or the body has groups and the question's own test failed.
use Prim.Native.Nat.{ℕ, ◌≤◌, ◌<◌}
use mathlib.Core.Path.{◌≡◌, refl, sym, ◌∙◌}
use mathlib.Core.Bool.{Bool, true, false, cond, not, ◌||◌, true≢false, false≢true}
use mathlib.Core.List.{List}
use native.Mathlib.Omega.{arith}
use lib.Dec.{ltb, leb, eqb}
use lib.ListN.{length}
use borrow.Author.Tests.{ltb-true, leb-true, leb-false, eqb-true, eqb-false, not-true, not-false}
use Rattle.layout.specs.Lists.{has}
use Rattle.layout.specs.Scan.{Run}
use Rattle.layout.specs.declared.lock.Override.{Override}
use Rattle.layout.specs.declared.record.Record.{Record}
use Rattle.layout.specs.declared.answer.Standing.{Standing}
use Rattle.layout.specs.Editions.{held, alike}
use Rattle.layout.specs.Lock.{keeps}
use Rattle.layout.specs.Ranges.{out_at, first_out}
use Rattle.layout.specs.Records.{bytes_of, channel_of, edition_of}
use Rattle.layout.specs.Sdec.{names}
use Rattle.layout.specs.Answers.{Answer, refused, granted, after_run}
use Rattle.layout.specs.Group.{ctab_of}
use Rattle.layout.specs.Body.{group_place, text_at, body_run, group_no}
use Rattle.layout.specs.Asked.{standing, of_group, group_found, group_named, of_part, part_found, Whereabouts, row_of, row_in, of_channel, channel_found, records_read}
use Rattle.layout.specs.Voice.{voice_span, voice_span_at}
use Rattle.layout.specs.Plays.{playing, who_plays}
use Rattle.layout.specs.Edit.{first_edited, edited}
use Rattle.layout.proofs.Scans.{first_passed}
use Rattle.layout.proofs.Editions.{alike_is, unlike_is}
use Rattle.layout.proofs.Choices.{either}
use Rattle.law_refusals.specs.Contents.{FirstSuch}
use Rattle.law_refusals.specs.Body.{BodyRefused, HasGroups}
use Rattle.law_refusals.specs.After.{HasGroup, GroupAsked, of_body, no_group_given, RecordsAsked, of_group_given, no_room_given, NoPart, PartAsked, part_of_body, no_part}
use Rattle.law_refusals.specs.After.{PlayersAsked, players_of_body, root_over, type_over, no_players, ChannelAsked, channel_of_group, no_channel_given, HasChannel, EditAsked, edit_of_channel, other_source, other_edition_given, lock_in, read_only_given, new_byte}
use Rattle.law_refusals.proofs.Told.{RunTold, AnswerTold, after_told}
use Rattle.law_refusals.proofs.Heads.{first_such}
use Rattle.layout.proofs.Seen.{ctab_seen, ctab_unseen}
use Rattle.law_refusals.proofs.Bodies.{body_told, has_groups}
use Rattle.std.specs.Prelude.{Ok, Err}

-- ---- after the body

-- the body's refusals are among those told
run_as : (P : ℕ → ℕ → Type 0) (s : List ℕ) → ((number place : ℕ) → BodyRefused s number place → P number place) → (r : Run) → RunTold (BodyRefused s) r → RunTold P r
run_as P s f (Err why) h = f why.number why.place h
run_as P s f (Ok n) h = tt

module _ {A : Type 0} (P : ℕ → ℕ → Type 0) (s : List ℕ) where
  asked_told : ((number place : ℕ) → BodyRefused s number place → P number place) → (ask : ℕ → Answer A) → ((n : ℕ) → HasGroups s n → AnswerTold P (ask n))
      → AnswerTold P (after_run (body_run s) ask)
  asked_told f ask tell = after_told P (body_run s) ask (run_as P s f (body_run s) (body_told s)) (λ n e. tell n (has_groups s n e))

  -- what is asked of a group that the body has
  of_group_told : (g : ℕ) → ((number place : ℕ) → GroupAsked s g number place → P number place) → (ask : Answer A) → (HasGroup s g → AnswerTold P ask)
      → AnswerTold P (of_group s g ask)
  unfolding of_group
  of_group_told g f ask tell =
      asked_told (λ number place h. f number place (of_body number place h)) (λ n. cond (leb n g) (refused 16 0) ask) (λ n groups.
      either (AnswerTold P) (leb n g) _ _ (λ e. f 16 0 (no_group_given n groups (leb-true _ _ e)))
      (λ e. tell (record { count = n; groups = groups; there = leb-false _ _ e })))

  -- what is asked of the record of a source channel in it
  of_channel_told : (g channel : ℕ) → ((number place : ℕ) → ChannelAsked s g channel number place → P number place) → (ask : Whereabouts → Answer A)
      → (HasChannel s g channel → AnswerTold P (ask (row_of (standing s g) (row_in s (standing s g) channel)))) → AnswerTold P (of_group s g (of_channel s (standing s g) channel ask))
  unfolding of_channel row_in
  of_channel_told g channel f ask tell =
      let x : Standing = standing s g in
      let i : ℕ = ctab_of x.edition s x.ctabs x.records channel in
      of_group_told g (λ number place h. f number place (channel_of_group number place h))
      (cond (leb x.records i) (refused 15 0) (ask (row_of x i))) (λ group.
      either (AnswerTold P) (leb x.records i) _ _
      (λ e. f 15 0 (no_channel_given group (ctab_unseen x.edition s x.ctabs x.records channel (leb-true _ _ e))))
      (λ e.
      let l = leb-false x.records i e in
      tell (record { group = group; row = i; within = l; source = ctab_seen x.edition s x.ctabs x.records channel l })))

-- no group has the part
module _ (s : List ℕ) (n : ℕ) (name : List ℕ) where
  part_none : n ≤ group_named s n name → NoPart s n name
  unfolding group_named
  part_none h k l q = false≢true (sym (first_passed (λ k. has (names (text_at s (group_place s k))) name) n k (omega arith)) ∙ q)

  of_part_told : {A : Type 0} (P : ℕ → ℕ → Type 0) → (NoPart s n name → P 15 0) → (ask : ℕ → Answer A) → ((g : ℕ) → AnswerTold P (ask g)) → AnswerTold P (of_part s name n ask)
  unfolding of_part
  of_part_told P f ask tell =
      either (AnswerTold P) (leb n (group_named s n name)) _ _ (λ e. f (part_none (leb-true _ _ e))) (λ e. tell (group_named s n name))

-- the first byte of a new record out of its range
edited_byte : (new : Record) (k : ℕ) → k ≡ first_edited new → k < held (edition_of new) → FirstSuch (out_at (edition_of new) (bytes_of new) 0) (held (edition_of new)) k
unfolding first_edited first_out
edited_byte new k e l = rw e (first_such (out_at (edition_of new) (bytes_of new) 0) (held (edition_of new)) (rw e at l))

-- ---- the questions

module _ (s : List ℕ) where
  pub group_asked : (g : ℕ) → AnswerTold (GroupAsked s g) (group_found s g)
  unfolding group_found
  group_asked g = of_group_told (GroupAsked s g) s g (λ number place h. h) (granted (standing s g)) (λ group. tt)

  pub records_asked : (g room : ℕ) → AnswerTold (RecordsAsked s g room) (records_read s g room)
  unfolding records_read
  records_asked g room =
      of_group_told (RecordsAsked s g room) s g (λ number place h. of_group_given number place h) _ (λ group.
      either (AnswerTold (RecordsAsked s g room)) (ltb room (length (group_no s g).records)) _ _ (λ e. no_room_given group (ltb-true _ _ e)) (λ e. tt))

  pub part_asked : (name : List ℕ) → AnswerTold (PartAsked s name) (part_found s name)
  unfolding part_found
  part_asked name =
      asked_told (PartAsked s name) s (λ number place h. part_of_body number place h) (λ n. of_part s name n (λ g. granted g)) (λ n groups.
      of_part_told s n name (PartAsked s name) (λ h. no_part n groups h) (λ g. granted g) (λ g. tt))

  pub players_asked : (name : List ℕ) (root type : ℕ) → AnswerTold (PlayersAsked s name root type) (who_plays s name root type)
  unfolding who_plays
  players_asked name root type =
      asked_told (PlayersAsked s name root type) s (λ number place h. players_of_body number place h) _ (λ n groups.
      either (AnswerTold (PlayersAsked s name root type)) (leb 12 root || leb 34 type) _ _ (λ e. over n groups (leb 12 root) refl e) (λ e.
      let in_range = within (leb 12 root) (leb 34 type) refl refl e in
      of_part_told s n name (PlayersAsked s name root type) (λ h. no_players n groups in_range.0 in_range.1 h) (λ g. granted (playing (group_no s g) root type)) (λ g. tt)))
    where
      over : (n : ℕ) → HasGroups s n → (a : Bool) → leb 12 root ≡ a → a || leb 34 type ≡ true → PlayersAsked s name root type 16 0
      over n groups true f q = root_over n groups (leb-true _ _ f)
      over n groups false f q = type_over n groups (leb-true _ _ q)

      within : (a b : Bool) → leb 12 root ≡ a → leb 34 type ≡ b → a || b ≡ false → (root < 12) × (type < 34)
      within true b f g q = absurd (true≢false q)
      within false true f g q = absurd (true≢false q)
      within false false f g q = (leb-false _ _ f, leb-false _ _ g)

  module _ (g channel : ℕ) where
    pub channel_asked : AnswerTold (ChannelAsked s g channel) (channel_found s g channel)
    unfolding channel_found
    channel_asked = of_channel_told (ChannelAsked s g channel) s g channel (λ number place h. h) (λ row. granted row) (λ has. tt)

    pub voice_asked : AnswerTold (ChannelAsked s g channel) (voice_span s g channel)
    unfolding voice_span
    voice_asked = of_channel_told (ChannelAsked s g channel) s g channel (λ number place h. h) (λ row. granted (voice_span_at s row.at)) (λ has. tt)

    pub edit_asked : (new : Record) (over : Override) → AnswerTold (EditAsked s g channel new over) (edited s g channel new over)
    unfolding edited
    edit_asked new over =
        let P = EditAsked s g channel new over in
        let k : ℕ = first_edited new in
        of_channel_told P s g channel (λ number place h. edit_of_channel number place h) _ (λ has.
        either (AnswerTold P) (not (eqb (channel_of new) channel)) _ _ (λ e. other_source has (eqb-false _ _ (not-true _ e))) (λ e.
        let source = eqb-true (channel_of new) channel (not-false _ e) in
        either (AnswerTold P) (not (alike (standing s g).edition (edition_of new))) _ _ (λ u. other_edition_given has source (unlike_is _ _ (not-true _ u))) (λ u.
        let like = alike_is (standing s g).edition (edition_of new) (not-false _ u) in
        either (AnswerTold P) (keeps over (lock_in s g channel)) _ _ (λ v. read_only_given has source like v) (λ v.
        either (AnswerTold P) (ltb k (held (edition_of new))) _ _
        (λ f. new_byte k has source like v (edited_byte new k refl (ltb-true _ _ f)))
        (λ f. tt)))))
