-- The calls that read and ask: what is told of the answer is told of the number and place that the caller has in hand.
use Prim.Native.Nat.{ℕ}
use mathlib.Core.Path.{ap}
use mathlib.Core.List.{List}
use lib.ListN.{length}
use Rattle.layout.specs.declared.record.Record.{Record}
use Rattle.layout.specs.declared.answer.Counted.{Counted}
use Rattle.layout.specs.declared.answer.Located.{Located}
use Rattle.layout.specs.declared.answer.Spanned.{Spanned}
use Rattle.layout.specs.declared.answer.Grouped.{Grouped}
use Rattle.layout.specs.declared.answer.Named.{Named}
use Rattle.layout.specs.declared.answer.Channelled.{Channelled}
use Rattle.layout.specs.declared.answer.Played.{Played}
use Rattle.layout.specs.declared.answer.Placed.{Placed}
use Rattle.layout.specs.Answers.{granted, counted, counted_all, named, grouped, spanned}
use Rattle.layout.specs.Body.{body_run, body_read}
use Rattle.layout.specs.Asked.{group_found, part_found, channel_found, channelled, records_read}
use Rattle.layout.specs.Style.{casm_found, located}
use Rattle.layout.specs.Plays.{who_plays, played}
use Rattle.layout.specs.Voice.{voice_span}
use Rattle.layout.specs.Place.{note_placed, placed}
use Rattle.layout.specs.Promises.{CasmFound, BodyRead, GroupFound, PartFound, ChannelFound, RecordsRead, VoiceFound, PlaysTold, NotePlaced}
use Rattle.law_refusals.specs.Given.{GivenUnder}
use Rattle.law_refusals.specs.File.{FileRefused}
use Rattle.law_refusals.specs.Body.{BodyRefused}
use Rattle.law_refusals.specs.After.{GroupAsked, RecordsAsked, PartAsked, PlayersAsked, ChannelAsked}
use Rattle.law_refusals.specs.Records.{PlaceRefused}
use Rattle.law_refusals.proofs.Told.{after_told}
use Rattle.law_refusals.proofs.Above.{file_above, body_above, group_asked_above, records_asked_above, part_asked_above, players_asked_above, channel_asked_above}
use Rattle.law_refusals.proofs.Above.{place_above}
use Rattle.law_refusals.proofs.Files.{casm_told}
use Rattle.law_refusals.proofs.Bodies.{body_told}
use Rattle.law_refusals.proofs.Asked.{group_asked, records_asked, part_asked, players_asked, channel_asked, voice_asked}
use Rattle.law_refusals.proofs.Records.{place_told}
use Rattle.law_refusals.proofs.FileExact.{file_answers}
use Rattle.law_refusals.proofs.AskedExact.{body_read_answers, group_found_answers, records_answers, part_answers, players_answers, channel_answers, voice_answers}
use Rattle.law_refusals.proofs.RecordsExact.{place_answers}
use Rattle.law_refusals.proofs.Given.{given}

-- ---- reading

pub casm_given : (file : List ℕ) (r : Located) → CasmFound file r → GivenUnder (FileRefused file) r.number r.place
unfolding located
casm_given file r p =
    given (FileRefused file) (file_above file) (casm_found file) (casm_told file) (file_answers file) r.number r.place (ap (λ (x : Located). x.number) p) (ap (λ (x : Located). x.place) p)

pub body_given : (s : List ℕ) (r : Counted) → BodyRead s r → GivenUnder (BodyRefused s) r.number r.place
unfolding counted body_read
body_given s r p =
    given (BodyRefused s) (body_above s) (body_read s) (after_told (BodyRefused s) (body_run s) (λ n. granted n) (body_told s) (λ n e. tt)) (body_read_answers s) r.number r.place
    (ap (λ (x : Counted). x.number) p) (ap (λ (x : Counted). x.place) p)

pub group_given : (s : List ℕ) (g : ℕ) (r : Grouped) → GroupFound s g r → GivenUnder (GroupAsked s g) r.number r.place
unfolding grouped
group_given s g r p =
    given (GroupAsked s g) (group_asked_above s g) (group_found s g) (group_asked s g) (group_found_answers s g) r.number r.place (ap (λ (x : Grouped). x.number) p) (ap (λ (x : Grouped). x.place) p)

pub part_given : (s name : List ℕ) (r : Named) → PartFound s name r → GivenUnder (PartAsked s name) r.number r.place
unfolding named
part_given s name r p =
    given (PartAsked s name) (part_asked_above s name) (part_found s name) (part_asked s name) (part_answers s name) r.number r.place (ap (λ (x : Named). x.number) p) (ap (λ (x : Named). x.place) p)

pub channel_given : (s : List ℕ) (g channel : ℕ) (r : Channelled) → ChannelFound s g channel r → GivenUnder (ChannelAsked s g channel) r.number r.place
unfolding channelled
channel_given s g channel r p =
    given (ChannelAsked s g channel) (channel_asked_above s g channel) (channel_found s g channel) (channel_asked s g channel) (channel_answers s g channel) r.number r.place
    (ap (λ (x : Channelled). x.number) p) (ap (λ (x : Channelled). x.place) p)

pub records_given : (s : List ℕ) (g : ℕ) (before : List Record) (r : Counted) (after : List Record) → RecordsRead s g before r after
    → GivenUnder (RecordsAsked s g (length before)) r.number r.place
unfolding counted_all
records_given s g before r after p =
    given (RecordsAsked s g (length before)) (records_asked_above s g (length before)) (records_read s g (length before)) (records_asked s g (length before)) (records_answers s g (length before)) r.number r.place
    (ap (λ (x : Counted). x.number) p.answer) (ap (λ (x : Counted). x.place) p.answer)

-- ---- questions

pub voice_given : (s : List ℕ) (g channel : ℕ) (r : Spanned) → VoiceFound s g channel r → GivenUnder (ChannelAsked s g channel) r.number r.place
unfolding spanned
voice_given s g channel r p =
    given (ChannelAsked s g channel) (channel_asked_above s g channel) (voice_span s g channel) (voice_asked s g channel) (voice_answers s g channel) r.number r.place
    (ap (λ (x : Spanned). x.number) p) (ap (λ (x : Spanned). x.place) p)

pub players_given : (s name : List ℕ) (root type : ℕ) (r : Played) → PlaysTold s name root type r → GivenUnder (PlayersAsked s name root type) r.number r.place
unfolding played
players_given s name root type r p =
    given (PlayersAsked s name root type) (players_asked_above s name root type) (who_plays s name root type) (players_asked s name root type) (players_answers s name root type) r.number r.place
    (ap (λ (x : Played). x.number) p) (ap (λ (x : Played). x.place) p)

pub note_given : (m : Record) (root n : ℕ) (r : Placed) → NotePlaced m root n r → GivenUnder (PlaceRefused m root n) r.number r.place
unfolding placed
note_given m root n r p =
    given (PlaceRefused m root n) (place_above m root n) (note_placed m root n) (place_told m root n) (place_answers m root n) r.number r.place
    (ap (λ (x : Placed). x.number) p) (ap (λ (x : Placed). x.place) p)
