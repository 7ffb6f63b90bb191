-- On refusal whatever else the answer carries is 0.
use Prim.Native.Nat.{ℕ}
use mathlib.Core.Path.{◌≡◌, ap, ◌∙◌}
use mathlib.Core.List.{List, []}
use lib.ListN.{length, replicate}
use Rattle.layout.specs.declared.record.Record.{Record}
use Rattle.layout.specs.declared.answer.Counted.{Counted}
use Rattle.layout.specs.declared.answer.Located.{Located}
use Rattle.layout.specs.declared.answer.Spanned.{Spanned}
use Rattle.layout.specs.declared.answer.Grouped.{Grouped}
use Rattle.layout.specs.declared.answer.Named.{Named}
use Rattle.layout.specs.declared.answer.Channelled.{Channelled}
use Rattle.layout.specs.declared.answer.Played.{Played}
use Rattle.layout.specs.declared.answer.Placed.{Placed}
use Rattle.layout.specs.declared.answer.Changed.{Changed}
use Rattle.layout.specs.Answers.{counted, named, nowhere, grouped, Span, nothing, spanned}
use Rattle.layout.specs.Body.{body_read}
use Rattle.layout.specs.Asked.{group_found, part_found, Whereabouts, channel_found, no_row, channelled}
use Rattle.layout.specs.Style.{casm_found, located}
use Rattle.layout.specs.Plays.{who_plays, no_channel, in_sixteen, played}
use Rattle.layout.specs.Voice.{voice_span}
use Rattle.layout.specs.Place.{note_placed, placed}
use Rattle.layout.specs.Screen.{field_set, changed}
use Rattle.layout.specs.Promises.{CasmFound, BodyRead, GroupFound, PartFound, ChannelFound, VoiceFound, PlaysTold, NotePlaced, FieldSet}
use Rattle.law_refusals.proofs.Kept.{none_given}

pub casm_nothing : (file : List ℕ) (r : Located) → CasmFound file r → (r.number ≡ 0 → ⊥) → (r.tag ≡ 0) × (r.length ≡ 0)
unfolding located
casm_nothing file r p z =
    let n = none_given (casm_found file) r.number (ap (λ (x : Located). x.number) p) z nothing in
    (ap (λ (x : Located). x.tag) p ∙ ap (λ (x : Span). x.start) n, ap (λ (x : Located). x.length) p ∙ ap (λ (x : Span). x.size) n)

pub body_nothing : (s : List ℕ) (r : Counted) → BodyRead s r → (r.number ≡ 0 → ⊥) → r.count ≡ 0
unfolding counted
body_nothing s r p z = ap (λ (x : Counted). x.count) p ∙ none_given (body_read s) r.number (ap (λ (x : Counted). x.number) p) z 0

pub group_nothing : (s : List ℕ) (g : ℕ) (r : Grouped) → GroupFound s g r → (r.number ≡ 0 → ⊥) → r.group ≡ nowhere
unfolding grouped
group_nothing s g r p z = ap (λ (x : Grouped). x.group) p ∙ none_given (group_found s g) r.number (ap (λ (x : Grouped). x.number) p) z nowhere

pub part_nothing : (s name : List ℕ) (r : Named) → PartFound s name r → (r.number ≡ 0 → ⊥) → r.group ≡ 0
unfolding named
part_nothing s name r p z = ap (λ (x : Named). x.group) p ∙ none_given (part_found s name) r.number (ap (λ (x : Named). x.number) p) z 0

pub channel_nothing : (s : List ℕ) (g channel : ℕ) (r : Channelled) → ChannelFound s g channel r → (r.number ≡ 0 → ⊥) → (r.row ≡ 0) × (r.at ≡ 0)
unfolding channelled
channel_nothing s g channel r p z =
    let n = none_given (channel_found s g channel) r.number (ap (λ (x : Channelled). x.number) p) z no_row in
    (ap (λ (x : Channelled). x.row) p ∙ ap (λ (x : Whereabouts). x.index) n, ap (λ (x : Channelled). x.at) p ∙ ap (λ (x : Whereabouts). x.at) n)

pub voice_nothing : (s : List ℕ) (g channel : ℕ) (r : Spanned) → VoiceFound s g channel r → (r.number ≡ 0 → ⊥) → (r.start ≡ 0) × (r.length ≡ 0)
unfolding spanned
voice_nothing s g channel r p z =
    let n = none_given (voice_span s g channel) r.number (ap (λ (x : Spanned). x.number) p) z nothing in
    (ap (λ (x : Spanned). x.start) p ∙ ap (λ (x : Span). x.start) n, ap (λ (x : Spanned). x.length) p ∙ ap (λ (x : Span). x.size) n)

pub players_nothing : (s name : List ℕ) (root type : ℕ) (r : Played) → PlaysTold s name root type r → (r.number ≡ 0 → ⊥)
    → (r.count ≡ 0) × (r.channels ≡ replicate 16 no_channel)
unfolding played in_sixteen
players_nothing s name root type r p z =
    let n = none_given (who_plays s name root type) r.number (ap (λ (x : Played). x.number) p) z [] in
    (ap (λ (x : Played). x.count) p ∙ ap length n, ap (λ (x : Played). x.channels) p ∙ ap in_sixteen n)

pub note_nothing : (m : Record) (root n : ℕ) (r : Placed) → NotePlaced m root n r → (r.number ≡ 0 → ⊥) → r.note ≡ 0
unfolding placed
note_nothing m root n r p z = ap (λ (x : Placed). x.note) p ∙ none_given (note_placed m root n) r.number (ap (λ (x : Placed). x.number) p) z 0

pub field_nothing : (old : Record) (index value : ℕ) (r : Changed) → FieldSet old index value r → (r.number ≡ 0 → ⊥) → r.held ≡ old
unfolding changed
field_nothing old index value r p z =
    ap (λ (x : Changed). x.held) p ∙ none_given (field_set old index value) r.number (ap (λ (x : Changed). x.number) p) z old
