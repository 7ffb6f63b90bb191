-- The voice name: its bytes looked at from behind, one law for each way out of the search, and the part that the answer names.
use Prim.Native.Nat.{ℕ, suc, ◌+◌, ◌-◌, ◌≤◌, ◌<◌}
use native.Mathlib.Omega.{arith}
use mathlib.Core.Path.{◌≡◌, refl, sym, ap, ◌∙◌}
use mathlib.Core.List.{List, [], ◌∷◌, ◌++◌}
use lib.ListN.{length, get_or, take, drop, length-take}
use lib.Seq.{take-suc, take-take, take-length}
use Rattle.layout.specs.declared.answer.Spanned.{Spanned}
use Rattle.layout.specs.Answers.{Answer, refused, granted, number_of, place_of, value_or, part_of, Span, nothing, spanned}
use Rattle.layout.specs.Asked.{Whereabouts, of_record, channel_found}
use Rattle.layout.specs.Voice.{trimmed, voice_bytes, voice_name, voice_span_at, voice_span}
use Rattle.layout.proofs.Editions.{size_least}
use Rattle.std.specs.Prelude.{Ok, Err}
use Rattle.layout.specs.declared.turn.Refusal.{Refusal}
use Rattle.read_find.specs.declared.row.Row.{Row}
use Rattle.read_find.specs.Row.{Sought, sought}
use Rattle.read_find.proofs.RowLaws.{record_refused, record_there, record_within}
use Rattle.ask_voice.proofs.Trimming.{shown_is_start, shown_within, last_left_off, last_shown}

-- ---- the bytes that are left, from behind

pub shown_start : (s : List ℕ) (at : ℕ) → trimmed (voice_bytes s at) ≡ trimmed (take (at + 9 - (at + 1)) (drop (at + 1) s))
unfolding voice_bytes
shown_start s at = let z : at + 9 - (at + 1) ≡ 8 = omega arith in rw z

module _ (t : List ℕ) (l : 1 ≤ length t) where
  last : t ≡ take (length t - 1) t ++ (get_or t (length t - 1) 0 ∷ [])
  last =
      let y : suc (length t - 1) ≡ length t = omega arith in
      rw (y, take-length t) at (take-suc t (length t - 1) 0 (omega arith))

  pub shown_here : (get_or t (length t - 1) 0 ≡ 0x20 → ⊥) → trimmed t ≡ t
  shown_here d = ap trimmed last ∙ (last_shown (take (length t - 1) t) (get_or t (length t - 1) 0) d ∙ sym last)

  pub shown_next : get_or t (length t - 1) 0 ≡ 0x20 → trimmed t ≡ trimmed (take (length t - 1) t)
  shown_next d = ap trimmed last ∙ last_left_off (take (length t - 1) t) (get_or t (length t - 1) 0) d

pub shown_none : (t : List ℕ) → length t < 1 → trimmed t ≡ t
unfolding trimmed
shown_none [] l = refl
shown_none (b ∷ t) l = absurd (omega arith)

-- ---- the ways out of the search

module _ (s : List ℕ) (g channel : ℕ) where
  pub voice_no : (why : Refusal) → sought (channel_found s g channel) ≡ Err why → ◌≡◌ {A = Spanned} (record { number = why.number; place = why.place; start = 0; length = 0 }) (spanned (voice_span s g channel))
  unfolding voice_span spanned number_of place_of value_or
  voice_no why h = rw (record_refused s g channel (λ row. granted (voice_span_at s row.at)) why.number why.place h)

  pub voice_at : (row : Row) (n : ℕ) → sought (channel_found s g channel) ≡ Ok row → n ≡ length (trimmed (voice_bytes s row.at))
      → ◌≡◌ {A = Spanned} (record { number = 0; place = 0; start = row.at + 1; length = n }) (spanned (voice_span s g channel))
  unfolding voice_span spanned number_of place_of value_or
  voice_at row n h e = rw (record_there s g channel (λ row. granted (voice_span_at s row.at)) row.edition row.row row.at h, e)

-- ---- the part that the answer names

-- what a span names of s
abbrev named : List ℕ → Span → List ℕ
named s v = take v.size (drop v.start s)

-- the span of a voice name stands within s where the record does, and names what is shown
span_within : (s : List ℕ) (at : ℕ) → at + 9 ≤ length s → at + 1 + length (trimmed (voice_bytes s at)) ≤ length s
unfolding voice_bytes
span_within s at h = omega (arith, shown_within (take 8 (drop (at + 1) s)), length-take 8 (drop (at + 1) s))

pub span_named : (s : List ℕ) (at : ℕ) → named s (voice_span_at s at) ≡ trimmed (voice_bytes s at)
unfolding voice_bytes
span_named s at =
    let t : List ℕ = take 8 (drop (at + 1) s) in
    let few : length (trimmed t) ≤ 8 = omega (arith, shown_within t, length-take 8 (drop (at + 1) s)) in
    sym (shown_is_start t ∙ take-take (length (trimmed t)) 8 (drop (at + 1) s) few)

-- the place and length of a part, and the part, tell the same
pub record Alike (s : List ℕ) (span : Answer Span) (part : Answer (List ℕ)) : Type 0 where
  pub within : (value_or nothing span).start + (value_or nothing span).size ≤ length s
  pub shows : named s (value_or nothing span) ≡ part_of part

pub alike_refused : (s : List ℕ) (a b : ℕ) → Alike s (refused a b) (refused a b)
unfolding value_or part_of
alike_refused s a b = record { within = omega arith; shows = refl }

alike_shown : (s : List ℕ) (at : ℕ) → at + 9 ≤ length s → Alike s (granted (voice_span_at s at)) (granted (trimmed (voice_bytes s at)))
unfolding value_or part_of
alike_shown s at h = record { within = span_within s at h; shows = span_named s at }

module _ (s : List ℕ) (g channel : ℕ) where
  -- the place and length that are told name the voice name that is shown
  pub voice_alike : Alike s (voice_span s g channel) (voice_name s g channel)
  unfolding voice_span voice_name
  voice_alike = go (sought (channel_found s g channel)) refl
    where
      span : Whereabouts → Answer Span
      span row = granted (voice_span_at s row.at)

      part : Whereabouts → Answer (List ℕ)
      part row = granted (trimmed (voice_bytes s row.at))

      go : (x : Sought) → sought (channel_found s g channel) ≡ x → Alike s (of_record s g channel span) (of_record s g channel part)
      go (Err why) e = rw (record_refused s g channel span why.number why.place e, record_refused s g channel part why.number why.place e) (alike_refused s why.number why.place)
      go (Ok x) e =
          rw (record_there s g channel span x.edition x.row x.at e, record_there s g channel part x.edition x.row x.at e)
          (alike_shown s x.at (omega (arith, record_within s g channel x.edition x.row x.at e, size_least x.edition)))

  module _ (r : Spanned) (e : r ≡ spanned (voice_span s g channel)) where
    pub voice_within : r.start + r.length ≤ length s
    unfolding spanned
    voice_within = rw e voice_alike.within

    pub voice_shown : take (r.start + r.length - r.start) (drop r.start s) ≡ part_of (voice_name s g channel)
    unfolding spanned
    voice_shown =
        let z : r.start + r.length - r.start ≡ r.length = omega arith in
        rw z (rw e voice_alike.shows)
