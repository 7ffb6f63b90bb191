-- A returned part is empty where the sister call refuses: the two ask the same, and differ only in what is granted.
use Prim.Native.Nat.{ℕ}
use mathlib.Core.Path.{◌≡◌, refl, ap, ◌∙◌}
use mathlib.Core.Bool.{Bool, true, false, cond}
use mathlib.Core.List.{List, []}
use lib.Dec.{leb}
use Rattle.layout.specs.Scan.{Run}
use Rattle.layout.specs.declared.answer.Grouped.{Grouped}
use Rattle.layout.specs.declared.answer.Spanned.{Spanned}
use Rattle.layout.specs.declared.answer.Standing.{Standing}
use Rattle.layout.specs.Answers.{Answer, refused, granted, number_of, after_run, part_of, grouped, spanned}
use Rattle.layout.specs.Body.{body_run}
use Rattle.layout.specs.Asked.{standing, of_group, group_found, Whereabouts, row_in, row_of, of_channel, text_of}
use Rattle.layout.specs.Voice.{trimmed, voice_bytes, voice_name, voice_span_at, voice_span}
use Rattle.layout.specs.Promises.{GroupFound, TextShown, VoiceShown, VoiceFound}
use Rattle.law_refusals.proofs.Kept.{none_given}
use Rattle.std.specs.Prelude.{Ok, Err}

-- two answers with one number, whichever it is
module _ {A B : Type 0} where
  abbrev Alike : Answer A → Answer B → Type 0
  Alike a b = number_of a ≡ number_of b

  if_alike : (t : Bool) (k place : ℕ) (a : Answer A) (b : Answer B) → Alike a b → Alike (cond t (refused k place) a) (cond t (refused k place) b)
  unfolding number_of
  if_alike true k place a b h = refl
  if_alike false k place a b h = h

  after_alike : (r : Run) (f : ℕ → Answer A) (g : ℕ → Answer B) → ((n : ℕ) → Alike (f n) (g n)) → Alike (after_run r f) (after_run r g)
  unfolding number_of after_run
  after_alike (Err why) f g h = refl
  after_alike (Ok n) f g h = h n

  group_alike : (s : List ℕ) (g : ℕ) (a : Answer A) (b : Answer B) → Alike a b → Alike (of_group s g a) (of_group s g b)
  unfolding of_group
  group_alike s g a b h = after_alike (body_run s) (λ n. cond (leb n g) (refused 16 0) a) (λ n. cond (leb n g) (refused 16 0) b) (λ n. if_alike (leb n g) 16 0 a b h)

  channel_alike : (s : List ℕ) (x : Standing) (channel : ℕ) (f : Whereabouts → Answer A) (g : Whereabouts → Answer B) → ((row : Whereabouts) → Alike (f row) (g row))
      → Alike (of_channel s x channel f) (of_channel s x channel g)
  unfolding of_channel
  channel_alike s x channel f g h =
      let row : Whereabouts = row_of x (row_in s x channel) in
      if_alike (leb x.records (row_in s x channel)) 15 0 (f row) (g row) (h row)

pub text_nothing : (s : List ℕ) (g : ℕ) (r : Grouped) (part : List ℕ) → GroupFound s g r → TextShown s g part → (r.number ≡ 0 → ⊥) → part ≡ []
unfolding grouped group_found text_of part_of number_of
text_nothing s g r part p q z =
    q ∙ none_given (text_of s g) r.number (ap (λ (x : Grouped). x.number) p ∙ group_alike s g _ _ refl) z []

pub voice_part_nothing : (s : List ℕ) (g channel : ℕ) (r : Spanned) (part : List ℕ) → VoiceFound s g channel r → VoiceShown s g channel part → (r.number ≡ 0 → ⊥) → part ≡ []
unfolding spanned voice_span voice_name part_of number_of
voice_part_nothing s g channel r part p q z =
    q ∙ none_given (voice_name s g channel) r.number
    (ap (λ (x : Spanned). x.number) p
    ∙ group_alike s g _ _ (channel_alike s (standing s g) channel (λ row. granted (voice_span_at s row.at)) (λ row. granted (trimmed (voice_bytes s row.at))) (λ row. refl))) z []
