-- A note placed by chord root, in the documents' words: what is told is what is heard of note plus shift under the limits of the set that places the note, which lie within 0 to 127.
use Prim.Native.Nat.{ℕ, ◌≤◌}
use mathlib.Core.Path.{◌≡◌, refl, sym, ◌∙◌, ap}
use mathlib.Core.Bool.{Bool, true, false, cond, ◌||◌}
use mathlib.Core.Logic.{◌↔◌}
use native.Mathlib.Omega.{arith}
use borrow.Author.Tests.{ltb-false}
use lib.Dec.{ltb, leb}
use lib.IntN.{ℤ, pos, ◌+ℤ◌}
use Rattle.layout.specs.declared.record.Record.{Record}
use Rattle.layout.specs.declared.record.Set.{Set}
use Rattle.layout.specs.declared.answer.Placed.{Placed}
use Rattle.layout.specs.Editions.{held}
use Rattle.layout.specs.Records.{edition_of, first_bad}
use Rattle.layout.specs.Answers.{Answer, refused, granted, number_of, value_or}
use Rattle.layout.specs.Place.{set_for, table_for, shift, fixed, heard, note_placed, placed}
use Rattle.layout.specs.Promises.{NotePlaced}
use Rattle.ask_place.specs.Octaves.{Octave, Answers}
use Rattle.ask_place.proofs.Choosing.{low_is_a_note, high_is_a_note}
use Rattle.ask_place.proofs.Hearing.{heard_answers, one_answer, answer_octave}

-- three refusals in their order, then what is granted
abbrev asked : Bool → Bool → Bool → ℕ → Answer ℕ → Answer ℕ
asked a b c k x = cond a (refused 16 0) (cond b (refused 9 k) (cond c (refused 17 0) x))

asked_accepted : (a b c : Bool) (k x : ℕ) → number_of (asked a b c k (granted x)) ≡ 0 → (b ≡ false) × (value_or 0 (asked a b c k (granted x)) ≡ x)
unfolding number_of value_or
asked_accepted true b c k x e = let z : ◌≡◌ {A = ℕ} 16 0 = e in absurd (omega arith)
asked_accepted false true c k x e = let z : ◌≡◌ {A = ℕ} 9 0 = e in absurd (omega arith)
asked_accepted false false true k x e = let z : ◌≡◌ {A = ℕ} 17 0 = e in absurd (omega arith)
asked_accepted false false false k x e = (refl, refl)

module _ (r : Record) (root n : ℕ) where
  -- the set that places the note
  abbrev set : Set
  set = set_for r.form n

  abbrev table : ℕ
  table = table_for r.form n

  -- note plus shift
  abbrev value : ℤ
  value = pos n +ℤ shift table set.key r.root root

  module _ (p : Placed) (told : NotePlaced r root n p) (e : p.number ≡ 0) where
    -- an accepted answer tells what is heard, of a record with no bad byte
    accepted_heard : (ltb (first_bad r) (held (edition_of r)) ≡ false) × (p.note ≡ heard value set.low set.high)
    unfolding note_placed placed
    accepted_heard =
        let t = asked_accepted (leb 12 root || leb 128 n) (ltb (first_bad r) (held (edition_of r))) (fixed set.rule table) (first_bad r) (heard value set.low set.high) (sym (ap (λ (x : Placed). x.number) told) ∙ e) in
        (t.0, ap (λ (x : Placed). x.note) told ∙ t.1)

    sound : held (edition_of r) ≤ first_bad r
    sound = ltb-false (first_bad r) (held (edition_of r)) accepted_heard.0

    note_answers : Answers value set.low set.high p.note
    note_answers = rw accepted_heard.1 (heard_answers value set.low set.high (low_is_a_note r sound n))

    -- the answer that the documents name is told, and no other ..
    pub answer_told : (m : ℕ) → (p.note ≡ m) ↔ Answers value set.low set.high m
    answer_told m = (λ q. rw q at note_answers, one_answer value set.low set.high p.note m note_answers)

    -- .. an octave of note plus shift within 0 to 127
    pub octave_told : (p.note ≤ 127) × Octave value p.note
    octave_told = answer_octave value set.low set.high p.note (high_is_a_note r sound n) note_answers
