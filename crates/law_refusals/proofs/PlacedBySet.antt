-- A record with no bad byte places a note by the set that the note uses and its effective table, and by nothing else from byte 20 on.
use Prim.Native.Nat.{ℕ, ◌<◌}
use mathlib.Core.Path.{◌≡◌, refl, sym, ◌∙◌}
use mathlib.Core.Bool.{cond, ◌||◌}
use native.Mathlib.Omega.{arith}
use lib.Dec.{leb}
use lib.IntN.{pos, ◌+ℤ◌}
use borrow.Author.Tests.{le-ltb}
use Rattle.layout.specs.declared.record.Record.{Record}
use Rattle.layout.specs.declared.record.Form.TheVariants.{One, Three}
use Rattle.layout.specs.declared.record.Single.{Single}
use Rattle.layout.specs.declared.record.Triple.{Triple}
use Rattle.layout.specs.Answers.{Answer, refused, granted}
use Rattle.layout.specs.Editions.{held}
use Rattle.layout.specs.Records.{edition_of}
use Rattle.layout.specs.Place.{effective, set_for, table_for, shift, fixed, heard, note_placed}
use Rattle.law_refusals.specs.Records.{InRange, rule_two}
use Rattle.law_refusals.proofs.RecordsExact.{bad_none, place_answers}

-- what a rule, a table, a high key, a source root and the limits make of a note
placed_by : ℕ → ℕ → ℕ → ℕ → ℕ → ℕ → ℕ → ℕ → Answer ℕ
placed_by rule table key from low high root n =
    cond (leb 12 root || leb 128 n) (refused 16 0)
    (cond (fixed rule table) (refused 17 0) (granted (heard (pos n +ℤ shift table key from root) low high)))

placed_sound : (r : Record) (root n : ℕ) → InRange r
    → let set = set_for r.form n in note_placed r root n ≡ placed_by set.rule (table_for r.form n) set.key r.root set.low set.high root n
unfolding note_placed placed_by
placed_sound r root n h = rw (bad_none r h, le-ltb (held (edition_of r)) (held (edition_of r)) (omega arith)) refl

pub placed_by_its_set : (r q : Record) (three : Triple) (one : Single) (root note : ℕ) → r.form ≡ Three three → q.form ≡ One one → InRange r → InRange q
    → q.root ≡ r.root → one.set.rule ≡ (set_for (Three three) note).rule → effective one.second one.set.table ≡ (set_for (Three three) note).table
    → one.set.key ≡ (set_for (Three three) note).key → one.set.low ≡ (set_for (Three three) note).low → one.set.high ≡ (set_for (Three three) note).high
    → note_placed r root note ≡ note_placed q root note
unfolding set_for table_for
placed_by_its_set r q three one root note f g h i from rule table key low high =
    placed_sound r root note h ∙ (rw (f, g, from, rule, table, key, low, high) refl ∙ sym (placed_sound q root note i))

pub rule_two_refused : (r : Record) (root note : ℕ) → root < 12 → note < 128 → InRange r → (set_for r.form note).rule ≡ 2 → note_placed r root note ≡ refused 17 0
rule_two_refused r root note l m h e = place_answers r root note 17 0 (rule_two l m h e)
