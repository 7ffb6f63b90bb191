-- Demand 2, note placement at the call, in both directions: "Otherwise shift is chord root minus source root, less 12 when the chord root is above the high key"; "Inside the limits this value is the answer; below, the
-- smallest note above by octaves that reaches the low limit; above, the largest below by octaves that meets the high limit". Document 02, §3: "When no octave of the value lies within the limits, answer the octave
-- of it within 0 to 127 that is nearest to the low limit, the lower of two equally near. This holds for crossed limits too." Its words (`Octave`, `Sounds`, `NoneWithin`, `Nearest`, `Answers`) have a line each in
-- the specs of `ask_place`.
use Rattle.std.specs.Prelude.{ℕ, ◌<◌, ◌≤◌, ◌≡◌, ◌⊎◌, ◌↔◌, ℤ, pos, ◌+ℤ◌, ◌-ℤ◌}
use Rattle.layout.specs.declared.record.Record.{Record}
use Rattle.layout.specs.declared.answer.Placed.{Placed}
use Rattle.layout.specs.Place.{set_for, table_for, shift}
use Rattle.layout.specs.Promises.{NotePlaced}
use Rattle.ask_place.specs.Octaves.{Octave, Answers}

-- an effective table is bypass, "00 or 80"
abbrev pub Bypassed : ℕ → Type 0
Bypassed table = (table ≡ 0x00) ⊎ (table ≡ 0x80)

-- by how much a note is moved, by an effective table, a high key, a source root and a chord root
pub record Shifted (table key from root : ℕ) (by : ℤ) : Type 0 where
  -- "if it is 00 or 80, shift is 0 under either rule"
  pub bypassed : Bypassed table → by ≡ pos 0
  -- "otherwise shift is chord root minus source root" ..
  pub up_to_the_key : (Bypassed table → ⊥) → root ≤ key → by ≡ pos root -ℤ pos from
  -- .. "less 12 when the chord root is above the high key"
  pub above_the_key : (Bypassed table → ⊥) → key < root → by ≡ pos root -ℤ pos from -ℤ pos 12

-- the value that is placed is note plus shift, which "may be negative"; by the set that the note uses
abbrev pub value : Record → ℕ → ℕ → ℤ
value r root note = pos note +ℤ shift (table_for r.form note) (set_for r.form note).key r.root root

-- the shift is the document's
abbrev pub ShiftIsTheDocuments : Type 0
ShiftIsTheDocuments = (table key from root : ℕ) → Shifted table key from root (shift table key from root)

-- where the call accepts, it tells a note exactly where that is the answer for the value under the limits of the set that the note uses ..
abbrev pub NoteIsTold : Type 0
NoteIsTold =
    (r : Record) (root note : ℕ) (p : Placed) → NotePlaced r root note p → p.number ≡ 0
    → (n : ℕ) → (p.note ≡ n) ↔ Answers (value r root note) (set_for r.form note).low (set_for r.form note).high n

-- .. which is an octave of the value within 0 to 127 ..
abbrev pub NoteIsAnOctave : Type 0
NoteIsAnOctave = (r : Record) (root note : ℕ) (p : Placed) → NotePlaced r root note p → p.number ≡ 0 → (p.note ≤ 127) × Octave (value r root note) p.note

-- .. "show that silence never occurs now": there is one answer for every value under all limits, crossed ones too, and there are no two
abbrev pub SilenceNeverOccurs : Type 0
SilenceNeverOccurs =
    (v : ℤ) (low high : ℕ) → low ≤ 127 → high ≤ 127
    → ((n : ℕ) × Answers v low high n) × ((m n : ℕ) → Answers v low high m → Answers v low high n → m ≡ n)
