-- Placing looks at a record's bytes, its edition and its second table alone: so it may be asked of the bytes where they stand, and the position of the Cntt plays no part.
use Prim.Native.Nat.{ℕ}
use mathlib.Core.Path.{◌≡◌, refl}
use mathlib.Core.List.{List}
use Rattle.layout.specs.declared.edition.Edition.{Edition}
use Rattle.layout.specs.declared.edition.Edition.TheVariants.{First, Second}
use Rattle.layout.specs.declared.record.Form.{Form}
use Rattle.layout.specs.declared.record.Form.TheVariants.{One, Three}
use Rattle.layout.specs.declared.record.Record.{Record}
use Rattle.layout.specs.Records.{SecondTable}
use Rattle.layout.specs.Records.{Absent}
use Rattle.layout.specs.Records.{set_bytes, tail_bytes, triple_bytes, form_bytes, head_bytes, bytes_of, set_at, tail_at, form_of, record_with, record_of, form_edition, form_second, edition_of, second_in, bad_byte, first_bad, laid_out}
use Rattle.layout.specs.Place.{set_for, table_for, note_placed}

-- r with this form
abbrev with_form : Record → Form → Record
with_form r f =
    record { source = r.source; voice = r.voice; destination = r.destination; locked = r.locked; roots = r.roots; chords = r.chords; root = r.root; chord = r.chord; form = f }

module _ (root n : ℕ) where
  laid_form : (r : Record) (f : Form) → note_placed (record_of (form_edition f) (laid_out (with_form r f)) (form_second f) 0) root n ≡ note_placed (with_form r f) root n
  unfolding note_placed set_for table_for first_bad bad_byte laid_out bytes_of head_bytes form_bytes set_bytes triple_bytes tail_bytes record_of record_with form_of set_at tail_at form_edition form_second
  laid_form r (One x) = refl
  laid_form r (Three x) = refl

  -- a record asked of its bytes laid out
  pub placed_laid : (r : Record) (e : Edition) (b : List ℕ) (second : SecondTable) → e ≡ edition_of r → b ≡ laid_out r → second ≡ second_in r
      → note_placed (record_of e b second 0) root n ≡ note_placed r root n
  placed_laid r e b second is laid told = rw (is, laid, told) (laid_form r r.form)

  -- at the edition that a match found: the first, whatever the position ..
  module _ (e : Edition) (b : List ℕ) (second : SecondTable) (position : ℕ) where
    pub placed_first : e ≡ First → note_placed (record_of First b second 0) root n ≡ note_placed (record_of e b second position) root n
    unfolding note_placed set_for table_for first_bad bad_byte bytes_of head_bytes form_bytes record_of record_with form_of form_edition form_second
    placed_first h = rw h

    -- .. and the second, whatever the second table too
    pub placed_second : e ≡ Second → note_placed (record_of Second b Absent 0) root n ≡ note_placed (record_of e b second position) root n
    unfolding note_placed set_for table_for first_bad bad_byte bytes_of head_bytes form_bytes record_of record_with form_of form_edition form_second
    placed_second h = rw h
