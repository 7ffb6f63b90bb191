-- A record with another position: an edit, a placed note and who plays look at its bytes and its Cntt alone, which are as they were.
use Prim.Native.Nat.{ℕ, suc, ◌<◌}
use mathlib.Core.Path.{◌≡◌, refl, ap, ap₂}
use mathlib.Core.Bool.{Bool, true, false, cond}
use mathlib.Core.List.{List, [], ◌∷◌, map}
use native.Mathlib.Omega.{arith}
use lib.ListN.{length, get_or}
use Rattle.layout.specs.Lists.{those}
use Rattle.layout.specs.declared.record.Form.{Form}
use Rattle.layout.specs.declared.record.Form.TheVariants.{One, Three}
use Rattle.layout.specs.declared.lock.Override.{Override}
use Rattle.layout.specs.declared.record.Record.{Record}
use Rattle.layout.specs.Records.{set_bytes, tail_bytes, triple_bytes, form_bytes, head_bytes, bytes_of, set_at, tail_at, form_of, record_with, record_of, blank, channel_of, form_edition, form_second, edition_of, second_in, bad_byte, first_bad, file_bytes}
use Rattle.layout.specs.Group.{Group}
use Rattle.layout.specs.Plays.{root_mask, chord_mask, plays_under, playing}
use Rattle.layout.specs.Place.{set_for, table_for, note_placed}
use Rattle.layout.specs.Edit.{first_edited, edited}
use Rattle.law_rounds.specs.Rearranged.{SameButPositions}
use Rattle.layout.proofs.BytesBack.{edition_made}

-- the record with this position, where it has a Cntt
abbrev pub with_position : ℕ → Record → Record
with_position position r = record_of (edition_of r) (bytes_of r) (second_in r) position

-- r with this form
abbrev with_form : Record → Form → Record
with_form r f =
    record { source = r.source; voice = r.voice; destination = r.destination; locked = r.locked; roots = r.roots; chords = r.chords; root = r.root; chord = r.chord; form = f }

-- ---- by the form

module _ (position : ℕ) (r : Record) where
  form_bytes_lem : (f : Form) → bytes_of (with_position position (with_form r f)) ≡ bytes_of (with_form r f)
  unfolding bytes_of head_bytes form_bytes set_bytes triple_bytes tail_bytes record_of record_with form_of set_at tail_at form_edition form_second
  form_bytes_lem (One x) = refl
  form_bytes_lem (Three x) = refl

  form_cntt : (f : Form) → second_in (with_position position (with_form r f)) ≡ second_in (with_form r f)
  unfolding record_of record_with form_of form_edition form_second
  form_cntt (One x) = refl
  form_cntt (Three x) = refl

  form_bad : (f : Form) → first_bad (with_position position (with_form r f)) ≡ first_bad (with_form r f)
  unfolding first_bad bad_byte bytes_of head_bytes form_bytes set_bytes triple_bytes tail_bytes record_of record_with form_of set_at tail_at form_edition form_second
  form_bad (One x) = refl
  form_bad (Three x) = refl

  form_placed : (root note : ℕ) (f : Form) → note_placed (with_position position (with_form r f)) root note ≡ note_placed (with_form r f) root note
  unfolding note_placed set_for table_for first_bad bad_byte bytes_of head_bytes form_bytes set_bytes triple_bytes tail_bytes record_of record_with form_of set_at tail_at form_edition form_second
  form_placed root note (One x) = refl
  form_placed root note (Three x) = refl

  pub position_bytes : bytes_of (with_position position r) ≡ bytes_of r
  position_bytes = form_bytes_lem r.form

  pub position_edition : edition_of (with_position position r) ≡ edition_of r
  position_edition = edition_made (bytes_of r) (second_in r) position (edition_of r)

  pub position_second : second_in (with_position position r) ≡ second_in r
  position_second = form_cntt r.form

  pub position_channel : channel_of (with_position position r) ≡ channel_of r
  unfolding channel_of bytes_of head_bytes record_of record_with
  position_channel = refl

  pub position_bad : first_bad (with_position position r) ≡ first_bad r
  position_bad = form_bad r.form

-- an edit ..
pub edited_any_position : (s : List ℕ) (group channel : ℕ) (new : Record) (over : Override) (position : ℕ) → edited s group channel (with_position position new) over ≡ edited s group channel new over
unfolding edited first_edited file_bytes
edited_any_position s group channel new over position = rw (position_channel position new, position_bytes position new, position_edition position new)

-- .. a placed note ..
pub placed_any_position : (r : Record) (root note position : ℕ) → note_placed (with_position position r) root note ≡ note_placed r root note
placed_any_position r root note position = form_placed position r root note r.form

-- .. and who plays

module _ (root type : ℕ) where
  plays_same : (r h : Record) → bytes_of r ≡ bytes_of h → plays_under root type r ≡ plays_under root type h
  unfolding plays_under root_mask chord_mask
  plays_same r h e = rw e

  source_same : (r h : Record) → bytes_of r ≡ bytes_of h → r.source ≡ h.source
  unfolding bytes_of head_bytes
  source_same r h e = let z : r.source.0 ≡ h.source.0 = ap (λ b. get_or b 0 0) e in λ i. record { 0 = z i }

  all_same : (rs hs : List Record) → length rs ≡ length hs → ((i : ℕ) → i < length rs → bytes_of (get_or rs i blank) ≡ bytes_of (get_or hs i blank))
      → map (λ r. r.source) (those (plays_under root type) rs) ≡ map (λ r. r.source) (those (plays_under root type) hs)
  unfolding those
  all_same [] [] l e = refl
  all_same [] (h ∷ hs) l e = absurd (omega arith)
  all_same (r ∷ rs) [] l e = absurd (omega arith)
  all_same (r ∷ rs) (h ∷ hs) l e =
      rw (plays_same r h (e 0 (omega arith))) (go (plays_under root type h) (all_same rs hs (omega arith) (λ i u. e (suc i) (omega arith))))
    where
      go : (b : Bool) → map (λ r. r.source) (those (plays_under root type) rs) ≡ map (λ r. r.source) (those (plays_under root type) hs)
          → map (λ (r : Record). r.source) (cond b (r ∷ those (plays_under root type) rs) (those (plays_under root type) rs))
          ≡ map (λ (r : Record). r.source) (cond b (h ∷ those (plays_under root type) hs) (those (plays_under root type) hs))
      go true x = ap₂ (λ a b. a ∷ b) (source_same r h (e 0 (omega arith))) x
      go false x = x

pub plays_any_position : (g h : Group) (root type : ℕ) → SameButPositions g h → playing g root type ≡ playing h root type
unfolding playing
plays_any_position g h root type s = all_same root type g.records h.records s.count s.bytes
