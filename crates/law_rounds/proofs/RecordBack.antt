-- A record and the bytes that it holds (document 01, "The CASM body"; document 02, §4): each gives the other back, and one field byte set changes nothing else.
use Prim.Native.Nat.{ℕ}
use mathlib.Core.Path.{◌≡◌, refl, sym, ap, ◌∙◌}
use mathlib.Core.List.{List, ◌++◌}
use native.Mathlib.Omega.{arith}
use mathlib.Core.Bool.{not, ◌&&◌}
use lib.Dec.{leb, eqb}
use lib.ListN.{length, set, length-set}
use lib.Seq.{take_all}
use Rattle.layout.specs.declared.edition.Edition.{Edition}
use Rattle.layout.specs.declared.edition.Edition.TheVariants.{First, Second}
use Rattle.layout.specs.declared.record.Form.{Form}
use Rattle.layout.specs.declared.record.Form.TheVariants.{One, Three}
use Rattle.layout.specs.declared.record.Record.{Record}
use Rattle.layout.specs.Records.{SecondTable}
use Rattle.layout.specs.Records.{Absent}
use Rattle.layout.specs.Editions.{held}
use Rattle.layout.specs.Lock.{locks}
use Rattle.layout.specs.Ranges.{out_of, rule_at}
use Rattle.layout.specs.Records.{set_bytes, tail_bytes, triple_bytes, form_bytes, head_bytes, bytes_of, set_at, tail_at, form_of, record_with, record_of, form_edition, form_second, form_position, edition_of, second_in, position_in}
use Rattle.layout.specs.Answers.{granted}
use Rattle.layout.specs.Write.{Whole}
use Rattle.layout.specs.Screen.{field_set}
use Rattle.layout.proofs.Records.{bytes_length}
use Rattle.layout.proofs.BytesBack.{edition_made, spelled, spelled_whole, read_bytes}
use Rattle.law_rounds.proofs.Granted.{if_granted, granted_once}

-- ---- what a record that was read has

module _ (b : List ℕ) (second : SecondTable) (position : ℕ) where
  -- .. all its bytes ..
  pub read_whole : (e : Edition) → Whole (record_of e b second position)
  unfolding record_of record_with
  read_whole e = record { voice = refl; roots = refl; chords = refl }

  -- .. and its Cntt with its position, where the second edition is given none
  pub read_cntt : (e : Edition) → (e ≡ Second → (second ≡ Absent) × (position ≡ 0))
      → (second_in (record_of e b second position) ≡ second) × (position_in (record_of e b second position) ≡ position)
  unfolding record_of record_with form_of form_second form_position
  read_cntt First none = (refl, refl)
  read_cntt Second none = (sym (none refl).0, sym (none refl).1)

-- a record of the second edition has no Cntt
pub ctb2_none : (f : Form) → form_edition f ≡ Second → (form_second f ≡ Absent) × (form_position f ≡ 0)
unfolding form_edition form_second form_position
ctb2_none (One x) e = absurd (let z : ◌≡◌ {A = ℕ} 0 1 = cc in omega arith)
ctb2_none (Three x) e = (refl, refl)

-- ---- a record read from its bytes

-- a form is read from its bytes, which stand behind the head
form_back : (r : Record) (f : Form) → form_of (form_edition f) (head_bytes r ++ form_bytes f) (form_second f) (form_position f) ≡ f
unfolding head_bytes form_bytes set_bytes triple_bytes tail_bytes form_of set_at tail_at form_edition form_second form_position
form_back r (One x) = refl
form_back r (Three x) = refl

-- r with its arrays and its form given
abbrev with : Record → List ℕ → List ℕ → List ℕ → Form → Record
with r v o h f =
    record { source = r.source; voice = v; destination = r.destination; locked = r.locked; roots = o; chords = h; root = r.root; chord = r.chord; form = f }

-- a record that has all its bytes is read from them
pub bytes_read : (r : Record) → Whole r → record_of (edition_of r) (bytes_of r) (second_in r) (position_in r) ≡ r
unfolding bytes_of head_bytes record_of record_with spelled
bytes_read r w =
    ap (λ (f : Form). with r (spelled r.voice 0 8) (spelled r.roots 0 2) (spelled r.chords 0 5) f) (form_back r r.form)
    ∙ (ap (λ (v : List ℕ). with r v (spelled r.roots 0 2) (spelled r.chords 0 5) r.form) (spelled_whole 8 r.voice w.voice)
    ∙ (ap (λ (o : List ℕ). with r r.voice o (spelled r.chords 0 5) r.form) (spelled_whole 2 r.roots w.roots)
    ∙ ap (λ (h : List ℕ). with r r.voice r.roots h r.form) (spelled_whole 5 r.chords w.chords)))

-- ---- one field byte set

-- the record with one byte set
abbrev pub with_byte : Record → ℕ → ℕ → Record
with_byte r index value = record_of (edition_of r) (set (bytes_of r) index value) (second_in r) (position_in r)

set_length : (r : Record) (index value : ℕ) → length (set (bytes_of r) index value) ≡ held (edition_of r)
set_length r index value = length-set (bytes_of r) index value ∙ bytes_length r

set_bytes_lem : (r : Record) (index value : ℕ) → bytes_of (with_byte r index value) ≡ set (bytes_of r) index value
set_bytes_lem r index value =
    read_bytes (edition_of r) (set (bytes_of r) index value) (second_in r) (position_in r) (omega (arith, set_length r index value))
    ∙ take_all (held (edition_of r)) (set (bytes_of r) index value) (omega (arith, set_length r index value))

-- what a field byte leaves as it was
pub record SetAlone (r after : Record) (index value : ℕ) : Type 0 where
  pub bytes : bytes_of after ≡ set (bytes_of r) index value
  pub edition : edition_of after ≡ edition_of r
  pub second : second_in after ≡ second_in r
  pub position : position_in after ≡ position_in r

byte_alone : (r : Record) (index value : ℕ) → SetAlone r (with_byte r index value) index value
byte_alone r index value =
    let b : List ℕ = set (bytes_of r) index value in
    let kept = read_cntt b (second_in r) (position_in r) (edition_of r) (ctb2_none r.form) in
    record { bytes = set_bytes_lem r index value; edition = edition_made b (second_in r) (position_in r) (edition_of r); second = kept.0; position = kept.1 }

pub set_is : (r after : Record) (index value : ℕ) → field_set r index value ≡ granted after → with_byte r index value ≡ after
unfolding field_set
set_is r after index value e =
    let a = if_granted (leb (held (edition_of r)) index) 16 0 _ after e in
    let v = if_granted (not (eqb index 10) && locks r.locked) 22 10 _ after a.1 in
    let b = if_granted (out_of (edition_of r) index (rule_at (bytes_of r) 0 index) value) 9 index (granted (with_byte r index value)) after v.1 in
    granted_once (with_byte r index value) after b.1

pub set_alone : (r after : Record) (index value : ℕ) → field_set r index value ≡ granted after → SetAlone r after index value
set_alone r after index value e = rw (← (set_is r after index value e)) (byte_alone r index value)
