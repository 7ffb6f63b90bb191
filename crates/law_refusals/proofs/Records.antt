-- Refused records in memory: placement, writing, the screen; and the salvage list.
use Prim.Native.Nat.{ℕ, ◌≤◌, ◌<◌}
use mathlib.Core.Path.{◌≡◌, refl}
use mathlib.Core.Bool.{Bool, true, false, not, ◌&&◌, ◌||◌, true≢false, false≢true}
use mathlib.Core.List.{List}
use native.Mathlib.Omega.{arith}
use lib.Dec.{ltb, leb, eqb}
use lib.ListN.{length}
use borrow.Author.Tests.{ltb-true, ltb-false, leb-true, leb-false, eqb-true, eqb-false}
use Rattle.layout.specs.declared.record.Record.{Record}
use Rattle.layout.specs.Editions.{held}
use Rattle.layout.specs.Lock.{locks}
use Rattle.layout.specs.Ranges.{out_of, rule_at}
use Rattle.layout.specs.Records.{bytes_of, edition_of, bad_byte, first_bad}
use Rattle.layout.specs.Salvage.{salvage, list_numbers, salvaged}
use Rattle.layout.specs.Place.{set_for, table_for, bypass, fixed, note_placed}
use Rattle.layout.specs.Screen.{field_set}
use Rattle.layout.proofs.Scans.{first_passed}
use Rattle.read_salvage.proofs.Room.{numbers_length}
use Rattle.layout.proofs.Choices.{either}
use Rattle.law_refusals.specs.Records.{FirstBadByte, InRange, PlaceRefused, root_out, note_out, record_byte, root_fixed_given, rule_two, FieldRefused, index_out, field_locked, value_out, SalvageRefused, list_over, list_short}
use Rattle.law_refusals.proofs.Told.{AnswerTold}
use Rattle.law_refusals.proofs.Heads.{first_such}

-- ---- one record in memory

module _ (r : Record) where
  pub bad_byte_lem : first_bad r < held (edition_of r) → FirstBadByte r (first_bad r)
  unfolding first_bad
  bad_byte_lem h = first_such (bad_byte r) (held (edition_of r)) h

  pub in_range : held (edition_of r) ≤ first_bad r → InRange r
  unfolding first_bad
  in_range h k l = first_passed (bad_byte r) (held (edition_of r)) k (omega arith)

  -- rule 2, or root fixed and no bypass, in the set that the note uses
  fixed_told : (root note : ℕ) → root < 12 → note < 128 → InRange r → fixed (set_for r.form note).rule (table_for r.form note) ≡ true → PlaceRefused r root note 17 0
  unfolding fixed bypass
  fixed_told root note l m inside e =
      let rule : ℕ = (set_for r.form note).rule in
      let table : ℕ = table_for r.form note in
      go (eqb rule 2) (eqb table 0x00) (eqb table 0x80) (eqb rule 1) refl refl refl refl e
    where
      go : (d a b c : Bool) → eqb (set_for r.form note).rule 2 ≡ d → eqb (table_for r.form note) 0x00 ≡ a → eqb (table_for r.form note) 0x80 ≡ b → eqb (set_for r.form note).rule 1 ≡ c
          → d || (not (a || b) && c) ≡ true → PlaceRefused r root note 17 0
      go true a b c k f g h q = rule_two l m inside (eqb-true _ _ k)
      go false false false true k f g h q = root_fixed_given l m inside (eqb-true _ _ h) (eqb-false _ _ f) (eqb-false _ _ g)
      go false false false false k f g h q = absurd (false≢true q)
      go false false true c k f g h q = absurd (false≢true q)
      go false true b c k f g h q = absurd (false≢true q)

  pub place_told : (root note : ℕ) → AnswerTold (PlaceRefused r root note) (note_placed r root note)
  unfolding note_placed
  place_told root note =
      let T = AnswerTold (PlaceRefused r root note) in
      either T (leb 12 root || leb 128 note) _ _ (λ e. over (leb 12 root) refl e) (λ e.
      let l = within (leb 12 root) (leb 128 note) refl refl e in
      either T (ltb (first_bad r) (held (edition_of r))) _ _ (λ f. record_byte (first_bad r) l.0 l.1 (bad_byte_lem (ltb-true _ _ f))) (λ f.
      either T (fixed (set_for r.form note).rule (table_for r.form note)) _ _ (λ g. fixed_told root note l.0 l.1 (in_range (ltb-false _ _ f)) g) (λ g. tt)))
    where
      over : (a : Bool) → leb 12 root ≡ a → a || leb 128 note ≡ true → PlaceRefused r root note 16 0
      over true f q = root_out (leb-true _ _ f)
      over false f q = note_out (leb-true _ _ q)

      within : (a b : Bool) → leb 12 root ≡ a → leb 128 note ≡ b → a || b ≡ false → (root < 12) × (note < 128)
      within true b f g q = absurd (true≢false q)
      within false true f g q = absurd (true≢false q)
      within false false f g q = (leb-false _ _ f, leb-false _ _ g)

  pub field_told : (index value : ℕ) → AnswerTold (FieldRefused r index value) (field_set r index value)
  unfolding field_set
  field_told index value =
      let T = AnswerTold (FieldRefused r index value) in
      either T (leb (held (edition_of r)) index) _ _ (λ e. index_out (leb-true _ _ e)) (λ e.
      let within = leb-false (held (edition_of r)) index e in
      either T (not (eqb index 10) && locks r.locked) _ _ (λ v. field_locked within v) (λ v.
      either T (out_of (edition_of r) index (rule_at (bytes_of r) 0 index) value) _ _ (λ f. value_out within v f) (λ f. tt)))

-- ---- the salvage list

pub salvage_told : (s : List ℕ) (room : ℕ) → AnswerTold (SalvageRefused s room) (salvaged s room)
unfolding salvaged
salvage_told s room =
    let T = AnswerTold (SalvageRefused s room) in
    either T (ltb 32768 (length s)) _ _ (λ e. list_over (ltb-true _ _ e)) (λ e.
    either T (ltb room (length (list_numbers (salvage s)))) _ _ (λ f. list_short (ltb-false _ _ e) (rw (numbers_length (salvage s)) at (ltb-true room (length (list_numbers (salvage s))) f))) (λ f. tt))
