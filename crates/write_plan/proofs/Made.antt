-- The record of its bytes: its edition and its source channel, and of the second table and the position given those that its edition has.
-- What is looked at of a record in memory is what is looked at of the record of its bytes.
use Prim.Native.Nat.{ℕ, ◌≤◌}
use mathlib.Core.Path.{◌≡◌, refl, sym, ap, ◌∙◌}
use mathlib.Core.List.{List}
use native.Mathlib.Omega.{arith}
use lib.ListN.{length, get_or}
use Rattle.layout.specs.declared.edition.Edition.{Edition}
use Rattle.layout.specs.declared.edition.Edition.TheVariants.{First, Second}
use Rattle.layout.specs.declared.record.Form.{Form}
use Rattle.layout.specs.declared.record.Form.TheVariants.{One, Three}
use Rattle.layout.specs.declared.record.Record.{Record}
use Rattle.layout.specs.Records.{SecondTable}
use Rattle.layout.specs.Editions.{held}
use Rattle.layout.specs.Records.{bytes_of, head_bytes, form_bytes, form_of, record_with, record_of, channel_of, form_edition, edition_of, form_second, second_in, form_position, position_in, bad_byte, first_bad, laid_out}
use Rattle.layout.proofs.Editions.{held_spare}
use Rattle.layout.proofs.BytesBack.{edition_made}
use Rattle.layout.proofs.Records.{laid_length}
use Rattle.read_record.proofs.BadBytes.{bad_held}
use Rattle.write_plan.specs.Checking.{first_only, second_by, position_by}

module _ (b : List ℕ) (second : SecondTable) (position : ℕ) where
  pub second_made : (e : Edition) → second_in (record_of e b second position) ≡ second_by e second
  unfolding record_of record_with form_of form_second first_only
  second_made First = refl
  second_made Second = refl

  pub position_made : (e : Edition) → position_in (record_of e b second position) ≡ position_by e position
  unfolding record_of record_with form_of form_position first_only
  position_made First = refl
  position_made Second = refl

  pub channel_made : (e : Edition) → channel_of (record_of e b second position) ≡ get_or b 0 0
  unfolding record_of record_with channel_of
  channel_made e = refl

  -- the position is in no byte
  pub bad_placed : (e : Edition) (k : ℕ) → k ≡ first_bad (record_of e b second 0) → k ≡ first_bad (record_of e b second position)
  unfolding first_bad bad_byte record_of record_with form_of bytes_of head_bytes form_bytes form_edition form_second
  bad_placed First k h = h
  bad_placed Second k h = h

-- ---- a record in memory, and the record of its bytes laid out

pub second_kept : (f : Form) → second_by (form_edition f) (form_second f) ≡ form_second f
unfolding form_edition form_second first_only
second_kept (One x) = refl
second_kept (Three x) = refl

position_kept : (f : Form) → position_by (form_edition f) (form_position f) ≡ form_position f
unfolding form_edition form_position first_only
position_kept (One x) = refl
position_kept (Three x) = refl

-- alike in all that is looked at
pub record Alike (r q : Record) : Type 0 where
  pub edition : edition_of r ≡ edition_of q
  pub bad : first_bad r ≡ first_bad q
  pub channel : channel_of r ≡ channel_of q
  pub second : second_in r ≡ second_in q
  pub position : position_in r ≡ position_in q

module _ (r : Record) where
  laid_channel : get_or (laid_out r) 0 0 ≡ channel_of r
  unfolding laid_out bytes_of head_bytes channel_of
  laid_channel = refl

  pub held_within : (b : List ℕ) (e : Edition) → b ≡ laid_out r → held e ≤ length b
  held_within b e h = omega (arith, ap length h, laid_length r, held_spare e)

  pub laid_alike : Alike (record_of (edition_of r) (laid_out r) (second_in r) (position_in r)) r
  laid_alike =
      record {
        edition = edition_made (laid_out r) (second_in r) (position_in r) (edition_of r);
        bad = sym (bad_placed (laid_out r) (second_in r) (position_in r) (edition_of r) _ refl) ∙ bad_held r (laid_out r) (edition_of r) (second_in r) _ refl refl refl refl;
        channel = channel_made (laid_out r) (second_in r) (position_in r) (edition_of r) ∙ laid_channel;
        second = second_made (laid_out r) (second_in r) (position_in r) (edition_of r) ∙ second_kept r.form;
        position = position_made (laid_out r) (second_in r) (position_in r) (edition_of r) ∙ position_kept r.form;
      }
