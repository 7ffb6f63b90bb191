-- The form of a new record with the Cntt of an old one and its position: it has the new one's bytes and edition, and where both are of one edition the old one's Cntt.
use Prim.Native.Nat.{ℕ}
use mathlib.Core.Path.{◌≡◌, refl}
use native.Mathlib.Omega.{arith}
use Rattle.layout.specs.declared.record.Form.{Form}
use Rattle.layout.specs.declared.record.Form.TheVariants.{One, Three}
use Rattle.layout.specs.Records.{form_bytes, form_edition, form_second, form_position}
use Rattle.law_rounds.specs.Rounds.{kept_form}

pub kept_bytes : (old new : Form) → (form_bytes (kept_form old new) ≡ form_bytes new) × (form_edition (kept_form old new) ≡ form_edition new)
unfolding kept_form form_bytes form_edition
kept_bytes (One x) (One y) = (refl, refl)
kept_bytes (One x) (Three y) = (refl, refl)
kept_bytes (Three x) (One y) = (refl, refl)
kept_bytes (Three x) (Three y) = (refl, refl)

pub kept_cntt : (old new : Form) → form_edition new ≡ form_edition old → (form_second (kept_form old new) ≡ form_second old) × (form_position (kept_form old new) ≡ form_position old)
unfolding kept_form form_edition form_second form_position
kept_cntt (One x) (One y) e = (refl, refl)
kept_cntt (One x) (Three y) e = absurd (let z : ◌≡◌ {A = ℕ} 0 1 = cc in omega arith)
kept_cntt (Three x) (One y) e = absurd (let z : ◌≡◌ {A = ℕ} 0 1 = cc in omega arith)
kept_cntt (Three x) (Three y) e = (refl, refl)
