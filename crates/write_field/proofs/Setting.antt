-- One field byte set: one law for each way out. The bytes are set in an array of 47; those of the record are its front.
use Prim.Native.Nat.{ℕ, zero, suc, ◌+◌, ◌≤◌, ◌<◌}
use mathlib.Core.Path.{◌≡◌, refl, sym, ap, ◌∙◌}
use mathlib.Core.Bool.{true, false, not, ◌&&◌}
use mathlib.Core.List.{List, ◌++◌}
use native.Mathlib.Omega.{arith}
use lib.Dec.{eqb}
use lib.ListN.{length, set, take, length-set, length-take, get_or-append}
use lib.Seq.{set-append_left, take_at}
use borrow.Author.Tests.{le-leb, lt-leb}
use Rattle.layout.specs.declared.edition.Edition.{Edition}
use Rattle.layout.specs.Records.{SecondTable}
use Rattle.layout.specs.declared.record.Record.{Record}
use Rattle.layout.specs.Editions.{held}
use Rattle.layout.specs.Lock.{locks}
use Rattle.layout.specs.Ranges.{out_of, rule_at}
use Rattle.layout.specs.Records.{bytes_of, laid_out, record_of, edition_of, second_in, position_in}
use Rattle.layout.specs.Answers.{number_of, place_of, value_or}
use Rattle.layout.specs.Screen.{field_set, changed}
use Rattle.layout.proofs.Editions.{held_spare}
use Rattle.layout.proofs.Records.{bytes_length, laid_length}

-- the byte before one of the front
rule_front : (l z : List ℕ) (k : ℕ) → k < length l → rule_at (l ++ z) 0 k ≡ rule_at l 0 k
unfolding rule_at
rule_front l z zero h = refl
rule_front l z (suc k) h = get_or-append l z 0 (0 + k) (omega arith)

-- one byte of an array of 47 is set, and its front is lent
module _ (r : Record) (index value n : ℕ) (b : List ℕ) (e : Edition) (bytes : b ≡ laid_out r) (is : n ≡ held e) where
  pub set_within : n ≤ length (set b index value)
  set_within = omega (arith, length-set b index value, ap length bytes, laid_length r, held_spare e, is)

  pub front_length : n ≡ length (take n (set b index value))
  front_length = sym (length-take n (set b index value) ∙ omega (arith, set_within))

  pub front_held : held e ≤ length (take n (set b index value))
  front_held = omega (arith, front_length, is)

module _ (r : Record) (index value : ℕ) (e : Edition) (is : e ≡ edition_of r) where
  pub set_over : held e ≤ index → record { number = 16; place = 0; held = r } ≡ changed r (field_set r index value)
  unfolding field_set changed number_of place_of value_or
  set_over h = sym (rw (← is, le-leb (held e) index h))

  pub set_locked : index < held e → true ≡ not (eqb index 10) && locks r.locked → record { number = 22; place = 10; held = r } ≡ changed r (field_set r index value)
  unfolding field_set changed number_of place_of value_or
  set_locked l k = sym (rw (← is, lt-leb (held e) index l, ← k))

  module _ (l : index < held e) (free : false ≡ not (eqb index 10) && locks r.locked) (b : List ℕ) (bytes : b ≡ laid_out r) where
    many : length (bytes_of r) ≡ held e
    many = bytes_length r ∙ ap held (sym is)

    -- the rule is that of the record
    rule_is : (rule : ℕ) → rule ≡ rule_at b 0 index → rule ≡ rule_at (bytes_of r) 0 index
    unfolding laid_out
    rule_is rule h = h ∙ (ap (λ (x : List ℕ). rule_at x 0 index) bytes ∙ rule_front (bytes_of r) _ index (omega (arith, many)))

    -- the record is read from its own bytes
    front_is : take (held e) (set b index value) ≡ set (bytes_of r) index value
    unfolding laid_out
    front_is =
        rw (bytes, set-append_left (bytes_of r) _ index value (omega (arith, many)))
        (take_at (set (bytes_of r) index value) _ (held e) (length-set (bytes_of r) index value ∙ many))

    pub set_out : (rule : ℕ) → rule ≡ rule_at b 0 index → true ≡ out_of e index rule value → record { number = 9; place = index; held = r } ≡ changed r (field_set r index value)
    unfolding field_set changed number_of place_of value_or
    set_out rule h t = sym (rw (← is, lt-leb (held e) index l, ← free, ← rule_is rule h, ← t))

    made_is : (second : SecondTable) → second ≡ second_in r → (position : ℕ) → position ≡ position_in r
        → record_of e (take (held e) (set b index value)) second position ≡ record_of e (set (bytes_of r) index value) (second_in r) (position_in r)
    made_is second f position g = rw (front_is, f, g)

    pub set_in : (rule : ℕ) → rule ≡ rule_at b 0 index → false ≡ out_of e index rule value → (second : SecondTable) → second ≡ second_in r → (position : ℕ) → position ≡ position_in r
        → (n : ℕ) → n ≡ held e → (made : Record) → made ≡ record_of e (take n (set b index value)) second position → record { number = 0; place = 0; held = made } ≡ changed r (field_set r index value)
    unfolding field_set changed number_of place_of value_or
    set_in rule h t second f position g n m made d =
        ap (λ (x : Record). record { number = 0; place = 0; held = x }) (d ∙ (ap (λ (k : ℕ). record_of e (take k (set b index value)) second position) m ∙ made_is second f position g))
        ∙ sym (rw (← is, lt-leb (held e) index l, ← free, ← rule_is rule h, ← t))
