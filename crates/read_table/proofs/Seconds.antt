-- The Cntt of a source channel, looked for from number j on: next, here and what it says, or none; and the record that has it.
use Prim.Native.Nat.{ℕ, ◌+◌, ◌-◌, ◌*◌, ◌≤◌, ◌<◌}
use native.Mathlib.Omega.{arith}
use mathlib.Core.Path.{◌≡◌, refl, sym, ◌∙◌}
use mathlib.Core.List.{List}
use lib.Dec.{eqb}
use lib.ListN.{get_or, take, drop}
use borrow.Author.Tests.{lt-ltb, le-ltb, eq-eqb, ne_eqb}
use Rattle.layout.specs.Records.{SecondTable}
use Rattle.layout.specs.Records.{Absent, Value}
use Rattle.layout.specs.declared.edition.Edition.{Edition}
use Rattle.layout.specs.Editions.{held}
use Rattle.layout.specs.Records.{record_of}
use Rattle.layout.specs.Scan.{first}
use Rattle.layout.specs.Group.{ctab_place, ctab_channel, cntt_channel, cntt_of, second_of, position_of, record_at}
use Rattle.layout.proofs.Editions.{held_some, held_size}
use Rattle.layout.proofs.Scans.{first_end, first_here, first_next}

module _ (s : List ℕ) (q m channel : ℕ) where
  -- the Cntt of the channel is the first from number j on
  abbrev pub Sought : ℕ → Type 0
  Sought j = cntt_of s q m channel ≡ first (λ k. eqb (cntt_channel s q k) channel) j m

  pub sought_start : Sought 0
  unfolding cntt_of
  sought_start = refl

  pub sought_next : (j : ℕ) → Sought j → j < m → (get_or s (q + 10 * j + 8) 0 ≡ channel → ⊥) → Sought (j + 1)
  unfolding cntt_channel
  sought_next j e l h = e ∙ first_next (λ k. eqb (cntt_channel s q k) channel) j m l (ne_eqb _ _ h)

  -- number j is it: its value and its position
  module _ (j : ℕ) (e : Sought j) (l : j < m) (h : get_or s (q + 10 * j + 8) 0 ≡ channel) where
    here : cntt_of s q m channel ≡ j
    unfolding cntt_channel
    here = e ∙ first_here (λ k. eqb (cntt_channel s q k) channel) j m l (eq-eqb _ _ h)

    pub second_there : Value (get_or s (q + 10 * j + 9) 0) ≡ second_of s q m channel
    unfolding second_of
    second_there = sym (rw (here, lt-ltb j m l))

    pub position_there : j + 1 ≡ position_of s q m channel
    unfolding position_of
    position_there = sym (rw (here, lt-ltb j m l))

  -- there is none
  module _ (j : ℕ) (e : Sought j) (h : m ≡ j) where
    none : cntt_of s q m channel ≡ m
    none = e ∙ first_end (λ k. eqb (cntt_channel s q k) channel) j m h ∙ sym h

    pub second_none : Absent ≡ second_of s q m channel
    unfolding second_of
    second_none = sym (rw (none, le-ltb m m (omega arith)))

    pub position_none : 0 ≡ position_of s q m channel
    unfolding position_of
    position_none = sym (rw (none, le-ltb m m (omega arith)))

-- the bytes held of a record stand within s where its Ctab does
module _ (e : Edition) (p i k n : ℕ) (h : k ≡ ctab_place e p i) (l : ctab_place e p (i + 1) ≤ n) where
  pub held_within : (m : ℕ) → m ≡ held e → k + 8 + m ≤ n
  held_within m q = omega (arith, held_size e)

  pub first_within : k + 8 < n
  first_within = omega (arith, held_within (held e) refl, held_some e)

-- the bytes held where they are lent, and what its Cntt says of the first of them
pub record_here : (e : Edition) (s : List ℕ) (p q m i k h : ℕ) (second : SecondTable) (position : ℕ) → k ≡ ctab_place e p i → h ≡ held e
    → second ≡ second_of s q m (get_or s (k + 8) 0) → position ≡ position_of s q m (get_or s (k + 8) 0) → record_of e (take (k + 8 + h - (k + 8)) (drop (k + 8) s)) second position ≡ record_at e s p q m i
unfolding record_at ctab_channel
record_here e s p q m i k h second position here many f g =
    let z : k + 8 + h - (k + 8) ≡ h = omega arith in
    rw (z, f, g, many, here)
