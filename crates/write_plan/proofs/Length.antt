-- The length and the number of Cntts so far are within what a place can hold, however many records there are.
use Prim.Native.Nat.{ℕ, zero, suc, ◌+◌, ◌*◌, ◌^◌, ◌≤◌, ◌<◌}
use mathlib.Core.Path.{◌≡◌, refl, ap}
use mathlib.Core.Bool.{Bool, true, false, cond, not}
use mathlib.Core.List.{List}
use native.Mathlib.Omega.{arith}
use lib.Bits.{bit_or}
use lib.Dec.{ltb}
use lib.ListN.{length, get_or}
use borrow.Author.Tests.{ltb-false}
use Rattle.std.specs.Prelude.{Ok, Err}
use Rattle.layout.specs.declared.edition.Edition.{Edition}
use Rattle.layout.specs.declared.edition.Edition.TheVariants.{First}
use Rattle.layout.specs.declared.record.Record.{Record}
use Rattle.layout.specs.Editions.{size, held, alike}
use Rattle.layout.specs.Records.{blank, channel_of, edition_of, second_in, position_in, first_bad}
use Rattle.layout.specs.Plays.{bit}
use Rattle.layout.specs.Sdec.{sound_text}
use Rattle.layout.specs.Write.{cntt_count}
use Rattle.layout.proofs.Texts.{text_most}
use Rattle.write_plan.specs.declared.Checked.{Checked}
use Rattle.write_plan.specs.Checking.{Looks, refused_at, first_checked, records_in, begun, due, chunks_size, claimed, larger, records_never, Looking, looked, taken_at}
use Rattle.write_plan.proofs.Made.{second_kept}
use Rattle.write_plan.proofs.Looking.{size_most, count_most}

abbrev Within : Checked → ℕ → Type 0
Within x i = (x.length ≤ 271 + 55 * i) × (x.seconds ≤ i)

abbrev Held : Looks → ℕ → Type 0
Held before i = (x : Checked) → before ≡ Ok x → Within x i

accepted : Looks → Checked
accepted (Ok x) = x
accepted (Err why) = record { records = 0; edition = First; length = 0; seen = 0; seconds = 0; reach = 0 }

within : (x y : Checked) (i : ℕ) → Within x i → ◌≡◌ {A = Looks} (Ok x) (Ok y) → Within y i
unfolding accepted
within x y i h e = let z : x ≡ y = ap accepted e in rw (← z) h

begun_held : (text : List ℕ) (lent count : ℕ) → Held (first_checked text lent count) 0
unfolding first_checked
begun_held text lent count = go (ltb lent count) (sound_text text) refl
  where
    go : (a b : Bool) → sound_text text ≡ b → Held (cond a (refused_at 16 0) (cond (not b) (refused_at 8 0) (Ok (record { records = count; edition = First; length = 16 + length text; seen = 0; seconds = 0; reach = 0 })))) 0
    go true b e x q = absurd cc
    go false false e x q = absurd cc
    go false true e x q = within _ x 0 (omega (arith, text_most text e), omega arith) q

looked_held : (c : List ℕ) (before : Looks) (i : ℕ) (r : Record) → Held before i → Held (looked c before i r) (suc i)
unfolding looked
looked_held c (Err why) i r h = λ x q. absurd cc
looked_held c (Ok x) i r h = go (alike e (edition_of r)) (ltb (first_bad r) (held (edition_of r))) (bit x.seen (channel_of r)) refl
  where
    e : Edition
    e = due i x.edition (edition_of r)

    y : Checked
    y = record {
      records = x.records;
      edition = e;
      length = x.length + chunks_size e (cntt_count (second_in r));
      seen = bit_or x.seen (2 ^ channel_of r);
      seconds = x.seconds + cntt_count (second_in r);
      reach = larger x.reach (claimed c (position_in r) (second_in r));
    }

    go : (t b d : Bool) → alike e (edition_of r) ≡ t
        → Held (cond (not t) (refused_at 21 (size e * i)) (cond b (refused_at 9 (size e * i + first_bad r)) (cond d (refused_at 10 (size e * i)) (Ok y)))) (suc i)
    go false b d q w u = absurd cc
    go true true d q w u = absurd cc
    go true false true q w u = absurd cc
    go true false false q w u =
        let z = rw (second_kept r.form) at (size_most e (edition_of r) (second_in r) q) in
        let k = h x refl in
        within y w (suc i) (omega (arith, k.0, z), omega (arith, k.1, count_most (second_in r))) u

held_at : (text : List ℕ) (lent count : ℕ) (rs : List Record) (i : ℕ) → Held (taken_at (begun text lent count) rs i).checked i
unfolding taken_at
held_at text lent count rs zero = begun_held text lent count
held_at text lent count rs (suc i) =
    let t = taken_at (begun text lent count) rs i in
    looked_held t.cntts t.checked i (get_or rs i blank) (held_at text lent count rs i)

-- so the next one can be looked at
pub looking : (text : List ℕ) (lent count : ℕ) (rs : List Record) (i : ℕ) → i < records_never → Looking (taken_at (begun text lent count) rs i).checked i
looking text lent count rs i h = (h, held_at text lent count rs i)

-- no more records are to be looked at than are lent
pub records_within : (text : List ℕ) (lent count : ℕ) → records_in (first_checked text lent count) ≤ lent
unfolding first_checked records_in
records_within text lent count = go (ltb lent count) (sound_text text) refl
  where
    go : (a b : Bool) → ltb lent count ≡ a → records_in (cond a (refused_at 16 0) (cond (not b) (refused_at 8 0) (Ok (record { records = count; edition = First; length = 16 + length text; seen = 0; seconds = 0; reach = 0 })))) ≤ lent
    go true b e = omega arith
    go false false e = omega arith
    go false true e = omega (arith, ltb-false lent count e)
