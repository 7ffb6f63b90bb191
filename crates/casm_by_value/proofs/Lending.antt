-- What was lent and came back, seen from the bridge: the first records of a table of 32, and a record.
use Prim.Native.Nat.{ℕ, ◌≤◌, ◌<◌, min}
use native.Mathlib.Omega.{arith}
use native.Mathlib.Decide.{dec_lt}
use mathlib.Core.Path.{◌≡◌, sym, ap, ◌∙◌}
use mathlib.Core.List.{List, ◌++◌}
use lib.ListN.{length, take, drop, length-append, length-take, length-drop, drop_of_length-le}
use lib.Seq.{take_all, take_at, drop_at}
use Rattle.layout.specs.declared.record.Record.{Record}
use Rattle.layout.specs.declared.answer.Answered.{Answered}
use Rattle.layout.specs.declared.answer.Counted.{Counted}
use Rattle.layout.specs.declared.answer.Changed.{Changed}
use Rattle.layout.specs.Answers.{number_of, place_of, answered}
use Rattle.layout.specs.Screen.{field_set, changed}
use Rattle.layout.specs.Promises.{RecordsRead, FieldSet, FieldSetInPlace}

-- more than a list has is all of it
module _ {A : Type 0} (l : List A) (room : ℕ) where
  take_min : take (min room (length l)) l ≡ take room l
  take_min = go (dec_lt room (length l))
    where
      go : Dec (room < length l) → take (min room (length l)) l ≡ take room l
      go (yes h) = let z : min room (length l) ≡ room = omega arith in rw z
      go (no h) = take_all (min room (length l)) l (omega arith) ∙ sym (take_all room l (omega arith))

  drop_min : drop (min room (length l)) l ≡ drop room l
  drop_min = go (dec_lt room (length l))
    where
      go : Dec (room < length l) → drop (min room (length l)) l ≡ drop room l
      go (yes h) = let z : min room (length l) ≡ room = omega arith in rw z
      go (no h) =
          let y : length l ≤ min room (length l) = omega arith in
          let z : length l ≤ room = omega arith in
          drop_of_length-le l y ∙ sym (drop_of_length-le l z)

-- .. so more than 32 of 32 records are all of them
pub lent_all : (xs : List Record) (room : ℕ) → length xs ≡ 32 → take (min room 32) xs ≡ take room xs
lent_all xs room all = rw all at (take_min xs room)

-- the first n of 32 records were lent, and came back as zs
module _ (xs zs : List Record) (room n : ℕ) (few : n ≡ min room 32) (all : length xs ≡ 32) (long : length zs ≡ length (take n xs)) where
  front : length zs ≡ n
  front = long ∙ (length-take n xs ∙ omega (arith, few, all))

  whole : length (zs ++ drop n xs) ≡ 32
  whole = length-append zs (drop n xs) ∙ omega (arith, front, few, all, length-drop n xs)

  -- what is lent where so much room is asked for
  lent_is : take n xs ≡ take room xs
  lent_is = rw few (lent_all xs room all)

  back_is : take room (zs ++ drop n xs) ≡ zs
  back_is =
      let z : min room (length (zs ++ drop n xs)) ≡ n = rw whole (sym few) in
      sym (rw z at (take_min (zs ++ drop n xs) room)) ∙ take_at zs (drop n xs) n front

  kept_is : drop room (zs ++ drop n xs) ≡ drop room xs
  kept_is =
      let y : min room (length (zs ++ drop n xs)) ≡ n = rw whole (sym few) in
      let z : min room (length xs) ≡ n = rw all (sym few) in
      sym (rw y at (drop_min (zs ++ drop n xs) room)) ∙ (drop_at zs (drop n xs) n front ∙ rw z at (drop_min xs room))

  pub room_read : (s : List ℕ) (k : ℕ) (r a : Counted) (t : List Record) → RecordsRead s k (take n xs) r zs → t ≡ zs ++ drop n xs → a ≡ r
      → RecordsRead s k (take room xs) a (take room t) × (drop room t ≡ drop room xs)
  room_read s k r a t h e f =
      let y : take room t ≡ zs = ap (λ (z : List Record). take room z) e ∙ back_is in
      (rw (y, f) (rw lent_is at h), ap (λ (z : List Record). drop room z) e ∙ kept_is)

-- a record was lent, and came back as z with the answer a
pub back_set : (r : Record) (index value : ℕ) (a : Answered) (z : Record) (c : Changed) → FieldSetInPlace r index value a z
    → ((c.number ≡ a.number) × (c.place ≡ a.place)) × (c.held ≡ z) → FieldSet r index value c
unfolding changed answered
back_set r index value a z c h f =
    let x = field_set r index value in
    let m : c.number ≡ number_of x = f.0.0 ∙ ap (λ (y : Answered). y.number) h.answer in
    let p : c.place ≡ place_of x = f.0.1 ∙ ap (λ (y : Answered). y.place) h.answer in
    ap (λ (y : ℕ). record { number = y; place = c.place; held = c.held }) m
    ∙ (ap (λ (y : ℕ). record { number = number_of x; place = y; held = c.held }) p ∙ ap (λ (y : Record). record { number = number_of x; place = place_of x; held = y }) (f.1 ∙ h.held))
