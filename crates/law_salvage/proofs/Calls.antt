-- A call whose promise is kept answers with the salvage list, within the limit and with room, and accepts nowhere else: so what is known of the list is known of the lent memory.
use Prim.Native.Nat.{ℕ, ◌*◌, ◌≤◌}
use native.Mathlib.Omega.{arith}
use mathlib.Core.Path.{◌≡◌, refl}
use mathlib.Core.Bool.{Bool, true, false, cond}
use mathlib.Core.List.{List, [], ◌∷◌, ◌++◌, flatten}
use lib.Dec.{ltb}
use lib.ListN.{length, drop}
use lib.Seq.{take_at, drop_at}
use borrow.Author.Tests.{le-ltb, ltb-false}
use Rattle.layout.specs.declared.answer.Counted.{Counted}
use Rattle.layout.specs.Answers.{refused, granted, number_of, place_of, value_or, retold, lent_after, counted_all}
use Rattle.layout.specs.Salvage.{Entry, salvage, list_numbers, salvaged}
use Rattle.layout.specs.Promises.{Salvaged}
use Rattle.read_salvage.proofs.Room.{numbers_length}
use Rattle.law_salvage.specs.Salvage.{GroupsBody, NoneCompleted, Stretch, Parted, groups_were, bytes_are, NoneCompletedIn, list_from, Listed}
use Rattle.law_salvage.proofs.Stretches.{damages_local}
use Rattle.law_salvage.proofs.Damage.{damaged, damage_local}

module _ (body lent now : List ℕ) (r : Counted) where
  -- a call within the limit and with room lists
  pub call_lists : length body ≤ 32768 → 3 * length (salvage body) ≤ length lent → Salvaged body lent r now → Listed (salvage body) lent r now
  unfolding salvaged counted_all number_of place_of value_or retold lent_after
  call_lists l room p =
      let es : List Entry = salvage body in
      let n : length (list_numbers es) ≡ 3 * length es = numbers_length es in
      let g : salvaged body (length lent) ≡ granted es = rw (le-ltb 32768 (length body) l, le-ltb (length lent) (length (list_numbers es)) (rw n room)) in
      let a : r ≡ record { number = 0; place = 0; count = length es } = rw g at p.answer in
      let m : now ≡ list_numbers es ++ drop (3 * length es) lent = rw (g, n) at p.list in
      record {
        accepts = rw a;
        place = rw a;
        count = rw a;
        numbers = rw m (take_at (list_numbers es) (drop (3 * length es) lent) (3 * length es) n);
        kept = rw m (drop_at (list_numbers es) (drop (3 * length es) lent) (3 * length es) n);
      }

  -- a call that accepts was within the limit, and lists
  pub accepted_lists : Salvaged body lent r now → r.number ≡ 0 → (length body ≤ 32768) × Listed (salvage body) lent r now
  unfolding salvaged counted_all number_of
  accepted_lists p z = go (ltb 32768 (length body)) (ltb (length lent) (length (list_numbers (salvage body)))) refl refl p.answer
    where
      go : (a b : Bool) → ltb 32768 (length body) ≡ a → ltb (length lent) (length (list_numbers (salvage body))) ≡ b
          → r ≡ counted_all (cond a (refused 3 0) (cond b (refused 14 0) (granted (salvage body))))
          → (length body ≤ 32768) × Listed (salvage body) lent r now
      go true b e f q = absurd (let y : r.number ≡ 3 = rw q in omega arith)
      go false true e f q = absurd (let y : r.number ≡ 14 = rw q in omega arith)
      go false false e f q =
          let l : length body ≤ 32768 = ltb-false _ _ e in
          let room : 3 * length (salvage body) ≤ length lent = rw (numbers_length (salvage body)) at (ltb-false (length lent) (length (list_numbers (salvage body))) f) in
          (l, call_lists l room p)

-- what the list is known to be, a caller reads
known_lists : (body : List ℕ) (entries : List Entry) → salvage body ≡ entries
    → (lent now : List ℕ) (r : Counted) → length body ≤ 32768 → 3 * length entries ≤ length lent → Salvaged body lent r now → Listed entries lent r now
known_lists body entries q lent now r l room p = rw q at (call_lists body lent now r l (rw q room) p)

-- the list with new bytes in place of any choice of groups
pub damages_local_call : (ss : List Stretch) → Parted ss → GroupsBody (groups_were ss) → NoneCompletedIn [] ss
    → (lent now : List ℕ) (r : Counted) → length (bytes_are ss) ≤ 32768 → 3 * length (list_from 0 ss) ≤ length lent → Salvaged (bytes_are ss) lent r now → Listed (list_from 0 ss) lent r now
damages_local_call ss p b n = known_lists (bytes_are ss) (list_from 0 ss) (damages_local ss p b n)

-- .. and of one group
pub damage_local_call : (before : List (List ℕ)) (old : List ℕ) (after : List (List ℕ)) (new : List ℕ) → GroupsBody (before ++ old ∷ after) → NoneCompleted (flatten before) new
    → (lent now : List ℕ) (r : Counted) → length (flatten before ++ (new ++ flatten after)) ≤ 32768 → 3 * length (damaged before old after new) ≤ length lent
    → Salvaged (flatten before ++ (new ++ flatten after)) lent r now → Listed (damaged before old after new) lent r now
damage_local_call before old after new b n = known_lists (flatten before ++ (new ++ flatten after)) (damaged before old after new) (damage_local before old after new b n)
