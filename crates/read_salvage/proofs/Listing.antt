-- The answers of `list_salvage`: over the limit, no room, and the whole list.
use Prim.Native.Nat.{ℕ, ◌*◌, ◌/◌, ◌≤◌, ◌<◌}
use native.Mathlib.Omega.{arith}
use mathlib.Core.Path.{◌≡◌}
use mathlib.Core.Bool.{true}
use mathlib.Core.List.{List}
use lib.Dec.{leb}
use lib.ListN.{length}
use borrow.Author.Tests.{lt-ltb, le-ltb, leb-true}
use Rattle.layout.specs.Answers.{refused, number_of, place_of, value_or, counted_all, retold, lent_after}
use Rattle.layout.specs.Salvage.{salvage, list_numbers, salvaged}
use Rattle.layout.specs.Promises.{Salvaged}
use Rattle.read_salvage.specs.Entries.{list_after}
use Rattle.read_salvage.proofs.Room.{numbers_length}

-- so many entries fit into a third of the numbers
pub has_room : (entries : ℕ) (before after : List ℕ) → leb entries (length before / 3) ≡ true → after ≡ before → 3 * entries ≤ length after
has_room entries before after h q = let l = leb-true entries (length before / 3) h in rw q (omega arith)

module _ (body before : List ℕ) where
  -- a refusal leaves the lent list as it was
  refusal : (number : ℕ) → salvaged body (length before) ≡ refused number 0 → Salvaged body before (record { number = number; place = 0; count = 0 }) before
  unfolding counted_all number_of place_of value_or retold lent_after
  refusal number e = record { answer = rw e; list = rw e }

  pub too_long : 32768 < length body → Salvaged body before (record { number = 3; place = 0; count = 0 }) before
  unfolding salvaged
  too_long h = refusal 3 (rw (lt-ltb 32768 (length body) h))

  module _ (a : length body ≤ 32768) where
    pub no_room_given : (after : List ℕ) → after ≡ before → length before / 3 < length (salvage body) → Salvaged body before (record { number = 14; place = 0; count = 0 }) after
    unfolding salvaged
    no_room_given after q h = rw q (refusal 14 (rw (le-ltb 32768 (length body) a, numbers_length (salvage body), lt-ltb (length before) (3 * length (salvage body)) (omega arith))))

    pub all_listed : (n : ℕ) (after : List ℕ) → length (salvage body) ≤ length before / 3 → n ≡ length (salvage body) → after ≡ list_after (salvage body) before
        → Salvaged body before (record { number = 0; place = 0; count = n }) after
    unfolding salvaged counted_all number_of place_of value_or retold lent_after list_after
    all_listed n after h q l =
        let r = le-ltb (length before) (length (list_numbers (salvage body))) (omega (arith, numbers_length (salvage body))) in
        record { answer = rw (le-ltb 32768 (length body) a, r, q); list = rw (le-ltb 32768 (length body) a, r) l }
