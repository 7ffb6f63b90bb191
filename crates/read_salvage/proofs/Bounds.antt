-- What bounds the numbers of a list: the parts lie one behind the other within the body, and the kind of each is 0, 6 or the number of a group's refusal.
use Prim.Native.Nat.{ℕ, ◌+◌, ◌*◌, ◌≤◌}
use native.Mathlib.Omega.{arith}
use mathlib.Core.Path.{◌≡◌, refl, ap}
use mathlib.Core.Bool.{false}
use mathlib.Core.List.{List, [], ◌∷◌, flatten, flat_map}
use lib.Dec.{ltb}
use lib.ListN.{length, drop, length-append}
use borrow.Author.Tests.{le-ltb}
use Rattle.layout.specs.Group.{Judged}
use Rattle.layout.specs.Group.{group_size, group_at}
use Rattle.layout.specs.Answers.{granted}
use Rattle.layout.specs.Salvage.{front, pieces, Part, rest, listed, judged, parts, Entry, entries_from, salvage, list_numbers, salvaged}
use Rattle.layout.specs.Lists.{All}
use Rattle.layout.proofs.Elements.{all_append, all_flat_map}
use Rattle.read_salvage.proofs.Numbered.{refusal_most}
use Rattle.read_salvage.proofs.Joined.{joined, parts_joined}
use Rattle.read_salvage.proofs.Room.{few, numbers_length}
use Rattle.std.specs.Prelude.{Ok, Err}

-- ---- kinds

abbrev Kinds : List Part → Type 0
Kinds ps = All (λ (p : Part). p.kind ≤ 11) ps

rest_kinds : (s : List ℕ) → Kinds (rest s)
unfolding rest
rest_kinds [] = tt
rest_kinds (b ∷ s) = (omega arith, tt)

listed_kinds : (p : List ℕ) (v : Judged) → group_at p ≡ v → Kinds (listed p v)
unfolding listed
listed_kinds p (Err why) e = (refusal_most p why.number why.place e, tt)
listed_kinds p (Ok x) e = (omega arith, rest_kinds (drop (group_size p) p))

judged_kinds : (p : List ℕ) → Kinds (judged p)
unfolding judged
judged_kinds p = listed_kinds p (group_at p) refl

all_unit : {A : Type 0} (xs : List A) → All (λ (x : A). Unit {0}) xs
all_unit [] = tt
all_unit (x ∷ xs) = (tt, all_unit xs)

parts_kinds : (s : List ℕ) → Kinds (parts s)
unfolding parts
parts_kinds s =
    all_append _ (rest (front s)) (flat_map judged (pieces s)) (rest_kinds (front s))
    (all_flat_map (λ (p : List ℕ). Unit {0}) _ judged (λ p u. judged_kinds p) (pieces s) (all_unit (pieces s)))

-- ---- places

-- an entry that ends at or before n, with such a kind
pub record Bounded (n : ℕ) (e : Entry) : Type 0 where
  pub within : e.place + e.size ≤ n
  pub known : e.kind ≤ 11

entries_bounded : (n i : ℕ) (ps : List Part) → i + length (joined ps) ≤ n → Kinds ps → All (Bounded n) (entries_from i ps)
unfolding entries_from flatten
entries_bounded n i [] h k = tt
entries_bounded n i (p ∷ ps) h k =
    let l = length-append p.bytes (joined ps) in
    (record { within = omega (arith, h, l); known = k.0 }, entries_bounded n (i + length p.bytes) ps (omega (arith, h, l)) k.1)

-- each entry of a body
pub salvage_bounded : (s : List ℕ) → All (Bounded (length s)) (salvage s)
unfolding salvage
salvage_bounded s = entries_bounded (length s) 0 (parts s) (omega (arith, ap length (parts_joined s))) (parts_kinds s)

-- .. is of a kind that one group by itself can have: no rule across groups (12, 13, 21) plays a part
pub salvage_kinds : (s : List ℕ) → All (λ (e : Entry). e.kind ≤ 11) (salvage s)
salvage_kinds s = go (salvage s) (salvage_bounded s)
  where
    go : (es : List Entry) → All (Bounded (length s)) es → All (λ (e : Entry). e.kind ≤ 11) es
    go [] h = tt
    go (e ∷ es) h = (h.0.known, go es h.1)

-- ---- "with room for 8,192 entries, enough for any body"

pub room_for_any_body : (s : List ℕ) → length s ≤ 32768 → (length (salvage s) ≤ 8192) × (salvaged s (3 * 8192) ≡ granted (salvage s))
unfolding salvaged
room_for_any_body s h =
    let l : length (salvage s) ≤ 8192 = omega (arith, few s) in
    let z : ltb (3 * 8192) (length (list_numbers (salvage s))) ≡ false = le-ltb (3 * 8192) (length (list_numbers (salvage s))) (omega (arith, numbers_length (salvage s))) in
    (l, rw (le-ltb 32768 (length s) h, z))
