-- How many entries a list can have: at most one for each four bytes begun; so a long enough lent list needs no count.
use Prim.Native.Nat.{ℕ, suc, min, ◌+◌, ◌*◌, ◌≤◌}
use native.Mathlib.Omega.{arith}
use mathlib.Core.Path.{◌≡◌, refl, sym, ◌∙◌, ap}
use mathlib.Core.List.{List, [], ◌∷◌, flatten, flat_map}
use lib.ListN.{length, drop, length-append}
use Rattle.layout.specs.Group.{Judged}
use Rattle.layout.specs.Group.{group_size, group_at}
use Rattle.layout.specs.Salvage.{front, pieces, Part, rest, listed, judged, parts, Entry, entries_from, salvage, entry_numbers, list_numbers}
use Rattle.layout.specs.Lists.{All}
use Rattle.read_salvage.specs.Cut.{Piece}
use Rattle.read_salvage.proofs.Cseg.{cseg_is}
use Rattle.read_salvage.proofs.Cut.{cut_joined, pieces_are}
use Rattle.read_salvage.proofs.Verdicts.{size_some, size_within}
use Rattle.std.specs.Prelude.{Ok, Err}

rest_one : (t : List ℕ) → length (rest t) ≤ min 1 (length t)
unfolding rest
rest_one [] = omega arith
rest_one (b ∷ t) = omega arith

-- a piece has four bytes, and more than eight where a sound group and a rest stand in it
listed_few : (p : List ℕ) (v : Judged) → group_at p ≡ v → 4 ≤ length p → 4 * length (listed p v) ≤ length p
unfolding listed
listed_few p (Err why) e h = omega arith
listed_few p (Ok x) e h = omega (arith, rest_one (drop (group_size p) p), size_some p x.edition x.text x.ctabs x.cntts e, size_within p x.edition x.text x.ctabs x.cntts e)

judged_few : (p : List ℕ) → Piece p → 4 * length (judged p) ≤ length p
unfolding judged
judged_few p c = listed_few p (group_at p) refl (omega (arith, ap length (cseg_is p c.first)))

flat_few : (ps : List (List ℕ)) → All Piece ps → 4 * length (flat_map judged ps) ≤ length (flatten ps)
unfolding flatten flat_map
flat_few [] a = omega arith
flat_few (p ∷ ps) h = rw (length-append (judged p) (flat_map judged ps), length-append p (flatten ps)) (omega (arith, judged_few p h.0, flat_few ps h.1))

-- an entry for each part
pub entries_length : (i : ℕ) (ps : List Part) → length (entries_from i ps) ≡ length ps
unfolding entries_from
entries_length i [] = refl
entries_length i (p ∷ ps) = ap suc (entries_length (i + length p.bytes) ps)

-- every piece has four bytes an entry; the front is one entry more, where it has a byte
pub few : (s : List ℕ) → 4 * length (salvage s) ≤ length s + 3
unfolding salvage parts
few s =
    let l : length (front s) + length (flatten (pieces s)) ≡ length s = sym (length-append (front s) (flatten (pieces s))) ∙ ap length (cut_joined s) in
    rw (entries_length, length-append) (omega (arith, l, rest_one (front s), flat_few (pieces s) (pieces_are s)))

-- an entry takes three numbers
pub numbers_length : (es : List Entry) → length (list_numbers es) ≡ 3 * length es
unfolding list_numbers flat_map entry_numbers
numbers_length [] = refl
numbers_length (e ∷ es) = omega (arith, numbers_length es)
