-- How long the lines of entries are at most: a place and a size have five digits, a kind two.
use Prim.Native.Nat.{ℕ, ◌+◌, ◌*◌, ◌^◌, ◌≤◌, ◌<◌}
use mathlib.Core.List.{List, [], ◌∷◌, ◌++◌, flat_map}
use native.Mathlib.Omega.{arith}
use lib.ListN.{length, length-append}
use Rattle.layout.specs.Lists.{All}
use Rattle.layout.specs.Salvage.{Entry, salvage}
use Rattle.layout.specs.Listing.{decimal, spaced, newline, entry_line}
use Rattle.read_salvage.proofs.Bounds.{Bounded, salvage_bounded, room_for_any_body}
use Rattle.list_spell.proofs.Decimals.{decimal_most}

spaced_most : (n k : ℕ) → 1 ≤ k → n < 10 ^ k → length (spaced n) ≤ k + 1
unfolding spaced
spaced_most n k h l = omega (arith, decimal_most n k h l)

entry_most : (n : ℕ) (e : Entry) → n ≤ 32768 → Bounded n e → length (entry_line e) ≤ 15
unfolding entry_line
entry_most n e h b =
    let a : List ℕ = spaced e.kind ++ newline in
    omega (
      arith,
      length-append (decimal e.place) (spaced e.size ++ a),
      length-append (spaced e.size) a,
      length-append (spaced e.kind) newline,
      decimal_most e.place 5 (omega arith) (omega (arith, b.within)),
      spaced_most e.size 5 (omega arith) (omega (arith, b.within)),
      spaced_most e.kind 2 (omega arith) (omega (arith, b.known)),
    )

entries_most : (n : ℕ) (es : List Entry) → n ≤ 32768 → All (Bounded n) es → length (flat_map entry_line es) ≤ 15 * length es
unfolding flat_map
entries_most n [] h a = omega arith
entries_most n (e ∷ es) h a = omega (arith, length-append (entry_line e) (flat_map entry_line es), entry_most n e h a.0, entries_most n es h a.1)

-- 15 bytes for each of 8,192 entries
pub lines_most : (body : List ℕ) → length body ≤ 32768 → length (flat_map entry_line (salvage body)) ≤ 122880
lines_most body h = omega (arith, entries_most (length body) (salvage body) h (salvage_bounded body), (room_for_any_body body h).0)
