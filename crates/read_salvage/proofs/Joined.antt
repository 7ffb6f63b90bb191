-- The bytes of parts, one after the other: those of a body's parts are the body, since a cut and a verdict only divide.
use Prim.Native.Nat.{ℕ}
use mathlib.Core.Path.{◌≡◌, refl}
use mathlib.Core.List.{List, [], ◌∷◌, ◌++◌, map, append_assoc, append-nil, flatten, flat_map}
use lib.ListN.{drop, take-append-drop}
use Rattle.layout.specs.Group.{Judged}
use Rattle.layout.specs.Group.{group_size, group_at}
use Rattle.layout.specs.Salvage.{front, pieces, Part, rest, listed, judged, parts}
use Rattle.read_salvage.proofs.Cut.{cut_joined}
use Rattle.std.specs.Prelude.{Ok, Err}

-- the bytes of parts, one after the other
abbrev pub joined : List Part → List ℕ
joined ps = flatten (map (λ (p : Part). p.bytes) ps)

-- bytes as a group's own part
abbrev pub own : List ℕ → Part
own g = record { bytes = g; kind = 0 }

pub joined_append : (ps qs : List Part) → joined (ps ++ qs) ≡ joined ps ++ joined qs
unfolding flatten
joined_append [] qs = refl
joined_append (p ∷ ps) qs = rw (joined_append ps qs, append_assoc)

pub joined_groups : (gs : List (List ℕ)) → joined (map own gs) ≡ flatten gs
unfolding flatten
joined_groups [] = refl
joined_groups (g ∷ gs) = rw (joined_groups gs)

joined_rest : (s : List ℕ) → joined (rest s) ≡ s
unfolding flatten rest
joined_rest [] = refl
joined_rest (b ∷ s) = append-nil (b ∷ s)

joined_listed : (p : List ℕ) (v : Judged) → joined (listed p v) ≡ p
unfolding flatten listed
joined_listed p (Ok x) = rw (joined_rest (drop (group_size p) p), take-append-drop)
joined_listed p (Err why) = append-nil p

joined_judged : (ps : List (List ℕ)) → joined (flat_map judged ps) ≡ flatten ps
unfolding judged flat_map flatten
joined_judged [] = refl
joined_judged (p ∷ ps) = rw (joined_append (judged p) (flat_map judged ps), joined_listed p (group_at p), joined_judged ps)

pub parts_joined : (s : List ℕ) → flatten (map (λ (p : Part). p.bytes) (parts s)) ≡ s
unfolding parts
parts_joined s = rw (joined_append (rest (front s)) (flat_map judged (pieces s)), joined_rest (front s), joined_judged (pieces s)) (cut_joined s)
