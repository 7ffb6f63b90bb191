-- The parts of a body where it is cut: before a CSEG or the end, the parts on the left and those on the right follow one another; a sound group leads its own.
use Prim.Native.Nat.{ℕ, suc}
use mathlib.Core.Path.{◌≡◌, refl, ◌∙◌}
use mathlib.Core.Bool.{false}
use mathlib.Core.List.{List, [], ◌∷◌, ◌++◌, append_assoc, append-nil, flat_map}
use lib.ListN.{length, take, drop}
use lib.Seq.{take-length, take-append_seam, drop-append_seam}
use Rattle.layout.specs.declared.edition.Edition.{Edition}
use Rattle.layout.specs.Group.{Sound}
use Rattle.layout.specs.Group.{group_size, group_at}
use Rattle.layout.specs.Salvage.{cseg, front, pieces, rest, listed, judged, parts}
use Rattle.layout.proofs.Lists.{flat_map_append}
use Rattle.read_salvage.specs.Cut.{Free, Piece}
use Rattle.read_salvage.proofs.Cseg.{Apart, Opens, opens_apart}
use Rattle.read_salvage.proofs.Cut.{front_opens, front_seam, pieces_seam, front_free, pieces_free, front_piece, pieces_piece}
use Rattle.read_salvage.proofs.Verdicts.{sound_cseg, size_own, sound_own}

pub parts_nil : parts [] ≡ []
unfolding parts front pieces rest flat_map
parts_nil = refl

-- a cut where CSEG stands
pub parts_seam : (xs ys : List ℕ) → Opens ys → parts (xs ++ ys) ≡ parts xs ++ parts ys
unfolding parts rest
parts_seam xs ys o = rw (front_seam xs ys o, pieces_seam xs ys o, flat_map_append, front_opens ys o, append_assoc)

-- bytes with no CSEG
pub parts_free : (x ys : List ℕ) → Free x → Opens ys → parts (x ++ ys) ≡ rest x ++ parts ys
unfolding parts rest
parts_free x ys f o = rw (front_free x ys f (opens_apart x ys o), pieces_free x ys f (opens_apart x ys o), front_opens ys o, append-nil)

-- a piece
pub parts_piece : (p ys : List ℕ) → Piece p → Opens ys → parts (p ++ ys) ≡ judged p ++ parts ys
unfolding parts rest flat_map
parts_piece p ys c o = rw (front_piece p ys c, pieces_piece p ys c (opens_apart p ys o), front_opens ys o, append-nil)

-- a sound group g with CSEG nowhere but at its start, before any bytes that complete no CSEG begun in it
pub parts_group : (g ys : List ℕ) (ed : Edition) (t n m : ℕ) → group_at g ≡ Sound ed t n m → group_size g ≡ length g → ((k : ℕ) → cseg (drop (suc k) g) ≡ false) → Apart g ys
    → parts (g ++ ys) ≡ record { bytes = g; kind = 0 } ∷ parts ys
unfolding parts rest flat_map judged listed
parts_group g ys ed t n m v q o a =
    let w : take (group_size g) g ≡ g = rw q (take-length g) in
    let e : group_at (g ++ front ys) ≡ Sound ed t n m = rw w at (sound_own g (front ys) ed t n m v) in
    let z : group_size (g ++ front ys) ≡ length g = rw w at (size_own g (front ys) ed t n m v) ∙ q in
    let p : Piece g = record { first = sound_cseg g ed t n m v; only = o } in
    rw (front_piece g ys p, pieces_piece g ys p a, e, listed, z, take-append_seam g (front ys), drop-append_seam g (front ys))
