-- How a list is cut where CSEG stands: its front, its pieces, and both of joined lists.
use Prim.Native.Nat.{ℕ, zero, suc}
use mathlib.Core.Path.{◌≡◌, refl, ap}
use mathlib.Core.Bool.{Bool, true, false, cond}
use mathlib.Core.List.{List, [], ◌∷◌, ◌++◌, flatten, head-eq_of_cons-eq, tail-eq_of_cons-eq}
use lib.ListN.{drop}
use lib.Seq.{drop-nil}
use Rattle.layout.specs.Salvage.{cseg, front, pieces}
use Rattle.layout.specs.Lists.{All}
use Rattle.read_salvage.specs.Cut.{Free, Piece}
use Rattle.read_salvage.proofs.Cseg.{Apart, Opens, not_so, no_cseg, cseg_is, cseg_of, cseg_more, cseg_part, other, opens_apart, apart_tail, apart_head}

-- nothing stands before a CSEG at the start
pub front_opens : (s : List ℕ) → Opens s → front s ≡ []
unfolding front
front_opens [] o = refl
front_opens (b ∷ s) o = rw o

-- a cut where CSEG stands: the front is that of the left, the pieces are those of the left and then those of the right
pub front_seam : (xs ys : List ℕ) → Opens ys → front (xs ++ ys) ≡ front xs
unfolding front
front_seam [] ys o = front_opens ys o
front_seam (x ∷ xs) ys o = rw (apart_head x xs ys (opens_apart (x ∷ xs) ys o), front_seam xs ys o)

pub pieces_seam : (xs ys : List ℕ) → Opens ys → pieces (xs ++ ys) ≡ pieces xs ++ pieces ys
unfolding pieces
pieces_seam [] ys o = refl
pieces_seam (x ∷ xs) ys o = rw (apart_head x xs ys (opens_apart (x ∷ xs) ys o), front_seam xs ys o, pieces_seam xs ys o) (go (cseg (x ∷ xs)))
  where
    go : (c : Bool) → cond c ((x ∷ front xs) ∷ (pieces xs ++ pieces ys)) (pieces xs ++ pieces ys) ≡ cond c ((x ∷ front xs) ∷ pieces xs) (pieces xs) ++ pieces ys
    go true = refl
    go false = refl

-- bytes in which no CSEG begins go to the front
pub front_free : (t ys : List ℕ) → Free t → Apart t ys → front (t ++ ys) ≡ t ++ front ys
unfolding front
front_free [] ys f a = refl
front_free (x ∷ t) ys f a = rw (apart_head x t ys a, f 0, front_free t ys (λ k. f (suc k)) (apart_tail x t ys a))

pub pieces_free : (t ys : List ℕ) → Free t → Apart t ys → pieces (t ++ ys) ≡ pieces ys
unfolding pieces
pieces_free [] ys f a = refl
pieces_free (x ∷ t) ys f a = rw (apart_head x t ys a, f 0) (pieces_free t ys (λ k. f (suc k)) (apart_tail x t ys a))

-- a piece, and what follows it up to the next CSEG
pub front_piece : (p ys : List ℕ) → Piece p → front (p ++ ys) ≡ []
unfolding front
front_piece [] ys c = absurd (no_cseg c.first)
front_piece (x ∷ t) ys c = rw (cseg_more (x ∷ t) ys c.first)

pub pieces_piece : (p ys : List ℕ) → Piece p → Apart p ys → pieces (p ++ ys) ≡ (p ++ front ys) ∷ pieces ys
unfolding pieces
pieces_piece [] ys c a = absurd (no_cseg c.first)
pieces_piece (x ∷ t) ys c a =
    rw (cseg_more (x ∷ t) ys c.first, front_free t ys c.only (apart_tail x t ys a), pieces_free t ys c.only (apart_tail x t ys a))

-- ---- what the cut makes

-- the front and the pieces, one after the other, are the whole
pub cut_joined : (s : List ℕ) → front s ++ flatten (pieces s) ≡ s
unfolding front pieces flatten
cut_joined [] = refl
cut_joined (b ∷ s) = go (cseg (b ∷ s)) (ap (λ (r : List ℕ). b ∷ r) (cut_joined s))
  where
    go : (c : Bool) → b ∷ (front s ++ flatten (pieces s)) ≡ b ∷ s → cond c [] (b ∷ front s) ++ flatten (cond c ((b ∷ front s) ∷ pieces s) (pieces s)) ≡ b ∷ s
    go true h = h
    go false h = h

-- CSEG stands nowhere in the front
pub front_is_free : (s : List ℕ) → Free (front s)
unfolding front
front_is_free [] k = rw drop-nil (not_so _ no_cseg)
front_is_free (b ∷ s) k = go (cseg (b ∷ s)) refl (front_is_free s) k
  where
    go : (c : Bool) → cseg (b ∷ s) ≡ c → Free (front s) → Free (cond c [] (b ∷ front s))
    go true e f k = rw drop-nil (not_so _ no_cseg)
    go false e f zero = cseg_part 0 (b ∷ front s) (flatten (pieces s)) (rw cut_joined e)
    go false e f (suc k) = f k

letters : (r : List ℕ) → front (83 ∷ 69 ∷ 71 ∷ r) ≡ 83 ∷ 69 ∷ 71 ∷ front r
unfolding front
letters r = rw (other 83 (69 ∷ 71 ∷ r) refl, other 69 (71 ∷ r) refl, other 71 r refl)

-- the letters after a C where CSEG stands go to the piece
piece_first : (b : ℕ) (s : List ℕ) → cseg (b ∷ s) ≡ true → cseg (b ∷ front s) ≡ true
piece_first b s e =
    let q = cseg_is (b ∷ s) e in
    rw (head-eq_of_cons-eq q, tail-eq_of_cons-eq q, letters (drop 4 (b ∷ s))) (cseg_of (front (drop 4 (b ∷ s))))

-- each piece has CSEG at its start and nowhere else
pub pieces_are : (s : List ℕ) → All Piece (pieces s)
unfolding pieces
pieces_are [] = tt
pieces_are (b ∷ s) = go (cseg (b ∷ s)) refl (pieces_are s)
  where
    go : (c : Bool) → cseg (b ∷ s) ≡ c → All Piece (pieces s) → All Piece (cond c ((b ∷ front s) ∷ pieces s) (pieces s))
    go true e h = (record { first = piece_first b s e; only = front_is_free s }, h)
    go false e h = h
