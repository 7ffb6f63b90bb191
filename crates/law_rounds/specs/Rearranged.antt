-- The words of document 02, §1: the Cntts of a group in another order, and records that differ in nothing but their positions.
use Rattle.std.specs.Prelude.{ℕ, ◌+◌, ◌-◌, ◌<◌, ◌≡◌, length, get_or, take, drop}
use mathlib.Core.List.{List, ◌++◌, flat_map}
use Rattle.layout.specs.declared.edition.Edition.{Edition}
use Rattle.layout.specs.Records.{Value}
use Rattle.layout.specs.Group.{Sound}
use Rattle.layout.specs.Lists.{rows}
use Rattle.layout.specs.Records.{bytes_of, blank, second_in, position_in}
use Rattle.layout.specs.Group.{ctab_place, cntt_place, payload, group_at, Group, group_of}

-- the numbers below m in another order: each of them is one of these, and none stands twice
pub record Rearrangement (m : ℕ) (order : ℕ → ℕ) : Type 0 where
  pub within : (j : ℕ) → j < m → order j < m
  pub apart : (i j : ℕ) → i < j → j < m → order i ≡ order j → ⊥

-- the bytes p of a group with the m Cntts that stand at q of its payload in another order: number j is the one that was number `order j`
unfoldable pub rearranged : List ℕ → ℕ → ℕ → (ℕ → ℕ) → List ℕ
rearranged p q m order = take (8 + q) p ++ flat_map (λ j. take 10 (drop (8 + cntt_place q (order j)) p)) (rows (λ j. j) 0 m)

-- two groups have the same text and the same records, but for the positions
pub record SameButPositions (g h : Group) : Type 0 where
  pub text : g.text ≡ h.text
  pub count : length g.records ≡ length h.records
  pub bytes : (i : ℕ) → i < length g.records → bytes_of (get_or g.records i blank) ≡ bytes_of (get_or h.records i blank)
  pub second : (i : ℕ) → i < length g.records → second_in (get_or g.records i blank) ≡ second_in (get_or h.records i blank)

-- the bytes p of a group of an edition, with a text of so many bytes, n Ctabs and m Cntts, are read with its Cntts in another order as they were, but for the positions:
-- the Cntt that a record has at position k was number `order (k - 1)`, from 0
pub record RearrangedRead (p : List ℕ) (e : Edition) (text n m : ℕ) (order : ℕ → ℕ) : Type 0 where
  pub sound : group_at (rearranged p (ctab_place e (8 + text) n) m order) ≡ Sound e text n m
  pub same : SameButPositions (group_of e (payload p) text n m) (group_of e (payload (rearranged p (ctab_place e (8 + text) n) m order)) text n m)
  pub moved : (i v : ℕ) → i < n → second_in (get_or (group_of e (payload p) text n m).records i blank) ≡ Value v
      → order (position_in (get_or (group_of e (payload (rearranged p (ctab_place e (8 + text) n) m order)) text n m).records i blank) - 1) + 1 ≡ position_in (get_or (group_of e (payload p) text n m).records i blank)
