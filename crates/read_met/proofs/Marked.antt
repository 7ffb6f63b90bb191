-- Names that were met stay so; each name of the share looked at that was passed is one of them, and after the last those of the text all are.
use Prim.Native.Nat.{ℕ, ◌+◌, ◌≤◌, ◌<◌}
use native.Mathlib.Omega.{arith}
use native.Mathlib.Decide.{dec_lt}
use mathlib.Core.Path.{◌≡◌, refl, sym, ap, ◌∙◌}
use mathlib.Core.Bool.{Bool, true, false, cond, false≢true}
use mathlib.Core.List.{List, [], ◌∷◌}
use lib.Dec.{ltb}
use Rattle.layout.specs.Lists.{same, has, any}
use Rattle.layout.specs.Scan.{first}
use Rattle.layout.specs.Sdec.{names}
use Rattle.layout.specs.Body.{group_place, text_at}
use Rattle.layout.specs.Asked.{group_named}
use Rattle.layout.proofs.Same.{same_is}
use Rattle.layout.proofs.Scans.{first_within, first_grown}
use Rattle.read_names.specs.Marks.{mark}
use Rattle.read_met.specs.declared.table.Share.{Share}
use Rattle.read_met.specs.Table.{met, Meeting, looked_at}
use Rattle.read_met.specs.Before.{Marks, taken, taken_in, again_in, NameMet, NamedBefore}
use Rattle.read_met.proofs.Naming.{has_part, named_start}

-- ---- one name

module _ (s : List ℕ) (n : ℕ) (share : Share) (name table : List ℕ) (m : ℕ) (e : m ≡ mark name) where
  -- not of the share looked at
  pub name_skipped : looked_at share m ≡ false → NameMet s n share name false table table
  unfolding taken_in
  name_skipped h =
      record {
        answer = rw (← e, h);
        here = λ l. absurd (false≢true (sym h ∙ rw (← e) at l));
        kept = λ other l. l;
      }

  module _ (h : looked_at share m ≡ true) (new : List ℕ) (r : Bool) (meets : Meeting table new m r) where
    pub name_asked : (b : Bool) → b ≡ ltb (group_named s n name) n → NameMet s n share name b table new
    unfolding taken_in taken
    name_asked b q = record { answer = rw (← e, h) q; here = λ l. rw (← e) meets.here; kept = meets.kept }

    -- one that was not met is no name of the n groups
    pub unmet_new : Marks s n share table → r ≡ false → n ≤ group_named s n name
    unmet_new known f = go (dec_lt (group_named s n name) n)
      where
        go : Dec (group_named s n name < n) → n ≤ group_named s n name
        go (yes l) = absurd (false≢true (sym f ∙ (meets.answer ∙ (ap (met table) e ∙ known.each name (rw (← e) h) l))))
        go (no l) = omega arith

-- ---- the n groups before

-- every name of a text, of the share looked at, was met
abbrev Noted : Share → List ℕ → List ℕ → Type 0
Noted share text table = (name : List ℕ) → looked_at share (mark name) ≡ true → has (names text) name ≡ true → met table (mark name) ≡ true

module _ (s : List ℕ) (n : ℕ) (share : Share) (table : List ℕ) (known : Marks s n share table) where
  marks_kept : (name new : List ℕ) (r : Bool) → NameMet s n share name r table new → Marks s n share new
  marks_kept name new r meets = record { each = λ other h l. meets.kept (mark other) (known.each other h l) }

  -- with the names of group number n it is the table of n + 1
  marks_next : Noted share (text_at s (group_place s n)) table → Marks s (n + 1) share table
  unfolding has_part
  marks_next own = record { each = λ name h l. old name h l (dec_lt (group_named s n name) n) }
    where
      new : (name : List ℕ) (b : Bool) → looked_at share (mark name) ≡ true → has_part s name n ≡ b → group_named s (n + 1) name ≡ cond b n (n + 1) → group_named s (n + 1) name < n + 1
          → met table (mark name) ≡ true
      new name true h e g l = own name h e
      new name false h e g l = absurd (omega arith)

      old : (name : List ℕ) → looked_at share (mark name) ≡ true → group_named s (n + 1) name < n + 1 → Dec (group_named s n name < n) → met table (mark name) ≡ true
      old name h l (yes a) = known.each name h a
      old name h l (no a) =
          let q : first (has_part s name) 0 n ≡ n = omega (arith, first_within (has_part s name) n, named_start s name n) in
          new name (has_part s name n) h refl (named_start s name (n + 1) ∙ first_grown (has_part s name) n q) l

pub marks_start : (s : List ℕ) (share : Share) (table : List ℕ) → Marks s 0 share table
marks_start s share table = record { each = λ name h l. absurd (omega arith) }

-- ---- the names of a text, of which ns are still to come

-- the others were met
unfoldable pub Passed : Share → List ℕ → List (List ℕ) → List ℕ → Type 0
Passed share t ns table = (name : List ℕ) → looked_at share (mark name) ≡ true → has (names t) name ≡ true → has ns name ≡ false → met table (mark name) ≡ true

module _ (share : Share) (t : List ℕ) where
  passed_start : (table : List ℕ) → Passed share t (names t) table
  unfolding Passed
  passed_start table name l h f = absurd (false≢true (sym f ∙ h))

  passed_next : (s : List ℕ) (n : ℕ) (y : List ℕ) (ns : List (List ℕ)) (r : Bool) (table new : List ℕ) → NameMet s n share y r table new → Passed share t (y ∷ ns) table → Passed share t ns new
  unfolding Passed has
  passed_next s n y ns r table new meets before name l h f = go (same y name) refl
    where
      go : (b : Bool) → same y name ≡ b → met new (mark name) ≡ true
      go true q = let z = same_is y name q in rw (← z) (meets.here (rw z l))
      go false q = meets.kept (mark name) (before name l h (rw q f))

  passed_end : (table : List ℕ) → Passed share t [] table → Noted share t table
  unfolding Passed has
  passed_end table before name k h = before name k h refl

-- ---- the pass over the names of group number n

-- its names but ns were met, and the answer is that of ns
pub record Passing (s : List ℕ) (n : ℕ) (share : Share) (ns : List (List ℕ)) (table : List ℕ) : Type 0 where
  pub known : Marks s n share table
  pub own : Passed share (text_at s (group_place s n)) ns table
  pub rest : again_in share s n ≡ any (taken_in share s n) ns

module _ (s : List ℕ) (n : ℕ) (share : Share) (table : List ℕ) where
  pub passing_start : Marks s n share table → Passing s n share (names (text_at s (group_place s n))) table
  unfolding again_in
  passing_start known = record { known = known; own = passed_start share (text_at s (group_place s n)) table; rest = refl }

  module _ (y : List ℕ) (ns : List (List ℕ)) (so : Passing s n share (y ∷ ns) table) (new : List ℕ) where
    pub passing_taken : NameMet s n share y true table new → NamedBefore s n share true new
    unfolding any
    passing_taken meets = record { answer = sym (so.rest ∙ rw (← meets.answer) refl); noted = λ f. absurd (false≢true (sym f)) }

    pub passing_next : NameMet s n share y false table new → Passing s n share ns new
    unfolding any
    passing_next meets =
        record {
          known = marks_kept s n share table so.known y new false meets;
          own = passed_next share (text_at s (group_place s n)) s n y ns false table new meets so.own;
          rest = so.rest ∙ rw (← meets.answer) refl;
        }

  pub passing_end : Passing s n share [] table → NamedBefore s n share false table
  unfolding any
  passing_end so =
      record {
        answer = sym so.rest;
        noted = λ _. marks_next s n share table so.known (passed_end share (text_at s (group_place s n)) table so.own);
      }
