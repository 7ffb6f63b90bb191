-- What crosses to C has the fields of the layout's answer one by one: it is given back by the answer that it stands for, so two that stand for one answer are one.
use Prim.Native.Nat.{ℕ}
use mathlib.Core.Path.{◌≡◌, refl, sym, ap, ◌∙◌}
use mathlib.Core.List.{List, [], ◌∷◌, ◌++◌, map}
use lib.ListN.{take, drop, take-append-drop}
use Rattle.layout.specs.declared.record.SourceChannel.{SourceChannel}
use Rattle.layout.specs.declared.answer.Played.{Played}
use Rattle.c_row.specs.Rows.{channel}
use Rattle.c_export.specs.declared.answer.Players.{Players}
use Rattle.c_export.specs.Crossing.{as_played}
use Rattle.law_salvage.specs.Determined.{Determines, DeterminesBoth}

-- ---- a promise about what an answer stands for

module _ {A B : Type 0} (told : A → B) (back : B → A) (once : (x : A) → back (told x) ≡ x) where
  told_once : (x y : A) → told x ≡ told y → x ≡ y
  told_once x y e = sym (once x) ∙ (ap back e ∙ once y)

  -- it determines the answer, where it determines what that stands for ..
  pub crossing_determines : (P : B → Type 0) → Determines P → Determines (λ (x : A). P (told x))
  crossing_determines P d x y p q = told_once x y (d (told x) (told y) p q)

  -- .. and so with lent memory at exit
  pub crossing_determines_both : {C : Type 0} (P : B → C → Type 0) → DeterminesBoth P → DeterminesBoth (λ (x : A) (u : C). P (told x) u)
  crossing_determines_both P d x y u v p q =
      let both = d (told x) (told y) u v p q in
      (told_once x y both.0, both.1)

-- ---- source channels as numbers

-- the number of a source channel
abbrev pub channel_number : SourceChannel → ℕ
channel_number c = c.0

pub numbers_back : (ns : List ℕ) → map channel_number (map channel ns) ≡ ns
numbers_back [] = refl
numbers_back (n ∷ ns) = ap (λ (ms : List ℕ). n ∷ ms) (numbers_back ns)

-- the players that cross, by what they stand for
abbrev pub players : Played → Players
players p = record { number = p.number; place = p.place; count = p.count; channels = map channel_number p.channels }

pub players_back : (r : Players) → players (as_played r) ≡ r
players_back r = ap {B = Players} (λ (ns : List ℕ). record { number = r.number; place = r.place; count = r.count; channels = ns }) (numbers_back r.channels)

-- ---- a list in two parts

-- it is known by its first part and the rest
pub by_parts : {A : Type 0} (n : ℕ) (xs ys : List A) → take n xs ≡ take n ys → drop n xs ≡ drop n ys → xs ≡ ys
by_parts n xs ys e f = sym (take-append-drop n xs) ∙ (ap (λ zs. zs ++ drop n xs) e ∙ (ap (λ zs. take n ys ++ zs) f ∙ take-append-drop n ys))
