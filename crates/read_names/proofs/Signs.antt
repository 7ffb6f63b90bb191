-- The names of a text so far, known by a bit each: one whose bit is not set is none of them.
use Prim.Native.Nat.{ℕ, ◌^◌}
use mathlib.Core.Path.{◌≡◌, refl, sym, ◌∙◌}
use mathlib.Core.Bool.{Bool, true, false, ◌||◌, or-false, false≢true}
use mathlib.Core.List.{List, [], ◌∷◌, ◌++◌}
use lib.Bits.{bit_or}
use lib.Dec.{eqb}
use borrow.Author.Tests.{eq-eqb}
use Rattle.layout.specs.Lists.{same, has}
use Rattle.layout.proofs.Same.{same_is}
use Rattle.read_names.specs.Marks.{sign}
use Rattle.read_names.proofs.Compare.{has_append}
use Rattle.read_names.proofs.Words.{or_again, or_kept}

-- each of the names has its bit in met
abbrev pub Met : ℕ → List (List ℕ) → Type 0
Met met names = (name : List ℕ) → has names name ≡ true → bit_or met (2 ^ sign name) ≡ met

pub met_none : (met : ℕ) → Met met []
unfolding has
met_none met name h = absurd (false≢true h)

module _ (met : ℕ) (names : List (List ℕ)) (known : Met met names) (name : List ℕ) (p : ℕ) (e : p ≡ 2 ^ sign name) where
  pub unmet_new : eqb (bit_or met p) met ≡ false → has names name ≡ false
  unmet_new h = go (has names name) refl
    where
      go : (b : Bool) → has names name ≡ b → b ≡ false
      go true q = absurd (false≢true (sym h ∙ eq-eqb (bit_or met p) met (rw e (known name q))))
      go false q = refl

  pub met_more : Met (bit_or met p) (names ++ name ∷ [])
  unfolding has
  met_more other h = rw e (go (same name other) refl (rw (has_append names (name ∷ []) other, has) at h))
    where
      go : (b : Bool) → same name other ≡ b → (has names other || (b || false)) ≡ true → bit_or (bit_or met (2 ^ sign name)) (2 ^ sign other) ≡ bit_or met (2 ^ sign name)
      go true q g = rw (← (same_is name other q)) (or_again met (2 ^ sign name))
      go false q g = or_kept met (2 ^ sign name) (2 ^ sign other) (known other (sym (or-false (has names other)) ∙ g))
