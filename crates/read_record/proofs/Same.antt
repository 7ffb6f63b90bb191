-- The derived `==` of two editions is `alike`.
use mathlib.Core.Path.{◌≡◌, refl, sym, ◌∙◌}
use mathlib.Core.Bool.{Bool, true, false, not}
use borrow.Author.Tests.{not-true, not-false}
use denote.Enum.Bare.{sameb}
use Rattle.layout.specs.contracts.edition.Edition.{the_type}
use Rattle.layout.specs.declared.edition.Edition.{Edition}
use Rattle.layout.specs.declared.edition.Edition.TheVariants.{First, Second}
use Rattle.layout.specs.Editions.{alike}

pub edition_same : (a b : Edition) → sameb the_type a b ≡ alike a b
unfolding alike
edition_same First First = refl
edition_same First Second = refl
edition_same Second First = refl
edition_same Second Second = refl

-- .. and their `!=` is its opposite
module _ (d e : Edition) (ne : Bool) (is : ne ≡ not (sameb the_type d e)) where
  pub unlike_told : ne ≡ true → alike d e ≡ false
  unlike_told t = sym (edition_same d e) ∙ not-true _ (sym is ∙ t)

  pub alike_told : ne ≡ false → alike d e ≡ true
  alike_told t = sym (edition_same d e) ∙ not-false _ (sym is ∙ t)
