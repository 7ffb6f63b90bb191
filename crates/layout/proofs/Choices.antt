-- A choice by a test: what holds of each way, where the test goes that way, holds of the choice.
use mathlib.Core.Path.{◌≡◌, refl}
use mathlib.Core.Bool.{Bool, true, false, cond}

pub either : {A : Type 0} (T : A → Type 0) (b : Bool) (t u : A) → (b ≡ true → T t) → (b ≡ false → T u) → T (cond b t u)
either T true t u f g = f refl
either T false t u f g = g refl
