-- "Show that no two results can satisfy one promise": what that says of a promise.
use Rattle.std.specs.Prelude.{◌≡◌}

-- two results that satisfy it for the same input are one
abbrev pub Determines : {A : Type 0} → (A → Type 0) → Type 0
Determines {A = A} Promise = (x y : A) → Promise x → Promise y → x ≡ y

-- .. and so are two states of lent memory at exit
abbrev pub DeterminesBoth : {A B : Type 0} → (A → B → Type 0) → Type 0
DeterminesBoth {A = A} {B = B} Promise = (x y : A) (u v : B) → Promise x u → Promise y v → (x ≡ y) × (u ≡ v)
