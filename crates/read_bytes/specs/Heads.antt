-- What a reader makes of the number that a chunk's header is refused with.
use Rattle.std.specs.Prelude.{ℕ, cond, eqb, Result, Ok, Err}
use Rattle.layout.specs.Refusals.{accepted}
use Rattle.layout.specs.declared.turn.Refusal.{Refusal}

-- nothing where it is without fault, else the refusal at its place
unfoldable pub headed : ℕ → ℕ → Result (Unit {0}) Refusal
headed fault at = cond (eqb fault accepted) (Ok tt) (Err (record { number = fault; place = at }))
