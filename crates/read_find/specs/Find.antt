-- Looking for a group of a body: the body's refusal, no such group, or where it stands.
use Rattle.std.specs.Prelude.{ℕ, cond, List, leb, Option, Some, None, Result, Ok, Err}
use Rattle.layout.specs.Scan.{Run}
use Rattle.layout.specs.declared.turn.Refusal.{Refusal}
use Rattle.layout.specs.Body.{body_run}
use Rattle.layout.specs.declared.answer.Standing.{Standing}
use Rattle.layout.specs.Asked.{standing, group_named}
pub use Rattle.read_find.specs.declared.Stands.{Stands}

-- what looking comes to: the body is refused, with the number and the place; it has no such group; or the group's number, and where it and its parts stand
abbrev pub Search : Type 0
Search = Result (Option Stands) Refusal

abbrev pub Refused : ℕ → ℕ → Search
Refused number place = Err (record { number = number; place = place })

abbrev pub Missing : Search
Missing = Ok None

abbrev pub Found : ℕ → Standing → Search
Found k x = Ok (Some (record { group = k; standing = x }))

-- what is looked for among n groups where the body is accepted
abbrev pub among : Run → (ℕ → Search) → Search
among (Err why) look = Err why
among (Ok n) look = look n

-- group number k of n
abbrev pub numbered : List ℕ → ℕ → ℕ → Search
numbered s n k = cond (leb n k) Missing (Found k (standing s k))

-- group number g
unfoldable pub group_located : List ℕ → ℕ → Search
group_located s g = among (body_run s) (λ n. numbered s n g)

-- the group that has the part
unfoldable pub part_located : List ℕ → List ℕ → Search
part_located s name = among (body_run s) (λ n. numbered s n (group_named s n name))

-- what was found, or the refusal; no such group is refused with a number
unfoldable pub told : ℕ → Search → Result Stands Refusal
told number (Err why) = Err why
told number (Ok None) = Err (record { number = number; place = 0 })
told number (Ok (Some x)) = Ok x
