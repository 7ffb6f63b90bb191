-- Looking for the record of a source channel in a group: the answer as the code carries it.
use Rattle.std.specs.Prelude.{ℕ, cond, ltb, Option, Some, None, Result, Ok, Err}
use Rattle.layout.specs.declared.turn.Refusal.{Refusal}
use Rattle.layout.specs.Answers.{Answer, refused, granted}
use Rattle.layout.specs.Asked.{Whereabouts}
use Rattle.layout.specs.declared.edition.Edition.{Edition}
pub use Rattle.read_find.specs.declared.row.Row.{Row}

-- a refusal, or the record's edition, its number and the place of its byte 0
abbrev pub Sought : Type 0
Sought = Result Row Refusal

abbrev pub Refused : ℕ → ℕ → Sought
Refused number place = Err (record { number = number; place = place })

abbrev pub At : Edition → ℕ → ℕ → Sought
At e row at = Ok (record { edition = e; row = row; at = at })

-- the number of a Ctab among n; there is none where it is n
unfoldable pub row_among : ℕ → ℕ → Option ℕ
row_among n k = cond (ltb k n) (Some k) None

unfoldable pub sought : Answer Whereabouts → Sought
sought (refused number place) = Refused number place
sought (granted row) = At row.edition row.index row.at
