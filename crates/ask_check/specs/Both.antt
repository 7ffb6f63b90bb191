-- Looking for the record where both bodies are to be readable: the answer as the code carries it.
use Rattle.std.specs.Prelude.{ℕ, Result, Ok, Err}
use Rattle.layout.specs.Scan.{Run}
use Rattle.layout.specs.Answers.{Answer}
use Rattle.layout.specs.Asked.{Whereabouts}
use Rattle.layout.specs.declared.edition.Edition.{Edition}
use Rattle.read_find.specs.Row.{Sought, sought}
use Rattle.ask_check.specs.declared.both.RecordAt.{RecordAt}
use Rattle.ask_check.specs.declared.both.NoRecord.{NoRecord}
use Rattle.ask_check.specs.declared.both.NoRecord.TheVariants.{InBefore, InAfter, Nowhere}

-- the before body is refused, with the number and the place; the after body is; no such group or channel, with the number; or the record's edition and the place of its byte 0
abbrev pub Both : Type 0
Both = Result RecordAt NoRecord

abbrev pub Before : ℕ → ℕ → Both
Before number place = Err (InBefore (record { number = number; place = place }))

abbrev pub After : ℕ → ℕ → Both
After number place = Err (InAfter (record { number = number; place = place }))

abbrev pub Without : ℕ → Both
Without number = Err (Nowhere number)

abbrev pub At : Edition → ℕ → Both
At e at = Ok (record { edition = e; at = at })

-- what was found in a group of the before body
unfoldable pub row_told : Sought → Both
row_told (Err why) = Without why.number
row_told (Ok row) = At row.edition row.at

-- the after body's refusal, or what was found in the before body
unfoldable pub unless_stopped : Run → Both → Both
unless_stopped (Err why) found = After why.number why.place
unless_stopped (Ok n) found = found

-- what the two bodies come to, and the search in the before body
unfoldable pub both_found : Run → Run → Answer Whereabouts → Both
both_found (Err why) after found = Before why.number why.place
both_found (Ok n) after found = unless_stopped after (row_told (sought found))
