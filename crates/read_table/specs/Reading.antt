-- What a plan for reading a group's records says: the answer, and where the records stand in the body.
use Rattle.std.specs.Prelude.{ℕ, ◌+◌, ◌*◌, ◌≤◌, ◌≡◌, List, length, Result, Ok, Err}
use Rattle.layout.specs.declared.turn.Refusal.{Refusal}
use Rattle.layout.specs.Lists.{rows}
use Rattle.layout.specs.Answers.{refused, granted}
use Rattle.layout.specs.Group.{ctab_place, record_at}
use Rattle.layout.specs.Asked.{records_read}
use Rattle.layout.specs.declared.record.Record.{Record}
use Rattle.layout.specs.declared.answer.Counted.{Counted}
use Rattle.read_table.specs.declared.Reading.{Reading}

-- the answer of a plan: "on refusal counts and lengths are 0"
abbrev pub told_of : Result Reading Refusal → Counted
told_of (Err why) = record { number = why.number; place = why.place; count = 0 }
told_of (Ok r) = record { number = 0; place = 0; count = r.count }

-- the records that a plan names
abbrev pub planned_record : List ℕ → Reading → ℕ → Record
planned_record s r i = record_at r.edition s r.ctabs r.cntts r.seconds i

-- so many records are accepted; each is read off the body where it stands
pub record ReadingGranted (s : List ℕ) (group room : ℕ) (r : Reading) : Type 0 where
  pub records : records_read s group room ≡ granted (rows (planned_record s r) 0 r.count)
  pub fits : r.count ≤ room
  pub ctabs : ctab_place r.edition r.ctabs r.count ≤ length s
  pub cntts : r.cntts + 10 * r.seconds ≤ length s
  pub few : r.seconds ≤ 16

-- refused, or accepted with such a plan
abbrev pub ReadingPlanned : List ℕ → ℕ → ℕ → Result Reading Refusal → Type 0
ReadingPlanned s group room (Err why) = records_read s group room ≡ refused why.number why.place
ReadingPlanned s group room (Ok r) = ReadingGranted s group room r
