-- What a plan for reading a group's records says: one law for each way out. The records of a group that was found are those that stand where it says.
use Prim.Native.Nat.{ℕ, ◌+◌, ◌*◌, ◌≤◌, ◌<◌}
use native.Mathlib.Omega.{arith}
use mathlib.Core.Path.{◌≡◌, ◌∙◌}
use mathlib.Core.Bool.{cond}
use mathlib.Core.List.{List}
use lib.Dec.{ltb}
use lib.ListN.{length, drop}
use borrow.Author.Tests.{lt-ltb, le-ltb}
use Rattle.layout.specs.declared.record.Record.{Record}
use Rattle.layout.specs.declared.answer.Counted.{Counted}
use Rattle.layout.specs.declared.answer.Standing.{Standing}
use Rattle.layout.specs.Lists.{rows}
use Rattle.layout.specs.Answers.{refused, granted, number_of, place_of, value_or, counted_all}
use Rattle.layout.specs.Group.{ctab_place, record_at}
use Rattle.layout.specs.Body.{group_place, group_no}
use Rattle.layout.specs.Asked.{standing_at, standing, records_read}
use Rattle.layout.proofs.Lists.{rows_length}
use Rattle.layout.proofs.Ctabs.{place_before}
use Rattle.layout.proofs.RecordBytes.{records_there}
use Rattle.layout.proofs.Accepted.{body_accepted}
use Rattle.layout.proofs.Sixteen.{group_cntts}
use Rattle.std.specs.Prelude.{Result, Ok, Err}
use Rattle.layout.specs.declared.turn.Refusal.{Refusal}
use Rattle.read_find.specs.Find.{group_located, told}
use Rattle.read_find.proofs.AskLaws.{There, there_within, of_told, of_found}
use Rattle.read_table.specs.declared.Reading.{Reading}
use Rattle.read_table.specs.Reading.{told_of, planned_record, ReadingGranted, ReadingPlanned}

-- ---- a group that was found

-- the records that stand where a standing says
abbrev stand_records : List ℕ → Standing → List Record
stand_records s x = rows (record_at x.edition s x.ctabs x.cntts x.seconds) 0 x.records

pub found_records : (s : List ℕ) (g : ℕ) (x : Standing) → There s g x → (group_no s g).records ≡ stand_records s x
unfolding group_no standing standing_at
found_records s g x there =
    let more = (body_accepted s there.count there.run).each g there.below in
    rw (← there.stands) (rw (more.sound, standing_at) (rw more.sound at (records_there s (group_place s g) more.edition more.text more.ctabs more.cntts more.sound)))

-- its Cntts are at most sixteen
found_few : (s : List ℕ) (g : ℕ) (x : Standing) → There s g x → x.seconds ≤ 16
unfolding standing standing_at
found_few s g x there =
    let more = (body_accepted s there.count there.run).each g there.below in
    rw (← there.stands) (rw (more.sound, standing_at) (group_cntts (drop (group_place s g) s) more.edition more.text more.ctabs more.cntts more.sound))

-- ---- the ways out

module _ (s : List ℕ) (g room : ℕ) where
  pub read_refused : (why : Refusal) → told 16 (group_located s g) ≡ Err why → records_read s g room ≡ refused why.number why.place
  unfolding records_read
  read_refused why h = of_told s g _ why h

  module _ (x : Standing) (there : There s g x) where
    -- what is asked of the group
    asked : records_read s g room ≡ cond (ltb room x.records) (refused 14 0) (granted (stand_records s x))
    unfolding records_read
    asked =
        let e = found_records s g x there in
        let n = rows_length (record_at x.edition s x.ctabs x.cntts x.seconds) 0 x.records in
        of_found s g _ x there ∙ rw e (rw n)

    pub read_short : room < x.records → records_read s g room ≡ refused 14 0
    read_short h = asked ∙ rw (lt-ltb room x.records h)

    pub planned_all : x.records ≤ room
        → ReadingGranted s g room (record { count = x.records; edition = x.edition; ctabs = x.ctabs; cntts = x.cntts; seconds = x.seconds })
    planned_all h =
        let w = there_within s g x there in
        record { records = asked ∙ rw (le-ltb room x.records h); fits = h; ctabs = w.ctabs; cntts = w.cntts; few = found_few s g x there }

-- ---- a plan carried out

-- its answer is that of the question
pub told_answer : (s : List ℕ) (g room : ℕ) (p : Result Reading Refusal) (r : Counted) → ReadingPlanned s g room p → r ≡ told_of p → r ≡ counted_all (records_read s g room)
unfolding counted_all number_of place_of value_or
told_answer s g room (Err why) r h e = rw (e, h)
told_answer s g room (Ok x) r h e = rw (e, h.records, rows_length (planned_record s x) 0 x.count)

-- the bounds that carrying it out needs
module _ (s : List ℕ) (g room : ℕ) (p : Reading) (h : ReadingGranted s g room p) (i : ℕ) (l : i < p.count) where
  pub planned_within : (ctab_place p.edition p.ctabs (i + 1) ≤ length s) × ((p.cntts + 10 * p.seconds ≤ length s) × (p.seconds ≤ 16))
  planned_within = (omega (arith, h.ctabs, place_before p.edition p.ctabs i p.count l), (h.cntts, h.few))
