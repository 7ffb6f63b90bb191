-- What crosses to C, as the answers of the layout: field by field the same, under the names of include/casm.h.
use Rattle.std.specs.Prelude.{ℕ, ◌≡◌, Bool, cond, List, map, eqb}
use Rattle.c_row.specs.Rows.{channel, edition_by, edition_number, row_for}
use Rattle.layout.specs.Promises.{GroupFound}
use Rattle.layout.specs.declared.answer.Answered.{Answered}
use Rattle.layout.specs.declared.answer.Counted.{Counted}
use Rattle.layout.specs.declared.answer.Measured.{Measured}
use Rattle.layout.specs.declared.answer.Located.{Located}
use Rattle.layout.specs.declared.answer.Named.{Named}
use Rattle.layout.specs.declared.edition.Edition.{Edition}
use Rattle.layout.specs.declared.lock.Override.{Override}
use Rattle.layout.specs.declared.lock.Override.TheVariants.{NotAsked, Asked}
use Rattle.layout.specs.declared.answer.Standing.{Standing}
use Rattle.layout.specs.declared.answer.Grouped.{Grouped}
use Rattle.layout.specs.declared.answer.Channelled.{Channelled}
use Rattle.layout.specs.declared.answer.Spanned.{Spanned}
use Rattle.layout.specs.declared.answer.Played.{Played}
use Rattle.layout.specs.declared.answer.Placed.{Placed}
use Rattle.layout.specs.declared.answer.Changed.{Changed}
use Rattle.layout.specs.declared.answer.Sited.{Sited}
use Rattle.layout.specs.declared.answer.Which.{Which}
use Rattle.layout.specs.declared.answer.Which.TheVariants.{Neither, BeforeFile, AfterFile, BeforeBody, AfterBody}
use Rattle.layout.specs.declared.answer.Checked.{Checked}
use Rattle.c_export.specs.declared.answer.Answer.{Answer}
use Rattle.c_export.specs.declared.answer.Count.{Count}
use Rattle.c_export.specs.declared.answer.Length.{Length}
use Rattle.c_export.specs.declared.answer.Section.{Section}
use Rattle.c_export.specs.declared.answer.Holder.{Holder}
use Rattle.c_export.specs.declared.answer.Bounds.{Bounds}
use Rattle.c_export.specs.declared.answer.Position.{Position}
use Rattle.c_export.specs.declared.answer.Span.{Span}
use Rattle.c_export.specs.declared.answer.Players.{Players}
use Rattle.c_export.specs.declared.answer.Note.{Note}
use Rattle.c_export.specs.declared.answer.Edited.{Edited}
use Rattle.c_export.specs.declared.answer.Check.{Check}
use Rattle.c_export.specs.declared.answer.Site.{Site}

-- accepted or refused
abbrev pub answered : Answer → Answered
answered r = record { number = r.number; place = r.place }

-- a count
abbrev pub as_counted : Count → Counted
as_counted r = record { number = r.number; place = r.place; count = r.count }

-- the length of what was written
abbrev pub as_measured : Length → Measured
as_measured r = record { number = r.number; place = r.place; length = r.length }

-- the CASM section of a style file
abbrev pub as_located : Section → Located
as_located r = record { number = r.number; place = r.place; tag = r.tag; length = r.length }

-- the number of a group
abbrev pub as_named : Holder → Named
as_named r = record { number = r.number; place = r.place; group = r.group }

-- where a group and its parts stand
abbrev pub as_standing : Bounds → Standing
as_standing r =
    record {
      edition = edition_by r.edition;
      at = r.at;
      size = r.size;
      text = r.text_at;
      length = r.text_length;
      ctabs = r.records_at;
      records = r.records;
      cntts = r.cntts_at;
      seconds = r.cntts;
    }

-- one group
abbrev pub as_grouped : Bounds → Grouped
as_grouped r = record { number = r.number; place = r.place; group = as_standing r }

-- the number of the edition of so many records: 0 for a group without records, which suits either
unfoldable pub edition_told : Edition → ℕ → ℕ
edition_told e n = cond (eqb n 0) 0 (edition_number e)

-- one group is found, and its edition has that number
pub record GroupCrossed (body : List ℕ) (group : ℕ) (r : Bounds) : Type 0 where
  pub found : GroupFound body group (as_grouped r)
  pub edition : r.edition ≡ edition_told (as_standing r).edition r.records

-- the record of a source channel
abbrev pub as_channelled : Position → Channelled
as_channelled r = record { number = r.number; place = r.place; row = r.«record»; at = r.at }

-- a part of the lent bytes
abbrev pub as_spanned : Span → Spanned
as_spanned r = record { number = r.number; place = r.place; start = r.start; length = r.length }

-- the source channels that play
abbrev pub as_played : Players → Played
as_played r = record { number = r.number; place = r.place; count = r.count; channels = map channel r.channels }

-- the note
abbrev pub as_placed : Note → Placed
as_placed r = record { number = r.number; place = r.place; note = r.note }

-- a record after one field byte of it was set
abbrev pub edit_of : Changed → Edited
edit_of c = record { number = c.number; place = c.place; held = row_for c.held }

-- what a caller in C asks for: 1 overrides a lock, and any other number does not
unfoldable pub override_by : ℕ → Override
override_by n = cond (eqb n 1) Asked NotAsked

-- what stands at a place
abbrev pub as_sited : Site → Sited
as_sited r = record { number = r.number; place = r.place; group = r.group; child = r.child; chunk = r.chunk }

-- what a refusal of a check speaks of, by number
abbrev pub which_number : Which → ℕ
which_number Neither = 0
which_number BeforeFile = 1
which_number AfterFile = 2
which_number BeforeBody = 3
which_number AfterBody = 4

-- 1 for yes
abbrev pub yes_number : Bool → ℕ
yes_number b = cond b 1 0

-- what came back against what was sent
abbrev pub check_of : Checked → Check
check_of c = record { number = c.number; place = c.place; which = which_number c.which; yes = yes_number c.yes; unlike = c.unlike }
