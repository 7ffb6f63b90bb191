-- What the records looked at so far come to: the refusal, or the edition of the first, which source channels they have (a bit for each), the group's length so far, and their Cntts, each laid down at its position.
use Rattle.std.specs.Prelude.{ℕ, zero, suc, ◌+◌, ◌*◌, ◌-◌, ◌^◌, ◌<◌, ◌≤◌, ◌≡◌, Bool, cond, not, ◌&&◌, List, [], ◌++◌, ltb, leb, eqb, length, get_or, set, replicate, Result, Ok, Err, None, Some}
use Rattle.std.specs.Int.Bits.{bit_or}
use Rattle.layout.specs.declared.answer.Measured.{Measured}
use Rattle.layout.specs.declared.record.Record.{Record}
use Rattle.layout.specs.Records.{SecondTable}
use Rattle.layout.specs.Records.{Absent}
use Rattle.layout.specs.Bytes.{CSEG, Sdec, four, chunk}
use Rattle.layout.specs.Refusals.{accepted, bad_text, out_of_range, channel_again, no_room, bad_number, bad_positions, other_edition}
use Rattle.layout.specs.Plays.{bit}
use Rattle.layout.specs.declared.turn.Refusal.{Refusal}
use Rattle.layout.specs.declared.edition.Edition.{Edition}
use Rattle.layout.specs.declared.edition.Edition.TheVariants.{First, Second}
use Rattle.layout.specs.Editions.{size, held, alike}
use Rattle.layout.specs.Records.{blank, channel_of, edition_of, second_in, position_in, first_bad}
use Rattle.layout.specs.Sdec.{sound_text}
use Rattle.layout.specs.Write.{cntt_count}
use Rattle.write_plan.specs.declared.Checked.{Checked}
use Rattle.write_plan.specs.declared.Taken.{Taken}
use Rattle.write_plan.specs.declared.Plan.{Plan}

-- what they come to: so much is accepted, or the refusal
abbrev pub Looks : Type 0
Looks = Result Checked Refusal

abbrev pub refused_at : ℕ → ℕ → Looks
refused_at number place = Err (record { number = number; place = place })

-- before the first of the records of a lent table of so many: 16, then 8
unfoldable pub first_checked : List ℕ → ℕ → ℕ → Looks
first_checked text lent count =
    cond (ltb lent count) (refused_at bad_number 0)
    (cond (not (sound_text text)) (refused_at bad_text 0)
    (Ok (record { records = count; edition = First; length = 16 + length text; seen = 0; seconds = 0; reach = 0 })))

-- how many records are to be looked at: on refusal none
unfoldable pub records_in : Looks → ℕ
records_in (Ok x) = x.records
records_in (Err why) = 0

-- no Cntt laid down
abbrev pub no_cntts : List ℕ
no_cntts = replicate 32 0

abbrev pub begun : List ℕ → ℕ → ℕ → Taken
begun text lent count = record { checked = first_checked text lent count; cntts = no_cntts }

-- ---- a record's edition, and what goes by it

-- the edition that record number i must have, where the first is of this one: it is the first's
unfoldable pub due : ℕ → Edition → Edition → Edition
due i first own = cond (eqb i 0) own first

-- the bytes of a record's chunks: its Ctab, and so many Cntts
unfoldable pub chunks_size : Edition → ℕ → ℕ
chunks_size e cntts = 8 + size e + 10 * cntts

-- the second table and the position that a record of an edition has of those given: a Ctb2 has none
unfoldable pub first_only : {A : Type 0} → Edition → A → A → A
first_only First given none = given
first_only Second given none = none

abbrev pub second_by : Edition → SecondTable → SecondTable
second_by e second = first_only e second Absent

abbrev pub position_by : Edition → ℕ → ℕ
position_by e position = first_only e position 0

-- ---- the Cntts laid down: that of position p, from 1 to 16, has its channel at 2 * p - 2 and its value, which is never 0, behind it

-- a position is 1 to 16, and nothing is laid down there
unfoldable pub free : List ℕ → ℕ → Bool
free cntts position = ltb 0 position && (leb position 16 && eqb (get_or cntts (2 * position - 1) 0) 0)

-- the Cntt of a record laid down with those before, where its position is free
unfoldable pub laid_down : List ℕ → ℕ → ℕ → SecondTable → List ℕ
laid_down cntts position channel None = cntts
laid_down cntts position channel (Some v) =
    cond (free cntts position) (set (set cntts (2 * position - 2) channel) (2 * position - 1) v) cntts

-- more Cntts than a group has
abbrev pub never : ℕ
never = 17

-- how many Cntts there must be for a record's position to be right: as many as its number, or more than a group has where it is wrong however many follow
unfoldable pub claimed : List ℕ → ℕ → SecondTable → ℕ
claimed cntts position None = cond (eqb position 0) 0 never
claimed cntts position (Some v) = cond (free cntts position) position never

-- the larger of two
unfoldable pub larger : ℕ → ℕ → ℕ
larger a b = cond (ltb a b) b a

-- more records than any memory lends: a slice has fewer than 2^63 bytes, of which a record takes 48 and a row 51
abbrev pub records_never : ℕ
records_never = 200000000000000000

-- where record number i is looked at next: memory lends that many, and what is seen is no longer than a group with a text of 255 bytes and i records of 55 bytes, the longer of a Ctab with its Cntt and a Ctb2
abbrev pub Looking : Looks → ℕ → Type 0
Looking before i = (i < records_never) × ((x : Checked) → before ≡ Ok x → (x.length ≤ 271 + 55 * i) × (x.seconds ≤ i))

-- record number i looked at: 21, 9, then 10, places counted by the size of the first; a refusal stays
unfoldable pub looked : List ℕ → Looks → ℕ → Record → Looks
looked cntts (Err why) i r = Err why
looked cntts (Ok x) i r =
    let e = due i x.edition (edition_of r) in
    cond (not (alike e (edition_of r))) (refused_at other_edition (size e * i))
    (cond (ltb (first_bad r) (held (edition_of r))) (refused_at out_of_range (size e * i + first_bad r))
    (cond (bit x.seen (channel_of r)) (refused_at channel_again (size e * i))
    (Ok (record {
      records = x.records;
      edition = e;
      length = x.length + chunks_size e (cntt_count (second_in r));
      seen = bit_or x.seen (2 ^ channel_of r);
      seconds = x.seconds + cntt_count (second_in r);
      reach = larger x.reach (claimed cntts (position_in r) (second_in r));
    }))))

-- the Cntts laid down after it: where it is accepted, its own at its position
unfoldable pub laid_where : Looks → List ℕ → List ℕ → List ℕ
laid_where (Ok x) laid cntts = laid
laid_where (Err why) laid cntts = cntts

unfoldable pub laid_after : List ℕ → Looks → ℕ → Record → List ℕ
laid_after cntts x i r = laid_where (looked cntts x i r) (laid_down cntts (position_in r) (channel_of r) (second_in r)) cntts

-- both
abbrev pub taken : Taken → ℕ → Record → Taken
taken t i r = record { checked = looked t.cntts t.checked i r; cntts = laid_after t.cntts t.checked i r }

-- the first n records
unfoldable pub taken_at : Taken → List Record → ℕ → Taken
taken_at t rs zero = t
taken_at t rs (suc n) = taken (taken_at t rs n) n (get_or rs n blank)

-- the first n records of a table are of one edition
abbrev pub OneEdition : Edition → List Record → ℕ → Type 0
OneEdition e rs n = (i : ℕ) → i < n → e ≡ edition_of (get_or rs i blank)

-- what writing comes to: the plan, or the refusal
abbrev pub Plans : Type 0
Plans = Result Plan Refusal

abbrev pub no_plan : ℕ → ℕ → Plans
no_plan number place = Err (record { number = number; place = place })

-- all records looked at, and so much room: 18 where a position claims more Cntts than there are; 14 comes last
unfoldable pub planned : Taken → ℕ → Plans
planned t room =
    elim t.checked [
      | Err why ↦ Err why
      | Ok x ↦
          cond (ltb x.seconds x.reach) (no_plan bad_positions 0)
          (cond (ltb room x.length) (no_plan no_room 0)
          (Ok (record { records = x.records; edition = x.edition; length = x.length; seconds = x.seconds; cntts = t.cntts })))
    ]

-- the answer of a plan
unfoldable pub measured_by : Plans → Measured
measured_by (Ok p) = record { number = accepted; place = 0; length = p.length }
measured_by (Err why) = record { number = why.number; place = why.place; length = 0 }

-- ---- what the plan writes before the records' chunks

-- the place where they go
unfoldable pub start_place : List ℕ → Plans → ℕ
start_place text (Ok p) = 16 + length text
start_place text (Err why) = 0

-- the group's header and its Sdec; nothing on refusal
unfoldable pub start_bytes : List ℕ → Plans → List ℕ
start_bytes text (Ok p) = CSEG ++ (four (p.length - 8) ++ chunk Sdec text)
start_bytes text (Err why) = []

-- the plan for a text, a lent table, a count and so much room
unfoldable pub plan_of : List ℕ → List Record → ℕ → ℕ → Plans
plan_of text rs count room =
    let t = begun text (length rs) count in
    planned (taken_at t rs (records_in t.checked)) room
