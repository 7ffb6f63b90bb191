-- Document 02, §4, "The second edition": what is new for it. That accepted bytes are given back, that an allowed group is read back, that an edit and a field are read so, and when each refusal is given (21 among them)
-- stands for both editions in Rounds and Refusals; damage that stays local, with groups of both editions mixed, in Salvage.
use Rattle.std.specs.Prelude.{ℕ, ◌<◌, ◌≤◌, ◌≡◌, List, get_or}
use Rattle.layout.specs.declared.edition.Edition.{Edition}
use Rattle.layout.specs.Scan.{Ended}
use Rattle.layout.specs.Group.{Sound}
use Rattle.layout.specs.declared.record.Record.{Record}
use Rattle.layout.specs.declared.record.Triple.{Triple}
use Rattle.layout.specs.declared.record.Single.{Single}
use Rattle.layout.specs.declared.record.Form.TheVariants.{One, Three}
use Rattle.layout.specs.Refusals.{root_fixed}
use Rattle.layout.specs.Records.{blank, edition_of}
use Rattle.layout.specs.Answers.{refused}
use Rattle.layout.specs.Lists.{All}
use Rattle.layout.specs.Group.{payload, group_at, group_of}
use Rattle.layout.specs.Body.{body_run}
use Rattle.layout.specs.Salvage.{Entry, salvage}
use Rattle.layout.specs.Plays.{root_count}
use Rattle.layout.specs.Place.{note_count, effective, set_for, note_placed}
use Rattle.law_refusals.specs.Body.{Recorded}
use Rattle.law_refusals.specs.Records.{InRange}

-- "6 for a Ctb2 beside a Ctab or Cntt in a group": the records of a group that is accepted are all of its edition ..
abbrev pub GroupOfOneEdition : Type 0
GroupOfOneEdition =
    (p : List ℕ) (edition : Edition) (text ctabs cntts : ℕ) → group_at p ≡ Sound edition text ctabs cntts
    → (i : ℕ) → i < ctabs → edition_of (get_or (group_of edition (payload p) text ctabs cntts).records i blank) ≡ edition

-- .. and so are the groups with records of a body that is accepted; "one without records suits either"
abbrev pub BodyOfOneEdition : Type 0
BodyOfOneEdition = (s : List ℕ) (n : ℕ) → body_run s ≡ Ended n → (i j : ℕ) (e f : Edition) → i < j → j < n → Recorded s i e → Recorded s j f → e ≡ f

-- "a set's table is its effective table": a note is placed as a Ctab would place it that has the set which the note uses, with the set's table as its effective table
abbrev pub PlacedByItsSet : Type 0
PlacedByItsSet =
    (r q : Record) (three : Triple) (one : Single) (root note : ℕ) → r.form ≡ Three three → q.form ≡ One one → InRange r → InRange q
    → q.root ≡ r.root → one.set.rule ≡ (set_for (Three three) note).rule → effective one.second one.set.table ≡ (set_for (Three three) note).table
    → one.set.key ≡ (set_for (Three three) note).key → one.set.low ≡ (set_for (Three three) note).low → one.set.high ≡ (set_for (Three three) note).high
    → note_placed r root note ≡ note_placed q root note

-- "placement under rule 2 always answers 17, after 9"
abbrev pub RuleTwoIsRefused : Type 0
RuleTwoIsRefused =
    (r : Record) (root note : ℕ) → root < root_count → note < note_count → InRange r → (set_for r.form note).rule ≡ 2 → note_placed r root note ≡ refused root_fixed 0

-- "the salvage list takes each group by itself, so it may show both": 12, 13 and 21 are no entry's kind
abbrev pub EachGroupByItself : Type 0
EachGroupByItself = (s : List ℕ) → All (λ (e : Entry). e.kind ≤ 11) (salvage s)
