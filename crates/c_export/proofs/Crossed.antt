-- What the proofs of the calls share: the face's answer for what crossed, and as what crosses back.
use Prim.Native.Nat.{ℕ}
use mathlib.Core.Path.{◌≡◌, ap, subst, ◌∙◌}
use mathlib.Core.List.{List, map}
use Rattle.layout.specs.declared.edition.Edition.TheVariants.{First}
use Rattle.layout.specs.declared.record.SourceChannel.{SourceChannel}
use Rattle.layout.specs.Records.{SecondTable}
use Rattle.layout.specs.declared.lock.Override.{Override}
use Rattle.layout.specs.declared.record.Record.{Record}
use Rattle.layout.specs.declared.answer.Answered.{Answered}
use Rattle.layout.specs.declared.answer.Played.{Played}
use Rattle.layout.specs.declared.answer.Placed.{Placed}
use Rattle.layout.specs.declared.answer.Changed.{Changed}
use Rattle.layout.specs.Promises.{RecordEdited, FileEdited, NotePlaced}
use Rattle.layout.specs.Records.{record_of}
use Rattle.layout.specs.Screen.{field_set, changed}
use Rattle.c_row.specs.declared.row.Row.{Row}
use Rattle.c_row.specs.Rows.{channel, row_for}
use Rattle.c_export.specs.declared.answer.Edited.{Edited}
use Rattle.c_export.specs.Crossing.{edit_of}

-- a record edited by the record that a row stands for, as its caller asks
pub edited_by : (before after : List ℕ) (group source : ℕ) (new row : Record) (over asked : Override) (r : Answered) → new ≡ row → over ≡ asked → RecordEdited before group source new over r after → RecordEdited before group source row asked r after
edited_by before after group source new row over asked r e o p = subst (λ (x : Override). RecordEdited before group source row x r after) o (subst (λ (x : Record). RecordEdited before group source x over r after) e p)

-- .. and inside a style file
pub file_edited_by : (before after name : List ℕ) (source : ℕ) (new row : Record) (over asked : Override) (r : Answered) → new ≡ row → over ≡ asked → FileEdited before name source new over r after → FileEdited before name source row asked r after
file_edited_by before after name source new row over asked r e o p = subst (λ (x : Override). FileEdited before name source row x r after) o (subst (λ (x : Record). FileEdited before name source x over r after) e p)

-- the answer of a field set, with the record that it holds as a row
pub edit_told : (x y : Changed) (row : Row) → row ≡ row_for x.held → x ≡ y → record { number = x.number; place = x.place; held = row } ≡ edit_of y
edit_told x y row e h = ap {B = Edited} (λ (w : Row). record { number = x.number; place = x.place; held = w }) e ∙ ap edit_of h

-- the answer of who plays, its channels as numbers
pub players_told : (x y : Played) (numbers : List ℕ) → map channel numbers ≡ x.channels → x ≡ y
    → record { number = x.number; place = x.place; count = x.count; channels = map channel numbers } ≡ y
players_told x y numbers e h = ap {B = Played} (λ (cs : List SourceChannel). record { number = x.number; place = x.place; count = x.count; channels = cs }) e ∙ h

-- a note placed by a row's bytes, with the second table that the row tells
pub placed_with : (b : List ℕ) (second told : SecondTable) (root note : ℕ) (r : Placed) → second ≡ told → NotePlaced (record_of First b second 0) root note r → NotePlaced (record_of First b told 0) root note r
placed_with b second told root note r e p = subst (λ (x : SecondTable). NotePlaced (record_of First b x 0) root note r) e p

-- one field byte set of the record that a row stands for
pub changed_by : (new row : Record) (index value : ℕ) (x : Changed) → new ≡ row → x ≡ changed new (field_set new index value) → x ≡ changed row (field_set row index value)
changed_by new row index value x e h = h ∙ ap (λ (y : Record). changed y (field_set y index value)) e
