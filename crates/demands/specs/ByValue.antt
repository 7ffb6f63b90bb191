-- Demand 1 of the lent forms by value (`casm_by_value`), for programs that pass a table or a record instead of lending it. `set_with` promises `FieldSet`, so what is said of `set_field` is said of it.
use Rattle.std.specs.Prelude.{ℕ, ◌≡◌, List, length, take, drop}
use Rattle.layout.specs.declared.record.Record.{Record}
use Rattle.layout.specs.declared.answer.Measured.{Measured}
use Rattle.layout.specs.Promises.{RecordsRead, GroupWritten}
use Rattle.casm_by_value.specs.declared.Filled.{Filled}
use Rattle.casm_by_value.proofs.read_with_room.Statement as read_with_room
use Rattle.casm_by_value.proofs.write.write_with.Statement as write_with
use Rattle.casm_by_value.proofs.set_with.Statement as set_with
use Rattle.law_refusals.specs.After.{RecordsAsked}
use Rattle.law_refusals.specs.Records.{WriteRefused}
use Rattle.demands.specs.ForC.{Refusing}

-- "every call takes every input and ends"
pub record EveryFormEnds (M : Type 1) : Type 2 where
  pub read_with_room_ends : read_with_room.statement M
  pub write_with_ends : write_with.statement M
  pub set_with_ends : set_with.statement M

-- read_with_room: on refusal the whole table is as it was
abbrev pub ReadWithRoomRefuses : Type 0
ReadWithRoomRefuses =
    (body : List ℕ) (group : ℕ) (start : List Record) (room : ℕ) (b : Filled)
    → RecordsRead body group (take room start) b.answer (take room b.table) × (drop room b.table ≡ drop room start)
    → Refusing (RecordsAsked body group (length (take room start))) b.answer.number b.answer.place ((b.table ≡ start) × (b.answer.count ≡ 0))

-- write_with
abbrev pub WriteWithRefuses : Type 0
WriteWithRefuses =
    (text : List ℕ) (records : List Record) (lent count : ℕ) (before : List ℕ) (r : Measured) (after : List ℕ) → GroupWritten text (take lent records) count before r after
    → Refusing (WriteRefused text (take lent records) count (length before)) r.number r.place ((after ≡ before) × (r.length ≡ 0))
