-- Demand 2, the round trips: bytes that are accepted are given back when written, and values that are allowed are given back when read.
use Prim.Native.Nat.{ℕ, ◌≤◌}
use mathlib.Core.Path.{◌≡◌}
use mathlib.Core.Logic.{◌↔◌}
use mathlib.Core.List.{List, flat_map}
use lib.ListN.{length, take, set}
use Rattle.layout.specs.declared.edition.Edition.{Edition}
use Rattle.layout.specs.declared.lock.Override.{Override}
use Rattle.layout.specs.declared.record.Record.{Record}
use Rattle.layout.specs.Records.{SecondTable}
use Rattle.layout.specs.Scan.{Ended}
use Rattle.layout.specs.Group.{Sound}
use Rattle.layout.specs.Records.{bytes_of, record_of, edition_of, second_in, position_in}
use Rattle.layout.specs.Editions.{held}
use Rattle.layout.specs.Answers.{granted}
use Rattle.layout.specs.Group.{payload, group_size, group_at, Group, group_of}
use Rattle.layout.specs.Body.{body_run, group_no}
use Rattle.layout.specs.Write.{group_bytes, Whole, Allowed}
use Rattle.layout.specs.Edit.{edited}
use Rattle.layout.specs.Screen.{field_set}
use Rattle.layout.proofs.Accepted.{body_accepted}
use Rattle.layout.proofs.BytesBack.{read_bytes}
use Rattle.law_rounds.specs.Rounds.{Bytes, groups_of, GroupRead, BodyAllowed, WrittenAs, EditRead}
use Rattle.law_rounds.proofs.RecordBack.{bytes_read, set_alone}
use Rattle.layout.proofs.Lists.{rows_length}
use Rattle.law_rounds.proofs.GroupRounds.{group_allowed, group_back, group_read}
use Rattle.law_rounds.proofs.BodyRounds.{body_back, body_allowed, body_run_lem, groups_back}
use Rattle.law_rounds.proofs.EditRounds.{edit_back}

-- a record's bytes are those that it was read from
pub bytes_back : (e : Edition) (b : List ℕ) (second : SecondTable) (position : ℕ) → held e ≤ length b → bytes_of (record_of e b second position) ≡ take (held e) b
bytes_back = read_bytes

-- a record that has all its bytes is read back from them
pub record_back : (r : Record) → Whole r → record_of (edition_of r) (bytes_of r) (second_in r) (position_in r) ≡ r
record_back = bytes_read

-- a sound group is given back byte for byte by writing it, and it may be written
pub group_read_written : (p : List ℕ) (ed : Edition) (t n m : ℕ) → Bytes p → group_at p ≡ Sound ed t n m
    → (group_bytes (group_of ed (payload p) t n m) ≡ take (group_size p) p) × Allowed (group_of ed (payload p) t n m)
group_read_written p ed t n m b e = (group_back p ed t n m e b, group_allowed p ed t n m e)

-- a group that may be written is read back from its bytes, whatever stands behind them
pub group_written_read : (g : Group) (x : List ℕ) → Allowed g → GroupRead g x
group_written_read g x a = group_read g a x

-- an accepted body is given back byte for byte by writing its groups, and they make a body
pub body_read_written : (s : List ℕ) (n : ℕ) → Bytes s → body_run s ≡ Ended n → (flat_map group_bytes (groups_of s n) ≡ s) × BodyAllowed (groups_of s n)
body_read_written s n b e = let h = body_accepted s n e in (body_back s n b h, body_allowed s n b h)

-- groups that make a body are accepted when written, and read back
pub body_written_read : (gs : List Group) → BodyAllowed gs
    → (body_run (flat_map group_bytes gs) ≡ Ended (length gs)) × (groups_of (flat_map group_bytes gs) (length gs) ≡ gs)
body_written_read gs a = (body_run_lem gs a, groups_back gs a)

-- a body that is accepted is the bytes of groups that make a body ..
pub accepted_is_written : (s : List ℕ) (n : ℕ) → Bytes s → body_run s ≡ Ended n → WrittenAs s n
accepted_is_written s n b e =
    let r = body_read_written s n b e in
    record { groups = groups_of s n; count = rows_length (group_no s) 0 n; allowed = r.1; bytes = r.0 }

-- .. and nothing else is
pub written_is_accepted : (s : List ℕ) (n : ℕ) → WrittenAs s n → body_run s ≡ Ended n
written_is_accepted s n w = rw (← w.bytes, ← w.count) (body_run_lem w.groups w.allowed)

pub accepted_exactly : (s : List ℕ) (n : ℕ) → Bytes s → (body_run s ≡ Ended n) ↔ WrittenAs s n
accepted_exactly s n b = (accepted_is_written s n b, written_is_accepted s n)

-- a body after an edit is read as the body before it but for that one record, whose Cntt is kept, with its position
pub edit_read : (s after : List ℕ) (g channel : ℕ) (new : Record) (over : Override) → Bytes s → Whole new → edited s g channel new over ≡ granted after → EditRead s after g channel new
edit_read = edit_back

-- a field byte that is set on the screen changes that byte of the record, and nothing else of it
pub field_alone : (r after : Record) (index value : ℕ) → field_set r index value ≡ granted after
    → (bytes_of after ≡ set (bytes_of r) index value) × ((second_in after ≡ second_in r) × (position_in after ≡ position_in r))
field_alone r after index value e = let x = set_alone r after index value e in (x.bytes, (x.second, x.position))

-- .. so its position is kept
pub field_keeps_position : (r after : Record) (index value : ℕ) → field_set r index value ≡ granted after → position_in after ≡ position_in r
field_keeps_position r after index value e = (set_alone r after index value e).position
