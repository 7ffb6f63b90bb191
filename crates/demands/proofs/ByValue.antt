-- Demand 1 of the lent forms by value: each by the proof of its function, and by the laws of the call of the face beside it.
use lib.ListN.{take}
use Rattle.casm_by_value.proofs.read_with_room.Met as read_with_room
use Rattle.casm_by_value.proofs.write.write_with.Met as write_with
use Rattle.casm_by_value.proofs.set_with.Met as set_with
use Rattle.law_refusals.proofs.Calls.{records_given}
use Rattle.law_refusals.proofs.Changes.{write_given}
use Rattle.law_refusals.proofs.Kept.{buffer_kept}
use Rattle.law_crossing.proofs.Refused.{table_kept}
use Rattle.demands.specs.ByValue.{EveryFormEnds, ReadWithRoomRefuses, WriteWithRefuses}

pub every_form_ends : {M : Type 1} → EveryFormEnds M
every_form_ends = record { read_with_room_ends = read_with_room.met; write_with_ends = write_with.met; set_with_ends = set_with.met }

pub read_with_room_refuses : ReadWithRoomRefuses
read_with_room_refuses body group start room b p =
    record { given = records_given body group (take room start) b.answer (take room b.table) p.0; nothing = table_kept body group start room b p.0 p.1 }

pub write_with_refuses : WriteWithRefuses
write_with_refuses text records lent count before r after p =
    record { given = write_given text (take lent records) count before r after p; nothing = buffer_kept text (take lent records) count before r after p }
