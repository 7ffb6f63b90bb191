-- Demand 2, the round trips: each statement by one law.
use Rattle.law_rounds.proofs.Rounds.{group_read_written, group_written_read, body_read_written, body_written_read, accepted_exactly, edit_read, field_alone}
use Rattle.law_rounds.proofs.Writing.{written_exactly}
use Rattle.law_rounds.proofs.ReadWrittenCall.{read_written_call}
use Rattle.law_rounds.proofs.WrittenReadCall.{written_read_call}
use Rattle.law_rounds.proofs.EditCall.{edit_call}
use Rattle.law_rounds.proofs.FieldCall.{field_call, field_in_place_call}
use Rattle.demands.specs.Rounds.{ReadThenWritten, WrittenThenRead, WrittenExactly, BodyReadThenWritten, BodyWrittenThenRead, AcceptedExactly, EditReadsBack, FieldAlone}
use Rattle.demands.specs.Rounds.{ReadThenWrittenAtTheCalls, WrittenThenReadAtTheCalls, EditReadsBackAtTheCall, FieldAloneAtTheCall, FieldAloneInPlace}

-- ---- one group

pub read_then_written : ReadThenWritten
read_then_written = group_read_written

pub written_then_read : WrittenThenRead
written_then_read = group_written_read

pub a_group_is_written_exactly : WrittenExactly
a_group_is_written_exactly = written_exactly

-- ---- a whole body

pub body_read_then_written : BodyReadThenWritten
body_read_then_written = body_read_written

pub body_written_then_read : BodyWrittenThenRead
body_written_then_read = body_written_read

pub a_body_is_accepted_exactly : AcceptedExactly
a_body_is_accepted_exactly = accepted_exactly

-- ---- an edit and a field

pub edit_reads_back : EditReadsBack
edit_reads_back = edit_read

pub a_field_alone : FieldAlone
a_field_alone = field_alone

-- ---- at the calls

pub read_then_written_at_the_calls : ReadThenWrittenAtTheCalls
read_then_written_at_the_calls = read_written_call

pub written_then_read_at_the_calls : WrittenThenReadAtTheCalls
written_then_read_at_the_calls = written_read_call

pub edit_reads_back_at_the_call : EditReadsBackAtTheCall
edit_reads_back_at_the_call = edit_call

pub a_field_alone_at_the_call : FieldAloneAtTheCall
a_field_alone_at_the_call = field_call

pub a_field_alone_in_place : FieldAloneInPlace
a_field_alone_in_place = field_in_place_call
