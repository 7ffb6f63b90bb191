-- Demand 2, note placement at the call: each statement by one law, the shift by one for each of its cases.
use Rattle.ask_place.proofs.Shifting.{bypass_stays, shift_to_the_key, shift_past_the_key}
use Rattle.ask_place.proofs.Placing.{answer_told, octave_told}
use Rattle.ask_place.proofs.Hearing.{always_one_answer}
use Rattle.demands.specs.Placing.{ShiftIsTheDocuments, NoteIsTold, NoteIsAnOctave, SilenceNeverOccurs}

pub shift_is_the_documents : ShiftIsTheDocuments
shift_is_the_documents table key from root =
    record { bypassed = bypass_stays table key from root; up_to_the_key = shift_to_the_key table key from root; above_the_key = shift_past_the_key table key from root }

pub note_is_told : NoteIsTold
note_is_told = answer_told

pub note_is_an_octave : NoteIsAnOctave
note_is_an_octave = octave_told

pub silence_never_occurs : SilenceNeverOccurs
silence_never_occurs = always_one_answer
