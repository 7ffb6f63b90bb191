-- The record that was looked for, or its refusal.
use mathlib.Core.Path.{sym, ◌∙◌}
use Rattle.read_find.proofs.ReadLaws.{channel_no, channel_at}
use Rattle.read_find.proofs.look.find_channel.Goals as goal

pub returns-in-Err : goal.returns-in-Err
returns-in-Err c = channel_no _ _ _ _ _ (sym c.find_record.ensures ∙ c.in-Err.is)

pub returns-in-Ok : goal.returns-in-Ok
returns-in-Ok c = channel_at _ _ _ _ _ _ (sym c.find_record.ensures ∙ c.in-Ok.is)
