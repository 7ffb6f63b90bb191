-- What is shown of the eight bytes is what is shown of those that are left.
use mathlib.Core.Path.{sym, ap, ◌∙◌}
use native.Mathlib.Omega.{arith}
use lib.ListN.{length}
use Rattle.ask_voice.proofs.VoiceLaws.{shown_start, shown_here, shown_next, shown_none}
use borrow.Author.Rules.{rules}
use Rattle.ask_voice.proofs.shown_length.Goals as goal

pub loop-name-init : goal.loop-name-init
loop-name-init c = shown_start _ _

pub loop-name-preserved : goal.loop-name-preserved
loop-name-preserved c = let t = c.loop-name.name.now in c.loop-name.invariant ∙ shown_next t (omega arith) (search rules)

pub returns-in_default : goal.returns-in_default
returns-in_default c = sym (ap length (c.loop-name.invariant ∙ shown_none c.loop-name.name.now c.in_default.len_below))

pub returns-in_default-2 : goal.returns-in_default-2
returns-in_default-2 c = sym (ap length (c.loop-name.invariant ∙ shown_here c.loop-name.name.now c.in_default.len_at_least (search rules)))
