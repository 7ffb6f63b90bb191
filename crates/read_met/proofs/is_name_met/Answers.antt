-- A name that is not of the share is passed over; any other is met, and asked for where it may have been met before.
use mathlib.Core.Path.{sym, ◌∙◌}
use borrow.Author.Rules.{rules}
use Rattle.read_met.proofs.Marked.{name_skipped, name_asked, unmet_new}
use Rattle.read_met.proofs.is_name_met.Goals as goal

pub returns-then-not-is_looked_at : goal.returns-then-not-is_looked_at
returns-then-not-is_looked_at c = name_skipped _ _ _ _ _ _ c.mark_of-mark.ensures.0 (sym c.is_looked_at.ensures ∙ search rules)

pub is_taken-requires : goal.is_taken-requires
is_taken-requires c =
    let p = c.requires in
    (p.0, (p.1.0, unmet_new _ _ _ _ _ _ c.mark_of-mark.ensures.0 (sym c.is_looked_at.ensures ∙ search rules) _ _ c.meet-met.ensures p.1.1))

pub returns : goal.returns
returns c =
    name_asked _ _ _ _ _ _ c.mark_of-mark.ensures.0 (sym c.is_looked_at.ensures ∙ search rules) _ _ c.meet-met.ensures _ c.is_taken.ensures
