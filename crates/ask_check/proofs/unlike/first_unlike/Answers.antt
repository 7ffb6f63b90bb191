-- Before the record, then behind it: one law for each way out.
use Rattle.ask_check.proofs.Comparing.{found_ahead, ends_first, found_behind}
use mathlib.Core.Path.{◌∙◌}
use Rattle.ask_check.proofs.unlike.first_unlike.Goals as goal

pub returns-then-k-stop : goal.returns-then-k-stop
returns-then-k-stop c =
    found_ahead _ _ _ _ _ _ c.min-end.ensures c.min-stop.ensures _ c.first_apart-k.ensures c.if-k-stop.true

pub returns-then-end-at : goal.returns-then-end-at
returns-then-end-at c =
    ends_first _ _ _ _ _ _ c.min-end.ensures c.min-stop.ensures _ c.first_apart-k.ensures c.if-k-stop.false c.if-end-at.true

pub returns : goal.returns
returns c =
    c.first_apart.ensures
    ∙ found_behind _ _ _ _ _ _ c.min-end.ensures c.min-stop.ensures _ c.first_apart-k.ensures c.if-k-stop.false c.if-end-at.false
