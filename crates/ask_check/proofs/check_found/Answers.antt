-- What was found in the two bodies, told with places of the files; where the record is there, the files are compared.
use mathlib.Core.Path.{sym, ap, ◌∙◌}
use Rattle.std.specs.Prelude.{Err}
use native.Mathlib.Omega.{arith}
use Rattle.ask_check.proofs.Answers.{begins_before, begins_after, files_before, files_after, files_without, files_at, sum_before, sum_after, sum_at}
use Rattle.ask_check.proofs.check_found.Goals as goal

pub overflow_add-x : goal.overflow_add-x
overflow_add-x c =
    let r = c.args in
    omega (arith, begins_before r.before.now r.after.now r.group r.channel.0 r.x r.n r.y r.m c.requires _ _ c.section_body-s.ensures c.section_body-t.ensures)

pub overflow_add-x-in-Err-InBefore : goal.overflow_add-x-in-Err-InBefore
overflow_add-x-in-Err-InBefore c =
    let r = c.args in
    omega (arith, sum_before r.before.now r.after.now r.group r.channel.0 r.x r.n r.y r.m c.requires _ _ c.section_body-s.ensures c.section_body-t.ensures _ _ (sym c.in-Err-InBefore.ensures ∙ ap Err c.in-Err-InBefore.field-0-is))

pub overflow_add-y : goal.overflow_add-y
overflow_add-y c =
    let r = c.args in
    omega (arith, begins_after r.before.now r.after.now r.group r.channel.0 r.x r.n r.y r.m c.requires _ _ c.section_body-s.ensures c.section_body-t.ensures)

pub overflow_add-y-in-Err-InAfter : goal.overflow_add-y-in-Err-InAfter
overflow_add-y-in-Err-InAfter c =
    let r = c.args in
    omega (arith, sum_after r.before.now r.after.now r.group r.channel.0 r.x r.n r.y r.m c.requires _ _ c.section_body-s.ensures c.section_body-t.ensures _ _ (sym c.in-Err-InAfter.ensures ∙ ap Err c.in-Err-InAfter.field-0-is))

pub overflow_add-x-in-Ok : goal.overflow_add-x-in-Ok
overflow_add-x-in-Ok c =
    let r = c.args in
    omega (arith, begins_before r.before.now r.after.now r.group r.channel.0 r.x r.n r.y r.m c.requires _ _ c.section_body-s.ensures c.section_body-t.ensures)

pub overflow_add-x-in-Ok-2 : goal.overflow_add-x-in-Ok-2
overflow_add-x-in-Ok-2 c =
    let r = c.args in
    omega (arith, sum_at r.before.now r.after.now r.group r.channel.0 r.x r.n r.y r.m c.requires _ _ c.section_body-s.ensures c.section_body-t.ensures _ _ (sym c.in-Ok.ensures))

pub compare-requires : goal.compare-requires
compare-requires c =
    let r = c.args in
    omega (arith, c.size_of.ensures, sum_at r.before.now r.after.now r.group r.channel.0 r.x r.n r.y r.m c.requires _ _ c.section_body-s.ensures c.section_body-t.ensures _ _ (sym c.in-Ok.ensures))

pub returns-in-Err-InBefore : goal.returns-in-Err-InBefore
returns-in-Err-InBefore c =
    let r = c.args in
    c.denied.ensures ∙ files_before r.before.now r.after.now r.group r.channel.0 r.x r.n r.y r.m c.requires _ _ c.section_body-s.ensures c.section_body-t.ensures _ _ (sym c.in-Err-InBefore.ensures ∙ ap Err c.in-Err-InBefore.field-0-is)

pub returns-in-Err-InAfter : goal.returns-in-Err-InAfter
returns-in-Err-InAfter c =
    let r = c.args in
    c.denied-in-Err-InAfter.ensures ∙ files_after r.before.now r.after.now r.group r.channel.0 r.x r.n r.y r.m c.requires _ _ c.section_body-s.ensures c.section_body-t.ensures _ _ (sym c.in-Err-InAfter.ensures ∙ ap Err c.in-Err-InAfter.field-0-is)

pub returns-in-Err-Nowhere : goal.returns-in-Err-Nowhere
returns-in-Err-Nowhere c =
    let r = c.args in
    c.denied-in-Err-Nowhere.ensures ∙ files_without r.before.now r.after.now r.group r.channel.0 r.x r.n r.y r.m c.requires _ _ c.section_body-s.ensures c.section_body-t.ensures _ (sym c.in-Err-Nowhere.ensures ∙ ap Err c.in-Err-Nowhere.field-0-is)

pub returns-in-Ok : goal.returns-in-Ok
returns-in-Ok c =
    let r = c.args in
    c.compare.ensures ∙ files_at r.before.now r.after.now r.group r.channel.0 r.x r.n r.y r.m c.requires _ _ c.section_body-s.ensures c.section_body-t.ensures _ _ _ (sym c.in-Ok.ensures) c.size_of.ensures
