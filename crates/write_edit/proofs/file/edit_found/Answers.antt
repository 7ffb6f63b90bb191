-- The part, then its record, in the body where it lies; where the record is there, the file is edited.
use mathlib.Core.Path.{sym, ap, ◌∙◌}
use Rattle.std.specs.Prelude.{Ok}
use native.Mathlib.Omega.{arith}
use Rattle.read_find.proofs.AskLaws.{part_there_is, there_within}
use Rattle.write_edit.proofs.FileEditing.{begins, body_sum, body_refused, no_part, no_channel_given, row_sum, edited_there}
use Rattle.write_edit.proofs.file.edit_found.Goals as goal

pub overflow_add-tag : goal.overflow_add-tag
overflow_add-tag c =
    let r = c.args in
    omega (arith, begins r.file.now r.name.now r.channel.0 r.new r.over r.tag r.length c.requires _ c.section_body-s.ensures)

pub overflow_add-tag-in-Err : goal.overflow_add-tag-in-Err
overflow_add-tag-in-Err c =
    let r = c.args in
    omega (arith, body_sum r.file.now r.name.now r.channel.0 r.new r.over r.tag r.length c.requires _ c.section_body-s.ensures _ _ (sym c.in-Err.ensures))

pub find_in-requires : goal.find_in-requires
find_in-requires c =
    (there_within _ _ _ (part_there_is _ _ _ _ (sym c.in-Ok-Some.ensures ∙ ap Ok c.in-Ok-Some.field-0-is)).there).ctabs

pub overflow_add-tag-in-Ok : goal.overflow_add-tag-in-Ok
overflow_add-tag-in-Ok c =
    let r = c.args in
    omega (arith, begins r.file.now r.name.now r.channel.0 r.new r.over r.tag r.length c.requires _ c.section_body-s.ensures)

pub overflow_add-tag-in-Ok-2 : goal.overflow_add-tag-in-Ok-2
overflow_add-tag-in-Ok-2 c =
    let r = c.args in
    omega (arith, row_sum r.file.now r.name.now r.channel.0 r.new r.over r.tag r.length c.requires _ c.section_body-s.ensures _ _ (sym c.in-Ok-Some.ensures ∙ ap Ok c.in-Ok-Some.field-0-is) _ _ _ (sym c.in-Ok.ensures))

pub edit_at-requires : goal.edit_at-requires
edit_at-requires c =
    let r = c.args in
    omega (arith, row_sum r.file.now r.name.now r.channel.0 r.new r.over r.tag r.length c.requires _ c.section_body-s.ensures _ _ (sym c.in-Ok-Some.ensures ∙ ap Ok c.in-Ok-Some.field-0-is) _ _ _ (sym c.in-Ok.ensures))

pub returns-in-Err : goal.returns-in-Err
returns-in-Err c =
    let r = c.args in
    body_refused r.file.now r.name.now r.channel.0 r.new r.over r.tag r.length c.requires _ c.section_body-s.ensures _ _ (sym c.in-Err.ensures) _ c.answer.ensures

pub returns-in-Ok-None : goal.returns-in-Ok-None
returns-in-Ok-None c =
    let r = c.args in
    no_part r.file.now r.name.now r.channel.0 r.new r.over r.tag r.length c.requires _ c.section_body-s.ensures (sym c.in-Ok-None.ensures ∙ ap Ok c.in-Ok-None.field-0-is) _ c.answer-in-Ok-None.ensures

pub returns-in-Err-find_in : goal.returns-in-Err-find_in
returns-in-Err-find_in c =
    let r = c.args in
    no_channel_given r.file.now r.name.now r.channel.0 r.new r.over r.tag r.length c.requires _ c.section_body-s.ensures _ _ (sym c.in-Ok-Some.ensures ∙ ap Ok c.in-Ok-Some.field-0-is) _ _ (sym c.in-Err-find_in.ensures) _ c.answer-in-Err-find_in.ensures

pub returns-in-Ok : goal.returns-in-Ok
returns-in-Ok c =
    let r = c.args in
    edited_there r.file.now r.name.now r.channel.0 r.new r.over r.tag r.length c.requires _ c.section_body-s.ensures _ _ (sym c.in-Ok-Some.ensures ∙ ap Ok c.in-Ok-Some.field-0-is) _ _ _ (sym c.in-Ok.ensures) _ _ c.edit_at.ensures
