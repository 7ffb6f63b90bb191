-- An edit inside a style file: each statement by one law.
use Rattle.layout.specs.Check.{files_checked}
use Rattle.law_refusals.proofs.FileEditExact.{file_edit_given, file_kept, file_edit_granted}
use Rattle.law_checked.proofs.Answered.{is_said_yes}
use Rattle.law_checked.proofs.FileEditAlone.{file_edited_alone, file_edit_yes}
use Rattle.demands.specs.FileEdits.{FileEditLeavesTheRest, FileEditsAreAnsweredYes, FileEditedRefused, FileKept}

pub file_edit_leaves_the_rest : FileEditLeavesTheRest
file_edit_leaves_the_rest before name channel new over a after b w p z =
    file_edited_alone before name channel new over after b w (file_edit_granted before name channel new over a after p z)

pub file_edits_are_answered_yes : FileEditsAreAnsweredYes
file_edits_are_answered_yes before name channel new over a after b w p z x group found part r q =
    is_said_yes (files_checked before after group channel) r q (file_edit_yes before name channel new over after b w (file_edit_granted before name channel new over a after p z) x group found part)

pub file_edited_refused : FileEditedRefused
file_edited_refused = file_edit_given

pub the_file_kept : FileKept
the_file_kept = file_kept
