-- Document 02, §13: each statement by one law.
use Prim.Native.Nat.{ℕ}
use mathlib.Core.Path.{◌≡◌, subst, sym}
use Rattle.layout.specs.declared.answer.Checked.{Checked}
use Rattle.layout.specs.Check.{bodies_checked, files_checked}
use Rattle.law_rounds.proofs.EditCall.{edit_accepted}
use Rattle.law_checked.specs.Refused.{BodiesRefused, FilesRefused, GivenOf}
use Rattle.law_checked.proofs.Answered.{is_said_yes, says_nothing}
use Rattle.law_checked.proofs.CheckCalls.{yes_exactly, no_exactly, no_outside, rest_as_before}
use Rattle.law_checked.proofs.FileCalls.{files_yes_exactly, files_no_exactly}
use Rattle.law_checked.proofs.OwnEdit.{edit_answered_yes, unchanged_answered_yes}
use Rattle.law_checked.proofs.RefusedExact.{bodies_refused, files_refused}
use Rattle.demands.specs.Checking.{YesExactly, NoExactly, NoIsOutside, EditsAreAnsweredYes, UnchangedIsAnsweredYes, YesLeavesTheRest, BodiesCheckedRefused, NoVerdictTold, FilesYesExactly, FilesNoExactly, FilesCheckedRefused, NoFileVerdictTold}

pub yes_is_exact : YesExactly
yes_is_exact = yes_exactly

pub no_is_exact : NoExactly
no_is_exact = no_exactly

pub no_is_outside : NoIsOutside
no_is_outside = no_outside

pub edits_are_answered_yes : EditsAreAnsweredYes
edits_are_answered_yes before group channel new over a after b w p z r q =
    is_said_yes (bodies_checked before after group channel) r q (edit_answered_yes before after group channel new over b w (edit_accepted before group channel new over a after p z))

pub unchanged_is_answered_yes : UnchangedIsAnsweredYes
unchanged_is_answered_yes body group channel h r q =
    is_said_yes (bodies_checked body body group channel) r q (unchanged_answered_yes body group channel (record { has = h; groups = h.group.count; again = h.group.groups }))

pub yes_leaves_the_rest : YesLeavesTheRest
yes_leaves_the_rest = rest_as_before

pub bodies_checked_refused : BodiesCheckedRefused
bodies_checked_refused before after group channel r p =
    subst (λ (x : Checked). GivenOf (BodiesRefused 0 0 before after group channel) x.which x.number x.place) (sym p) (bodies_refused before after group channel)

pub no_verdict_told : NoVerdictTold
no_verdict_told before after group channel r p = says_nothing (bodies_checked before after group channel) r p

pub files_yes_is_exact : FilesYesExactly
files_yes_is_exact = files_yes_exactly

pub files_no_is_exact : FilesNoExactly
files_no_is_exact = files_no_exactly

pub files_checked_refused : FilesCheckedRefused
files_checked_refused before after group channel r p =
    subst (λ (x : Checked). GivenOf (FilesRefused before after group channel) x.which x.number x.place) (sym p) (files_refused before after group channel)

pub no_file_verdict_told : NoFileVerdictTold
no_file_verdict_told before after group channel r p = says_nothing (files_checked before after group channel) r p
