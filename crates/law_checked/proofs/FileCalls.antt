-- A check of two style files at the call: yes exactly where the bodies' is and all else is as it was; a no has the first place of the files.
use Prim.Native.Nat.{ℕ}
use mathlib.Core.Path.{◌≡◌, ap, ◌∙◌}
use mathlib.Core.Bool.{true, false}
use mathlib.Core.Logic.{◌↔◌}
use mathlib.Core.List.{List}
use Rattle.layout.specs.declared.answer.Checked.{Checked}
use Rattle.layout.specs.Check.{No, files_checked}
use Rattle.layout.specs.Promises.{FilesChecked}
use Rattle.law_checked.specs.Files.{SectionsAsBefore, FileUnlike}
use Rattle.law_checked.proofs.Alike.{no_is, is_no}
use Rattle.law_checked.proofs.Answered.{said_yes, is_said_yes, said_no, is_said_no}
use Rattle.law_checked.proofs.Readable.{read_both, both_read}
use Rattle.law_checked.proofs.Verdicts.{no_denies_not}
use Rattle.law_checked.proofs.FileVerdicts.{files_read, read_files}
use Rattle.law_checked.proofs.RefusedExact.{files_denied_above}
use Rattle.law_checked.proofs.FilesAlike.{files_yes, yes_files}

module _ (before after : List ℕ) (g channel : ℕ) (r : Checked) (p : FilesChecked before after g channel r) where
  pub files_yes_exactly : (r.yes ≡ true) ↔ SectionsAsBefore before after g channel
  files_yes_exactly = (
    λ h. files_yes before after g channel (said_yes (files_checked before after g channel) r p h),
    λ a. is_said_yes (files_checked before after g channel) r p (yes_files before after g channel a),
  )

  -- accepted, and no
  abbrev SaidNo : ℕ → Type 0
  SaidNo k = (r.number ≡ 0) × ((r.yes ≡ false) × (r.unlike ≡ k))

  pub files_no_exactly : (k : ℕ) → SaidNo k ↔ FileUnlike before after g channel k
  files_no_exactly k = (there, back)
    where
      there : SaidNo k → FileUnlike before after g channel k
      there a =
          let e : files_checked before after g channel ≡ No k = said_no (files_checked before after g channel) (files_denied_above before after g channel) r p a.0 a.1.0 ∙ ap No a.1.1 in
          let q = files_read before after g channel (No k) (no_denies_not k) e in
          record {
            casm = q.casm;
            other = q.other;
            found = q.found;
            again = q.again;
            read = read_both _ _ g channel q.read;
            first = no_is before after _ _ k q.verdict;
          }

      back : FileUnlike before after g channel k → SaidNo k
      back u =
          is_said_no (files_checked before after g channel) r k p
          (read_files before after g channel (No k)
          (record {
            casm = u.casm;
            other = u.other;
            found = u.found;
            again = u.again;
            read = both_read _ _ g channel u.read;
            verdict = is_no before after _ _ k u.first;
          }))
