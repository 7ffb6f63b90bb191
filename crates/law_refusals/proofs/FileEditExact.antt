-- An edit inside a style file: each refusal is given under its condition, and wherever that holds; on refusal the file is as it was.
use Prim.Native.Nat.{ℕ, ◌+◌, ◌<◌}
use mathlib.Core.Path.{◌≡◌, refl, sym, ap, ◌∙◌}
use mathlib.Core.Bool.{Bool, true, false, cond}
use mathlib.Core.List.{List}
use native.Mathlib.Omega.{arith}
use lib.Dec.{leb}
use borrow.Author.Tests.{lt-leb, leb-false}
use Rattle.layout.specs.Scan.{Run}
use Rattle.layout.specs.Scan.{Ended}
use Rattle.layout.specs.declared.answer.Answered.{Answered}
use Rattle.layout.specs.declared.lock.Override.{Override}
use Rattle.layout.specs.declared.record.Record.{Record}
use Rattle.layout.specs.Lists.{has}
use Rattle.layout.specs.Sdec.{names}
use Rattle.layout.specs.Answers.{Answer, refused, granted, number_of, value_or, after_run, answered, Span}
use Rattle.layout.specs.Body.{group_place, text_at, body_run, body_read}
use Rattle.layout.specs.Asked.{group_named, of_part, part_found}
use Rattle.layout.specs.Style.{casm_found}
use Rattle.layout.specs.Listing.{body_in}
use Rattle.layout.specs.Edit.{edited, after, file_edited}
use Rattle.layout.specs.Promises.{FileEdited}
use Rattle.layout.proofs.Scans.{first_stands, first_is}
use Rattle.law_refusals.specs.Given.{GivenUnder}
use Rattle.law_refusals.specs.File.{FileRefused}
use Rattle.law_refusals.specs.Body.{Named, BodyRefused, HasGroups}
use Rattle.law_refusals.specs.After.{HasGroup, PartAsked, part_of_body, no_part, EditAsked}
use Rattle.law_refusals.specs.FileEdit.{FileEditAsked, edit_of_file, edit_of_body, edit_of_part, edit_in_body}
use Rattle.law_refusals.proofs.Told.{AnswerTold, after_told}
use Rattle.law_refusals.proofs.Above.{Above, file_above, body_above, edit_asked_above}
use Rattle.law_refusals.proofs.Files.{casm_told}
use Rattle.law_refusals.proofs.Bodies.{body_told, has_groups}
use Rattle.law_refusals.proofs.Asked.{part_asked, edit_asked}
use Rattle.law_refusals.proofs.FileExact.{file_answers}
use Rattle.law_refusals.proofs.BodyExact.{body_ended}
use Rattle.law_refusals.proofs.AskedExact.{body_read_answers, part_answers, edit_answers}
use Rattle.law_refusals.proofs.Given.{given}
use Rattle.law_refusals.proofs.Kept.{none_given}
use Rattle.std.specs.Prelude.{Ok, Err}

-- a place counted from the start
from_start : (place : ℕ) → 0 + place ≡ place
from_start place = omega arith

-- what is asked after an answer: its refusals with their places moved, then what the question tells
next_told : {A B : Type 0} (P Q : ℕ → ℕ → Type 0) (from : ℕ) (a : Answer A) (ask : A → Answer B) → AnswerTold Q a → ((number place : ℕ) → Q number place → P number (from + place))
    → ((x : A) → a ≡ granted x → AnswerTold P (ask x)) → AnswerTold P (after from a ask)
unfolding after
next_told P Q from (refused number place) ask h f g = f number place h
next_told P Q from (granted x) ask h f g = g x refl

-- ---- the body

module _ (s : List ℕ) where
  body_told_read : AnswerTold (BodyRefused s) (body_read s)
  unfolding body_read
  body_told_read = after_told (BodyRefused s) (body_run s) (λ n. granted n) (body_told s) (λ n e. tt)

  body_has : (n : ℕ) → HasGroups s n → body_read s ≡ granted n
  unfolding body_read after_run
  body_has n h = rw (body_ended s n h)

-- ---- the group that has a part

module _ (s name : List ℕ) where
  named_there : (n : ℕ) → group_named s n name < n → Named s (group_named s n name) name
  unfolding group_named
  named_there n l = first_stands (λ k. has (names (text_at s (group_place s k))) name) n l

  pub part_granted : (g : ℕ) → part_found s name ≡ granted g → HasGroup s g × Named s g name
  unfolding part_found of_part after_run value_or
  part_granted g e = go (body_run s) refl e
    where
      two : (n : ℕ) → body_run s ≡ Ended n → (b : Bool) → leb n (group_named s n name) ≡ b → cond b (refused 15 0) (granted (group_named s n name)) ≡ granted g → HasGroup s g × Named s g name
      two n f true u q = absurd (let z : ◌≡◌ {A = ℕ} 0 1 = cc in omega arith)
      two n f false u q =
          let y : group_named s n name ≡ g = ap (value_or 0) q in
          let l = leb-false n (group_named s n name) u in
          (record { count = n; groups = has_groups s n f; there = rw y at l }, rw y at (named_there n l))

      go : (r : Run) → body_run s ≡ r → after_run r (λ n. cond (leb n (group_named s n name)) (refused 15 0) (granted (group_named s n name))) ≡ granted g → HasGroup s g × Named s g name
      go (Err why) f q = absurd (let z : ◌≡◌ {A = ℕ} 0 1 = cc in omega arith)
      go (Ok n) f q = two n f (leb n (group_named s n name)) refl q

  -- no two groups of an accepted body have a name in common
  named_once : (g : ℕ) (h : HasGroup s g) → Named s g name → group_named s h.count name ≡ g
  unfolding group_named
  named_once g h q = first_is (λ k. has (names (text_at s (group_place s k))) name) h.count g h.there q (λ i l. off i l (has (names (text_at s (group_place s i))) name) refl)
    where
      off : (i : ℕ) → i < g → (b : Bool) → has (names (text_at s (group_place s i))) name ≡ b → b ≡ false
      off i l true e = absurd (h.groups.before.apart i g name l h.there e q)
      off i l false e = refl

  part_so : (g : ℕ) → HasGroup s g → Named s g name → part_found s name ≡ granted g
  unfolding part_found of_part after_run
  part_so g h q = rw (body_ended s h.count h.groups) (rw (named_once g h q, lt-leb h.count g h.there))

-- ---- the edit

module _ (file name : List ℕ) (channel : ℕ) (new : Record) (over : Override) where
  abbrev Asked : ℕ → ℕ → Type 0
  Asked = FileEditAsked file name channel new over

  edit_above : Above Asked
  edit_above _ _ (edit_of_file number place h) = file_above file number place h
  edit_above _ _ (edit_of_body x number place f h) = body_above (body_in file x) number place h
  edit_above _ _ (edit_of_part x n f h p) = omega arith
  edit_above _ _ (edit_in_body x g number place f h q e) = edit_asked_above (body_in file x) g channel new over number place e

  -- a body that is read refuses a part by its name alone
  part_refused : (x : Span) (n : ℕ) → casm_found file ≡ granted x → body_read (body_in file x) ≡ granted n → (number place : ℕ) → PartAsked (body_in file x) name number place → Asked number (0 + place)
  part_refused x n f r _ _ (part_of_body number place h) = absurd (let q = sym r ∙ body_read_answers (body_in file x) number place h in let z : ◌≡◌ {A = ℕ} 0 1 = cc in omega arith)
  part_refused x n f r _ _ (no_part m h p) = edit_of_part x m f h p

  edit_told : AnswerTold Asked (file_edited file name channel new over)
  unfolding file_edited
  edit_told =
      next_told Asked (FileRefused file) 0 (casm_found file) _ (casm_told file) (λ number place h. rw (from_start place) (edit_of_file number place h)) (λ x f.
      next_told Asked (BodyRefused (body_in file x)) (x.start + 8) (body_read (body_in file x)) _ (body_told_read (body_in file x)) (λ number place h. edit_of_body x number place f h) (λ n r.
      next_told Asked (PartAsked (body_in file x) name) 0 (part_found (body_in file x) name) _ (part_asked (body_in file x) name) (part_refused x n f r) (λ g p.
      let group = part_granted (body_in file x) name g p in
      next_told Asked (EditAsked (body_in file x) g channel new over) 0 (edited (body_in file x) g channel new over) _ (edit_asked (body_in file x) g channel new over)
      (λ number place h. rw (from_start place) (edit_in_body x g number place f group.0 group.1 h)) (λ body e. tt))))

  edit_file_answers : (number place : ℕ) → Asked number place → file_edited file name channel new over ≡ refused number place
  unfolding file_edited after
  edit_file_answers _ _ (edit_of_file number place h) = rw (file_answers file number place h, after) (rw (from_start place))
  edit_file_answers _ _ (edit_of_body x number place f h) = rw (f, after) (rw (body_read_answers (body_in file x) number place h, after))
  edit_file_answers _ _ (edit_of_part x n f h p) = rw (f, after) (rw (body_has (body_in file x) n h, after) (rw (part_answers (body_in file x) name 15 0 (no_part n h p), after)))
  edit_file_answers _ _ (edit_in_body x g number place f h q e) =
      rw (f, after)
      (rw (body_has (body_in file x) h.count h.groups, after)
      (rw (part_so (body_in file x) name g h q, after) (rw (edit_answers (body_in file x) g channel new over number place e, after) (rw (from_start place)))))

  module _ (a : Answered) (out : List ℕ) (p : FileEdited file name channel new over a out) where
    pub file_edit_given : GivenUnder Asked a.number a.place
    unfolding answered
    file_edit_given =
        given Asked edit_above (file_edited file name channel new over) edit_told edit_file_answers a.number a.place (ap (λ (x : Answered). x.number) p.answer) (ap (λ (x : Answered). x.place) p.answer)

    pub file_kept : (a.number ≡ 0 → ⊥) → out ≡ file
    unfolding answered
    file_kept z = p.file ∙ none_given (file_edited file name channel new over) a.number (ap (λ (x : Answered). x.number) p.answer) z file

    -- an edit that is accepted was granted
    pub file_edit_granted : a.number ≡ 0 → file_edited file name channel new over ≡ granted out
    unfolding answered number_of value_or
    file_edit_granted z = go (file_edited file name channel new over) edit_told (sym (ap (λ (x : Answered). x.number) p.answer) ∙ z) p.file
      where
        go : (b : Answer (List ℕ)) → AnswerTold Asked b → number_of b ≡ 0 → out ≡ value_or file b → b ≡ granted out
        go (refused number place) h e q = absurd (omega (arith, edit_above number place h, e))
        go (granted body) h e q = ap granted (sym q)
