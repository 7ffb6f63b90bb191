-- A check is refused under the condition of a row, and wherever it holds: what is denied has its condition by the ways out, and each condition leads back to the one that is denied.
use Prim.Native.Nat.{ℕ, ◌+◌, ◌<◌}
use mathlib.Core.Path.{◌≡◌, refl, sym, ◌∙◌}
use mathlib.Core.Bool.{Bool, true, false, cond, ◌&&◌}
use mathlib.Core.List.{List}
use native.Mathlib.Omega.{arith}
use lib.Dec.{leb, eqb}
use lib.ListN.{length}
use Rattle.layout.specs.declared.answer.Checked.{Checked}
use Rattle.layout.specs.declared.answer.Which.{Which}
use Rattle.layout.specs.declared.answer.Which.TheVariants.{BeforeFile, AfterFile}
use Rattle.layout.specs.Answers.{Answer, refused, granted, after_run, Span}
use Rattle.layout.specs.Editions.{size}
use Rattle.layout.specs.Body.{body_read}
use Rattle.layout.specs.Asked.{Whereabouts}
use Rattle.layout.specs.Style.{casm_found}
use Rattle.layout.specs.Listing.{body_in}
use Rattle.layout.specs.Check.{Verdict, Denied, Yes, No, first_unlike, compared, unless, of_record_before, bodies_checked, files_checked, checked}
use Rattle.law_refusals.specs.File.{FileRefused}
use Rattle.law_refusals.specs.After.{channel_of_group}
use Rattle.law_refusals.specs.After as after
use Rattle.law_refusals.proofs.Told.{AnswerTold}
use Rattle.law_refusals.proofs.Above.{file_above, body_above}
use Rattle.law_refusals.proofs.Files.{casm_told}
use Rattle.law_refusals.proofs.FileExact.{file_answers}
use Rattle.law_refusals.proofs.BodyExact.{body_answers, body_ended}
use Rattle.law_refusals.proofs.AskedExact.{channel_answers}
use Rattle.law_checked.specs.Refused.{BodiesRefused, before_body, after_body, no_group_given, no_channel_given, FilesRefused, before_file, after_file, of_bodies, GivenOf}
use Rattle.law_checked.proofs.Verdicts.{WayOut, denies, asks, way_out, beside}
use Rattle.law_checked.proofs.FileVerdicts.{aside}
use Rattle.law_checked.proofs.GivenOf.{given_of}

-- a comparison denies nothing
compared_denies_not : (s t : List ℕ) (at n : ℕ) (which : Which) (number place : ℕ) → compared s t at n ≡ Denied which number place → ⊥
unfolding compared
compared_denies_not s t at n which number place e = go (eqb (length s) (length t) && leb (length s) (first_unlike s t at n)) e
  where
    go : (b : Bool) → cond b Yes (No (first_unlike s t at n)) ≡ Denied which number place → ⊥
    go true q = let z : ◌≡◌ {A = ℕ} 0 1 = cc in omega arith
    go false q = let z : ◌≡◌ {A = ℕ} 0 1 = cc in omega arith

module _ (a b : ℕ) (s t : List ℕ) (g channel : ℕ) where
  bodies_above : (which : Which) (number place : ℕ) → BodiesRefused a b s t g channel which number place → 0 < number
  bodies_above _ _ _ (before_body number place h) = body_above s number place h
  bodies_above _ _ _ (after_body n number place h r) = body_above t number place r
  bodies_above _ _ _ (no_group_given n m h k l) = omega arith
  bodies_above _ _ _ (no_channel_given m h k f) = omega arith

  module _ (ask : Whereabouts → Verdict) (which : Which) (number place : ℕ) where
    denied_refused : ((row : Whereabouts) → ask row ≡ Denied which number place → ⊥) → of_record_before a b s t g channel ask ≡ Denied which number place
        → BodiesRefused a b s t g channel which number place
    denied_refused f e = go (way_out a b s t g channel ask)
      where
        go : WayOut a b s t g channel ask (of_record_before a b s t g channel ask) → BodiesRefused a b s t g channel which number place
        go (denies w n p q h) =
            let r : Denied w n p ≡ Denied which number place = sym q ∙ e in
            let x : w ≡ which = cc in
            let y : n ≡ number = cc in
            let z : p ≡ place = cc in
            rw (← x, ← y, ← z) h
        go (asks read q) = absurd (f _ (sym q ∙ e))

  refused_denied : (ask : Whereabouts → Verdict) (which : Which) (number place : ℕ) → BodiesRefused a b s t g channel which number place
      → of_record_before a b s t g channel ask ≡ Denied which number place
  unfolding of_record_before unless body_read after_run
  refused_denied ask _ _ _ (before_body number place h) = rw (body_answers s number place h)
  refused_denied ask _ _ _ (after_body n number place h r) = rw (body_ended s n h, body_answers t number place r)
  refused_denied ask _ _ _ (no_group_given n m h k l) = rw (body_ended s n h, body_ended t m k, channel_answers s g channel 16 0 (channel_of_group 16 0 (after.no_group_given n h l)))
  refused_denied ask _ _ _ (no_channel_given m h k f) = rw (body_ended s h.count h.groups, body_ended t m k, channel_answers s g channel 15 0 (after.no_channel_given h f))

-- ---- two bodies

pub bodies_refused : (s t : List ℕ) (g channel : ℕ)
    → GivenOf (BodiesRefused 0 0 s t g channel) (checked (bodies_checked s t g channel)).which (checked (bodies_checked s t g channel)).number (checked (bodies_checked s t g channel)).place
unfolding bodies_checked
bodies_refused s t g channel =
    given_of (BodiesRefused 0 0 s t g channel) (bodies_above 0 0 s t g channel) (bodies_checked s t g channel)
    (λ w n p. denied_refused 0 0 s t g channel (beside s t g channel) w n p (λ row. compared_denies_not s t row.at (size row.edition) w n p))
    (refused_denied 0 0 s t g channel (beside s t g channel))

-- a refusal's number is above 0
pub denied_above : (s t : List ℕ) (g channel : ℕ) (which : Which) (number place : ℕ) → bodies_checked s t g channel ≡ Denied which number place → 0 < number
unfolding bodies_checked
denied_above s t g channel w n p e =
    bodies_above 0 0 s t g channel w n p (denied_refused 0 0 s t g channel (beside s t g channel) w n p (λ row. compared_denies_not s t row.at (size row.edition) w n p) e)

-- ---- two files

module _ (before after : List ℕ) (g channel : ℕ) where
  files_above : (which : Which) (number place : ℕ) → FilesRefused before after g channel which number place → 0 < number
  files_above _ _ _ (before_file number place h) = file_above before number place h
  files_above _ _ _ (after_file x number place e h) = file_above after number place h
  files_above _ _ _ (of_bodies x y which number place e f h) =
      bodies_above (x.start + 8) (y.start + 8) (body_in before x) (body_in after y) g channel which number place h

  files_denied : (which : Which) (number place : ℕ) → files_checked before after g channel ≡ Denied which number place → FilesRefused before after g channel which number place
  unfolding files_checked unless
  files_denied which number place e = go (casm_found before) (casm_found after) refl refl (casm_told before) (casm_told after) e
    where
      go : (p q : Answer Span) → casm_found before ≡ p → casm_found after ≡ q → AnswerTold (FileRefused before) p → AnswerTold (FileRefused after) q
          → unless BeforeFile 0 p (λ x.
          unless AfterFile 0 q (λ y.
          of_record_before (x.start + 8) (y.start + 8) (body_in before x) (body_in after y) g channel (aside before after x))) ≡ Denied which number place
          → FilesRefused before after g channel which number place
      go (refused n p) q i j h k r =
          let x : BeforeFile ≡ which = cc in
          let y : n ≡ number = cc in
          let z : 0 + p ≡ place = cc in
          let w : p ≡ place = omega arith in
          rw (← x, ← y, ← w) (before_file n p h)
      go (granted u) (refused n p) i j h k r =
          let x : AfterFile ≡ which = cc in
          let y : n ≡ number = cc in
          let z : 0 + p ≡ place = cc in
          let w : p ≡ place = omega arith in
          rw (← x, ← y, ← w) (after_file u n p i k)
      go (granted u) (granted v) i j h k r =
          of_bodies u v which number place i j
          (denied_refused (u.start + 8) (v.start + 8) (body_in before u) (body_in after v) g channel (aside before after u) which number place
          (λ row. compared_denies_not before after (u.start + 8 + row.at) (size row.edition) which number place) r)

  files_exact : (which : Which) (number place : ℕ) → FilesRefused before after g channel which number place → files_checked before after g channel ≡ Denied which number place
  unfolding files_checked unless
  files_exact _ _ _ (before_file number place h) = let z : 0 + place ≡ place = omega arith in rw (file_answers before number place h, unless) (rw z)
  files_exact _ _ _ (after_file x number place e h) = let z : 0 + place ≡ place = omega arith in rw (e, file_answers after number place h, unless) (rw z)
  files_exact _ _ _ (of_bodies x y which number place e f h) =
      rw (e, f) (refused_denied (x.start + 8) (y.start + 8) (body_in before x) (body_in after y) g channel (aside before after x) which number place h)

  pub files_denied_above : (which : Which) (number place : ℕ) → files_checked before after g channel ≡ Denied which number place → 0 < number
  files_denied_above w n p e = files_above w n p (files_denied w n p e)

  -- the answer of the call
  abbrev answer : Checked
  answer = checked (files_checked before after g channel)

  pub files_refused : GivenOf (FilesRefused before after g channel) answer.which answer.number answer.place
  files_refused = given_of (FilesRefused before after g channel) files_above (files_checked before after g channel) files_denied files_exact
