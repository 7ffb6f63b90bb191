-- A check of two bodies has two ways out: it is denied, under the condition of its row; or both are read, the record is there, and what is then asked is the verdict.
use Prim.Native.Nat.{ℕ, ◌+◌, ◌<◌}
use mathlib.Core.Path.{◌≡◌, refl, sym, subst, ◌∙◌}
use mathlib.Core.Bool.{Bool, true, false, cond}
use mathlib.Core.List.{List}
use native.Mathlib.Omega.{arith}
use lib.Dec.{leb}
use borrow.Author.Tests.{leb-true, leb-false, lt-leb}
use Rattle.layout.specs.Scan.{Run}
use Rattle.layout.specs.Scan.{Stopped, Ended}
use Rattle.layout.specs.declared.answer.Which.{Which}
use Rattle.layout.specs.declared.answer.Which.TheVariants.{BeforeBody, AfterBody}
use Rattle.layout.specs.declared.answer.Standing.{Standing}
use Rattle.layout.specs.Answers.{refused, granted, after_run}
use Rattle.layout.specs.Editions.{size}
use Rattle.layout.specs.Body.{body_run, body_read}
use Rattle.layout.specs.Asked.{Whereabouts, standing, of_group, row_of, row_in, of_channel, channel_found}
use Rattle.layout.specs.Check.{Verdict, Denied, Yes, No, compared, unless, of_record_before, bodies_checked}
use Rattle.layout.proofs.Seen.{ctab_unseen}
use Rattle.law_refusals.specs.Body.{BodyRefused}
use Rattle.law_refusals.specs.After.{source_in}
use Rattle.law_refusals.proofs.Told.{RunTold}
use Rattle.law_refusals.proofs.Bodies.{body_told, has_groups}
use Rattle.law_checked.specs.Refused.{BodiesRefused, before_body, after_body, no_group_given, no_channel_given}
use Rattle.std.specs.Prelude.{Ok, Err}

-- both bodies are read, and the before body has the group and in it the channel
pub record BodiesRead (s t : List ℕ) (g channel : ℕ) : Type 0 where
  pub n : ℕ
  pub m : ℕ
  pub before : body_run s ≡ Ended n
  pub after : body_run t ≡ Ended m
  pub there : g < n
  pub its : row_in s (standing s g) channel < (standing s g).records

-- the record that the before body has
abbrev pub row_before : List ℕ → ℕ → ℕ → Whereabouts
row_before s g channel = row_of (standing s g) (row_in s (standing s g) channel)

module _ (a b : ℕ) (s t : List ℕ) (g channel : ℕ) (ask : Whereabouts → Verdict) where
  -- the two ways out
  pub data WayOut (v : Verdict) : Type 0 where
    denies : (which : Which) (number place : ℕ) → v ≡ Denied which number place → BodiesRefused a b s t g channel which number place → WayOut v
    asks : BodiesRead s t g channel → v ≡ ask (row_before s g channel) → WayOut v

  abbrev lacks : Bool
  lacks = leb (standing s g).records (row_in s (standing s g) channel)

  -- the group has no such channel
  lacking : lacks ≡ true → (i : ℕ) → i < (standing s g).records → source_in s g i ≡ channel → ⊥
  unfolding row_in
  lacking e = let x : Standing = standing s g in ctab_unseen x.edition s x.ctabs x.records channel (leb-true _ _ e)

  pub way_out : WayOut (of_record_before a b s t g channel ask)
  unfolding of_record_before unless body_read channel_found of_group of_channel after_run
  way_out = go (body_run s) (body_run t) refl refl
    where
      found : (n m : ℕ) → body_run s ≡ Ended n → body_run t ≡ Ended m → (c d : Bool) → leb n g ≡ c → lacks ≡ d
          → WayOut (unless BeforeBody 0 (cond c (refused 16 0) (cond d (refused 15 0) (granted (row_before s g channel)))) ask)
      found n m e f true d h i = denies BeforeBody 16 0 refl (no_group_given n m (has_groups s n e) (has_groups t m f) (leb-true n g h))
      found n m e f false true h i =
          denies BeforeBody 15 0 refl (no_channel_given m (record { count = n; groups = has_groups s n e; there = leb-false n g h }) (has_groups t m f) (lacking i))
      found n m e f false false h i = asks (record { n = n; m = m; before = e; after = f; there = leb-false n g h; its = leb-false _ _ i }) refl

      go : (p q : Run) → body_run s ≡ p → body_run t ≡ q
          → WayOut (unless BeforeBody a (after_run p (λ n. granted n)) (λ _.
          unless AfterBody b (after_run q (λ n. granted n)) (λ _.
          unless BeforeBody 0 (after_run p (λ n. cond (leb n g) (refused 16 0) (cond lacks (refused 15 0) (granted (row_before s g channel))))) ask)))
      go (Err why) q e f = denies BeforeBody why.number (a + why.place) refl (before_body why.number why.place (subst (RunTold (BodyRefused s)) e (body_told s)))
      go (Ok n) (Err why) e f =
          denies AfterBody why.number (b + why.place) refl (after_body n why.number why.place (has_groups s n e) (subst (RunTold (BodyRefused t)) f (body_told t)))
      go (Ok n) (Ok m) e f = found n m e f (leb n g) lacks refl refl

  -- a verdict that denies nothing is what was asked of the record
  pub not_denied : (v : Verdict) → ((which : Which) (number place : ℕ) → v ≡ Denied which number place → ⊥) → of_record_before a b s t g channel ask ≡ v
      → BodiesRead s t g channel × (ask (row_before s g channel) ≡ v)
  not_denied v f e = go way_out
    where
      go : WayOut (of_record_before a b s t g channel ask) → BodiesRead s t g channel × (ask (row_before s g channel) ≡ v)
      go (denies which number place q h) = absurd (f which number place (sym e ∙ q))
      go (asks read q) = (read, sym q ∙ e)

  -- where both are read and the record is there, it is asked
  pub read_asked : BodiesRead s t g channel → of_record_before a b s t g channel ask ≡ ask (row_before s g channel)
  unfolding of_record_before unless body_read channel_found of_group of_channel after_run
  read_asked r = rw (r.before, r.after, lt-leb r.n g r.there, lt-leb (standing s g).records (row_in s (standing s g) channel) r.its)

-- ---- two bodies

pub yes_denies_not : (which : Which) (number place : ℕ) → Yes ≡ Denied which number place → ⊥
yes_denies_not which number place e = let z : ◌≡◌ {A = ℕ} 0 1 = cc in omega arith

pub no_denies_not : (k : ℕ) (which : Which) (number place : ℕ) → No k ≡ Denied which number place → ⊥
no_denies_not k which number place e = let z : ◌≡◌ {A = ℕ} 0 1 = cc in omega arith

module _ (s t : List ℕ) (g channel : ℕ) where
  -- the comparison outside the record
  abbrev pub beside : Whereabouts → Verdict
  beside = λ row. compared s t row.at (size row.edition)

  pub yes_read : bodies_checked s t g channel ≡ Yes
      → BodiesRead s t g channel × (compared s t (row_of (standing s g) (row_in s (standing s g) channel)).at (size (standing s g).edition) ≡ Yes)
  unfolding bodies_checked
  yes_read e = not_denied 0 0 s t g channel beside Yes yes_denies_not e

  pub no_read : (k : ℕ) → bodies_checked s t g channel ≡ No k
      → BodiesRead s t g channel × (compared s t (row_of (standing s g) (row_in s (standing s g) channel)).at (size (standing s g).edition) ≡ No k)
  unfolding bodies_checked
  no_read k e = not_denied 0 0 s t g channel beside (No k) (no_denies_not k) e

  pub read_checked : BodiesRead s t g channel
      → bodies_checked s t g channel ≡ compared s t (row_of (standing s g) (row_in s (standing s g) channel)).at (size (standing s g).edition)
  unfolding bodies_checked
  read_checked r = read_asked 0 0 s t g channel beside r
