-- The Cntts of the first edition; of the second nothing, or what stands there is refused.
use Prim.Native.Nat.{ℕ, ◌+◌}
use mathlib.Core.Path.{◌≡◌, sym, subst, ◌∙◌}
use mathlib.Core.Bool.{Bool}
use mathlib.Core.List.{List}
use Rattle.layout.specs.declared.edition.Edition.{Edition}
use Rattle.layout.specs.Scan.{Ended}
use Rattle.layout.specs.declared.edition.Edition.TheVariants.{Second}
use Rattle.layout.specs.Group.{ctab_place, ctab_channel, after_ctabs, Judged, Unsound, Sound}
use Rattle.layout.proofs.Groups.{behind_halted, behind_cntts, behind_none, behind_some}
use Rattle.layout.proofs.Ctabs.{place_of}
use Rattle.std.proofs.lemmas.Result.{err_from_is_err_and}
use Rattle.std.specs.Prelude.{Err}
use Rattle.read_group.specs.Seen.{Seen}
use Rattle.read_group.proofs.judge_behind.Goals as goal

-- at the edition that the match found
seen_of : (e f : Edition) (c : List ℕ) (p n : ℕ) (seen : List Bool) → e ≡ f → Seen (ctab_channel e c p) n seen → Seen (ctab_channel f c p) n seen
seen_of e f c p n seen h s = subst (λ (x : Edition). Seen (ctab_channel x c p) n seen) h s

told : (e f : Edition) (c : List ℕ) (text n : ℕ) (r : Edition → Judged) → e ≡ f → after_ctabs f c text (Ended n) ≡ r f → r e ≡ after_ctabs e c text (Ended n)
told e f c text n r h q = sym (subst (λ (x : Edition). after_ctabs x c text (Ended n) ≡ r x) (sym h) q)

pub read_cntts-requires : goal.read_cntts-requires
read_cntts-requires c =
    let p = c.requires in
    (place_of _ _ _ _ _ c.in-First.is p.0, seen_of _ _ _ _ _ _ c.in-First.is p.1)

pub ctab_place-at-requires : goal.ctab_place-at-requires
ctab_place-at-requires c = place_of _ _ _ _ _ c.in-Second.is c.requires.0

pub returns-then-at-c : goal.returns-then-at-c
returns-then-at-c c = rw c.ctab_place-at.ensures (told _ _ _ _ _ (λ x. Unsound 6 (ctab_place Second (8 + c.args.text) c.args.n)) c.in-Second.is (behind_some _ _ _ (λ e. c.if-at-c.true (c.ctab_place-at.ensures ∙ e))))

pub returns-in_err-m-in-First : goal.returns-in_err-m-in-First
returns-in_err-m-in-First c =
    let p = err_from_is_err_and c.from_residual.result c.from_residual.ensures.1 in
    rw (p.1, p.2) (told _ _ _ _ _ (λ x. Err c.in_err-m-in-First.field-0.0) c.in-First.is (behind_halted _ _ _ _ _ (sym c.in_err-m-in-First.ensures)))

pub returns-in_ok-m-in-First : goal.returns-in_ok-m-in-First
returns-in_ok-m-in-First c = told _ _ _ _ _ (λ x. Sound x c.args.text c.args.n c.in_ok-m-in-First.m) c.in-First.is (behind_cntts _ _ _ _ (sym c.in_ok-m-in-First.ensures))

pub returns-else-at-c : goal.returns-else-at-c
returns-else-at-c c = told _ _ _ _ _ (λ x. Sound x c.args.text c.args.n 0) c.in-Second.is (behind_none _ _ _ (sym c.ctab_place-at.ensures ∙ c.if-at-c.false))
