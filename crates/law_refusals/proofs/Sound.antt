-- What is sound is what no rule refuses: a text by its two laws, a group by the verdict on it, which is a refusal or none.
use Prim.Native.Nat.{ℕ}
use native.Mathlib.Omega.{arith}
use mathlib.Core.Path.{◌≡◌, refl, sym, ◌∙◌}
use mathlib.Core.Logic.{◌↔◌}
use mathlib.Core.Bool.{Bool, true, false, true≢false}
use mathlib.Core.List.{List}
use Rattle.layout.specs.Group.{Judged}
use Rattle.layout.specs.Sdec.{sound_text}
use Rattle.layout.specs.Group.{group_at}
use Rattle.law_refusals.specs.Text.{TextBroken}
use Rattle.law_refusals.specs.Body.{GroupRefused, GroupStands}
use Rattle.law_refusals.proofs.Told.{JudgedTold}
use Rattle.law_refusals.proofs.Texts.{text_told}
use Rattle.law_refusals.proofs.TextExact.{text_not}
use Rattle.law_refusals.proofs.Groups.{group_told}
use Rattle.law_refusals.proofs.GroupExact.{group_answers}
use Rattle.std.specs.Prelude.{Ok, Err}

-- a text
pub text_sound : (t : List ℕ) → (sound_text t ≡ true) ↔ (TextBroken t → ⊥)
text_sound t = (λ e b. true≢false (sym e ∙ text_not t b), λ h. go (sound_text t) refl h)
  where
    go : (b : Bool) → sound_text t ≡ b → (TextBroken t → ⊥) → b ≡ true
    go true e h = refl
    go false e h = absurd (h (text_told t e))

-- a group that stands is not refused
pub stands_not_refused : (p : List ℕ) → GroupStands p → (number place : ℕ) → GroupRefused p number place → ⊥
stands_not_refused p g number place r =
    let e = g.sound in
    let f = group_answers p number place r in
    let z : ◌≡◌ {A = ℕ} 0 1 = cc in
    absurd (omega arith)

-- a group
pub group_stands : (p : List ℕ) → GroupStands p ↔ ((number place : ℕ) → GroupRefused p number place → ⊥)
group_stands p = (stands_not_refused p, λ h. go (group_at p) refl (group_told p) h)
  where
    go : (v : Judged) → group_at p ≡ v → JudgedTold (GroupRefused p) v → ((number place : ℕ) → GroupRefused p number place → ⊥) → GroupStands p
    go (Err why) e r h = absurd (h why.number why.place r)
    go (Ok x) e r h = record { edition = x.edition; text = x.text; ctabs = x.ctabs; cntts = x.cntts; sound = e }
