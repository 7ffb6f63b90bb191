-- A call in a proof by hand has returned w: its result r, and what the contract says of r, are given.
use mathlib.Core.List.{List, [], ◌∷◌}
use seplogic.Ra.Ura.{Ura}
use mir.Val.{Val}
use base.Logic.{sep, ex, id⊢}
use base.Fml.{ftrue}
use types.Logic.{Logic, sem}
use contract.Monad.{fact}
use contract.Lifetimes.{Lfts}
use types.Kit.{Item, Goal, Seq, Soaks, mean, ‵, raw, ◌⊛◌, some, later, ◌$◌, use1, await, pick, split, move, drop}
use denote.RattleType.{RattleType}
use denote.Laws.{Is, shows}
use denote.Steps.{heard, peeks}
use denote.Triple.Entry.{Args}
use denote.Triple.Clauses.{Ended, Lasts, lasts}

module _ {M : Type 1} {𝓤 : Ura M} {𝓛 : Logic 𝓤} {K : Type 0} {Γ : List (Item 𝓤)} {G : Goal 𝓤 𝓛.H} where
  -- what the contract says reads what was lent as it is at exit, ws. [what the result owns; the tokens, i; the last values; the rest]
  open 𝓛 use {H}

  pub gives_lent : K → Soaks G → (T : Ended) (κs : Lfts T.signature.lifetimes) (a : Args T.signature κs) (R : RattleType) (φ : R.Denot → Lasts T κs a → Type 0) (i : Item 𝓤) (w : Val)
      → ((r : R.Denot) (ws : Lasts T κs a) → φ r ws → Is R r (w ∷ []) → Seq K 𝓛 (‵ (R.own_val r (w ∷ [])) ∷ i ∷ ‵ (lasts T κs a ws) ∷ Γ) G)
      → Seq K 𝓛 (raw (H.⇛ (ex 𝓤 (λ (r : R.Denot). sep 𝓤 (sep 𝓤 (mean 𝓛 i) (sem 𝓛 (R.own_val r (w ∷ [])))) (ex 𝓤 (λ (ws : Lasts T κs a). sep 𝓤 (sem 𝓛 (lasts T κs a ws)) (fact 𝓤 (φ r ws))))))) ∷ Γ) G
  gives_lent t z T κs a R φ i w k =
      use1 𝓛 (later (some (λ (r : R.Denot). (i ⊛ ‵ (R.own_val r (w ∷ []))) ⊛ some (λ (ws : Lasts T κs a). ‵ (lasts T κs a ws) ⊛ raw (fact 𝓤 (φ r ws)))))) (id⊢ 𝓤 _) $ await t z $ pick t (λ r.
      split t $ move t (1 ∷ []) $ pick t (λ ws. split t $ move t (1 ∷ []) $ heard t (φ r ws) (λ e. move t (1 ∷ []) $ split t $ move t (1 ∷ []) $ peeks t R (Is R) (shows 𝓛 R) r (w ∷ []) (k r ws e))))

  -- it reads nothing at exit: [what the result owns; the tokens; the rest]
  pub gives_back : K → Soaks G → (T : Ended) (κs : Lfts T.signature.lifetimes) (a : Args T.signature κs) (R : RattleType) (φ : R.Denot → Type 0) (i : Item 𝓤) (w : Val)
      → ((r : R.Denot) → φ r → Is R r (w ∷ []) → Seq K 𝓛 (‵ (R.own_val r (w ∷ [])) ∷ i ∷ Γ) G)
      → Seq K 𝓛 (raw (H.⇛ (ex 𝓤 (λ (r : R.Denot). sep 𝓤 (sep 𝓤 (mean 𝓛 i) (sem 𝓛 (R.own_val r (w ∷ [])))) (ex 𝓤 (λ (ws : Lasts T κs a). sep 𝓤 (sem 𝓛 (lasts T κs a ws)) (fact 𝓤 (φ r))))))) ∷ Γ) G
  gives_back t z T κs a R φ i w k = gives_lent t z T κs a R (λ r ws. φ r) i w (λ r ws e is. move t (2 ∷ []) $ drop t $ k r e is)

  -- nothing is lent, and there are no tokens: [what the result owns; the rest]
  pub gives : K → Soaks G → (T : Ended) (κs : Lfts T.signature.lifetimes) (a : Args T.signature κs) (R : RattleType) (φ : R.Denot → Type 0) (w : Val)
      → ((r : R.Denot) → φ r → Is R r (w ∷ []) → Seq K 𝓛 (‵ (R.own_val r (w ∷ [])) ∷ Γ) G)
      → Seq K 𝓛 (raw (H.⇛ (ex 𝓤 (λ (r : R.Denot). sep 𝓤 (sep 𝓤 (mean 𝓛 (‵ ftrue)) (sem 𝓛 (R.own_val r (w ∷ [])))) (ex 𝓤 (λ (ws : Lasts T κs a). sep 𝓤 (sem 𝓛 (lasts T κs a ws)) (fact 𝓤 (φ r))))))) ∷ Γ) G
  gives t z T κs a R φ w k = gives_back t z T κs a R φ (‵ ftrue) w (λ r e is. move t (1 ∷ []) $ drop t $ k r e is)
