-- A function whose body was walked meets its contract.
use seplogic.Ra.Ura.{Ura}
use mir.Syntax.{Fn}
use base.Logic.{ent, sep, via, fst∗}
use prog.Wp.{WpFn, Tables}
use types.Logic.{Logic}
use contract.Lifetimes.{Lfts, Shares, AllOutlive}
use sound.WpLaws.{WpFn-mono}
use denote.RattleType.{flat}
use denote.Laws.{Are, Ises, Spells, valss, Tellss}
use denote.Signature.{Signature, types_at}
use denote.Triple.Entry.{Args, on_entry}
use denote.Triple.Spec.{Meets}
use denote.Triple.Clauses.{Clauses, Ended, closing}
use denote.Triple.Walked.{Stays, AllGo, walk_of, walked, walk_Meets}

module _ {M : Type 1} {𝓤 : Ura M} (𝓛 : Logic 𝓤) (T : Ended) (hs : Stays T.signature.params T.kept)
    (gs : AllGo 𝓛 T.signature.lifetimes T.signature.params T.kept hs) (c : Clauses 𝓤 T) (𝓣 : Tables 𝓤 𝓛.H) (f : Fn)
    (sp : (κs : Lfts T.signature.lifetimes) → Spells (types_at T.signature.params κs))
    (tl : (κs : Lfts T.signature.lifetimes) → Tellss (types_at T.signature.params κs) (Ises (types_at T.signature.params κs)) (sp κs)) where
  open 𝓛 use {H}

  abbrev S : Signature
  S = T.signature

  -- the walk has what the contract requires
  pub meets_under : ((κs : Lfts S.lifetimes) (qs : Shares S.lifetimes) (bounds : AllOutlive S.lifetimes S.outlives κs) (a : Args S κs) (g : (c κs a).ghost)
      → Are (types_at S.params κs) (Ises (types_at S.params κs)) a (valss (types_at S.params κs) (sp κs) a)
      → ent 𝓤 (sep 𝓤 (on_entry 𝓛 S κs qs a (valss (types_at S.params κs) (sp κs) a)) ((c κs a).requires g))
      (WpFn 𝓤 H 𝓣.C 𝓣.Λ f (flat (types_at S.params κs) (valss (types_at S.params κs) (sp κs) a)) ((walk_of 𝓛 T hs c).post ((κs, qs, bounds, a, valss (types_at S.params κs) (sp κs) a), g))))
      → Meets 𝓛 S (WpFn 𝓤 H 𝓣.C 𝓣.Λ f) (closing 𝓛 T c)
  meets_under k = walk_Meets 𝓛 T hs gs c (WpFn 𝓤 H 𝓣.C 𝓣.Λ f) (WpFn-mono 𝓤 H 𝓛.laws 𝓣 f) (walked 𝓛 T hs c (WpFn 𝓤 H 𝓣.C 𝓣.Λ f) sp tl k)

  -- .. or does without
  pub meets : ((κs : Lfts S.lifetimes) (qs : Shares S.lifetimes) (bounds : AllOutlive S.lifetimes S.outlives κs) (a : Args S κs) (g : (c κs a).ghost)
      → Are (types_at S.params κs) (Ises (types_at S.params κs)) a (valss (types_at S.params κs) (sp κs) a)
      → ent 𝓤 (on_entry 𝓛 S κs qs a (valss (types_at S.params κs) (sp κs) a))
      (WpFn 𝓤 H 𝓣.C 𝓣.Λ f (flat (types_at S.params κs) (valss (types_at S.params κs) (sp κs) a)) ((walk_of 𝓛 T hs c).post ((κs, qs, bounds, a, valss (types_at S.params κs) (sp κs) a), g))))
      → Meets 𝓛 S (WpFn 𝓤 H 𝓣.C 𝓣.Λ f) (closing 𝓛 T c)
  meets k = meets_under (λ κs qs bounds a g are. via 𝓤 _ (fst∗ 𝓤 _ ((c κs a).requires g)) (k κs qs bounds a g are))
