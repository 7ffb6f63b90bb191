-- What a plan writes without the records: nothing on refusal, else the group's header and its Sdec, and its Cntts.
use Prim.Native.Nat.{ℕ, ◌+◌, ◌-◌}
use mathlib.Core.Path.{◌≡◌, refl, ◌∙◌, ap, ap₂}
use mathlib.Core.List.{List, ◌++◌}
use native.Mathlib.Omega.{arith}
use lib.ListN.{length, drop}
use Rattle.std.specs.Prelude.{Ok, Err}
use Rattle.layout.specs.declared.turn.Refusal.{Refusal}
use Rattle.layout.specs.Bytes.{CSEG, Sdec, four, chunk}
use Rattle.layout.specs.Edit.{replaced}
use Rattle.layout.specs.Group.{ctab_place}
use Rattle.write_plan.specs.declared.Plan.{Plan}
use Rattle.write_plan.specs.Checking.{Plans, start_place, start_bytes}
use Rattle.write_plan.specs.Chunks.{cntts_down, framed}

module _ (text out : List ℕ) where
  pub frame_none : (plan : Plans) (why : Refusal) → plan ≡ Err why → (0 ≡ start_place text plan) × (out ≡ framed text plan out)
  unfolding start_place framed
  frame_none plan why h = rw h (refl, refl)

  pub start_put : (p : Plan) (last : List ℕ) → last ≡ CSEG ++ (four (p.length - 8) ++ (chunk Sdec text ++ drop (16 + length text) out))
      → (16 + length text ≡ start_place text (Ok p)) × (last ≡ replaced out 0 (start_bytes text (Ok p)))
  unfolding start_place start_bytes replaced chunk four
  start_put p last e =
      let q : 16 + length text ≡ 0 + length (CSEG ++ (four (p.length - 8) ++ chunk Sdec text)) = omega arith in
      (refl, e ∙ ap (λ (k : ℕ). CSEG ++ (four (p.length - 8) ++ (chunk Sdec text ++ drop k out))) q)

  -- .. and the Cntts behind the room of the Ctabs
  pub frame_put : (plan : Plans) (p : Plan) → plan ≡ Ok p → (one two : List ℕ) (m to : ℕ) → (m ≡ start_place text (Ok p)) × (one ≡ replaced out 0 (start_bytes text (Ok p))) → to ≡ ctab_place p.edition m p.records
      → two ≡ replaced one to (cntts_down p.cntts p.seconds) → (m ≡ start_place text plan) × (two ≡ framed text plan out)
  unfolding framed
  frame_put plan p is one two m to a h e =
      rw is (a.0, e ∙ ap₂ (λ (l : List ℕ) (k : ℕ). replaced l k (cntts_down p.cntts p.seconds)) a.1 (h ∙ ap (λ (k : ℕ). ctab_place p.edition k p.records) a.0))
