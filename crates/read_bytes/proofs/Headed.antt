-- What the answer of `check_head` says of the number: none, or the one that is told, at the chunk's place.
use Prim.Native.Nat.{ℕ}
use mathlib.Core.Path.{◌≡◌, ap, sym, refl}
use mathlib.Core.Bool.{Bool, true, false, cond}
use native.Mathlib.Omega.{arith}
use lib.Dec.{eqb}
use borrow.Author.Tests.{eqb-true, eqb-false}
use Rattle.std.specs.Prelude.{Result, Ok, Err}
use Rattle.layout.specs.declared.turn.Refusal.{Refusal}
use Rattle.read_bytes.specs.Heads.{headed}

pub as_headed : (n f at : ℕ) → n ≡ f → headed n at ≡ headed f at
as_headed n f at h = ap (λ x. headed x at) h

module _ (f at : ℕ) where
  -- a header without fault
  pub head_fine : (u : Unit {0}) → headed f at ≡ Ok u → f ≡ 0
  unfolding headed
  head_fine u q = go (eqb f 0) refl q
    where
      go : (b : Bool) → eqb f 0 ≡ b → ◌≡◌ {A = Result (Unit {0}) Refusal} (cond b (Ok tt) (Err (record { number = f; place = at }))) (Ok u) → f ≡ 0
      go true e w = eqb-true _ _ e
      go false e w = absurd (let z : ◌≡◌ {A = ℕ} 0 1 = cc in omega arith)

  -- .. and one with a fault, which is told
  pub head_faulty : (why : Refusal) → headed f at ≡ Err why → (f ≡ 0 → ⊥) × (◌≡◌ {A = Refusal} (record { number = f; place = at }) why)
  unfolding headed
  head_faulty why q = go (eqb f 0) refl q
    where
      go : (b : Bool) → eqb f 0 ≡ b → ◌≡◌ {A = Result (Unit {0}) Refusal} (cond b (Ok tt) (Err (record { number = f; place = at }))) (Err why) → (f ≡ 0 → ⊥) × (◌≡◌ {A = Refusal} (record { number = f; place = at }) why)
      go true e w = absurd (let z : ◌≡◌ {A = ℕ} 0 1 = cc in omega arith)
      go false e w = (eqb-false _ _ e, cc)

  -- .. as a caller goes on with it
  pub head_told : {A : Type 0} (why : Refusal) → headed f at ≡ Err why → ◌≡◌ {A = Result A Refusal} (Err why) (Err (record { number = f; place = at }))
  head_told why q = ap Err (sym (head_faulty why q).1)
