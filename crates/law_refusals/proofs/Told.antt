-- What is told of every refusal that a turn, a run, a verdict or an answer can come to.
use Prim.Native.Nat.{ℕ, zero, suc, ◌+◌, ◌-◌, ◌<◌}
use mathlib.Core.Path.{◌≡◌, refl, sym, ◌∙◌}
use mathlib.Core.Bool.{true, false, false≢true}
use mathlib.Core.List.{List}
use native.Mathlib.Omega.{arith}
use native.Mathlib.Numerals.{add-one}
use Rattle.layout.specs.Scan.{run_of, run}
use Rattle.layout.specs.Scan.{Turn}
use Rattle.layout.specs.Scan.{More}
use Rattle.layout.specs.Scan.{Run}
use Rattle.layout.specs.Scan.{Ended}
use Rattle.layout.specs.Group.{Judged}
use Rattle.layout.specs.Answers.{Answer, refused, granted, after_run}
use Rattle.layout.specs.Bytes.{tag_at, tagged}
use Rattle.layout.proofs.Same.{same_is, same_itself}
use Rattle.layout.specs.declared.turn.Met.TheVariants.{Chunk, End}
use Rattle.std.specs.Prelude.{Ok, Err}

module _ (P : ℕ → ℕ → Type 0) where
  -- of a turn
  abbrev pub TurnTold : Turn → Type 0
  TurnTold (Err why) = P why.number why.place
  TurnTold (Ok Chunk) = Unit {0}
  TurnTold (Ok End) = Unit {0}

  -- of a run
  abbrev pub RunTold : Run → Type 0
  RunTold (Err why) = P why.number why.place
  RunTold (Ok n) = Unit {0}

  -- of a verdict
  abbrev pub JudgedTold : Judged → Type 0
  JudgedTold (Err why) = P why.number why.place
  JudgedTold (Ok x) = Unit {0}

  -- of an answer
  abbrev pub AnswerTold : {A : Type 0} → Answer A → Type 0
  AnswerTold (refused number place) = P number place
  AnswerTold (granted a) = Unit {0}

-- a run tells what its turns tell, and what is kept from turn to turn
module _ (P : ℕ → ℕ → Type 0) (turn : ℕ → Turn) (Kept : ℕ → Type 0) (next : (k : ℕ) → Kept k → turn k ≡ More → Kept (k + 1)) where
  module _ (e : ℕ) (tell : (k : ℕ) → k < e → Kept k → TurnTold P (turn k)) where
    turns : (n k : ℕ) → k + n ≡ e → Kept k → RunTold P (run_of turn k n)
    unfolding run_of
    turns zero k q held = tt
    turns (suc n) k q held = go (turn k) refl (tell k (omega arith) held) (λ h. turns n (suc k) (omega arith) h)
      where
        go : (t : Turn) → turn k ≡ t → TurnTold P t → (Kept (suc k) → RunTold P (run_of turn (suc k) n)) → RunTold P (run_of turn k (suc n))
        go (Err why) f h more = rw (f, run_of) h
        go (Ok Chunk) f h more = rw (f, run_of) (more (rw (add-one k) at (next k held f)))
        go (Ok End) f h more = rw (f, run_of) tt

    pub run_told : Kept 0 → RunTold P (run turn 0 e)
    unfolding run
    run_told start = turns (e - 0) 0 (omega arith) start

-- an answer after a run
pub after_told : {A : Type 0} (P : ℕ → ℕ → Type 0) (r : Run) (ask : ℕ → Answer A) → RunTold P r → ((n : ℕ) → r ≡ Ended n → AnswerTold P (ask n)) → AnswerTold P (after_run r ask)
unfolding after_run
after_told P (Err why) ask h f = h
after_told P (Ok n) ask h f = f n refl

-- ---- tags

pub tag_there : (s : List ℕ) (at : ℕ) (tag : List ℕ) → tagged s at tag ≡ true → tag_at s at ≡ tag
unfolding tagged
tag_there s at tag e = same_is (tag_at s at) tag e

pub tag_other : (s : List ℕ) (at : ℕ) (tag : List ℕ) → tagged s at tag ≡ false → tag_at s at ≡ tag → ⊥
unfolding tagged
tag_other s at tag e q = false≢true (sym e ∙ rw q (same_itself tag))
