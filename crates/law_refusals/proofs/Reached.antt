-- The way back from conditions to answers: a run whose turns before number k go on comes to turn k; tests from what they say.
use Prim.Native.Nat.{ℕ, zero, suc, ◌≤◌, ◌<◌}
use mathlib.Core.Path.{◌≡◌, refl, ◌∙◌}
use mathlib.Core.Bool.{Bool, true, false}
use mathlib.Core.List.{List}
use native.Mathlib.Omega.{arith}
use native.Mathlib.Numerals.{add-one}
use Rattle.layout.specs.Scan.{first, run}
use Rattle.layout.specs.declared.edition.Edition.{Edition}
use Rattle.layout.specs.Editions.{alike}
use Rattle.layout.specs.Scan.{Turn}
use Rattle.layout.specs.Scan.{Refused, More, Done}
use Rattle.layout.specs.Scan.{Stopped, Ended}
use Rattle.layout.specs.Bytes.{tag_at, tagged}
use Rattle.layout.specs.Group.{head_fault}
use Rattle.layout.proofs.Scans.{first_is}
use Rattle.layout.proofs.Editions.{alike_self, alike_is}
use Rattle.layout.proofs.Runs.{run_more, run_stop, run_done}
use Rattle.layout.proofs.Same.{same_itself}
use Rattle.layout.proofs.Heads.{fault_cut, fault_tag, fault_past, fault_none}
use Rattle.law_refusals.specs.Heads.{HeadRefused, header_cut, other_tag, length_past, Headed}
use Rattle.law_refusals.specs.Contents.{FirstSuch}
use Rattle.law_refusals.proofs.Told.{tag_there}

module _ (turn : ℕ → Turn) (e : ℕ) where
  pub run_from : (k : ℕ) → k ≤ e → ((i : ℕ) → i < k → turn i ≡ More) → run turn 0 e ≡ run turn k e
  run_from zero l f = refl
  run_from (suc k) l f = run_from k (omega arith) (λ i h. f i (omega arith)) ∙ (rw (add-one k) at (run_more turn k e (omega arith) (f k (omega arith))))

  pub run_reaches : (k number place : ℕ) → k < e → ((i : ℕ) → i < k → turn i ≡ More) → turn k ≡ Refused number place → run turn 0 e ≡ Stopped number place
  run_reaches k number place l f t = run_from k (omega arith) f ∙ run_stop turn k e number place l t

  pub run_comes_to : (k : ℕ) → k < e → ((i : ℕ) → i < k → turn i ≡ More) → turn k ≡ Done → run turn 0 e ≡ Ended k
  run_comes_to k l f t = run_from k (omega arith) f ∙ run_done turn k e l t

-- a tag that stands there, and one that does not
module _ (s : List ℕ) (at : ℕ) (tag : List ℕ) where
  pub tagged_so : tag_at s at ≡ tag → tagged s at tag ≡ true
  unfolding tagged
  tagged_so e = rw e (same_itself tag)

  pub tagged_not : (tag_at s at ≡ tag → ⊥) → tagged s at tag ≡ false
  tagged_not f = go (tagged s at tag) refl
    where
      go : (b : Bool) → tagged s at tag ≡ b → b ≡ false
      go true e = absurd (f (tag_there s at tag e))
      go false e = refl

  -- a header
  pub head_is : (number : ℕ) → HeadRefused s at tag number → head_fault s at tag ≡ number
  head_is _ (header_cut a) = fault_cut s at tag a
  head_is _ (other_tag a b) = fault_tag s at tag a (tagged_not b)
  head_is _ (length_past a b c) = fault_past s at tag b (tagged_so a) c

  pub head_none : Headed s at tag → head_fault s at tag ≡ 0
  head_none h = let w = h.within in fault_none s at tag (omega arith) (tagged_so h.tagged) w

-- two editions
module _ (e f : Edition) where
  pub alike_so : e ≡ f → alike e f ≡ true
  alike_so q = rw q (alike_self f)

  pub alike_not : (e ≡ f → ⊥) → alike e f ≡ false
  alike_not n = go (alike e f) refl
    where
      go : (b : Bool) → alike e f ≡ b → b ≡ false
      go true q = absurd (n (alike_is e f q))
      go false q = refl

-- the first that passes a test
pub such_first : (test : ℕ → Bool) (n k : ℕ) → FirstSuch test n k → first test 0 n ≡ k
such_first test n k f = first_is test n k f.within f.passes f.before
