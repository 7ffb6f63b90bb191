-- The number of Ctabs in sound contents is the first place in their run where it is over: the end, or a Cntt. So where that test is the same in two contents, they have as many.
use Prim.Native.Nat.{ℕ, ◌+◌, ◌≤◌, ◌<◌}
use mathlib.Core.Path.{◌≡◌, refl, sym, ◌∙◌}
use mathlib.Core.Bool.{Bool, true, false, cond, not, true≢false}
use mathlib.Core.List.{List}
use native.Mathlib.Omega.{arith}
use native.Mathlib.Decide.{dec_lt}
use lib.Dec.{ltb, eqb}
use lib.ListN.{length, get_or}
use Rattle.layout.specs.Bytes.{word, tagged, Cntt}
use Rattle.layout.specs.declared.edition.Edition.{Edition}
use Rattle.layout.specs.Scan.{Refused, More, Done}
use Rattle.layout.specs.Scan.{Ended}
use Rattle.layout.specs.Editions.{tag_of, size}
use Rattle.layout.specs.Ranges.{first_out}
use Rattle.layout.specs.Group.{head_fault, ctabs_over, ctab_place, ctab_of, ctab_at, ctab_turn, ctabs_of}
use Rattle.layout.proofs.Ctabs.{ctab_over, ctabs_fit}
use Rattle.law_rounds.proofs.Runs.{run_ran}

module _ (ed : Edition) (c : List ℕ) (p n at : ℕ) where
  more_not_over : ctab_at ed c p n at ≡ More → ctabs_over c at ≡ false
  more_not_over m = go (ctabs_over c at) refl
    where
      go : (b : Bool) → ctabs_over c at ≡ b → ctabs_over c at ≡ false
      go true h = absurd (let q : Done ≡ More = sym (ctab_over ed c p n at h) ∙ m in let z : ◌≡◌ {A = ℕ} 0 1 = cc in omega arith)
      go false h = h

  done_over : ctab_at ed c p n at ≡ Done → ctabs_over c at ≡ true
  unfolding ctab_at
  done_over m =
      go (ctabs_over c at) (eqb (head_fault c at (tag_of ed)) 0) (eqb (word c (at + 4)) (size ed)) (ltb (first_out ed c (at + 8) (size ed)) (size ed))
      (ltb (ctab_of ed c p n (get_or c (at + 8) 0)) n) refl m
    where
      go : (a b d e f : Bool) → ctabs_over c at ≡ a
          → cond a Done (cond (not b) (Refused (head_fault c at (tag_of ed)) at) (cond (not d) (Refused 7 at)
          (cond e (Refused 9 (at + 8 + first_out ed c (at + 8) (size ed))) (cond f (Refused 10 at) More)))) ≡ Done
          → ctabs_over c at ≡ true
      go true b d e f h q = h
      go false false d e f h q = absurd (let z : ◌≡◌ {A = ℕ} 0 1 = cc in omega arith)
      go false true false e f h q = absurd (let z : ◌≡◌ {A = ℕ} 0 1 = cc in omega arith)
      go false true true true f h q = absurd (let z : ◌≡◌ {A = ℕ} 0 1 = cc in omega arith)
      go false true true false true h q = absurd (let z : ◌≡◌ {A = ℕ} 0 1 = cc in omega arith)
      go false true true false false h q = absurd (let z : ◌≡◌ {A = ℕ} 0 1 = cc in omega arith)

-- the first number that passes a test is one alone
one_first : (p q : ℕ → Bool) (n m : ℕ) → ((j : ℕ) → p j ≡ q j) → ((j : ℕ) → j < n → p j ≡ false) → p n ≡ true → ((j : ℕ) → j < m → q j ≡ false) → q m ≡ true → n ≡ m
one_first p q n m same a b c d = go (dec_lt n m) (dec_lt m n)
  where
    go : Dec (n < m) → Dec (m < n) → n ≡ m
    go (yes l) x = absurd (true≢false (sym b ∙ same n ∙ c n l))
    go (no l) (yes x) = absurd (true≢false (sym d ∙ sym (same m) ∙ a m x))
    go (no l) (no x) = omega arith

module _ (e : Edition) (p : ℕ) where
  not_over : (c : List ℕ) (n : ℕ) → ctabs_of e c p ≡ Ended n → (j : ℕ) → j < n → ctabs_over c (ctab_place e p j) ≡ false
  unfolding ctabs_of ctab_turn
  not_over c n h j l = more_not_over e c p j (ctab_place e p j) ((run_ran (ctab_turn e c p) (length c + 1) n h).goes j l)

  over : (c : List ℕ) (n : ℕ) → p ≤ length c → ctabs_of e c p ≡ Ended n → ctabs_over c (ctab_place e p n) ≡ true
  unfolding ctab_turn
  over c n w h = done_over e c p n (ctab_place e p n) (ctabs_fit e c p n w h).1

  pub same_ctabs : (c d : List ℕ) (n m : ℕ) → p ≤ length c → p ≤ length d → ctabs_of e c p ≡ Ended n → ctabs_of e d p ≡ Ended m
      → ((j : ℕ) → ctabs_over c (ctab_place e p j) ≡ ctabs_over d (ctab_place e p j)) → n ≡ m
  same_ctabs c d n m v w h k same =
      one_first (λ j. ctabs_over c (ctab_place e p j)) (λ j. ctabs_over d (ctab_place e p j)) n m same (not_over c n h) (over c n v h) (not_over d m k) (over d m w k)

pub same_over : (c d : List ℕ) (at : ℕ) → length c ≡ length d → tagged c at Cntt ≡ tagged d at Cntt → ctabs_over c at ≡ ctabs_over d at
unfolding ctabs_over
same_over c d at long tag = rw (long, tag)
