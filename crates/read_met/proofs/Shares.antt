-- The halves of the names together are all of them: what the passes over them find is the first group that has a name of one before it.
use Prim.Native.Nat.{ℕ, ◌/◌, ◌<◌}
use native.Mathlib.Omega.{arith}
use native.Mathlib.Decide.{dec_lt}
use mathlib.Core.Path.{◌≡◌, refl, sym, ap, ◌∙◌}
use mathlib.Core.Bool.{Bool, true, false, ◌&&◌, ◌||◌, or-true}
use mathlib.Core.List.{List, [], ◌∷◌}
use borrow.Author.Tests.{eq-eqb}
use Rattle.layout.specs.Lists.{any}
use Rattle.layout.specs.Scan.{first}
use Rattle.layout.specs.Sdec.{names}
use Rattle.layout.specs.Body.{group_place, text_at}
use Rattle.layout.proofs.Scans.{first_within, first_stands, first_passed, first_none, first_is, first_alike}
use Rattle.read_names.specs.Marks.{spread, mark}
use Rattle.read_met.specs.declared.table.Share.TheVariants.{Lower, Upper, All}
use Rattle.read_met.specs.Table.{looked_at}
use Rattle.read_met.specs.Before.{taken, taken_in, again, again_in}
use Rattle.read_met.proofs.Sharing.{sharing_taken}

-- ---- a test on a share of a list

module _ {A : Type 0} (a b p : A → Bool) where
  every_one : ((x : A) → a x ≡ true) → (xs : List A) → any (λ x. a x && p x) xs ≡ any p xs
  unfolding any
  every_one h [] = refl
  every_one h (x ∷ xs) = rw (h x) (ap (λ (q : Bool). p x || q) (every_one h xs))

  either_share : ((x : A) → (a x || b x) ≡ true) → (xs : List A) → (any (λ x. a x && p x) xs || any (λ x. b x && p x) xs) ≡ any p xs
  unfolding any
  either_share h [] = refl
  either_share h (x ∷ xs) = go (a x) (b x) (p x) (any (λ x. a x && p x) xs) (any (λ x. b x && p x) xs) (any p xs) (h x) (either_share h xs)
    where
      go : (u v w y z t : Bool) → (u || v) ≡ true → (y || z) ≡ t → (((u && w) || y) || ((v && w) || z)) ≡ (w || t)
      go u v true true z t h e = rw (or-true (u && true)) refl
      go true v true false z t h e = refl
      go false v true false z t h e = rw h refl
      go true true false y z t h e = e
      go true false false y z t h e = e
      go false true false y z t h e = e
      go false false false y z t h e = e

-- ---- the first that passes one of two tests

pub first_either : (p q r : ℕ → Bool) (n : ℕ) → ((k : ℕ) → (p k || q k) ≡ r k) → first q 0 (first p 0 n) ≡ first r 0 n
first_either p q r n h = go (dec_lt (first q 0 (first p 0 n)) (first p 0 n)) (dec_lt (first p 0 n) n)
  where
    none : (k : ℕ) → k < first p 0 n → q k ≡ false → r k ≡ false
    none k l f = sym (h k) ∙ rw (first_passed p n k l, f)

    go : Dec (first q 0 (first p 0 n) < first p 0 n) → Dec (first p 0 n < n) → first q 0 (first p 0 n) ≡ first r 0 n
    go (yes a) d =
        let m = first q 0 (first p 0 n) in
        sym (first_is r n m (omega (arith, first_within p n)) (sym (h m) ∙ rw (first_stands q (first p 0 n) a) (or-true (p m)))
        (λ i l. none i (omega arith) (first_passed q (first p 0 n) i l)))
    go (no a) (yes b) =
        let e : first q 0 (first p 0 n) ≡ first p 0 n = omega (arith, first_within q (first p 0 n)) in
        e ∙ sym (first_is r n (first p 0 n) b (sym (h (first p 0 n)) ∙ rw (first_stands p n b) refl)
        (λ i l. none i l (first_passed q (first p 0 n) i (omega arith))))
    go (no a) (no b) =
        let e : first q 0 (first p 0 n) ≡ first p 0 n = omega (arith, first_within q (first p 0 n)) in
        let w : first p 0 n ≡ n = omega (arith, first_within p n) in
        e ∙ (w ∙ sym (first_none r n (λ k l. none k (omega arith) (first_passed q (first p 0 n) k (omega arith)))))

-- ---- the shares of the names

looked_all : (m : ℕ) → looked_at All m ≡ true
unfolding looked_at
looked_all m = refl

mark_small : (name : List ℕ) → mark name < 274877906944
unfolding mark spread
mark_small name = omega arith

looked_either : (name : List ℕ) → (looked_at Lower (mark name) || looked_at Upper (mark name)) ≡ true
unfolding looked_at
looked_either name = go (dec_lt (mark name) 137438953472)
  where
    go : Dec (mark name < 137438953472) → (looked_at Lower (mark name) || looked_at Upper (mark name)) ≡ true
    go (yes l) = rw (eq-eqb (mark name / 137438953472) 0 (omega arith)) refl
    go (no l) = rw (eq-eqb (mark name / 137438953472) 1 (omega (arith, mark_small name))) (or-true (looked_at Lower (mark name)))

module _ (s : List ℕ) where
  pub again_all : (n : ℕ) → first (again_in All s) 0 n ≡ first (again s) 0 n
  unfolding again again_in taken_in
  again_all n =
      first_alike (again_in All s) (again s) n (λ k l.
      every_one (λ x. looked_at All (mark x)) (λ x. false) (taken s k) (λ x. looked_all (mark x)) (names (text_at s (group_place s k))) ∙ sym (sharing_taken s k (group_place s k)))

  pub again_halves : (n m : ℕ) → m ≡ first (again_in Lower s) 0 n → first (again_in Upper s) 0 m ≡ first (again s) 0 n
  unfolding again again_in taken_in
  again_halves n m e =
      rw e (first_either (again_in Lower s) (again_in Upper s) (again s) n (λ k.
      either_share (λ x. looked_at Lower (mark x)) (λ x. looked_at Upper (mark x)) (taken s k) looked_either (names (text_at s (group_place s k))) ∙ sym (sharing_taken s k (group_place s k))))
