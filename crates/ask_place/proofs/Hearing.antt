-- What is heard, in the documents' words: the note within the limits that document 01 names, and the nearest octave exactly when no octave lies within both.
-- A value stands in one of three ways to the limits, each with a formula for the folded value; an octave of it is a remainder by 12.
use Prim.Native.Nat.{ℕ, suc, ◌+◌, ◌-◌, ◌%◌, ◌≤◌, ◌<◌}
use mathlib.Core.Path.{◌≡◌, refl, sym, ◌∙◌, ap}
use mathlib.Core.Bool.{Bool, true, false, cond, ◌||◌}
use mathlib.Core.Logic.{◌⊎◌, inl, inr}
use native.Mathlib.Omega.{arith}
use borrow.Author.Tests.{ltb-true, ltb-false}
use lib.Dec.{ltb}
use lib.IntN.{ℤ, pos, negsuc, nat_abs, sub_ℕ, ◌-ℤ◌}
use lib.Signed.{lt_z}
use Rattle.layout.specs.Place.{folded, nearest, heard}
use Rattle.ask_place.specs.Octaves.{remainder, Octave, Sounds, NoneWithin, Answers, within, elsewhere}
use Rattle.ask_place.proofs.Signed.{never, sub_up, sub_down, pos_pos, sub_lt, lt_sub, sub_ge}
use Rattle.ask_place.proofs.Folding.{remainder_small, fold_below, fold_above, fold_inside}
use Rattle.ask_place.proofs.Nearing.{octave_rest, rest_octave, raised_rest, nearest_is_nearest, one_nearest}

-- ---- where a value stands to the limits, and its folded value

data Stands (v : ℤ) (low high : ℕ) : Type 0 where
  raised : lt_z v (pos low) ≡ true → (n : ℕ) → low ≤ n → n < low + 12 → n % 12 ≡ remainder v → folded v low high ≡ pos n → Stands v low high
  lowered : (a : ℕ) → v ≡ pos a → low ≤ a → high < a → folded v low high ≡ sub_ℕ high (11 - (a - suc high) % 12) → Stands v low high
  stays : (a : ℕ) → v ≡ pos a → low ≤ a → a ≤ high → folded v low high ≡ pos a → Stands v low high

stands : (v : ℤ) (low high : ℕ) → Stands v low high
unfolding remainder
stands v low high = go (lt_z v (pos low)) refl v refl
  where
    above : (a : ℕ) → v ≡ pos a → lt_z v (pos low) ≡ false → (t : Bool) → ltb high a ≡ t → Stands v low high
    above a e g true h =
        lowered a e (ltb-false a low (rw e at g)) (ltb-true high a h)
        (fold_above v low high g (rw e h) ∙ rw (e, pos_pos high a, sub_down high a (ltb-true high a h)) (pos_pos high (11 - (a - suc high) % 12)))
    above a e g false h = stays a e (ltb-false a low (rw e at g)) (ltb-false high a h) (fold_inside v low high g (rw e h) ∙ e)

    go : (s : Bool) → lt_z v (pos low) ≡ s → (w : ℤ) → v ≡ w → Stands v low high
    go true g w e =
        let z = remainder_small (v -ℤ pos low) in
        raised g (low + remainder (v -ℤ pos low)) (omega arith) (omega arith) (raised_rest v low) (fold_below v low high g)
    go false g (pos a) e = above a e g (ltb high a) refl
    go false g (negsuc a) e = never (let z : true ≡ false = rw e at g in cc)

-- a value below the low limit and above the high one: the limits are crossed
crossed : (v : ℤ) (low high : ℕ) → lt_z v (pos low) ≡ true → lt_z (pos high) v ≡ true → high < low
crossed (pos a) low high g h = omega (arith, ltb-true a low g, ltb-true high a h)
crossed (negsuc a) low high g h = never (cc)

module _ (v : ℤ) (low high : ℕ) where
  -- ---- within the limits: the note that document 01 names

  sounding : (n : ℕ) → Stands v low high → lt_z (folded v low high) (pos low) ≡ false → lt_z (pos high) (folded v low high) ≡ false → nat_abs (folded v low high) ≡ n → Sounds v low high n
  unfolding remainder
  sounding n (raised b k l u r f) s t e =
      let z : k ≡ n = rw f at e in
      let y = ltb-false high k (rw f at t) in
      record {
        reaches = omega arith;
        meets = omega arith;
        octave = rest_octave v n (rw z at r);
        inside = λ g h. never (let x : true ≡ false = sym b ∙ g in cc);
        smallest = λ g m o h. let x = octave_rest v m o in omega arith;
        largest = λ g m o h. let x = crossed v low high b g in omega arith;
      }
  sounding n (lowered a p g h f) s t e =
      let y = sub_ge high (11 - (a - suc high) % 12) low (rw f at s) in
      let z : high - (11 - (a - suc high) % 12) ≡ n = rw (f, sub_up high (11 - (a - suc high) % 12) (omega arith)) at e in
      record {
        reaches = omega arith;
        meets = omega arith;
        octave = rest_octave v n (rw p (omega arith));
        inside = λ q r. never (let x = ltb-false high a (rw p at r) in omega arith);
        smallest = λ q m o l. never (let x = ltb-true a low (rw p at q) in omega arith);
        largest = λ q m o l. let x : m % 12 ≡ a % 12 = rw p at (octave_rest v m o) in omega arith;
      }
  sounding n (stays a p g h f) s t e =
      let z : a ≡ n = rw f at e in
      record {
        reaches = omega arith;
        meets = omega arith;
        octave = rest_octave v n (rw p (omega arith));
        inside = λ q r. p ∙ ap pos z;
        smallest = λ q m o l. never (let x = ltb-true a low (rw p at q) in omega arith);
        largest = λ q m o l. never (let x = ltb-true high a (rw p at q) in omega arith);
      }

  -- ---- past a limit: every octave is

  past : Stands v low high → (lt_z (folded v low high) (pos low) ≡ true) ⊎ (lt_z (pos high) (folded v low high) ≡ true) → NoneWithin v low high
  unfolding remainder
  past (raised b k l u r f) (inl q) m g h o = let z = ltb-true k low (rw f at q) in omega arith
  past (raised b k l u r f) (inr q) m g h o = let z = ltb-true high k (rw f at q) in let x = octave_rest v m o in omega arith
  past (lowered a p g h f) (inl q) m l k o =
      let z = sub_lt high (11 - (a - suc high) % 12) low (rw f at q) in
      let x : m % 12 ≡ a % 12 = rw p at (octave_rest v m o) in
      omega arith
  past (lowered a p g h f) (inr q) m l k o = let z = lt_sub high (11 - (a - suc high) % 12) high (rw f at q) in omega arith
  past (stays a p g h f) (inl q) m l k o = let z = ltb-true a low (rw f at q) in omega arith
  past (stays a p g h f) (inr q) m l k o = let z = ltb-true high a (rw f at q) in omega arith

  -- ---- the answer

  -- what is heard is the answer that the documents name ..
  pub heard_answers : low ≤ 127 → Answers v low high (heard v low high)
  unfolding heard
  heard_answers l = go (lt_z (folded v low high) (pos low)) refl (lt_z (pos high) (folded v low high)) refl
    where
      go : (s : Bool) → lt_z (folded v low high) (pos low) ≡ s → (t : Bool) → lt_z (pos high) (folded v low high) ≡ t
          → Answers v low high (cond (s || t) (nearest v low) (nat_abs (folded v low high)))
      go true g t h = elsewhere (past (stands v low high) (inl g)) (nearest_is_nearest v low l)
      go false g true h = elsewhere (past (stands v low high) (inr h)) (nearest_is_nearest v low l)
      go false g false h = within (sounding (nat_abs (folded v low high)) (stands v low high) g h refl)

  -- .. of which there are no two
  same_note : (m n : ℕ) → Sounds v low high m → Sounds v low high n → m ≡ n
  same_note m n s t = go (lt_z v (pos low)) refl (lt_z (pos high) v) refl
    where
      go : (b : Bool) → lt_z v (pos low) ≡ b → (c : Bool) → lt_z (pos high) v ≡ c → m ≡ n
      go true g c h = omega (arith, s.smallest g n t.octave t.reaches, t.smallest g m s.octave s.reaches)
      go false g true h = omega (arith, s.largest h n t.octave t.meets, t.largest h m s.octave s.meets)
      go false g false h = let z : pos m ≡ pos n = sym (s.inside g h) ∙ t.inside g h in cc

  pub one_answer : (m n : ℕ) → Answers v low high m → Answers v low high n → m ≡ n
  one_answer m n (within s) (within t) = same_note m n s t
  one_answer m n (within s) (elsewhere f t) = absurd (f m s.reaches s.meets s.octave)
  one_answer m n (elsewhere f s) (within t) = absurd (f n t.reaches t.meets t.octave)
  one_answer m n (elsewhere f s) (elsewhere g t) = one_nearest v low m n s t

  -- the answer is an octave of the value within 0 to 127
  pub answer_octave : (n : ℕ) → high ≤ 127 → Answers v low high n → (n ≤ 127) × Octave v n
  answer_octave n h (within s) = let z = s.meets in (omega arith, s.octave)
  answer_octave n h (elsewhere f s) = (s.note, s.octave)

-- "show that silence never occurs now": every value has an answer under all limits, crossed ones too, and one only
pub always_one_answer : (v : ℤ) (low high : ℕ) → low ≤ 127 → high ≤ 127 → ((n : ℕ) × Answers v low high n) × ((m n : ℕ) → Answers v low high m → Answers v low high n → m ≡ n)
always_one_answer v low high h l = ((heard v low high, heard_answers v low high h), one_answer v low high)
