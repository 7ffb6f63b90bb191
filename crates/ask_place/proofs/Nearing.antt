-- The octave nearest to the low limit. The octaves of a value are the notes with its remainder by 12; the definition finds one that is nearest, there is one only,
-- and the first octave at or above the low limit, or the one below it, is nearest where the code takes it.
use Prim.Native.Nat.{ℕ, suc, ◌+◌, ◌-◌, ◌*◌, ◌/◌, ◌%◌, ◌≤◌, ◌<◌}
use mathlib.Core.Path.{◌≡◌, refl, sym, ◌∙◌, ap}
use mathlib.Core.Bool.{Bool, true, false, cond, ◌&&◌, ◌||◌, or-true, false≢true}
use mathlib.Core.Logic.{◌⊎◌, inl, inr}
use native.Mathlib.Omega.{arith}
use native.Mathlib.Decide.{dec_lt}
use borrow.Author.Tests.{lt-ltb, le-leb, eq-eqb, ltb-true, ltb-false, leb-true, eqb-true}
use lib.Dec.{ltb, leb}
use lib.IntN.{ℤ, pos, negsuc, nat_abs, sub_ℕ, ◌+ℤ◌, ◌-ℤ◌, ◌*ℤ◌}
use Rattle.layout.specs.Place.{octave_of, stands_below, stands_above, distance, nearest}
use Rattle.layout.proofs.Scans.{first_passed, first_stands}
use Rattle.ask_place.specs.Octaves.{remainder, Octave, apart, Nearest}
use Rattle.ask_place.proofs.Signed.{never, sub_up, sub_down, pos_pos, negsuc_pos, sub_is}
use Rattle.ask_place.proofs.Folding.{remainder_small}

-- ---- an octave is a remainder

abs_sub : (a n : ℕ) → nat_abs (sub_ℕ a n) ≡ apart a n
abs_sub a n = go (ltb a n) refl
  where
    go : (t : Bool) → ltb a n ≡ t → nat_abs (cond t (negsuc (n - suc a)) (pos (a - n))) ≡ apart a n
    go true h = omega (arith, ltb-true a n h)
    go false h = omega (arith, ltb-false a n h)

twelves_rest : (v : ℤ) (n : ℕ) → nat_abs (v -ℤ pos n) % 12 ≡ 0 → n % 12 ≡ remainder v
unfolding remainder
twelves_rest (pos a) n h = let z : apart a n % 12 ≡ 0 = rw (pos_pos a n, abs_sub a n) at h in omega arith
twelves_rest (negsuc a) n h = let z : suc (a + n) % 12 ≡ 0 = rw (negsuc_pos a n) at h in omega arith

rest_twelves : (v : ℤ) (n : ℕ) → n % 12 ≡ remainder v → nat_abs (v -ℤ pos n) % 12 ≡ 0
unfolding remainder
rest_twelves (pos a) n h = rw (pos_pos a n, abs_sub a n) (omega arith)
rest_twelves (negsuc a) n h = rw (negsuc_pos a n) (omega arith)

pub octave_rest : (v : ℤ) (n : ℕ) → Octave v n → n % 12 ≡ remainder v
unfolding remainder
octave_rest (pos a) n o = go o.by o.is
  where
    go : (k : ℤ) → pos n ≡ pos a +ℤ pos 12 *ℤ k → n % 12 ≡ a % 12
    go (pos k) e = let z : n ≡ a + 12 * k = cc in omega arith
    go (negsuc k) e = let z = sub_is a (12 * suc k) n (e ∙ pos_pos a (12 * suc k)) in omega arith
octave_rest (negsuc a) n o = go o.by o.is
  where
    go : (k : ℤ) → pos n ≡ negsuc a +ℤ pos 12 *ℤ k → n % 12 ≡ 11 - a % 12
    go (pos k) e = let z = sub_is (12 * k) (suc a) n e in omega arith
    go (negsuc k) e = let z : pos n ≡ negsuc (a + 12 * suc k) = e ∙ negsuc_pos a (12 * suc k) in never (cc)

pub rest_octave : (v : ℤ) (n : ℕ) → n % 12 ≡ remainder v → Octave v n
unfolding remainder
rest_octave (pos a) n h = go (dec_lt n a)
  where
    go : Dec (n < a) → Octave (pos a) n
    go (yes l) =
        let k = (a - suc n) / 12 in
        record { by = negsuc k; is = sym (pos_pos a (12 * suc k) ∙ (sub_up a (12 * suc k) (omega arith) ∙ ap pos (omega arith))) }
    go (no l) = record { by = pos ((n - a) / 12); is = ap pos (omega arith) }
rest_octave (negsuc a) n h =
    let k = (n + suc a) / 12 in
    record { by = pos k; is = sym (sub_up (12 * k) (suc a) (omega arith) ∙ ap pos (omega arith)) }

-- the first octave at or above a limit
pub raised_rest : (v : ℤ) (low : ℕ) → (low + remainder (v -ℤ pos low)) % 12 ≡ remainder v
unfolding remainder
raised_rest (pos a) low = go (dec_lt a low)
  where
    go : Dec (a < low) → (low + remainder (pos a -ℤ pos low)) % 12 ≡ a % 12
    go (yes l) = rw (pos_pos a low, sub_down a low l) (omega arith)
    go (no l) = rw (pos_pos a low, sub_up a low (omega arith)) (omega arith)
raised_rest (negsuc a) low = rw (negsuc_pos a low) (omega arith)

-- ---- the nearest

both : (a b : Bool) → a && b ≡ true → (a ≡ true) × (b ≡ true)
both true b e = (refl, e)
both false b e = never (cc)

-- nearer, or as near and lower
nearer : (a b n m : ℕ) → a ≤ b → (a ≡ b → n ≤ m) → (a < b) ⊎ ((a ≡ b) × (n ≤ m))
nearer a b n m h f = go (dec_lt a b)
  where
    go : Dec (a < b) → (a < b) ⊎ ((a ≡ b) × (n ≤ m))
    go (yes l) = inl l
    go (no l) = let z : a ≡ b = omega arith in inr (z, f z)

module _ (v : ℤ) (low : ℕ) where
  abbrev stands : ℕ → Bool
  stands d = stands_below v low d || stands_above v low d

  below_stands : (d : ℕ) → d ≤ low → (low - d) % 12 ≡ remainder v → stands_below v low d ≡ true
  unfolding stands_below octave_of
  below_stands d h e = rw (le-leb d low h) (eq-eqb _ 0 (rest_twelves v (low - d) e))

  above_stands : (d : ℕ) → low + d < 128 → (low + d) % 12 ≡ remainder v → stands_above v low d ≡ true
  unfolding stands_above octave_of
  above_stands d h e = rw (lt-ltb (low + d) 128 h) (eq-eqb _ 0 (rest_twelves v (low + d) e))

  stands_below_lem : (d : ℕ) → stands_below v low d ≡ true → (d ≤ low) × ((low - d) % 12 ≡ remainder v)
  unfolding stands_below octave_of
  stands_below_lem d e =
      let t = both (leb d low) (octave_of v (low - d)) e in
      (leb-true d low t.0, twelves_rest v (low - d) (eqb-true (nat_abs (v -ℤ pos (low - d)) % 12) 0 t.1))

  stands_above_lem : (d : ℕ) → stands_above v low d ≡ true → (low + d < 128) × ((low + d) % 12 ≡ remainder v)
  unfolding stands_above octave_of
  stands_above_lem d e =
      let t = both (ltb (low + d) 128) (octave_of v (low + d)) e in
      (ltb-true (low + d) 128 t.0, twelves_rest v (low + d) (eqb-true (nat_abs (v -ℤ pos (low + d)) % 12) 0 t.1))

  -- an octave within 0 to 127 stands where it lies ..
  found : (m : ℕ) → m ≤ 127 → m % 12 ≡ remainder v → stands (apart m low) ≡ true
  found m h e = go (dec_lt low m)
    where
      go : Dec (low < m) → stands (apart m low) ≡ true
      go (yes l) =
          let z : apart m low ≡ m - low = omega arith in
          let y : low + (m - low) ≡ m = omega arith in
          rw (z, above_stands (m - low) (omega arith) (rw y e)) (or-true (stands_below v low (m - low)))
      go (no l) =
          let z : apart m low ≡ low - m = omega arith in
          let y : low - (low - m) ≡ m = omega arith in
          rw (z, below_stands (low - m) (omega arith) (rw y e))

  -- .. so that none is nearer than the distance
  no_nearer : (m : ℕ) → m ≤ 127 → m % 12 ≡ remainder v → distance v low ≤ apart m low
  unfolding distance
  no_nearer m h e = go (dec_lt (apart m low) (distance v low))
    where
      go : Dec (apart m low < distance v low) → distance v low ≤ apart m low
      go (yes l) = absurd (false≢true (sym (first_passed stands 128 (apart m low) l) ∙ found m h e))
      go (no l) = omega arith

  -- what stands above, and nothing as far below, is the only one at its distance
  above : (d : ℕ) → stands_below v low d ≡ false → (m : ℕ) → m % 12 ≡ remainder v → d ≡ apart m low → low + d ≤ m
  above d f m e q = go (dec_lt low m)
    where
      go : Dec (low < m) → low + d ≤ m
      go (yes l) = omega arith
      go (no l) =
          let y : low - d ≡ m = omega arith in
          absurd (false≢true (sym f ∙ below_stands d (omega arith) (rw y e)))

  module _ (h : low ≤ 127) where
    reached : stands (distance v low) ≡ true
    unfolding distance
    reached = first_stands stands 128 (let r = remainder_small v in let z = no_nearer (remainder v) (omega arith) (omega arith) in omega arith)

    -- what the definition finds is "the octave of it within 0 to 127 that is nearest to the low limit, the lower of two equally near"
    pub nearest_is_nearest : Nearest v low (nearest v low)
    unfolding nearest
    nearest_is_nearest = go (stands_below v low (distance v low)) refl
      where
        go : (b : Bool) → stands_below v low (distance v low) ≡ b → Nearest v low (cond b (low - distance v low) (low + distance v low))
        go true e =
            let d = distance v low in
            let t = stands_below_lem d e in
            let z : apart (low - d) low ≡ d = omega (arith, t.0) in
            record {
              note = omega arith;
              octave = rest_octave v (low - d) t.1;
              nearest = λ m l o. rw z (nearer d (apart m low) (low - d) m (no_nearer m l (octave_rest v m o)) (λ q. omega arith));
            }
        go false e =
            let d = distance v low in
            let t = stands_above_lem d (rw e at reached) in
            let z : apart (low + d) low ≡ d = omega arith in
            record {
              note = omega (arith, t.0);
              octave = rest_octave v (low + d) t.1;
              nearest = λ m l o. rw z (nearer d (apart m low) (low + d) m (no_nearer m l (octave_rest v m o)) (λ q. above d e m (octave_rest v m o) q));
            }

  -- one value has one nearest octave
  pub one_nearest : (m n : ℕ) → Nearest v low m → Nearest v low n → m ≡ n
  one_nearest m n s t = go (s.nearest n t.note t.octave) (t.nearest m s.note s.octave)
    where
      go : (apart m low < apart n low) ⊎ ((apart m low ≡ apart n low) × (m ≤ n)) → (apart n low < apart m low) ⊎ ((apart n low ≡ apart m low) × (n ≤ m)) → m ≡ n
      go (inl a) (inl b) = omega arith
      go (inl a) (inr b) = omega (arith, b.0)
      go (inr a) (inl b) = omega (arith, a.0)
      go (inr a) (inr b) = omega (arith, a.1, b.1)

  -- ---- how the code finds it: up from the low limit by the remainder, or an octave less

  abbrev up : ℕ
  up = remainder (v -ℤ pos low)

  module _ (h : low ≤ 127) where
    is_nearest : (n : ℕ) → n ≤ 127 → n % 12 ≡ remainder v → ((m : ℕ) → m ≤ 127 → m % 12 ≡ remainder v → (apart n low ≤ apart m low) × (apart n low ≡ apart m low → n ≤ m)) → nearest v low ≡ n
    is_nearest n l e f =
        one_nearest (nearest v low) n (nearest_is_nearest h)
        (record {
          note = l;
          octave = rest_octave v n e;
          nearest = λ m k o. let t = f m k (octave_rest v m o) in nearer (apart n low) (apart m low) n m t.0 t.1;
        })

    pub nearest_above : low + up ≤ 127 → (low + up < 12) ⊎ (up < 6) → nearest v low ≡ low + up
    nearest_above l c =
        let s = remainder_small (v -ℤ pos low) in
        is_nearest (low + up) l (raised_rest v low) (λ m k e. let z = e ∙ sym (raised_rest v low) in go m z s c)
      where
        go : (m : ℕ) → m % 12 ≡ (low + up) % 12 → up < 12 → (low + up < 12) ⊎ (up < 6) → (apart (low + up) low ≤ apart m low) × (apart (low + up) low ≡ apart m low → low + up ≤ m)
        go m z s (inl q) = (omega arith, λ r. omega arith)
        go m z s (inr q) = (omega arith, λ r. omega arith)

    pub nearest_below : 12 ≤ low + up → (127 < low + up) ⊎ (6 ≤ up) → nearest v low ≡ low + up - 12
    nearest_below l c =
        let s = remainder_small (v -ℤ pos low) in
        is_nearest (low + up - 12) (omega arith) (let r = raised_rest v low in omega arith) (λ m k e. let z = e ∙ sym (raised_rest v low) in go m k z s c)
      where
        go : (m : ℕ) → m ≤ 127 → m % 12 ≡ (low + up) % 12 → up < 12 → (127 < low + up) ⊎ (6 ≤ up)
            → (apart (low + up - 12) low ≤ apart m low) × (apart (low + up - 12) low ≡ apart m low → low + up - 12 ≤ m)
        go m k z s (inl q) = (omega arith, λ r. omega arith)
        go m k z s (inr q) = (omega arith, λ r. omega arith)
