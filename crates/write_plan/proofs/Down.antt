-- One Cntt laid down: whether its position is free, how many Cntts there must be then, and what is laid down after it. And those laid down, read one after the other.
use Prim.Native.Nat.{ℕ, zero, suc, max, ◌+◌, ◌*◌, ◌-◌, ◌≤◌, ◌<◌}
use mathlib.Core.Path.{◌≡◌, refl, sym, ap, ap₂, ◌∙◌}
use mathlib.Core.Bool.{Bool, true, false, ◌&&◌, ◌||◌, true≢false}
use mathlib.Core.List.{List, [], ◌++◌, flat_map}
use native.Mathlib.Omega.{arith}
use native.Mathlib.Decide.{dec_lt}
use native.Mathlib.Numerals.{add-one}
use lib.Dec.{ltb, leb, eqb}
use lib.ListN.{length, get_or, set, length-append}
use borrow.Author.Tests.{lt-ltb, le-ltb, le-leb, lt-leb, eq-eqb, ne_eqb, ltb-true, leb-true, eqb-true}
use Rattle.layout.specs.Records.{SecondTable}
use Rattle.layout.specs.Records.{Absent, Value}
use Rattle.layout.specs.Bytes.{four, chunk}
use Rattle.layout.specs.Lists.{rows}
use Rattle.layout.proofs.Lists.{rows_last, flat_map_last}
use Rattle.write_plan.specs.Checking.{free, laid_down, claimed, larger}
use Rattle.write_plan.specs.Chunks.{cntt_down, cntts_down}

-- ---- a position is free

module _ (c : List ℕ) (p : ℕ) where
  pub free_none : p ≡ 0 → free c p ≡ false
  unfolding free
  free_none h = rw (le-ltb 0 p (omega arith))

  pub free_over : 16 < p → free c p ≡ false
  unfolding free
  free_over h = rw (lt-ltb 0 p (omega arith), lt-leb p 16 h)

  pub free_there : 0 < p → p ≤ 16 → free c p ≡ eqb (get_or c (2 * p - 1) 0) 0
  unfolding free
  free_there h l = rw (lt-ltb 0 p h, le-leb p 16 l)

  pub free_is : free c p ≡ true → (0 < p) × (p ≤ 16) × (get_or c (2 * p - 1) 0 ≡ 0)
  unfolding free
  free_is e = go (ltb 0 p) (leb p 16) (eqb (get_or c (2 * p - 1) 0) 0) refl refl refl e
    where
      go : (a b d : Bool) → ltb 0 p ≡ a → leb p 16 ≡ b → eqb (get_or c (2 * p - 1) 0) 0 ≡ d → a && (b && d) ≡ true → (0 < p) × (p ≤ 16) × (get_or c (2 * p - 1) 0 ≡ 0)
      go true true true x y z q = (ltb-true 0 p x, leb-true p 16 y, eqb-true _ _ z)
      go true true false x y z q = absurd (true≢false (sym q))
      go true false d x y z q = absurd (true≢false (sym q))
      go false b d x y z q = absurd (true≢false (sym q))

-- ---- a Cntt laid down

-- how many Cntts a record claims, and the Cntts laid down after it
abbrev pub LaidDown : List ℕ → ℕ → ℕ → SecondTable → ℕ → List ℕ → Type 0
LaidDown c p channel s claim d = (claim ≡ claimed c p s) × (d ≡ laid_down c p channel s)

module _ (c : List ℕ) (p channel : ℕ) (s : SecondTable) where
  module _ (h : s ≡ Absent) where
    pub down_none : p ≡ 0 → LaidDown c p channel s 0 c
    unfolding claimed laid_down
    down_none z = (sym (rw (h, eq-eqb p 0 z)), sym (rw h))

    pub down_lost : (p ≡ 0 → ⊥) → LaidDown c p channel s 17 c
    unfolding claimed laid_down
    down_lost z = (sym (rw (h, ne_eqb p 0 z)), sym (rw h))

  module _ (v : ℕ) (h : s ≡ Value v) where
    pub down_not : free c p ≡ false → LaidDown c p channel s 17 c
    unfolding claimed laid_down
    down_not f = (sym (rw (h, f)), sym (rw (h, f)))

    pub down_there : free c p ≡ true → LaidDown c p channel s p (set (set c (2 * p - 2) channel) (2 * p - 1) v)
    unfolding claimed laid_down
    down_there f = (sym (rw (h, f)), sym (rw (h, f)))

module _ (a b : ℕ) where
  pub larger_second : a < b → larger a b ≡ b
  unfolding larger
  larger_second h = rw (lt-ltb a b h)

  pub larger_first : b ≤ a → larger a b ≡ a
  unfolding larger
  larger_first h = rw (le-ltb a b h)

  -- .. which the library calls max
  pub larger_is : max a b ≡ larger a b
  larger_is = go (dec_lt a b)
    where
      go : Dec (a < b) → max a b ≡ larger a b
      go (yes l) = omega (arith, larger_second l)
      go (no l) = omega (arith, larger_first (omega arith))

  -- a number is below the larger of two where it is below one of them
  pub below_larger : (m : ℕ) → ltb m (larger a b) ≡ ltb m b || ltb m a
  below_larger m = go (dec_lt a b) (dec_lt m b)
    where
      go : Dec (a < b) → Dec (m < b) → ltb m (larger a b) ≡ ltb m b || ltb m a
      go (yes l) (yes k) = rw (larger_second l, lt-ltb m b k)
      go (yes l) (no k) = rw (larger_second l, le-ltb m b (omega arith)) (sym (le-ltb m a (omega arith)))
      go (no l) (yes k) = rw (larger_first (omega arith), lt-ltb m b k) (lt-ltb m a (omega arith))
      go (no l) (no k) = rw (larger_first (omega arith), le-ltb m b (omega arith))

-- ---- the first n Cntts

pub cntts_none : (c : List ℕ) → cntts_down c 0 ≡ []
unfolding cntts_down rows flat_map
cntts_none c = refl

pub cntts_next : (c : List ℕ) (n : ℕ) → cntts_down c (n + 1) ≡ cntts_down c n ++ cntt_down c n
unfolding cntts_down
cntts_next c n =
    let z : 0 + n ≡ n = omega arith in
    rw (add-one n) (ap (flat_map (cntt_down c)) (rows_last (λ (k : ℕ). k) 0 n) ∙ (flat_map_last (cntt_down c) (rows (λ (k : ℕ). k) 0 n) (0 + n) ∙ ap (λ (k : ℕ). cntts_down c n ++ cntt_down c k) z))

cntt_length : (c : List ℕ) (k : ℕ) → length (cntt_down c k) ≡ 10
unfolding cntt_down chunk four
cntt_length c k = refl

pub cntts_length : (c : List ℕ) (n : ℕ) → length (cntts_down c n) ≡ 10 * n
cntts_length c zero = ap length (cntts_none c)
cntts_length c (suc n) =
    let e = rw (add-one n) at (cntts_next c n) in
    omega (arith, ap length e, length-append (cntts_down c n) (cntt_down c n), cntts_length c n, cntt_length c n)

-- they are those of the positions 1 to n
pub cntts_alike : (c : List ℕ) (f : ℕ → List ℕ) (n : ℕ) → ((k : ℕ) → k < n → cntt_down c k ≡ f (k + 1)) → cntts_down c n ≡ flat_map f (rows (λ k. k + 1) 0 n)
unfolding cntts_down rows flat_map
cntts_alike c f zero h = refl
cntts_alike c f (suc n) h =
    let z = rw (add-one n) at (cntts_next c n) in
    let y = ap (flat_map f) (rows_last (λ (k : ℕ). k + 1) 0 n) ∙ flat_map_last f (rows (λ k. k + 1) 0 n) (0 + n + 1) in
    let w : 0 + n + 1 ≡ n + 1 = omega arith in
    z ∙ (ap₂ (λ (a b : List ℕ). a ++ b) (cntts_alike c f n (λ k l. h k (omega arith))) (h n (omega arith)) ∙ sym (rw w at y))
