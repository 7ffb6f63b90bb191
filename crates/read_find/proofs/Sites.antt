-- From chunk to chunk: how far one reaches, where the walk stands, and where it ends.
use Prim.Native.Nat.{ℕ, suc, ◌+◌, ◌-◌, ◌*◌, ◌≤◌, ◌<◌}
use native.Mathlib.Omega.{arith}
use native.Mathlib.Decide.{dec_lt}
use native.Mathlib.Numerals.{add-one}
use mathlib.Core.Path.{◌≡◌, refl, sym, ap, ◌∙◌}
use mathlib.Core.Bool.{Bool, true, false, cond}
use mathlib.Core.List.{List}
use Rattle.std.specs.Int.{from_bool}
use lib.Dec.{ltb}
use lib.ListN.{length, take, drop, length-take, length-drop}
use borrow.Author.Tests.{lt-ltb, le-ltb, lt-leb, le-leb}
use Rattle.layout.specs.Scan.{first}
use Rattle.layout.specs.Bytes.{word, four, tag_at, tagged, CSEG}
use Rattle.layout.specs.Answers.{refused, granted, number_of, place_of, value_or}
use Rattle.layout.specs.Chunks.{step_at, chunk_place, chunk_of, groups_among, child_no, site_no, site_of, sited}
use Rattle.layout.proofs.Groups.{cseg_tag}
use Rattle.layout.proofs.Scans.{first_end, first_here, first_next}
use Rattle.layout.proofs.Same.{same_is}

-- ---- one chunk

module _ (s : List ℕ) (at : ℕ) where
  -- fewer than four bytes are no tag
  pub tagged_short : length s < at + 4 → at ≤ length s → tagged s at CSEG ≡ false
  unfolding tagged tag_at
  tagged_short h k = go (tagged s at CSEG) refl
    where
      go : (b : Bool) → tagged s at CSEG ≡ b → tagged s at CSEG ≡ false
      go false e = e
      go true e =
          let z : length (take 4 (drop at s)) ≡ 4 = ap length (same_is (take 4 (drop at s)) CSEG e) in
          absurd (omega (arith, z, length-take 4 (drop at s), length-drop at s))

  pub step_group : tagged s at CSEG ≡ true → step_at s at ≡ 8
  unfolding step_at
  step_group h = rw h

  pub step_whole : tagged s at CSEG ≡ false → step_at s at ≡ 8 + word s (at + 4)
  unfolding step_at
  step_whole h = rw h

  -- no chunk has fewer than 8 bytes
  pub step_least : 8 ≤ step_at s at
  unfolding step_at
  step_least = go (tagged s at CSEG)
    where
      go : (b : Bool) → 8 ≤ cond b 8 (8 + word s (at + 4))
      go true = omega arith
      go false = omega arith

  -- whether it begins a group
  pub begun : (b : Bool) → b ≡ tagged s at (four 0x43534547) → b ≡ tagged s at CSEG
  begun b e = rw cseg_tag at e

  -- from its tag and its length
  pub step_is : (b : Bool) (l step : ℕ) → b ≡ tagged s at CSEG → l ≡ word s (at + 4) → step ≡ cond b 8 (8 + l) → step ≡ step_at s at
  unfolding step_at
  step_is b l step t e f = f ∙ rw (t, e)

-- ---- the counts

pub one_for : (b : Bool) → from_bool b ≡ cond b 1 0
one_for true = refl
one_for false = refl

pub rank_most : (b : Bool) (rank : ℕ) → cond b 0 rank ≤ rank
rank_most true rank = omega arith
rank_most false rank = omega arith

-- ---- the walk

-- the walk stands at chunk number n, which is at `at` and at most at the place
pub record OnWay (s : List ℕ) (place at n groups child : ℕ) : Type 0 where
  pub chunk : at ≡ chunk_place s n
  pub begun : groups ≡ groups_among s (suc n)
  pub number : child ≡ child_no s n
  pub before : at ≤ place
  pub far : 8 * n ≤ at
  pub few : groups ≤ n + 1
  pub low : child ≤ n
  pub rest : chunk_of s place ≡ first (λ k. ltb place (chunk_place s (suc k))) n place

pub on_start : (s : List ℕ) (place groups : ℕ) → groups ≡ 0 + cond (tagged s 0 CSEG) 1 0 → OnWay s place 0 0 groups 0
unfolding chunk_of chunk_place groups_among child_no
on_start s place groups e =
    let few : groups ≤ 1 = go (tagged s 0 CSEG) e in
    record { chunk = refl; begun = e; number = refl; before = omega arith; far = omega arith; few = omega arith; low = omega arith; rest = refl }
  where
    go : (b : Bool) → groups ≡ 0 + cond b 1 0 → groups ≤ 1
    go true q = omega arith
    go false q = omega arith

module _ (s : List ℕ) (place at n groups child : ℕ) (w : OnWay s place at n groups child) where
  next_place : chunk_place s (suc n) ≡ at + step_at s at
  unfolding chunk_place
  next_place = rw (← w.chunk)

  -- a chunk that ends before the place is passed over
  pub on_next : (step groups' child' : ℕ) → step ≡ step_at s at → at + step ≤ place
      → groups' ≡ groups + cond (tagged s (at + step) CSEG) 1 0 → child' ≡ cond (tagged s (at + step) CSEG) 0 (child + 1)
      → OnWay s place (at + step) (n + 1) groups' child'
  unfolding groups_among child_no
  on_next step groups' child' e h f g =
      let p : at + step ≡ chunk_place s (suc n) = rw e (sym next_place) in
      let l = step_least s at in
      let t : ltb place (chunk_place s (suc n)) ≡ false = le-ltb place (chunk_place s (suc n)) (omega (arith, p)) in
      rw (add-one n)
      (record {
        chunk = p;
        begun = f ∙ rw (w.begun, p);
        number = g ∙ rw (w.number, p);
        before = h;
        far = omega (arith, w.far, e, l);
        few = few (tagged s (at + step) CSEG) f;
        low = low (tagged s (at + step) CSEG) g;
        rest = w.rest ∙ (rw (add-one n) at (first_next (λ k. ltb place (chunk_place s (suc k))) n place (omega (arith, w.far, w.before, h, e, l)) t));
      })
    where
      few : (b : Bool) → groups' ≡ groups + cond b 1 0 → groups' ≤ suc n + 1
      few true q = omega (arith, w.few)
      few false q = omega (arith, w.few)

      low : (b : Bool) → child' ≡ cond b 0 (child + 1) → child' ≤ suc n
      low true q = omega (arith, w.low)
      low false q = omega (arith, w.low)

  -- the first chunk that does not end before the place has it
  pub last_is : place < at + step_at s at → chunk_of s place ≡ n
  last_is h = go (dec_lt n place)
    where
      go : Dec (n < place) → chunk_of s place ≡ n
      go (yes l) = w.rest ∙ first_here (λ k. ltb place (chunk_place s (suc k))) n place l (lt-ltb place (chunk_place s (suc n)) (rw next_place h))
      go (no l) = w.rest ∙ first_end (λ k. ltb place (chunk_place s (suc k))) n place (omega (arith, w.far, w.before))

  pub on_end : place < at + step_at s at → sited (granted (record { group = groups - 1; child = child; chunk = at })) ≡ sited (granted (site_no s (chunk_of s place)))
  on_end h = rw (last_is h) (rw (w.begun, w.number, w.chunk))

-- ---- the walk, with what was counted before its chunk

-- so many groups began before chunk number n, and this is its number in its group, unless it begins one
pub record Before (s : List ℕ) (place at n groups rank : ℕ) : Type 0 where
  pub on : OnWay s place at n (groups + cond (tagged s at CSEG) 1 0) (cond (tagged s at CSEG) 0 rank)
  pub low : rank ≤ n

pub before_start : (s : List ℕ) (place : ℕ) → Before s place 0 0 0 0
before_start s place = record { on = rw (none (tagged s 0 CSEG)) (on_start s place (0 + cond (tagged s 0 CSEG) 1 0) refl); low = omega arith }
  where
    none : (b : Bool) → ◌≡◌ {A = ℕ} (cond b 0 0) 0
    none true = refl
    none false = refl

module _ (s : List ℕ) (place at n groups rank : ℕ) (w : Before s place at n groups rank) where
  -- a chunk that is passed over is counted
  pub before_next : (step groups' rank' : ℕ) → step ≡ step_at s at → at + step ≤ place
      → groups' ≡ groups + cond (tagged s at CSEG) 1 0 → rank' ≡ cond (tagged s at CSEG) 0 rank + 1 → Before s place (at + step) (n + 1) groups' rank'
  before_next step groups' rank' e h f g =
      record {
        on =
            on_next s place at n (groups + cond (tagged s at CSEG) 1 0) (cond (tagged s at CSEG) 0 rank) w.on step
            (groups' + cond (tagged s (at + step) CSEG) 1 0) (cond (tagged s (at + step) CSEG) 0 rank') e h (rw f) (rw g);
        low = omega (arith, g, w.low, rank_most (tagged s at CSEG) rank);
      }

  -- the last one is counted where the answer is made
  pub before_end : place < at + step_at s at
      → sited (granted (record { group = groups + cond (tagged s at CSEG) 1 0 - 1; child = cond (tagged s at CSEG) 0 rank; chunk = at })) ≡ sited (granted (site_no s (chunk_of s place)))
  before_end h = on_end s place at n (groups + cond (tagged s at CSEG) 1 0) (cond (tagged s at CSEG) 0 rank) w.on h

-- ---- the ways out

pub site_is : (group child at g c : ℕ) → group ≡ g → child ≡ c
    → record { number = 0; place = 0; group = group; child = child; chunk = at } ≡ sited (granted (record { group = g; child = c; chunk = at }))
unfolding sited number_of place_of value_or
site_is group child at g c e f = rw (e, f)

module _ (s : List ℕ) (place : ℕ) where
  pub site_over : 32768 < length s → sited (refused 3 0) ≡ sited (site_of s place)
  unfolding site_of
  site_over h = rw (lt-ltb 32768 (length s) h)

  pub site_none : length s ≤ 32768 → length s ≤ place → sited (refused 16 0) ≡ sited (site_of s place)
  unfolding site_of
  site_none h k = rw (le-ltb 32768 (length s) h, le-leb (length s) place k)

  pub site_there : length s ≤ 32768 → place < length s → sited (granted (site_no s (chunk_of s place))) ≡ sited (site_of s place)
  unfolding site_of
  site_there h k = rw (le-ltb 32768 (length s) h, lt-leb (length s) place k)
