-- The Cntts of the first i records, laid down: at each position that of the first record that has one there, or nothing. And for any number of Cntts up to 16, one of these
-- records has a wrong position exactly where that number is below what they claim. So, all records looked at, positions are wrong where there are fewer Cntts
-- than claimed; else every position has its record, and what is laid down is what the records write.
use Prim.Native.Nat.{ℕ, ◌+◌, ◌*◌, ◌-◌, ◌≤◌, ◌<◌}
use mathlib.Core.Path.{◌≡◌, refl, sym, ap, ap₂, ◌∙◌}
use mathlib.Core.Logic.{◌⊎◌, inl, inr}
use mathlib.Core.Bool.{Bool, true, false, cond, ◌||◌, true≢false}
use mathlib.Core.List.{List, [], ◌∷◌, ◌++◌}
use native.Mathlib.Omega.{arith}
use native.Mathlib.Decide.{dec_lt}
use native.Mathlib.Numerals.{add-one}
use lib.Dec.{ltb, eqb}
use lib.ListN.{length, get_or, take, set, length-set, get_or-replicate}
use lib.Seq.{take-suc, take_all, get_or-set_same, get_or-set_other, lt-length-set}
use borrow.Author.Tests.{lt-ltb, le-ltb, eq-eqb, ne_eqb, eqb-true, eqb-false, ltb-false}
use Rattle.layout.specs.declared.record.Record.{Record}
use Rattle.layout.specs.Records.{SecondTable}
use Rattle.layout.specs.Records.{Absent, Value}
use Rattle.layout.specs.Scan.{first_of, first}
use Rattle.layout.specs.Bytes.{Cntt, chunk}
use Rattle.layout.specs.Ranges.{inside, cntt_value}
use Rattle.layout.specs.Records.{blank, channel_of, second_in, position_in, bad_second}
use Rattle.layout.specs.Write.{cntt_bytes, cntt_count, cntts_in, placed_at, at_position, cntt_on, cntts_bytes, wrong_position, wrong_positions}
use Rattle.layout.proofs.Scans.{first_kept, first_grown, first_passed}
use Rattle.layout.proofs.Positions.{Positions, positions_right, position_taken, cntts_most}
use Rattle.write_plan.specs.Checking.{no_cntts, free, laid_down, claimed, larger}
use Rattle.write_plan.specs.Chunks.{cntt_down, cntts_down}
use Rattle.write_plan.proofs.Seen.{found_next}
use Rattle.write_plan.proofs.Down.{free_none, free_over, free_there, free_is, below_larger, cntts_alike}
use Rattle.std.specs.Prelude.{None, Some}

or_none : (b : Bool) → b || false ≡ b
or_none true = refl
or_none false = refl

or_one : (b : Bool) → b || true ≡ true
or_one true = refl
or_one false = refl

-- no Cntt's value is 0
value_sound : (v : ℕ) → bad_second (Value v) ≡ false → v ≡ 0 → ⊥
unfolding bad_second cntt_value inside
value_sound v h z = true≢false (rw z at h)

-- ---- how many Cntts records have

count_last : (rs : List Record) (r : Record) → cntts_in (rs ++ (r ∷ [])) ≡ cntts_in rs + cntt_count (second_in r)
unfolding cntts_in
count_last [] r = omega arith
count_last (q ∷ rs) r = omega (arith, count_last rs r)

-- ---- what is laid down at a position

module _ (rs : List Record) where
  -- no record has its Cntt there, or the first that has it is laid down
  pub record Empty (i : ℕ) (c : List ℕ) (p : ℕ) : Type 0 where
    pub none : at_position rs i p ≡ i
    pub zeros : get_or c (2 * p - 1) 0 ≡ 0

  pub record Full (i : ℕ) (c : List ℕ) (p : ℕ) : Type 0 where
    pub one : at_position rs i p < i
    pub value : get_or c (2 * p - 1) 0 ≡ 0 → ⊥
    pub cntt : let r = get_or rs (at_position rs i p) blank in chunk Cntt (get_or c (2 * p - 2) 0 ∷ get_or c (2 * p - 1) 0 ∷ []) ≡ cntt_bytes (channel_of r) (second_in r)

  abbrev pub Slot : ℕ → List ℕ → ℕ → Type 0
  Slot i c p = Empty i c p ⊎ Full i c p

  -- one record more, and the slot as it was
  module _ (i : ℕ) (c d : List ℕ) (p : ℕ) (a : get_or d (2 * p - 2) 0 ≡ get_or c (2 * p - 2) 0) (b : get_or d (2 * p - 1) 0 ≡ get_or c (2 * p - 1) 0) where
    empty_kept : placed_at p (get_or rs i blank) ≡ false → Empty i c p → Empty (i + 1) d p
    unfolding at_position
    empty_kept e s = record { none = first_grown (λ j. placed_at p (get_or rs j blank)) i s.none ∙ rw e; zeros = b ∙ s.zeros }

    full_kept : Full i c p → Full (i + 1) d p
    unfolding at_position
    full_kept s =
        let z : at_position rs (i + 1) p ≡ at_position rs i p = first_kept (λ j. placed_at p (get_or rs j blank)) i s.one in
        record { one = omega (arith, z, s.one); value = λ e. s.value (sym b ∙ e); cntt = rw (z, a, b) s.cntt }

    slot_kept : placed_at p (get_or rs i blank) ≡ false → Slot i c p → Slot (i + 1) d p
    slot_kept e (inl s) = inl (empty_kept e s)
    slot_kept e (inr s) = inr (full_kept s)

-- ---- the position of record number j is wrong where there are m Cntts

abbrev pub wrong_among : List Record → ℕ → ℕ → Bool
wrong_among rs m j =
    let r = get_or rs j blank in
    cond (eqb (cntt_count (second_in r)) 0) (ltb 0 (position_in r))
    (eqb (position_in r) 0 || (ltb m (position_in r) || ltb (at_position rs j (position_in r)) j))

-- ---- what is so when i records are looked at

pub record Down (rs : List Record) (i seconds reach : ℕ) (cntts : List ℕ) : Type 0 where
  pub long : length cntts ≡ 32
  pub count : seconds ≡ cntts_in (take i rs)
  pub slots : (p : ℕ) → 0 < p → p ≤ 16 → Slot rs i cntts p
  pub wrong : (m : ℕ) → m ≤ 16 → ltb m reach ≡ ltb (first (wrong_among rs m) 0 i) i

pub down_start : (rs : List Record) → Down rs 0 0 0 no_cntts
unfolding cntts_in at_position first first_of
down_start rs =
    record {
      long = refl;
      count = refl;
      slots = λ p a l. inl (record { none = refl; zeros = get_or-replicate 32 (2 * p - 1) 0 0 (omega arith) });
      wrong = λ m l. le-ltb m 0 (omega arith) ∙ sym (le-ltb (first (wrong_among rs m) 0 0) 0 (omega arith));
    }

module _ (rs : List Record) (i seconds reach : ℕ) (c : List ℕ) (d : Down rs i seconds reach c) where
  abbrev r : Record
  r = get_or rs i blank

  abbrev q : ℕ
  q = position_in r

  -- what it claims is more than there are exactly where its position is wrong
  claims : (m : ℕ) → m ≤ 16 → (s : SecondTable) → second_in r ≡ s → ltb m (claimed c q s) ≡ wrong_among rs m i
  unfolding claimed cntt_count
  claims m l None e = rw e (go (dec_lt 0 q))
    where
      go : Dec (0 < q) → ltb m (cond (eqb q 0) 0 17) ≡ ltb 0 q
      go (yes a) = rw (ne_eqb q 0 (λ z. omega arith), lt-ltb 0 q a) (lt-ltb m 17 (omega arith))
      go (no a) = rw (eq-eqb q 0 (omega arith), le-ltb 0 q (omega arith)) (le-ltb m 0 (omega arith))
  claims m l (Some v) e = rw e (go (dec_lt 0 q) (dec_lt 16 q))
    where
      slot : Slot rs i c q → 0 < q → q ≤ 16 → ltb m (cond (free c q) q 17) ≡ eqb q 0 || (ltb m q || ltb (at_position rs i q) i)
      slot (inl s) a b = rw (free_there c q a b, eq-eqb _ 0 s.zeros, ne_eqb q 0 (λ z. omega arith), le-ltb (at_position rs i q) i (omega (arith, s.none))) (sym (or_none (ltb m q)))
      slot (inr s) a b = rw (free_there c q a b, ne_eqb _ 0 s.value, ne_eqb q 0 (λ z. omega arith), lt-ltb (at_position rs i q) i s.one) (lt-ltb m 17 (omega arith) ∙ sym (or_one (ltb m q)))

      go : Dec (0 < q) → Dec (16 < q) → ltb m (cond (free c q) q 17) ≡ eqb q 0 || (ltb m q || ltb (at_position rs i q) i)
      go (no a) b = rw (free_none c q (omega arith), eq-eqb q 0 (omega arith)) (lt-ltb m 17 (omega arith))
      go (yes a) (yes b) = rw (free_over c q b, ne_eqb q 0 (λ z. omega arith), lt-ltb m q (omega arith)) (lt-ltb m 17 (omega arith))
      go (yes a) (no b) = slot (d.slots q a (omega arith)) a (omega arith)

  -- ---- the slots after it

  abbrev after : ℕ → List ℕ
  after v = set (set c (2 * q - 2) (channel_of r)) (2 * q - 1) v

  -- its own, where it is free
  own : (v : ℕ) → second_in r ≡ Value v → (v ≡ 0 → ⊥) → 0 < q → q ≤ 16 → Empty rs i c q → Full rs (i + 1) (after v) q
  unfolding placed_at cntt_count cntt_bytes at_position
  own v e sound a b s =
      let here : at_position rs (i + 1) q ≡ i = first_grown (λ j. placed_at q (get_or rs j blank)) i s.none ∙ rw (e, eq-eqb q q refl) in
      let value : get_or (after v) (2 * q - 1) 0 ≡ v = get_or-set_same (set c (2 * q - 2) (channel_of r)) (2 * q - 1) v 0 (lt-length-set c (2 * q - 2) (channel_of r) (omega (arith, d.long))) in
      let channel : get_or (after v) (2 * q - 2) 0 ≡ channel_of r =
      get_or-set_other (set c (2 * q - 2) (channel_of r)) (2 * q - 1) (2 * q - 2) v 0 (λ x. omega arith) ∙ get_or-set_same c (2 * q - 2) (channel_of r) 0 (omega (arith, d.long)) in
      record { one = omega (arith, here); value = λ z. sound (sym value ∙ z); cntt = rw (here, value, channel, e) }

  module _ (p : ℕ) (a : 0 < p) (b : p ≤ 16) where
    without : second_in r ≡ Absent → Slot rs (i + 1) c p
    unfolding placed_at cntt_count
    without e = slot_kept rs i c c p refl refl (rw e) (d.slots p a b)

    module _ (v : ℕ) (e : second_in r ≡ Value v) where
      placed_is : placed_at p r ≡ eqb q p
      unfolding placed_at cntt_count
      placed_is = rw e

      -- its position is not free: nothing is laid down
      stays : free c q ≡ false → Slot rs (i + 1) c p
      stays f = go (d.slots p a b) (eqb q p) refl
        where
          go : Slot rs i c p → (t : Bool) → eqb q p ≡ t → Slot rs (i + 1) c p
          go (inr s) t z = inr (full_kept rs i c c p refl refl s)
          go (inl s) false z = inl (empty_kept rs i c c p refl refl (placed_is ∙ z) s)
          go (inl s) true z = absurd (true≢false (sym (free_there c p a b ∙ eq-eqb _ 0 s.zeros) ∙ (ap (free c) (sym (eqb-true q p z)) ∙ f)))

      -- it is free: the Cntt is laid down there, and no other slot moves
      lies : (v ≡ 0 → ⊥) → free c q ≡ true → Slot rs (i + 1) (after v) p
      lies sound f = go (d.slots p a b) (eqb q p) refl
        where
          there : (0 < q) × (q ≤ 16) × (get_or c (2 * q - 1) 0 ≡ 0)
          there = free_is c q f

          other : (k : ℕ) → (k ≡ 2 * q - 2 → ⊥) → (k ≡ 2 * q - 1 → ⊥) → get_or (after v) k 0 ≡ get_or c k 0
          other k m n = get_or-set_other (set c (2 * q - 2) (channel_of r)) (2 * q - 1) k v 0 n ∙ get_or-set_other c (2 * q - 2) k (channel_of r) 0 m

          go : Slot rs i c p → (t : Bool) → eqb q p ≡ t → Slot rs (i + 1) (after v) p
          go s false z =
              let y = eqb-false q p z in
              slot_kept rs i c (after v) p (other (2 * p - 2) (λ x. y (omega (arith, there))) (λ x. omega (arith, there))) (other (2 * p - 1) (λ x. omega (arith, there)) (λ x. y (omega (arith, there))))
              (placed_is ∙ z) s
          go (inr s) true z = absurd (s.value (ap (λ (k : ℕ). get_or c (2 * k - 1) 0) (sym (eqb-true q p z)) ∙ there.2))
          go (inl s) true z =
              let y : p ≡ q = sym (eqb-true q p z) in
              inr (rw y (own v e sound there.0 there.1 (rw y at s)))

  laid : (s : SecondTable) → second_in r ≡ s → bad_second s ≡ false → (length (laid_down c q (channel_of r) s) ≡ 32) × ((p : ℕ) → 0 < p → p ≤ 16 → Slot rs (i + 1) (laid_down c q (channel_of r) s) p)
  unfolding laid_down
  laid None e good = (d.long, λ p a b. without p a b e)
  laid (Some v) e good = go (free c q) refl
    where
      go : (t : Bool) → free c q ≡ t → (length (cond t (after v) c) ≡ 32) × ((p : ℕ) → 0 < p → p ≤ 16 → Slot rs (i + 1) (cond t (after v) c) p)
      go false f = (d.long, λ p a b. stays p a b v e f)
      go true f = (length-set (set c (2 * q - 2) (channel_of r)) (2 * q - 1) v ∙ (length-set c (2 * q - 2) (channel_of r) ∙ d.long), λ p a b. lies p a b v e (value_sound v good) f)

  pub down_step : i < length rs → bad_second (second_in r) ≡ false
      → Down rs (i + 1) (seconds + cntt_count (second_in r)) (larger reach (claimed c q (second_in r))) (laid_down c q (channel_of r) (second_in r))
  down_step l good =
      let x = laid (second_in r) refl good in
      record {
        long = x.0;
        count = rw (add-one i) (ap (λ (n : ℕ). n + cntt_count (second_in r)) d.count ∙ sym (ap cntts_in (take-suc rs i blank l) ∙ count_last (take i rs) r));
        slots = x.1;
        wrong = λ m k. below_larger reach (claimed c q (second_in r)) m ∙ (ap₂ ◌||◌ (claims m k (second_in r) refl) (d.wrong m k) ∙ sym (found_next (wrong_among rs m) i));
      }

-- ---- all records looked at

module _ (rs : List Record) (n seconds reach : ℕ) (c : List ℕ) (long : length rs ≡ n) (few : n ≤ 16) (d : Down rs n seconds reach c) where
  all : seconds ≡ cntts_in rs
  all = d.count ∙ ap cntts_in (take_all n rs (omega arith))

  pub down_few : seconds ≤ 16
  down_few = omega (arith, all, cntts_most rs)

  pub down_wrong : ltb seconds reach ≡ wrong_positions rs
  unfolding wrong_positions wrong_position
  down_wrong = rw (long, all) (d.wrong (cntts_in rs) (omega (arith, cntts_most rs)))

  pub down_is : wrong_positions rs ≡ false → cntts_down c seconds ≡ cntts_bytes rs
  unfolding cntts_bytes wrong_positions cntt_down cntt_on
  down_is h = rw all (cntts_alike c (cntt_on rs) (cntts_in rs) each)
    where
      right : Positions rs
      right = positions_right rs (λ i l. first_passed (wrong_position rs) (length rs) i (omega (arith, ltb-false (first (wrong_position rs) 0 (length rs)) (length rs) h)))

      each : (k : ℕ) → k < cntts_in rs → cntt_down c k ≡ cntt_on rs (k + 1)
      each k l = go (d.slots (k + 1) (omega arith) (omega (arith, cntts_most rs)))
        where
          go : Slot rs n c (k + 1) → cntt_down c k ≡ cntt_on rs (k + 1)
          go (inl s) = absurd (omega (arith, s.none, position_taken rs right (k + 1) (omega arith) (omega arith), ap (λ (m : ℕ). at_position rs m (k + 1)) long))
          go (inr s) =
              let x : 2 * (k + 1) - 2 ≡ 2 * k = omega arith in
              let y : 2 * (k + 1) - 1 ≡ 2 * k + 1 = omega arith in
              rw long (rw (x, y) at s.cntt)
