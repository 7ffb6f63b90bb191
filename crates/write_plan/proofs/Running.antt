-- The records looked at one by one come to what the definition's run comes to.
use Prim.Native.Nat.{ℕ, zero, suc, ◌+◌, ◌*◌, ◌^◌, ◌≤◌, ◌<◌}
use mathlib.Core.Path.{◌≡◌, refl, sym, ap, ◌∙◌}
use mathlib.Core.Logic.{◌⊎◌, inl, inr}
use mathlib.Core.Bool.{Bool, true, false}
use mathlib.Core.List.{List}
use native.Mathlib.Omega.{arith}
use native.Mathlib.Decide.{dec_lt}
use native.Mathlib.Numerals.{add-one}
use lib.Bits.{bit_or}
use lib.Dec.{ltb, eqb}
use lib.ListN.{length, get_or}
use borrow.Author.Tests.{eqb-false, ltb-false, lt-ltb, le-ltb}
use Rattle.layout.specs.declared.edition.Edition.{Edition}
use Rattle.layout.specs.declared.record.Record.{Record}
use Rattle.std.specs.Prelude.{Ok, Err}
use Rattle.layout.specs.declared.turn.Refusal.{Refusal}
use Rattle.layout.specs.Scan.{Turn, Refused, More, first, run}
use Rattle.layout.specs.Plays.{bit}
use Rattle.layout.specs.Editions.{size, held, alike}
use Rattle.layout.specs.Records.{blank, channel_of, edition_of, second_in, position_in, first_bad}
use Rattle.layout.specs.Write.{cntt_count, first_edition, record_on, record_turn}
use Rattle.layout.proofs.Runs.{run_stop, run_more}
use Rattle.layout.proofs.Scans.{first_passed}
use Rattle.layout.proofs.Editions.{alike_is}
use Rattle.layout.proofs.Records.{second_good}
use Rattle.layout.proofs.Sixteen.{Channels, one_more}
use Rattle.write_plan.specs.declared.Checked.{Checked}
use Rattle.write_plan.specs.declared.Taken.{Taken}
use Rattle.write_plan.specs.Checking.{Looks, refused_at, due, chunks_size, claimed, larger, looked, taken, taken_at}
use Rattle.write_plan.proofs.Seen.{Seen, seen_next}
use Rattle.write_plan.proofs.Slots.{Down, down_step}
use Rattle.write_plan.proofs.Looking.{channel_low, due_first, due_later, looked_stays, looked_unlike, looked_bad, looked_again, looked_on, after_on}

-- ---- a turn of the definition's run

module _ (rs : List Record) (i : ℕ) where
  abbrev r : Record
  r = get_or rs i blank

  abbrev f : Edition
  f = first_edition rs

  turn_unlike : alike f (edition_of r) ≡ false → record_turn rs i ≡ Refused 21 (size f * i)
  unfolding record_turn
  turn_unlike t = rw t

  module _ (t : alike f (edition_of r) ≡ true) where
    own : f ≡ edition_of r
    own = alike_is f (edition_of r) t

    turn_bad : first_bad r < held (edition_of r) → record_turn rs i ≡ Refused 9 (size f * i + first_bad r)
    unfolding record_turn
    turn_bad h = rw (t, lt-ltb (first_bad r) (held f) (rw own h))

    module _ (h : held (edition_of r) ≤ first_bad r) where
      turn_again : ltb (first (λ j. eqb (channel_of (get_or rs j blank)) (channel_of r)) 0 i) i ≡ true → record_turn rs i ≡ Refused 10 (size f * i)
      unfolding record_turn record_on
      turn_again e = rw (t, le-ltb (first_bad r) (held f) (rw own h), e)

      turn_more : ltb (first (λ j. eqb (channel_of (get_or rs j blank)) (channel_of r)) 0 i) i ≡ false → record_turn rs i ≡ More
      unfolding record_turn record_on
      turn_more e = rw (t, le-ltb (first_bad r) (held f) (rw own h), e)

-- one record more is its Ctab, and its Cntts
sized : (e : Edition) (start i length seconds more : ℕ) → length ≡ start + (8 + size e) * i + 10 * seconds → length + chunks_size e more ≡ start + (8 + size e) * (i + 1) + 10 * (seconds + more)
unfolding chunks_size
sized e start i length seconds more h = omega (arith, h)

-- ---- what is so before record number i

module _ (rs : List Record) where
  abbrev turn : ℕ → Turn
  turn = record_turn rs

  abbrev n : ℕ
  n = length rs

  abbrev chan : ℕ → ℕ
  chan j = channel_of (get_or rs j blank)

  -- no refusal yet
  pub record Going (start i : ℕ) (t : Taken) : Type 0 where
    pub so_far : Checked
    pub accepted : t.checked ≡ Ok so_far
    pub records : so_far.records ≡ n
    pub edition : (i ≡ 0 → ⊥) → so_far.edition ≡ first_edition rs
    pub editions : (j : ℕ) → j < i → first_edition rs ≡ edition_of (get_or rs j blank)
    pub seen : Seen chan i so_far.seen
    pub channels : Channels chan i
    pub down : Down rs i so_far.seconds so_far.reach t.cntts
    pub size : so_far.length ≡ start + (8 + size (first_edition rs)) * i + 10 * so_far.seconds
    pub rest : run turn 0 n ≡ run turn i n

  -- a refusal, which is the run's
  pub record Halted (x : Looks) : Type 0 where
    pub why : Refusal
    pub refused : x ≡ Err why
    pub stopped : run turn 0 n ≡ Err why

  stays : (c : List ℕ) (x : Looks) (i : ℕ) (r : Record) → Halted x → Halted (looked c x i r)
  stays c x i r h = record { why = h.why; refused = looked_stays c x i r h.why h.refused; stopped = h.stopped }

  module _ (start i : ℕ) (t : Taken) (l : i < n) (g : Going start i t) where
    abbrev x : Checked
    x = g.so_far

    abbrev c : List ℕ
    c = t.cntts

    abbrev here : Record
    here = get_or rs i blank

    refused : (number place : ℕ) → turn i ≡ Refused number place → looked c t.checked i here ≡ refused_at number place → Halted (looked c t.checked i here)
    refused number place s e = record { why = record { number = number; place = place }; refused = e; stopped = g.rest ∙ run_stop turn i n number place l s }

    -- the edition that is due is the first's
    due_is : f rs i ≡ due i x.edition (edition_of here)
    unfolding first_edition
    due_is = go (dec_lt 0 i)
      where
        go : Dec (0 < i) → edition_of (get_or rs 0 blank) ≡ due i x.edition (edition_of here)
        go (yes a) = sym (g.edition (λ z. omega arith)) ∙ due_later i x.edition (edition_of here) (λ z. omega arith)
        go (no a) = let z : 0 ≡ i = omega arith in ap (λ (k : ℕ). edition_of (get_or rs k blank)) z ∙ due_first i x.edition (edition_of here) (sym z)

    step : Going start (i + 1) (taken t i here) ⊎ Halted (looked c t.checked i here)
    step = go (alike (first_edition rs) (edition_of here)) (dec_lt (first_bad here) (held (edition_of here))) (bit x.seen (channel_of here)) refl refl
      where
        place : ℕ
        place = size (first_edition rs) * i

        go : (a : Bool) → Dec (first_bad here < held (edition_of here)) → (b : Bool) → alike (first_edition rs) (edition_of here) ≡ a → bit x.seen (channel_of here) ≡ b
            → Going start (i + 1) (taken t i here) ⊎ Halted (looked c t.checked i here)
        go false d b w e = inr (refused 21 place (turn_unlike rs i w) (looked_unlike c t.checked i here x g.accepted (edition_of here) (first_edition rs) refl due_is place refl w))
        go true (yes a) b w e =
            inr (refused 9 (place + first_bad here) (turn_bad rs i w a) (looked_bad c t.checked i here x g.accepted (edition_of here) (first_edition rs) refl due_is place refl w (first_bad here) refl a))
        go true (no a) true w e =
            let h : held (edition_of here) ≤ first_bad here = omega arith in
            let again = sym (g.seen.each (channel_of here) (channel_low here (first_bad here) refl h)) ∙ e in
            inr (refused 10 place (turn_again rs i w h again) (looked_again c t.checked i here x g.accepted (edition_of here) (first_edition rs) refl due_is place refl w (first_bad here) refl h e))
        go true (no a) false w e =
            let h : held (edition_of here) ≤ first_bad here = omega arith in
            let low = channel_low here (first_bad here) refl h in
            let fresh = sym (g.seen.each (channel_of here) low) ∙ e in
            let apart : (j : ℕ) → j < i → chan j ≡ chan i → ⊥ = λ j k. eqb-false (chan j) (chan i) (first_passed (λ m. eqb (chan m) (chan i)) i j (omega (arith, ltb-false (first (λ m. eqb (chan m) (chan i)) 0 i) i fresh))) in
            let on =
            looked_on c t.checked i here x g.accepted (edition_of here) (first_edition rs) refl due_is place refl w (first_bad here) refl h e (bit_or x.seen (2 ^ channel_of here)) refl (second_in here) refl (position_in here) refl
            (cntt_count (second_in here)) refl (chunks_size (first_edition rs) (cntt_count (second_in here))) refl (larger x.reach (claimed c (position_in here) (second_in here))) refl in
            inl (rw (← (after_on c t.checked i here _ on (second_in here) refl (position_in here) refl _ refl), on) (record {
              so_far = _;
              accepted = refl;
              records = g.records;
              edition = λ z. refl;
              editions = λ j l. same j l (dec_lt j i) (alike_is (first_edition rs) (edition_of here) w);
              seen = seen_next chan i (channel_of here) x.seen g.seen refl;
              channels = one_more chan i low apart g.channels;
              down = down_step rs i x.seconds x.reach c g.down l (second_good here h);
              size = sized (first_edition rs) start i x.length x.seconds (cntt_count (second_in here)) g.size;
              rest = g.rest ∙ run_more turn i n l (turn_more rs i w h fresh);
            }))
          where
            same : (j : ℕ) → j < i + 1 → Dec (j < i) → first_edition rs ≡ edition_of here → first_edition rs ≡ edition_of (get_or rs j blank)
            same j l (yes a) q = g.editions j a
            same j l (no a) q = let z : i ≡ j = omega arith in q ∙ ap (λ (k : ℕ). edition_of (get_or rs k blank)) z

  -- the first i records looked at, one after the other
  pub going : (start : ℕ) (t : Taken) → Going start 0 t → (i : ℕ) → i ≤ n → Going start i (taken_at t rs i) ⊎ Halted (taken_at t rs i).checked
  unfolding taken_at
  going start t g zero h = inl g
  going start t g (suc i) h = go (going start t g i (omega arith))
    where
      go : Going start i (taken_at t rs i) ⊎ Halted (taken_at t rs i).checked → Going start (suc i) (taken (taken_at t rs i) i (get_or rs i blank)) ⊎ Halted (looked (taken_at t rs i).cntts (taken_at t rs i).checked i (get_or rs i blank))
      go (inl a) = rw (← (add-one i)) (step start i (taken_at t rs i) (omega arith) a)
      go (inr b) = inr (stays (taken_at t rs i).cntts (taken_at t rs i).checked i (get_or rs i blank) b)
