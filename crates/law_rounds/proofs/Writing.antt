-- What may be written is what is written: the run over the records goes on exactly where each is of the first's edition, in range and of a source channel of its own, and then no position is wrong.
use Prim.Native.Nat.{ℕ, zero, suc, ◌+◌, ◌*◌, ◌-◌, ◌≤◌, ◌<◌}
use mathlib.Core.Path.{◌≡◌, refl, sym, ap, ◌∙◌}
use mathlib.Core.Bool.{Bool, true, false, cond, not}
use mathlib.Core.Logic.{◌↔◌}
use mathlib.Core.List.{List}
use native.Mathlib.Omega.{arith}
use native.Mathlib.Nat.{add-zero}
use native.Mathlib.Decide.{dec_lt}
use lib.Dec.{ltb, eqb}
use lib.ListN.{length, get_or, take}
use borrow.Author.Tests.{ltb-false, le-ltb, eqb-false, ne_eqb, not-false}
use Rattle.layout.specs.Scan.{first, run_of, run}
use Rattle.layout.specs.Scan.{Turn}
use Rattle.layout.specs.Scan.{Refused, More, Done}
use Rattle.layout.specs.Scan.{Run}
use Rattle.layout.specs.Scan.{Ended}
use Rattle.layout.specs.declared.edition.Edition.{Edition}
use Rattle.layout.specs.Editions.{size, held, alike}
use Rattle.layout.specs.declared.record.Record.{Record}
use Rattle.layout.specs.Records.{blank, channel_of, edition_of, bad_byte, first_bad}
use Rattle.layout.specs.Sdec.{sound_text}
use Rattle.layout.specs.Answers.{refused, granted, after_run}
use Rattle.layout.specs.Write.{group_bytes, wrong_position, wrong_positions, first_edition, record_on, record_turn, records_run, group_from, written}
use Rattle.layout.proofs.Editions.{alike_self, alike_is}
use Rattle.layout.proofs.Scans.{first_passed, first_within, first_none}
use Rattle.law_rounds.specs.Calls.{WholeTable, MayBeWritten}
use Rattle.law_rounds.proofs.Granted.{if_granted, granted_once}
use Rattle.law_rounds.proofs.Runs.{run_ran}
use Rattle.std.specs.Prelude.{Ok, Err}

-- ---- one record

module _ (rs : List Record) (i : ℕ) where
  -- its edition, and that of the group
  abbrev its : Edition
  its = edition_of (get_or rs i blank)

  abbrev ed : Edition
  ed = first_edition rs

  -- no record before it has its source channel
  abbrev Own : Type 0
  Own = (j : ℕ) → j < i → channel_of (get_or rs j blank) ≡ channel_of (get_or rs i blank) → ⊥

  -- it is of the group's edition, in range, and of a source channel of its own
  pub record Good : Type 0 where
    pub edition : first_edition rs ≡ edition_of (get_or rs i blank)
    pub range : first_bad (get_or rs i blank) ≡ held (edition_of (get_or rs i blank))
    pub own : (j : ℕ) → j < i → channel_of (get_or rs j blank) ≡ channel_of (get_or rs i blank) → ⊥

  abbrev verdict : Bool → Bool → Bool → Turn
  verdict a b d = cond a (Refused 21 (size ed * i)) (cond b (Refused 9 (size ed * i + first_bad (get_or rs i blank))) (cond d (Refused 10 (size ed * i)) More))

  -- the three tests of its turn
  abbrev unlike : Bool
  unlike = not (alike (first_edition rs) (edition_of (get_or rs i blank)))

  abbrev out : Bool
  out = ltb (first_bad (get_or rs i blank)) (held (first_edition rs))

  abbrev again : Bool
  again = ltb (record_on rs i (channel_of (get_or rs i blank))) i

  not_done : record_turn rs i ≡ Done → ⊥
  unfolding record_turn
  not_done e = go unlike out again e
    where
      go : (a b d : Bool) → verdict a b d ≡ Done → ⊥
      go true b d q = let z : ◌≡◌ {A = ℕ} 0 1 = cc in omega arith
      go false true d q = let z : ◌≡◌ {A = ℕ} 0 1 = cc in omega arith
      go false false true q = let z : ◌≡◌ {A = ℕ} 0 1 = cc in omega arith
      go false false false q = let z : ◌≡◌ {A = ℕ} 0 1 = cc in omega arith

  in_range : ed ≡ its → out ≡ false → first_bad (get_or rs i blank) ≡ held its
  unfolding first_bad
  in_range q e =
      let w : held ed ≤ first (bad_byte (get_or rs i blank)) 0 (held its) = ltb-false (first (bad_byte (get_or rs i blank)) 0 (held its)) (held ed) e in
      omega (arith, first_within (bad_byte (get_or rs i blank)) (held its), ap held q)

  own_channel : again ≡ false → Own
  unfolding record_on
  own_channel e j l =
      let w : i ≤ first (λ j. eqb (channel_of (get_or rs j blank)) (channel_of (get_or rs i blank))) 0 i = ltb-false _ _ e in
      eqb-false _ _ (first_passed (λ j. eqb (channel_of (get_or rs j blank)) (channel_of (get_or rs i blank))) i j (omega arith))

  more_good : record_turn rs i ≡ More → Good
  unfolding record_turn
  more_good e = go unlike out again refl refl refl e
    where
      go : (a b d : Bool) → unlike ≡ a → out ≡ b → again ≡ d → verdict a b d ≡ More → Good
      go true b d f g h q = absurd (let z : ◌≡◌ {A = ℕ} 0 1 = cc in omega arith)
      go false true d f g h q = absurd (let z : ◌≡◌ {A = ℕ} 0 1 = cc in omega arith)
      go false false true f g h q = absurd (let z : ◌≡◌ {A = ℕ} 0 1 = cc in omega arith)
      go false false false f g h q = let z : ed ≡ its = alike_is ed its (not-false _ f) in record { edition = z; range = in_range z g; own = own_channel h }

  good_more : Good → record_turn rs i ≡ More
  unfolding record_turn record_on
  good_more h =
      let none : first (λ j. eqb (channel_of (get_or rs j blank)) (channel_of (get_or rs i blank))) 0 i ≡ i =
      first_none (λ j. eqb (channel_of (get_or rs j blank)) (channel_of (get_or rs i blank))) i (λ j l. ne_eqb _ _ (h.own j l)) in
      rw (h.edition, alike_self its, h.range, le-ltb (held its) (held its) (omega arith), none, le-ltb i i (omega arith))

-- ---- all records

goes_on : (turn : ℕ → Turn) (k n : ℕ) → ((i : ℕ) → i < k + n → turn i ≡ More) → run_of turn k n ≡ Ended (k + n)
unfolding run_of
goes_on turn k zero h = ap Ended (sym (add-zero k))
goes_on turn k (suc n) h = rw (h k (omega arith), run_of) (goes_on turn (suc k) n (λ i l. h i (omega arith)) ∙ ap Ended (omega arith))

module _ (rs : List Record) where
  ended_good : (n : ℕ) → records_run rs ≡ Ended n → (i : ℕ) → i < length rs → Good rs i
  unfolding records_run
  ended_good n e i l =
      let r = run_ran (record_turn rs) (length rs) n e in
      more_good rs i (r.goes i (go (dec_lt n (length rs)) r.stops))
    where
      go : Dec (n < length rs) → (n < length rs → record_turn rs n ≡ Done) → i < n
      go (yes m) f = absurd (not_done rs n (f m))
      go (no m) f = omega arith

  good_ended : ((i : ℕ) → i < length rs → Good rs i) → records_run rs ≡ Ended (length rs)
  unfolding records_run run
  good_ended h =
      let z : 0 + (length rs - 0) ≡ length rs = omega arith in
      goes_on (record_turn rs) 0 (length rs - 0) (λ i l. good_more rs i (h i (omega arith))) ∙ ap Ended z

  each_right : wrong_positions rs ≡ false → (i : ℕ) → i < length rs → wrong_position rs i ≡ false
  unfolding wrong_positions
  each_right e i l = first_passed (wrong_position rs) (length rs) i (omega (arith, ltb-false (first (wrong_position rs) 0 (length rs)) (length rs) e))

  all_right : ((i : ℕ) → i < length rs → wrong_position rs i ≡ false) → wrong_positions rs ≡ false
  unfolding wrong_positions
  all_right h = rw (first_none (wrong_position rs) (length rs) h) (le-ltb (length rs) (length rs) (omega arith))

-- ---- the group

module _ (text : List ℕ) (table : List Record) (count room : ℕ) (b : List ℕ) where
  -- the records that are written
  abbrev rs : List Record
  rs = take count table

  -- the group's bytes
  abbrev own : List ℕ
  own = group_bytes (group_from text table count)

  -- what is granted may be written ..
  pub written_may : WholeTable rs → written text table count room ≡ granted b → MayBeWritten text table count room b
  unfolding written after_run
  written_may whole e =
      let f = if_granted (ltb (length table) count) 16 0 _ b e in
      let g = if_granted (not (sound_text text)) 8 0 _ b f.1 in
      go (ltb-false _ _ f.0) (not-false _ g.0) (records_run rs) refl g.1
    where
      go : count ≤ length table → sound_text text ≡ true → (r : Run) → records_run rs ≡ r
          → after_run r (λ n. cond (wrong_positions rs) (refused 18 0) (cond (ltb room (length own)) (refused 14 0) (granted own))) ≡ granted b → MayBeWritten text table count room b
      go few sound (Err why) run q = absurd (let z : ◌≡◌ {A = ℕ} 0 1 = cc in omega arith)
      go few sound (Ok n) run q =
          let k = if_granted (wrong_positions rs) 18 0 _ b q in
          let h = if_granted (ltb room (length own)) 14 0 (granted own) b k.1 in
          let is : own ≡ b = granted_once own b h.1 in
          let good = ended_good rs n run in
          record {
            within = few;
            allowed = record { text = sound; editions = λ i l. (good i l).edition; whole = whole; ranges = λ i l. (good i l).range; apart = λ i j k l. (good j l).own i k; positions = each_right rs k.0 };
            bytes = sym is;
            fits = rw (← is) (ltb-false _ _ h.0);
          }

  -- .. and what may be written is granted
  pub may_written : MayBeWritten text table count room b → written text table count room ≡ granted b
  unfolding written after_run
  may_written h =
      let run : records_run rs ≡ Ended (length rs) = good_ended rs (λ i l. record { edition = h.allowed.editions i l; range = h.allowed.ranges i l; own = λ j k. h.allowed.apart j i k l }) in
      let fits : length own ≤ room = rw h.bytes at h.fits in
      rw (le-ltb (length table) count h.within, h.allowed.text, run, all_right rs h.allowed.positions, le-ltb room (length own) fits, after_run) (ap granted (sym h.bytes))

-- a group is written exactly where it may be
pub written_exactly : (text : List ℕ) (table : List Record) (count room : ℕ) (b : List ℕ) → WholeTable (take count table)
    → (written text table count room ≡ granted b) ↔ MayBeWritten text table count room b
written_exactly text table count room b whole = (written_may text table count room b whole, may_written text table count room b)
