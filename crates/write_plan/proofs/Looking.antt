-- What may be written: one law for each way out.
use Prim.Native.Nat.{ℕ, zero, suc, ◌+◌, ◌*◌, ◌^◌, ◌≤◌, ◌<◌}
use mathlib.Core.Path.{◌≡◌, refl, sym, ap, ap₂, ◌∙◌}
use mathlib.Core.Bool.{true, false}
use mathlib.Core.List.{List}
use native.Mathlib.Omega.{arith}
use native.Mathlib.Decide.{dec_lt}
use lib.Bits.{bit_or}
use lib.ListN.{length, get_or}
use borrow.Author.Tests.{ne_eqb, lt-ltb, le-ltb}
use Rattle.std.specs.Prelude.{Ok, Err, None, Some}
use Rattle.layout.specs.declared.turn.Refusal.{Refusal}
use Rattle.layout.specs.declared.edition.Edition.{Edition}
use Rattle.layout.specs.declared.edition.Edition.TheVariants.{First, Second}
use Rattle.layout.specs.declared.record.Record.{Record}
use Rattle.layout.specs.Records.{SecondTable}
use Rattle.layout.specs.Plays.{bit}
use Rattle.layout.specs.Editions.{size, held, alike}
use Rattle.layout.specs.Records.{blank, record_of, channel_of, edition_of, second_in, position_in, first_bad, laid_out}
use Rattle.layout.specs.Sdec.{sound_text}
use Rattle.layout.specs.Write.{cntt_count}
use Rattle.layout.proofs.Editions.{alike_is}
use Rattle.layout.proofs.Records.{ranged, ranged_channel}
use Rattle.write_plan.specs.declared.Checked.{Checked}
use Rattle.write_plan.specs.declared.Taken.{Taken}
use Rattle.write_plan.specs.Checking.{Looks, refused_at, first_checked, due, chunks_size, first_only, second_by, laid_down, claimed, larger, looked, laid_where, laid_after, taken, taken_at, no_plan, planned, begun, records_in, plan_of}
use Rattle.layout.proofs.BytesBack.{edition_made}
use Rattle.write_plan.proofs.Made.{channel_made, Alike, laid_alike}

module _ (text : List ℕ) (lent count : ℕ) where
  pub begun_many : lent < count → first_checked text lent count ≡ refused_at 16 0
  unfolding first_checked
  begun_many h = rw (lt-ltb lent count h)

  module _ (h : count ≤ lent) where
    pub begun_bad : sound_text text ≡ false → first_checked text lent count ≡ refused_at 8 0
    unfolding first_checked
    begun_bad e = rw (le-ltb lent count h, e)

    pub begun_sound : sound_text text ≡ true → first_checked text lent count ≡ Ok (record { records = count; edition = First; length = 16 + length text; seen = 0; seconds = 0; reach = 0 })
    unfolding first_checked
    begun_sound e = rw (le-ltb lent count h, e)

-- a record with no bad byte has a source channel below sixteen
pub channel_low : (r : Record) (k : ℕ) → k ≡ first_bad r → held (edition_of r) ≤ k → channel_of r < 16
channel_low r k e h = ranged_channel r (ranged r (rw (← e) h))

-- so a number of 64 bits has a bit for it
pub channel_shift : (e : Edition) (b : List ℕ) (second : SecondTable) (k : ℕ) → k ≡ first_bad (record_of e b second 0) → held e ≤ k → get_or b 0 0 < 64
channel_shift e b second k h l =
    let z = edition_made b second 0 e in
    omega (arith, channel_low (record_of e b second 0) k h (rw z l), channel_made b second 0 e)

-- a record has at most one Cntt
pub count_most : (second : SecondTable) → cntt_count second ≤ 1
unfolding cntt_count
count_most None = omega arith
count_most (Some v) = omega arith

-- no record is longer than a Ctb2's
pub size_within : (e : Edition) → size e ≤ 47
size_within First = omega arith
size_within Second = omega arith

-- a record's chunks are at most 55 bytes: a Ctb2 has no Cntt
sizes_most : (e : Edition) (second : SecondTable) → chunks_size e (cntt_count (second_by e second)) ≤ 55
unfolding chunks_size first_only cntt_count
sizes_most First second = omega (arith, count_most second)
sizes_most Second second = omega arith

pub size_most : (d e : Edition) (second : SecondTable) → alike d e ≡ true → chunks_size d (cntt_count (second_by e second)) ≤ 55
size_most d e second t = rw (alike_is d e t) (sizes_most e second)

-- ---- the edition that is due, and places counted by it

module _ (i : ℕ) (first own : Edition) where
  pub due_first : i ≡ 0 → own ≡ due i first own
  unfolding due
  due_first h = sym (rw h)

  pub due_later : (i ≡ 0 → ⊥) → first ≡ due i first own
  unfolding due
  due_later h = sym (rw (ne_eqb i 0 h))

pub place_at : (e f : Edition) (i : ℕ) → e ≡ f → size f * i ≡ size e * i
place_at e f i h = ap (λ (x : Edition). size x * i) (sym h)

pub place_most : (e : Edition) (i : ℕ) → size e * i ≤ 47 * i
place_most First i = omega arith
place_most Second i = omega arith

-- ---- a record looked at

module _ (c : List ℕ) (before : Looks) (i : ℕ) (r : Record) where
  module _ (why : Refusal) (b : before ≡ Err why) where
    pub looked_stays : looked c before i r ≡ Err why
    unfolding looked
    looked_stays = rw b

    pub after_stays : c ≡ laid_after c before i r
    unfolding laid_after laid_where
    after_stays = sym (rw looked_stays)

  module _ (x : Checked) (b : before ≡ Ok x) (e d : Edition) (is : e ≡ edition_of r) (at : d ≡ due i x.edition e) (p : ℕ) (place : p ≡ size d * i) where
    pub looked_unlike : alike d e ≡ false → looked c before i r ≡ refused_at 21 p
    unfolding looked
    looked_unlike t = rw (b, ← is, ← at, t, ← place)

    module _ (t : alike d e ≡ true) (k : ℕ) (f : k ≡ first_bad r) where
      pub looked_bad : k < held e → looked c before i r ≡ refused_at 9 (p + k)
      unfolding looked
      looked_bad h = rw (b, ← is, ← at, t, ← f, lt-ltb k (held e) h, ← place)

      module _ (h : held e ≤ k) where
        pub looked_again : bit x.seen (channel_of r) ≡ true → looked c before i r ≡ refused_at 10 p
        unfolding looked
        looked_again w = rw (b, ← is, ← at, t, ← f, le-ltb k (held e) h, w, ← place)

        pub looked_on : bit x.seen (channel_of r) ≡ false → (seen : ℕ) → seen ≡ bit_or x.seen (2 ^ channel_of r) → (second : SecondTable) → second ≡ second_in r → (position : ℕ) → position ≡ position_in r
            → (more : ℕ) → more ≡ cntt_count second → (n : ℕ) → n ≡ chunks_size d more → (reach : ℕ) → reach ≡ larger x.reach (claimed c position second)
            → looked c before i r ≡ Ok (record { records = x.records; edition = d; length = x.length + n; seen = seen; seconds = x.seconds + more; reach = reach })
        unfolding looked
        looked_on z seen s second w position v more m n q reach u =
            rw (b, ← is, ← at, t, ← f, le-ltb k (held e) h, z, ← s, ← w, ← v, ← m, ← q, ← u)

  -- ---- the Cntts laid down after it

  pub after_refused : (number place : ℕ) → looked c before i r ≡ refused_at number place → c ≡ laid_after c before i r
  unfolding laid_after laid_where
  after_refused number place e = sym (rw e)

  pub after_on : (y : Checked) → looked c before i r ≡ Ok y → (second : SecondTable) → second ≡ second_in r → (position : ℕ) → position ≡ position_in r
      → (d : List ℕ) → d ≡ laid_down c position (channel_of r) second → d ≡ laid_after c before i r
  unfolding laid_after laid_where
  after_on y e second w position v d q = q ∙ sym (rw (e, ← w, ← v))

-- ---- its edition, its bytes, its second table and its position are all that is looked at

module _ (c : List ℕ) (i : ℕ) (r q : Record) (a : Alike r q) where
  looked_alike : (x : Looks) → looked c x i r ≡ looked c x i q
  unfolding looked
  looked_alike (Err why) = refl
  looked_alike (Ok x) = rw (a.edition, a.bad, a.channel, a.second, a.position)

  after_alike : (x : Looks) → laid_after c x i r ≡ laid_after c x i q
  unfolding laid_after laid_where
  after_alike x = rw (looked_alike x, a.channel, a.second, a.position)

pub taken_held : (t : Taken) (i : ℕ) (r : Record) (b : List ℕ) (e : Edition) (second : SecondTable) (position : ℕ) (y : Looks) (c : List ℕ)
    → b ≡ laid_out r → e ≡ edition_of r → second ≡ second_in r → position ≡ position_in r
    → (y ≡ looked t.cntts t.checked i (record_of e b second position)) × (c ≡ laid_after t.cntts t.checked i (record_of e b second position))
    → record { checked = y; cntts = c } ≡ taken t i r
taken_held t i r b e second position y c f g h k w =
    let z : record_of e b second position ≡ record_of (edition_of r) (laid_out r) (second_in r) (position_in r) = rw (f, g, h, k) in
    ap₂ {C = Taken} (λ (a : Looks) (l : List ℕ). record { checked = a; cntts = l })
    (w.0 ∙ (ap (looked t.cntts t.checked i) z ∙ looked_alike t.cntts i _ r (laid_alike r) t.checked))
    (w.1 ∙ (ap (laid_after t.cntts t.checked i) z ∙ after_alike t.cntts i _ r (laid_alike r) t.checked))

-- a refusal stays, however many records are looked at behind it
module _ (t : Taken) (rs : List Record) (i : ℕ) (why : Refusal) (h : (taken_at t rs i).checked ≡ Err why) where
  pub taken_stays : (n : ℕ) → i ≤ n → (taken_at t rs n).checked ≡ Err why
  unfolding taken_at
  taken_stays zero l = let z : 0 ≡ i = omega arith in ap (λ (k : ℕ). (taken_at t rs k).checked) z ∙ h
  taken_stays (suc n) l = go (dec_lt n i) (λ (m : i ≤ n). taken_stays n m)
    where
      go : Dec (n < i) → (i ≤ n → (taken_at t rs n).checked ≡ Err why) → (taken_at t rs (suc n)).checked ≡ Err why
      go (yes b) before = let z : suc n ≡ i = omega arith in ap (λ (k : ℕ). (taken_at t rs k).checked) z ∙ h
      go (no b) before = looked_stays (taken_at t rs n).cntts (taken_at t rs n).checked n (get_or rs n blank) why (before (omega arith))

module _ (t : Taken) (room : ℕ) where
  pub planned_not : (why : Refusal) → t.checked ≡ Err why → planned t room ≡ Err why
  unfolding planned
  planned_not why h = rw h

  module _ (x : Checked) (z : t.checked ≡ Ok x) where
    pub planned_wrong : x.seconds < x.reach → planned t room ≡ no_plan 18 0
    unfolding planned
    planned_wrong h = rw (z, lt-ltb x.seconds x.reach h)

    module _ (w : x.reach ≤ x.seconds) where
      pub planned_short : room < x.length → planned t room ≡ no_plan 14 0
      unfolding planned
      planned_short h = rw (z, le-ltb x.seconds x.reach w, lt-ltb room x.length h)

      pub planned_fits : x.length ≤ room → planned t room ≡ Ok (record { records = x.records; edition = x.edition; length = x.length; seconds = x.seconds; cntts = t.cntts })
      unfolding planned
      planned_fits h = rw (z, le-ltb x.seconds x.reach w, le-ltb room x.length h)

-- the refusal that some records come to is that of writing, however many follow
module _ (text : List ℕ) (rs : List Record) (count room i : ℕ) (why : Refusal) (l : i ≤ records_in (begun text (length rs) count).checked) where
  pub plan_stays : (taken_at (begun text (length rs) count) rs i).checked ≡ Err why → plan_of text rs count room ≡ Err why
  unfolding plan_of
  plan_stays h =
      let t = begun text (length rs) count in
      planned_not (taken_at t rs (records_in t.checked)) room why (taken_stays t rs i why h (records_in t.checked) l)
