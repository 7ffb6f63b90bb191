-- The record of a source channel: one law for each way out of the search, and what each says of every question that is asked of a record.
use Prim.Native.Nat.{ℕ, ◌+◌, ◌≤◌, ◌<◌}
use native.Mathlib.Omega.{arith}
use mathlib.Core.Path.{◌≡◌, refl, sym, ap, ◌∙◌}
use mathlib.Core.Bool.{Bool, true, false, cond}
use mathlib.Core.List.{List}
use lib.Dec.{leb, ltb}
use lib.ListN.{length}
use borrow.Author.Tests.{le-leb, lt-leb, leb-false, lt-ltb, le-ltb, ltb-true, ltb-false}
use Rattle.layout.specs.Answers.{Answer, refused, granted, after_run}
use Rattle.layout.specs.Group.{ctab_place, ctab_of}
use Rattle.layout.specs.Body.{body_run}
use Rattle.layout.specs.Asked.{Whereabouts, standing, of_group, row_of, row_in, of_channel, of_record, channel_found}
use Rattle.layout.specs.Scan.{Run, Ended}
use Rattle.layout.specs.declared.turn.Refusal.{Refusal}
use Rattle.layout.specs.declared.answer.Standing.{Standing}
use Rattle.layout.specs.declared.edition.Edition.{Edition}
use Rattle.layout.specs.Editions.{size}
use Rattle.layout.proofs.Ctabs.{place_before}
use Rattle.read_find.specs.Find.{Refused, Missing, group_located, told}
use Rattle.read_find.specs.Row.{Row, Refused as No, At, row_among, sought}
use Rattle.read_find.proofs.AskLaws.{There, of_refused, of_missing, of_told, of_found, standing_within}
use Rattle.std.specs.Prelude.{Some, None, Ok, Err}

-- ---- the ways out

module _ (s : List ℕ) (g channel : ℕ) where
  pub row_refused : (a b : ℕ) → group_located s g ≡ Refused a b → No a b ≡ sought (channel_found s g channel)
  unfolding channel_found sought
  row_refused a b h = rw (of_refused s g (of_channel s (standing s g) channel (λ row. granted row)) a b h)

  pub row_missing : group_located s g ≡ Missing → No 16 0 ≡ sought (channel_found s g channel)
  unfolding channel_found sought
  row_missing h = rw (of_missing s g (of_channel s (standing s g) channel (λ row. granted row)) h)

  pub row_told : (why : Refusal) → told 16 (group_located s g) ≡ Err why → Err why ≡ sought (channel_found s g channel)
  unfolding channel_found sought
  row_told why h = rw (of_told s g (of_channel s (standing s g) channel (λ row. granted row)) why h)

  -- a group that was found is asked for its record
  pub row_found : (x : Standing) → There s g x → sought (of_channel s x channel (λ row. granted row)) ≡ sought (channel_found s g channel)
  unfolding channel_found
  row_found x there = sym (ap sought (of_found s g _ x there ∙ ap (λ (y : Standing). of_channel s y channel (λ row. granted row)) there.stands))

-- a number below n is row_among n, and n is not
pub among_some : (n k : ℕ) → k < n → Some k ≡ row_among n k
unfolding row_among
among_some n k h = rw (lt-ltb k n h)

pub among_none : (n : ℕ) → None ≡ row_among n n
unfolding row_among
among_none n = rw (le-ltb n n (omega arith))

-- .. so one that is among them is below n, and otherwise it is n or more
some_among : (n k i : ℕ) → row_among n k ≡ Some i → (k ≡ i) × (k < n)
unfolding row_among
some_among n k i q = go (ltb k n) refl q
  where
    go : (b : Bool) → ltb k n ≡ b → cond b (Some k) None ≡ Some i → (k ≡ i) × (k < n)
    go true h w = (cc, ltb-true k n h)
    go false h w = absurd (let z : ◌≡◌ {A = ℕ} 0 1 = cc in omega arith)

none_among : (n k : ℕ) → row_among n k ≡ None → n ≤ k
unfolding row_among
none_among n k q = go (ltb k n) refl q
  where
    go : (b : Bool) → ltb k n ≡ b → cond b (Some k) None ≡ None → n ≤ k
    go true h w = absurd (let z : ◌≡◌ {A = ℕ} 0 1 = cc in omega arith)
    go false h w = ltb-false k n h

module _ (s : List ℕ) (x : Standing) (channel : ℕ) where
  abbrev here : ℕ
  here = ctab_of x.edition s x.ctabs x.records channel

  pub row_none : row_among x.records here ≡ None → No 15 0 ≡ sought (of_channel s x channel (λ row. granted row))
  unfolding of_channel row_in sought
  row_none h = rw (le-leb x.records here (none_among x.records here h))

  module _ (i : ℕ) (h : row_among x.records here ≡ Some i) where
    pub row_below : i < x.records
    row_below = let q = some_among x.records here i h in rw q.0 at q.1

    pub row_there : At x.edition i (ctab_place x.edition x.ctabs i + 8) ≡ sought (of_channel s x channel (λ row. granted row))
    unfolding of_channel row_in sought
    row_there = let q = some_among x.records here i h in rw (lt-leb x.records here q.1, q.0)

-- ---- what is asked of the record

-- what an answer about a record comes to, where something is asked of that record
on_row : {A : Type 0} → (Whereabouts → Answer A) → Answer Whereabouts → Answer A
on_row ask (refused number place) = refused number place
on_row ask (granted row) = ask row

module _ (s : List ℕ) (g channel : ℕ) where
  -- the record of the channel, and whether the group has none
  abbrev found : Whereabouts
  found = row_of (standing s g) (row_in s (standing s g) channel)

  abbrev lacks : Bool
  lacks = leb (standing s g).records (row_in s (standing s g) channel)

  module _ {A : Type 0} (ask : Whereabouts → Answer A) where
    of_row : of_record s g channel ask ≡ on_row ask (channel_found s g channel)
    unfolding channel_found of_group of_channel after_run on_row
    of_row = go (body_run s)
      where
        two : (a b : Bool) → cond a (refused 16 0) (cond b (refused 15 0) (ask found)) ≡ on_row ask (cond a (refused 16 0) (cond b (refused 15 0) (granted found)))
        two true b = refl
        two false true = refl
        two false false = refl

        go : (r : Run) → after_run r (λ n. cond (leb n g) (refused 16 0) (cond lacks (refused 15 0) (ask found))) ≡ on_row ask (after_run r (λ n. cond (leb n g) (refused 16 0) (cond lacks (refused 15 0) (granted found))))
        go (Err why) = refl
        go (Ok n) = two (leb n g) lacks

    pub record_refused : (a b : ℕ) → sought (channel_found s g channel) ≡ No a b → of_record s g channel ask ≡ refused a b
    unfolding sought on_row
    record_refused a b h = of_row ∙ go (channel_found s g channel) h
      where
        go : (x : Answer Whereabouts) → sought x ≡ No a b → on_row ask x ≡ refused a b
        go (refused c d) q = let z : ◌≡◌ {A = Refusal} (record { number = c; place = d }) (record { number = a; place = b }) = cc in ap (λ (w : Refusal). refused w.number w.place) z
        go (granted r) q = absurd (let z : ◌≡◌ {A = ℕ} 0 1 = cc in omega arith)

    pub record_there : (e : Edition) (i at : ℕ) → sought (channel_found s g channel) ≡ At e i at → of_record s g channel ask ≡ ask (record { edition = e; index = i; at = at })
    unfolding sought on_row
    record_there e i at h = of_row ∙ go (channel_found s g channel) h
      where
        go : (x : Answer Whereabouts) → sought x ≡ At e i at → on_row ask x ≡ ask (record { edition = e; index = i; at = at })
        go (refused c d) q = absurd (let z : ◌≡◌ {A = ℕ} 0 1 = cc in omega arith)
        go (granted r) q =
            let z : ◌≡◌ {A = Row} (record { edition = r.edition; row = r.index; at = r.at }) (record { edition = e; row = i; at = at }) = cc in
            ap (λ (w : Row). ask (record { edition = w.edition; index = w.row; at = w.at })) z

  -- a record that was found stands within the body
  pub record_within : (f : Edition) (i at : ℕ) → sought (channel_found s g channel) ≡ At f i at → at + size f ≤ length s
  unfolding channel_found of_group of_channel after_run sought
  record_within f i at h = go (body_run s) refl h
    where
      there : (n : ℕ) → body_run s ≡ Ended n → (a b : Bool) → leb n g ≡ a → lacks ≡ b → sought (cond a (refused 16 0) (cond b (refused 15 0) (granted found))) ≡ At f i at → at + size f ≤ length s
      there n e true b u v q = absurd (let z : ◌≡◌ {A = ℕ} 0 1 = cc in omega arith)
      there n e false true u v q = absurd (let z : ◌≡◌ {A = ℕ} 0 1 = cc in omega arith)
      there n e false false u v q =
          let z : ◌≡◌ {A = Row} (record { edition = found.edition; row = found.index; at = found.at }) (record { edition = f; row = i; at = at }) = cc in
          let y : found.at ≡ at = ap (λ (w : Row). w.at) z in
          let w : (standing s g).edition ≡ f = ap (λ (w : Row). w.edition) z in
          rw (← w)
          (omega (
            arith,
            y,
            (standing_within s n g e (leb-false n g u)).ctabs,
            place_before (standing s g).edition (standing s g).ctabs (row_in s (standing s g) channel) (standing s g).records (leb-false (standing s g).records (row_in s (standing s g) channel) v),
          ))

      go : (r : Run) → body_run s ≡ r → sought (after_run r (λ n. cond (leb n g) (refused 16 0) (cond lacks (refused 15 0) (granted found)))) ≡ At f i at → at + size f ≤ length s
      go (Err why) e q = absurd (let z : ◌≡◌ {A = ℕ} 0 1 = cc in omega arith)
      go (Ok n) e q = there n e (leb n g) lacks refl refl q
