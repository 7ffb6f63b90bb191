-- The answers of strict reading, one law for each way out of a call.
use Prim.Native.Nat.{ℕ, ◌+◌, ◌-◌}
use native.Mathlib.Omega.{arith}
use mathlib.Core.Path.{◌≡◌, refl}
use mathlib.Core.List.{List, []}
use lib.ListN.{take, drop}
use Rattle.layout.specs.Bytes.{word}
use Rattle.layout.specs.Answers.{refused, granted, number_of, place_of, value_or, after_run, part_of, counted, named, nowhere, grouped}
use Rattle.layout.specs.Body.{group_place, text_at, body_run, body_read}
use Rattle.layout.specs.declared.edition.Edition.{Edition}
use Rattle.layout.specs.Asked.{standing_at, standing, group_found, part_found, channel_found, channelled, text_of}
use Rattle.std.specs.Prelude.{Err}
use Rattle.layout.specs.Scan.{Stopped, Ended}
use Rattle.layout.specs.declared.turn.Refusal.{Refusal}
use Rattle.layout.specs.declared.answer.Counted.{Counted}
use Rattle.layout.specs.declared.answer.Grouped.{Grouped}
use Rattle.layout.specs.declared.answer.Named.{Named}
use Rattle.layout.specs.declared.answer.Channelled.{Channelled}
use Rattle.layout.specs.declared.answer.Standing.{Standing}
use Rattle.layout.proofs.Bodies.{group_there}
use Rattle.layout.proofs.Accepted.{body_accepted}
use Rattle.read_find.specs.Find.{Refused, Missing, Found, group_located, part_located, told}
use Rattle.read_find.specs.Row.{Refused as No, At, sought}
use Rattle.read_find.proofs.AskLaws.{There, told_refused, of_told, of_found, group_there_is, part_there_is, part_stopped, part_ended, part_missed, part_asked}
use Rattle.read_find.proofs.RowLaws.{record_refused, record_there}

-- ---- a body

module _ (s : List ℕ) where
  pub body_refused : (a b : ℕ) → body_run s ≡ Stopped a b → ◌≡◌ {A = Counted} (record { number = a; place = b; count = 0 }) (counted (body_read s))
  unfolding body_read after_run counted number_of place_of value_or
  body_refused a b e = rw (e, after_run)

  pub body_counted : (n : ℕ) → body_run s ≡ Ended n → ◌≡◌ {A = Counted} (record { number = 0; place = 0; count = n }) (counted (body_read s))
  unfolding body_read after_run counted number_of place_of value_or
  body_counted n e = rw (e, after_run)

-- ---- a group by number

module _ (s : List ℕ) (g : ℕ) where
  pub group_no_lem : (a b : ℕ) → group_found s g ≡ refused a b → ◌≡◌ {A = Grouped} (record { number = a; place = b; group = nowhere }) (grouped (group_found s g))
  unfolding grouped number_of place_of value_or
  group_no_lem a b e = rw e

  pub found_told : (why : Refusal) → told 16 (group_located s g) ≡ Err why → group_found s g ≡ refused why.number why.place
  unfolding group_found
  found_told why h = of_told s g (granted (standing s g)) why h

  pub found_there : (k : ℕ) (x : Standing) → group_located s g ≡ Found k x → ◌≡◌ {A = Grouped} (record { number = 0; place = 0; group = x }) (grouped (group_found s g))
  unfolding grouped number_of place_of value_or group_found
  found_there k x h =
      let there = group_there_is s g k x h in
      rw (of_found s g (granted (standing s g)) x there) (rw there.stands)

-- ---- a part by name

module _ (s name : List ℕ) where
  pub part_no : (a b : ℕ) → part_found s name ≡ refused a b → ◌≡◌ {A = Named} (record { number = a; place = b; group = 0 }) (named (part_found s name))
  unfolding named number_of place_of value_or
  part_no a b e = rw e

  pub part_refused : (a b : ℕ) → part_located s name ≡ Refused a b → part_found s name ≡ refused a b
  unfolding part_found after_run
  part_refused a b h = rw (part_stopped s name a b h, after_run)

  pub part_missing : part_located s name ≡ Missing → part_found s name ≡ refused 15 0
  unfolding part_found after_run
  part_missing h = let r = part_ended s name h in rw (r.1.0, after_run) (part_missed s name (λ g. granted g) r.0 r.1.1)

  pub part_told : (why : Refusal) → told 15 (part_located s name) ≡ Err why → part_found s name ≡ refused why.number why.place
  part_told why h = told_refused 15 (part_located s name) (part_found s name) (λ a b q. part_refused a b q) (λ q. part_missing q) why h

  pub part_there : (k : ℕ) (x : Standing) → part_located s name ≡ Found k x → ◌≡◌ {A = Named} (record { number = 0; place = 0; group = k }) (named (part_found s name))
  unfolding named number_of place_of value_or part_found after_run
  part_there k x h =
      let p = part_there_is s name k x h in
      rw (p.there.run, after_run) (rw (part_asked s name (λ g. granted g) k x p))

-- ---- a channel of a group

module _ (s : List ℕ) (g channel : ℕ) where
  pub channel_no : (a b : ℕ) → sought (channel_found s g channel) ≡ No a b → ◌≡◌ {A = Channelled} (record { number = a; place = b; row = 0; at = 0 }) (channelled (channel_found s g channel))
  unfolding channel_found channelled number_of place_of value_or
  channel_no a b h = rw (record_refused s g channel (λ row. granted row) a b h)

  pub channel_at : (e : Edition) (i at : ℕ) → sought (channel_found s g channel) ≡ At e i at → ◌≡◌ {A = Channelled} (record { number = 0; place = 0; row = i; at = at }) (channelled (channel_found s g channel))
  unfolding channel_found channelled number_of place_of value_or
  channel_at e i at h = rw (record_there s g channel (λ row. granted row) e i at h)

-- ---- the text of a group

module _ (s : List ℕ) (g : ℕ) where
  pub text_none : (a b : ℕ) → text_of s g ≡ refused a b → [] ≡ part_of (text_of s g)
  unfolding part_of value_or
  text_none a b e = rw e

  pub text_told : (why : Refusal) → told 16 (group_located s g) ≡ Err why → text_of s g ≡ refused why.number why.place
  unfolding text_of
  text_told why h = of_told s g _ why h

  -- where the text stands, and how long it is
  stands_text : (x : Standing) → There s g x → (x.text ≡ group_place s g + 16) × (x.length ≡ word s (group_place s g + 12))
  unfolding standing standing_at
  stands_text x there =
      let a = body_accepted s there.count there.run in
      let m = a.each g there.below in
      let t = group_there s g (group_place s g) m.edition m.text m.ctabs m.cntts (a.within g there.below) m.sound in
      rw (← there.stands) (rw (m.sound, standing_at) (refl, t.0))

  -- the part that a standing names is the text
  pub text_there : (x : Standing) → There s g x → take (x.text + x.length - x.text) (drop x.text s) ≡ part_of (text_of s g)
  unfolding text_of part_of value_or text_at
  text_there x there =
      let e = stands_text x there in
      let z : x.text + x.length - x.text ≡ x.length = omega arith in
      rw (of_found s g (granted (text_at s (group_place s g))) x there) (rw (z, e.0, e.1))
