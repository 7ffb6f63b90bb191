-- Who plays, asked of the group's value, is who plays by the bytes where its Ctabs stand: record by record, one more at the end.
use Prim.Native.Nat.{ℕ, zero, suc, ◌+◌, ◌≤◌, ◌<◌}
use native.Mathlib.Omega.{arith}
use mathlib.Core.Path.{◌≡◌, refl, ap, ◌∙◌}
use mathlib.Core.Bool.{Bool, true, false, cond}
use mathlib.Core.List.{List, [], ◌∷◌, ◌++◌, map, map-append}
use lib.ListN.{drop}
use Rattle.layout.specs.Lists.{those, rows}
use Rattle.layout.specs.declared.edition.Edition.{Edition}
use Rattle.layout.specs.declared.record.Record.{Record}
use Rattle.layout.specs.Group.{Sound}
use Rattle.layout.specs.declared.answer.Standing.{Standing}
use Rattle.layout.specs.Group.{group_at, ctab_place, ctab_channel, record_at}
use Rattle.layout.specs.Body.{group_place, group_value, group_no}
use Rattle.layout.specs.Asked.{standing_at, standing}
use Rattle.layout.specs.Plays.{plays_under, playing}
use Rattle.layout.proofs.Lists.{rows_last}
use Rattle.layout.proofs.Sixteen.{group_sixteen}
use Rattle.layout.proofs.RecordBytes.{record_channel, record_roots, record_chords, records_there}
use Rattle.layout.proofs.Accepted.{body_accepted}
use Rattle.read_find.proofs.AskLaws.{There}
use Rattle.ask_plays.specs.PlaysAt.{plays_at, source_at, player_at, players_at}

-- those that pass among two lists
module _ {A : Type 0} (p : A → Bool) where
  pub those_append : (xs ys : List A) → those p (xs ++ ys) ≡ those p xs ++ those p ys
  unfolding those
  those_append [] ys = refl
  those_append (x ∷ xs) ys = go (p x) refl (those_append xs ys)
    where
      go : (b : Bool) → p x ≡ b → those p (xs ++ ys) ≡ those p xs ++ those p ys → cond b (x ∷ those p (xs ++ ys)) (those p (xs ++ ys)) ≡ cond b (x ∷ those p xs) (those p xs) ++ those p ys
      go true e more = ap (λ (z : List A). x ∷ z) more
      go false e more = more

-- ---- who plays of n records, record number i being what stands at its place

module _ (ed : Edition) (s : List ℕ) (p root type : ℕ) (f : ℕ → Record) where
  -- record number i is what stands at its place
  abbrev Stands : ℕ → Type 0
  Stands i = ((f i).source ≡ source_at s (ctab_place ed p i + 8)) × (plays_under root type (f i) ≡ plays_at s (ctab_place ed p i + 8) root type)

  alone : (i : ℕ) → Stands i → map (λ (r : Record). r.source) (those (plays_under root type) (f i ∷ [])) ≡ player_at s (ctab_place ed p i + 8) root type
  unfolding those player_at
  alone i h = go (plays_at s (ctab_place ed p i + 8) root type) h.1
    where
      go : (b : Bool) → plays_under root type (f i) ≡ b
          → map (λ (r : Record). r.source) (cond (plays_under root type (f i)) (f i ∷ []) []) ≡ cond b (source_at s (ctab_place ed p i + 8) ∷ []) []
      go true e = rw (e, h.0)
      go false e = rw e

  played_rows : (n : ℕ) → ((i : ℕ) → i < n → Stands i) → map (λ (r : Record). r.source) (those (plays_under root type) (rows f 0 n)) ≡ players_at ed s p root type n
  unfolding players_at those rows
  played_rows zero h = refl
  played_rows (suc n) h =
      let z : 0 + n ≡ n = omega arith in
      let last : rows f 0 (suc n) ≡ rows f 0 n ++ (f n ∷ []) = rw z at (rows_last f 0 n) in
      let more = played_rows n (λ i l. h i (omega arith)) in
      ap (λ (x : List Record). map (λ (r : Record). r.source) (those (plays_under root type) x)) last
      ∙ (ap (λ (x : List Record). map (λ (r : Record). r.source) x) (those_append (plays_under root type) (rows f 0 n) (f n ∷ []))
      ∙ (map-append (λ (r : Record). r.source) (those (plays_under root type) (rows f 0 n)) (those (plays_under root type) (f n ∷ []))
      ∙ rw (more, alone n (h n (omega arith)))))

-- ---- the group's value

module _ (s : List ℕ) (at : ℕ) (ed : Edition) (t n m : ℕ) (sound : group_at (drop at s) ≡ Sound ed t n m) where
  -- the records that stand in the body
  abbrev row : ℕ → Record
  row = record_at ed s (at + 16 + t) (ctab_place ed (at + 16 + t) n) m

  record_stands : (root type i : ℕ) → Stands ed s (at + 16 + t) root type row i
  unfolding plays_under plays_at ctab_channel
  record_stands root type i =
      (ap (λ (v : ℕ). record { 0 = v }) (record_channel ed s (at + 16 + t) (ctab_place ed (at + 16 + t) n) m i), rw (record_roots ed s (at + 16 + t) (ctab_place ed (at + 16 + t) n) m i, record_chords ed s (at + 16 + t) (ctab_place ed (at + 16 + t) n) m i))

  -- who plays in the group's value is who plays by the bytes
  pub playing_stands : (root type : ℕ) → playing (group_value (drop at s) (group_at (drop at s))) root type ≡ players_at ed s (at + 16 + t) root type n
  unfolding playing
  playing_stands root type = rw (records_there s at ed t n m sound) (played_rows ed s (at + 16 + t) root type row n (λ i h. record_stands root type i))

-- ---- a group that was found

module _ (s : List ℕ) (g : ℕ) (x : Standing) (there : There s g x) where
  -- its first Ctab and how many it has, by what the group rules say
  stands_ctabs : (ed : Edition) (t n m : ℕ) → group_at (drop (group_place s g) s) ≡ Sound ed t n m → (x.edition ≡ ed) × ((x.ctabs ≡ group_place s g + 16 + t) × (x.records ≡ n))
  unfolding standing standing_at
  stands_ctabs ed t n m sound = rw (← there.stands) (rw (sound, standing_at) (refl, (refl, refl)))

  pub there_sixteen : x.records ≤ 16
  there_sixteen =
      let more = (body_accepted s there.count there.run).each g there.below in
      let e = stands_ctabs more.edition more.text more.ctabs more.cntts more.sound in
      rw e.1.1 (group_sixteen (drop (group_place s g) s) more.edition more.text more.ctabs more.cntts more.sound)

  pub there_playing : (root type : ℕ) → playing (group_no s g) root type ≡ players_at x.edition s x.ctabs root type x.records
  unfolding group_no
  there_playing root type =
      let more = (body_accepted s there.count there.run).each g there.below in
      let e = stands_ctabs more.edition more.text more.ctabs more.cntts more.sound in
      rw (e.0, e.1.0, e.1.1) (playing_stands s (group_place s g) more.edition more.text more.ctabs more.cntts more.sound root type)
