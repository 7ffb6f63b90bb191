-- A refused body: the groups before are sound, share no name and are of one edition, so each way out of a turn has the condition of its row.
use Prim.Native.Nat.{ℕ, zero, suc, ◌+◌, ◌≤◌, ◌<◌}
use mathlib.Core.Path.{◌≡◌, refl}
use mathlib.Core.Bool.{true, false, not}
use mathlib.Core.List.{List}
use native.Mathlib.Omega.{arith}
use native.Mathlib.Decide.{dec_lt}
use lib.Dec.{ltb, leb, eqb}
use lib.ListN.{length, drop}
use borrow.Author.Tests.{ltb-true, ltb-false, leb-true, leb-false, eqb-true, eqb-false, not-true, not-false}
use Rattle.layout.specs.declared.edition.Edition.{Edition}
use Rattle.layout.specs.Scan.{More}
use Rattle.layout.specs.Scan.{Ended}
use Rattle.layout.specs.Group.{Judged}
use Rattle.layout.specs.Bytes.{CSEG}
use Rattle.layout.specs.Sdec.{shares}
use Rattle.layout.specs.Group.{head_fault, group_at}
use Rattle.layout.specs.Body.{group_place, text_at, sharing, judged_no, edition_in, fixing, unlike_body, after_contents, group_turn_at, group_turn, body_run}
use Rattle.layout.proofs.Scans.{first_passed, first_stands}
use Rattle.layout.proofs.Bodies.{GroupMore, group_more, group_there, place_next}
use Rattle.layout.proofs.Accepted.{body_accepted}
use Rattle.layout.proofs.Choices.{either}
use Rattle.law_refusals.specs.Heads.{Headed}
use Rattle.law_refusals.specs.Body.{GroupRefused, Recorded, GroupsBefore, BodyRefused, body_over, head_refused, too_many, group_refused, other_edition_given, name_again_given, HasGroups}
use Rattle.law_refusals.proofs.Told.{TurnTold, RunTold, JudgedTold, run_told}
use Rattle.law_refusals.proofs.Heads.{head_told, headed}
use Rattle.law_refusals.proofs.Groups.{group_told}
use Rattle.law_refusals.proofs.Shared.{shared, unshared}
use Rattle.law_refusals.proofs.Unlike.{fixes, unlike_told, like_told}
use Rattle.std.specs.Prelude.{Ok, Err}

-- ---- the groups before

-- none of n groups shares a name with the one at `at`
module _ (s : List ℕ) (n at : ℕ) where
  names_apart : n ≤ sharing s n at → (i : ℕ) → i < n → shares (text_at s (group_place s i)) (text_at s at) ≡ false
  unfolding sharing
  names_apart h i l = first_passed (λ k. shares (text_at s (group_place s k)) (text_at s at)) n i (omega arith)

  name_shared : sharing s n at < n → shares (text_at s (group_place s (sharing s n at))) (text_at s at) ≡ true
  unfolding sharing
  name_shared h = first_stands (λ k. shares (text_at s (group_place s k)) (text_at s at)) n h

module _ (s : List ℕ) where
  -- groups that go on are of one edition where they have records
  one_edition : (n : ℕ) → ((k : ℕ) → k < n → GroupMore s k (group_place s k)) → (i j : ℕ) (e f : Edition) → i < j → j < n → Recorded s i e → Recorded s j f → e ≡ f
  one_edition zero each i j e f h l a b = absurd (omega arith)
  one_edition (suc n) each i j e f h l a b = go (one_edition n (λ k m. each k (omega arith))) (dec_lt j n)
    where
      go : ((i j : ℕ) (e f : Edition) → i < j → j < n → Recorded s i e → Recorded s j f → e ≡ f) → Dec (j < n) → e ≡ f
      go before (yes d) = before i j e f h d a b
      go before (no d) =
          let q : j ≡ n = omega arith in
          let g = each n (omega arith) in
          like_told s n before g.edition g.text g.ctabs g.cntts g.sound g.like i e f (omega arith) a (rw q at b)

  -- each group goes on from those before it
  pub groups_before : (n : ℕ) → length s ≤ 32768 → ((k : ℕ) → k < n → GroupMore s k (group_place s k)) → GroupsBefore s n
  groups_before n short each =
      record {
        short = short;
        groups = λ i l. let g = each i l in record { edition = g.edition; text = g.text; ctabs = g.ctabs; cntts = g.cntts; sound = g.sound };
        apart = λ i j name h l. unshared (text_at s (group_place s i)) (text_at s (group_place s j)) (names_apart s j (group_place s j) (ltb-false _ _ (each j l).apart) i h) name;
        alike = one_edition n each;
      }

  -- an accepted body
  pub has_groups : (n : ℕ) → body_run s ≡ Ended n → HasGroups s n
  has_groups n e = let a = body_accepted s n e in record { before = groups_before n a.short a.each; few = a.few; cover = a.cover }

  abbrev Kept : ℕ → Type 0
  Kept k = (group_place s k ≤ length s) × ((k ≤ 32) × ((i : ℕ) → i < k → GroupMore s i (group_place s i)))

  start : Kept 0
  unfolding group_place
  start = (omega arith, (omega arith, λ i l. absurd (omega arith)))

  next : (k : ℕ) → Kept k → group_turn s k ≡ More → Kept (k + 1)
  unfolding group_turn
  next k held m =
      let more = group_more s k (group_place s k) m in
      let there = group_there s k (group_place s k) more.edition more.text more.ctabs more.cntts held.0 more.sound in
      (rw (place_next s k (group_place s k) refl) there.1.1, (omega (arith, more.few), λ i l. go i (dec_lt i k) more l))
    where
      go : (i : ℕ) → Dec (i < k) → GroupMore s k (group_place s k) → i < k + 1 → GroupMore s i (group_place s i)
      go i (yes a) more l = held.1.1 i a
      go i (no a) more l = let q : i ≡ k = omega arith in rw q more

  -- ---- a turn

  after_contents_lem : (k : ℕ) → GroupsBefore s k → k < 32 → Headed s (group_place s k) CSEG → (r : Judged) → group_at (drop (group_place s k) s) ≡ r → JudgedTold (GroupRefused (drop (group_place s k) s)) r
      → TurnTold (BodyRefused s) (after_contents s k (group_place s k) r)
  unfolding after_contents
  after_contents_lem k before l head (Err why) e h = group_refused k why.number why.place before l head h
  after_contents_lem k before l head (Ok x') e h =
      either (TurnTold (BodyRefused s)) (unlike_body s k x'.edition x'.ctabs) _ _
      (λ u.
      let x = unlike_told s k x'.edition x'.ctabs u in
      other_edition_given (fixing s k) k (edition_in (judged_no s (fixing s k))) x'.edition before l x.1.0 (fixes s k x.1.0) (record { text = x'.text; ctabs = x'.ctabs; cntts = x'.cntts; sound = e; some = x.0 }) x.1.1) (λ u.
      either (TurnTold (BodyRefused s)) (ltb (sharing s k (group_place s k)) k) _ _
      (λ f.
      let i = ltb-true _ _ f in
      let name = shared (text_at s (group_place s (sharing s k (group_place s k)))) (text_at s (group_place s k)) (name_shared s k (group_place s k) i) in
      name_again_given (sharing s k (group_place s k)) k name.0 before l (record { edition = x'.edition; text = x'.text; ctabs = x'.ctabs; cntts = x'.cntts; sound = e }) (like_told s k before.alike x'.edition x'.text x'.ctabs x'.cntts e u) i name.1.0 name.1.1)
      (λ f. tt))

  turn_told : length s ≤ 32768 → (k : ℕ) → Kept k → TurnTold (BodyRefused s) (group_turn s k)
  unfolding group_turn group_turn_at
  turn_told short k held =
      let at : ℕ = group_place s k in
      let T = TurnTold (BodyRefused s) in
      let before = groups_before k short held.1.1 in
      either T (eqb at (length s)) _ _ (λ e. tt) (λ e.
      either T (not (eqb (head_fault s at CSEG) 0)) _ _
      (λ f. head_refused k (head_fault s at CSEG) before held.1.0 (omega (arith, held.0, eqb-false at (length s) e)) (head_told s at CSEG (not-true _ f))) (λ f.
      let h = headed s at CSEG (eqb-true _ _ (not-false _ f)) in
      either T (leb 32 k) _ _ (λ g. many (leb-true 32 k g) before h) (λ g.
      after_contents_lem k before (leb-false _ _ g) h (group_at (drop at s)) refl (group_told (drop at s)))))
    where
      many : 32 ≤ k → GroupsBefore s k → Headed s (group_place s k) CSEG → BodyRefused s 12 (group_place s k)
      many l before h = let q : k ≡ 32 = omega (arith, held.1.0) in rw q (too_many (rw q at before) (rw q at h))

  pub body_told : RunTold (BodyRefused s) (body_run s)
  unfolding body_run
  body_told =
      either (RunTold (BodyRefused s)) (ltb 32768 (length s)) _ _ (λ e. body_over (ltb-true _ _ e))
      (λ e. run_told (BodyRefused s) (group_turn s) Kept next 33 (λ k l held. turn_told (ltb-false _ _ e) k held) start)
