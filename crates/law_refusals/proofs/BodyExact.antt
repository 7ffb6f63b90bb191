-- A body is refused wherever the condition of a row holds, and accepted where it has groups alone.
use Prim.Native.Nat.{ℕ, zero, suc, ◌+◌, ◌≤◌, ◌<◌}
use mathlib.Core.Path.{◌≡◌, refl, sym, ◌∙◌}
use mathlib.Core.Bool.{Bool, true, false}
use mathlib.Core.List.{List}
use native.Mathlib.Omega.{arith}
use native.Mathlib.Numerals.{add-one}
use native.Mathlib.Decide.{dec_lt}
use lib.ListN.{length, drop}
use borrow.Author.Tests.{lt-ltb, le-ltb, le-leb, lt-leb, eq-eqb, ne_eqb}
use Rattle.layout.specs.declared.edition.Edition.{Edition}
use Rattle.layout.specs.Scan.{Refused, More, Done}
use Rattle.layout.specs.Scan.{Stopped, Ended}
use Rattle.layout.specs.Group.{Unsound}
use Rattle.layout.specs.Bytes.{CSEG}
use Rattle.layout.specs.Sdec.{shares}
use Rattle.layout.specs.Group.{head_fault, group_at}
use Rattle.layout.specs.Body.{group_place, text_at, sharing, unlike_body, after_contents, group_turn_at, group_turn, body_run}
use Rattle.layout.proofs.Scans.{first_none, first_passed}
use Rattle.layout.proofs.Heads.{head_sound}
use Rattle.layout.proofs.GroupSound.{group_sound_is}
use Rattle.layout.proofs.HeadsThere.{head_drop}
use Rattle.layout.proofs.Bodies.{group_there, place_next}
use Rattle.layout.proofs.Accepted.{body_over, body_within}
use Rattle.law_refusals.specs.Heads.{HeadRefused}
use Rattle.law_refusals.specs.Body.{GroupStands, Named, Recorded, GroupsBefore, BodyRefused, head_refused, too_many, group_refused, other_edition_given, name_again_given, HasGroups}
use Rattle.law_refusals.specs.Body as body
use Rattle.law_refusals.proofs.Above.{head_above}
use Rattle.law_refusals.proofs.Reached.{run_reaches, run_comes_to, head_is, head_none}
use Rattle.law_refusals.proofs.Shared.{shared, unshared}
use Rattle.law_refusals.proofs.Unlike.{Suits, unlike_so, like_so}
use Rattle.law_refusals.proofs.GroupExact.{group_answers}

module _ (s : List ℕ) where
  -- two groups that have no name in common
  not_shared : (i j : ℕ) → ((name : List ℕ) → Named s i name → Named s j name → ⊥) → shares (text_at s (group_place s i)) (text_at s (group_place s j)) ≡ false
  not_shared i j f = go (shares (text_at s (group_place s i)) (text_at s (group_place s j))) refl
    where
      go : (b : Bool) → shares (text_at s (group_place s i)) (text_at s (group_place s j)) ≡ b → b ≡ false
      go true e = let n = shared (text_at s (group_place s i)) (text_at s (group_place s j)) e in absurd (f n.0 n.1.0 n.1.1)
      go false e = refl

  sharing_none : (k : ℕ) → ((i : ℕ) (name : List ℕ) → i < k → Named s i name → Named s k name → ⊥) → sharing s k (group_place s k) ≡ k
  unfolding sharing
  sharing_none k f = first_none (λ i. shares (text_at s (group_place s i)) (text_at s (group_place s k))) k (λ i l. not_shared i k (λ name. f i name l))

  -- ---- the turns

  module _ (k : ℕ) where
    abbrev at : ℕ
    at = group_place s k

    turn_head : (number : ℕ) → at < length s → HeadRefused s at CSEG number → group_turn s k ≡ Refused number at
    unfolding group_turn group_turn_at
    turn_head number l h =
        rw (ne_eqb at (length s) (λ e. absurd (omega arith)), head_is s at CSEG number h, ne_eqb number 0 (λ e. absurd (omega (arith, head_above s at CSEG number h))))

    module _ (f : head_fault s at CSEG ≡ 0) where
      begun : at ≡ length s → ⊥
      begun e = absurd (omega (arith, (head_sound s at CSEG f).1))

      turn_many : 32 ≤ k → group_turn s k ≡ Refused 12 at
      unfolding group_turn group_turn_at
      turn_many l = rw (ne_eqb at (length s) begun, f, le-leb 32 k l)

      turn_unsound : (number place : ℕ) → k < 32 → group_at (drop at s) ≡ Unsound number place → group_turn s k ≡ Refused number (at + place)
      unfolding group_turn group_turn_at after_contents
      turn_unsound number place l e = rw (ne_eqb at (length s) begun, f, lt-leb 32 k l) (rw (e, after_contents))

      turn_other : k < 32 → (e : Edition) (r : Recorded s k e) → unlike_body s k e r.ctabs ≡ true → group_turn s k ≡ Refused 21 at
      unfolding group_turn group_turn_at after_contents
      turn_other l e r h = rw (ne_eqb at (length s) begun, f, lt-leb 32 k l) (rw (r.sound, after_contents) (rw h))

      module _ (l : k < 32) (g : GroupStands (drop at s)) (suits : Suits s k) where
        like : unlike_body s k g.edition g.ctabs ≡ false
        like = like_so s k g.edition g.text g.ctabs g.cntts g.sound suits

        turn_named : sharing s k at < k → group_turn s k ≡ Refused 13 at
        unfolding group_turn group_turn_at after_contents
        turn_named h = rw (ne_eqb at (length s) begun, f, lt-leb 32 k l) (rw (g.sound, after_contents) (rw (like, lt-ltb (sharing s k at) k h)))

        turn_more : sharing s k at ≡ k → group_turn s k ≡ More
        unfolding group_turn group_turn_at after_contents
        turn_more h = rw (ne_eqb at (length s) begun, f, lt-leb 32 k l) (rw (g.sound, after_contents) (rw (like, le-ltb (sharing s k at) k (omega arith))))

    turn_end : at ≡ length s → group_turn s k ≡ Done
    unfolding group_turn group_turn_at
    turn_end e = rw (eq-eqb at (length s) e)

    -- the header of a sound group
    sound_head : at ≤ length s → GroupStands (drop at s) → head_fault s at CSEG ≡ 0
    sound_head l g = sym (head_drop s CSEG at l) ∙ (group_sound_is (drop at s) g.edition g.text g.ctabs g.cntts g.sound).head

  -- ---- the groups before

  begins : group_place s 0 ≤ length s
  unfolding group_place
  begins = omega arith

  module _ (k : ℕ) (b : GroupsBefore s k) where
    pub groups_within : (i : ℕ) → i ≤ k → group_place s i ≤ length s
    groups_within zero l = begins
    groups_within (suc i) l =
        let g = b.groups i (omega arith) in
        let there = group_there s i (group_place s i) g.edition g.text g.ctabs g.cntts (groups_within i (omega arith)) g.sound in
        rw (← add-one i) (rw (place_next s i (group_place s i) refl) there.1.1)

    before_more : k ≤ 32 → (i : ℕ) → i < k → group_turn s i ≡ More
    before_more few i l =
        let g = b.groups i l in
        turn_more i (sound_head i (groups_within i (omega arith)) g) (omega arith) g (λ h e f m. b.alike h i e f m l) (sharing_none i (λ j name h. b.apart j i name h l))

    stopped : (number place : ℕ) → k ≤ 32 → group_turn s k ≡ Refused number place → body_run s ≡ Stopped number place
    stopped number place few t = body_within s b.short ∙ run_reaches (group_turn s) 33 k number place (omega arith) (before_more few) t

  -- a name of group number k that group number i has too
  sharing_some : (i k : ℕ) (name : List ℕ) → i < k → Named s i name → Named s k name → sharing s k (group_place s k) < k
  unfolding sharing
  sharing_some i k name l e f = go (dec_lt (sharing s k (group_place s k)) k)
    where
      go : Dec (sharing s k (group_place s k) < k) → sharing s k (group_place s k) < k
      go (yes a) = a
      go (no a) =
          absurd (unshared (text_at s (group_place s i)) (text_at s (group_place s k))
          (first_passed (λ j. shares (text_at s (group_place s j)) (text_at s (group_place s k))) k i (omega arith)) name e f)

  pub body_answers : (number place : ℕ) → BodyRefused s number place → body_run s ≡ Stopped number place
  body_answers _ _ (body.body_over h) = body_over s h
  body_answers _ _ (head_refused k number b few l h) = stopped k b number (group_place s k) few (turn_head k number l h)
  body_answers _ _ (too_many b h) = stopped 32 b 12 (group_place s 32) (omega arith) (turn_many 32 (head_none s (group_place s 32) CSEG h) (omega arith))
  body_answers _ _ (group_refused k number place b few h r) =
      stopped k b number (group_place s k + place) (omega arith) (turn_unsound k (head_none s (group_place s k) CSEG h) number place few (group_answers (drop (group_place s k) s) number place r))
  body_answers _ _ (other_edition_given i k e f b few l a r ne) =
      let g : GroupStands (drop (group_place s k) s) = record { edition = f; text = r.text; ctabs = r.ctabs; cntts = r.cntts; sound = r.sound } in
      stopped k b 21 (group_place s k) (omega arith) (turn_other k (sound_head k (groups_within k b k (omega arith)) g) few f r (unlike_so s k b.alike i e f l a r ne))
  body_answers _ _ (name_again_given i k name b few g suits l e f) =
      stopped k b 13 (group_place s k) (omega arith) (turn_named k (sound_head k (groups_within k b k (omega arith)) g) few g suits (sharing_some i k name l e f))

  pub body_ended : (n : ℕ) → HasGroups s n → body_run s ≡ Ended n
  body_ended n h = let few = h.few in body_within s h.before.short ∙ run_comes_to (group_turn s) 33 n (omega arith) (before_more n h.before few) (turn_end n h.cover)
