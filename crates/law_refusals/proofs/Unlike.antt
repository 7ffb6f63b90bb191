-- What the test for 21 says: some group with records before this one is of another edition. Those before are of one edition, so the first with records speaks for all.
use Prim.Native.Nat.{ℕ, ◌≤◌, ◌<◌}
use mathlib.Core.Path.{◌≡◌, refl, sym, ◌∙◌}
use mathlib.Core.Bool.{Bool, true, false, not, ◌&&◌, false≢true}
use mathlib.Core.List.{List}
use native.Mathlib.Omega.{arith}
use native.Mathlib.Decide.{dec_lt}
use lib.Dec.{ltb}
use borrow.Author.Tests.{lt-ltb, ltb-true, not-false}
use Rattle.layout.specs.declared.edition.Edition.{Edition}
use Rattle.layout.specs.Group.{Judged}
use Rattle.layout.specs.Group.{Sound}
use Rattle.layout.specs.Editions.{alike}
use Rattle.layout.specs.Body.{records_of, edition_in, judged_no, fixing, unlike_body}
use Rattle.layout.proofs.Scans.{first_passed, first_stands}
use Rattle.layout.proofs.Editions.{alike_is, unlike_is}
use Rattle.law_refusals.specs.Body.{Recorded}
use Rattle.std.specs.Prelude.{Ok, Err}
use Rattle.layout.proofs.Refused.{one_edition as same_edition, one_ctabs}

module _ (s : List ℕ) where
  -- ---- a group with records

  recorded : (i : ℕ) (r : Judged) → judged_no s i ≡ r → 0 < records_of r → Recorded s i (edition_in r)
  unfolding records_of edition_in
  recorded i (Err why) e h = absurd (omega arith)
  recorded i (Ok x) e h = let l : 0 < x.ctabs = h in record { text = x.text; ctabs = x.ctabs; cntts = x.cntts; sound = e; some = omega arith }

  module _ (i : ℕ) (e : Edition) (r : Recorded s i e) where
    has_records : ltb 0 (records_of (judged_no s i)) ≡ true
    unfolding records_of
    has_records = rw (r.sound, records_of) (lt-ltb 0 r.ctabs r.some)

    edition_is : edition_in (judged_no s i) ≡ e
    unfolding edition_in
    edition_is = rw (r.sound, edition_in) refl

  -- the first of k groups that has records
  pub fixes : (k : ℕ) → fixing s k < k → Recorded s (fixing s k) (edition_in (judged_no s (fixing s k)))
  unfolding fixing
  fixes k l = recorded (fixing s k) (judged_no s (fixing s k)) refl (ltb-true _ _ (first_stands (λ i. ltb 0 (records_of (judged_no s i))) k l))

  fixing_least : (k i : ℕ) (e : Edition) → Recorded s i e → fixing s k ≤ i
  unfolding fixing
  fixing_least k i e r = go (dec_lt i (fixing s k))
    where
      go : Dec (i < fixing s k) → fixing s k ≤ i
      go (yes a) = absurd (false≢true (sym (first_passed (λ i. ltb 0 (records_of (judged_no s i))) k i a) ∙ has_records i e r))
      go (no a) = omega arith

  -- ---- the test of group number k, of this edition and with so many records

  module _ (k : ℕ) (ed : Edition) (n : ℕ) where
    pub unlike_told : unlike_body s k ed n ≡ true → (0 < n) × ((fixing s k < k) × (edition_in (judged_no s (fixing s k)) ≡ ed → ⊥))
    unfolding unlike_body
    unlike_told h = go (ltb 0 n) (ltb (fixing s k) k) (alike (edition_in (judged_no s (fixing s k))) ed) refl refl refl h
      where
        go : (a b d : Bool) → ltb 0 n ≡ a → ltb (fixing s k) k ≡ b → alike (edition_in (judged_no s (fixing s k))) ed ≡ d → a && (b && not d) ≡ true
            → (0 < n) × ((fixing s k < k) × (edition_in (judged_no s (fixing s k)) ≡ ed → ⊥))
        go true true false e f g q = (ltb-true _ _ e, (ltb-true _ _ f, unlike_is _ _ g))
        go true true true e f g q = absurd (false≢true q)
        go true false d e f g q = absurd (false≢true q)
        go false b d e f g q = absurd (false≢true q)

    like_is : unlike_body s k ed n ≡ false → 0 < n → fixing s k < k → edition_in (judged_no s (fixing s k)) ≡ ed
    unfolding unlike_body
    like_is h l m = alike_is _ _ (not-false _ (rw (lt-ltb 0 n l, lt-ltb (fixing s k) k m) at h))

  -- group number k is of no other edition than a group with records before it
  abbrev pub Suits : ℕ → Type 0
  Suits k = (h : ℕ) (e f : Edition) → h < k → Recorded s h e → Recorded s k f → e ≡ f

  module _ (k : ℕ) (before : (i j : ℕ) (e f : Edition) → i < j → j < k → Recorded s i e → Recorded s j f → e ≡ f) where
    as_fixed : (h : ℕ) (e : Edition) → h < k → Recorded s h e → fixing s k ≤ h → edition_in (judged_no s (fixing s k)) ≡ e
    as_fixed h e l r w = go (dec_lt (fixing s k) h)
      where
        go : Dec (fixing s k < h) → edition_in (judged_no s (fixing s k)) ≡ e
        go (yes a) = before (fixing s k) h (edition_in (judged_no s (fixing s k))) e a l (fixes k (omega arith)) r
        go (no a) = let q : fixing s k ≡ h = omega arith in rw q (edition_is h e r)

    pub like_told : (ed : Edition) (t n m : ℕ) → judged_no s k ≡ Sound ed t n m → unlike_body s k ed n ≡ false → Suits k
    like_told ed t n m sound u h e f l r q =
        let z : Sound ed t n m ≡ Sound f q.text q.ctabs q.cntts = sym sound ∙ q.sound in
        let a : ed ≡ f = same_edition z in
        let b : n ≡ q.ctabs = one_ctabs z in
        let w = fixing_least k h e r in
        sym (as_fixed h e l r w) ∙ (like_is k ed n u (omega (arith, q.some)) (omega arith) ∙ a)

    -- the way back: where one before is of another edition, the test passes ..
    pub unlike_so : (i : ℕ) (e f : Edition) → i < k → Recorded s i e → (r : Recorded s k f) → (e ≡ f → ⊥) → unlike_body s k f r.ctabs ≡ true
    unlike_so i e f l a r ne = go (unlike_body s k f r.ctabs) refl
      where
        go : (b : Bool) → unlike_body s k f r.ctabs ≡ b → b ≡ true
        go true u = refl
        go false u = absurd (ne (like_told f r.text r.ctabs r.cntts r.sound u i e f l a r))

  -- .. and where none is, it does not
  pub like_so : (k : ℕ) (ed : Edition) (t n m : ℕ) → judged_no s k ≡ Sound ed t n m → Suits k → unlike_body s k ed n ≡ false
  like_so k ed t n m sound suits = go (unlike_body s k ed n) refl
    where
      go : (b : Bool) → unlike_body s k ed n ≡ b → b ≡ false
      go false u = refl
      go true u =
          let x = unlike_told k ed n u in
          absurd (x.1.1 (suits (fixing s k) (edition_in (judged_no s (fixing s k))) ed x.1.0 (fixes k x.1.0) (record { text = t; ctabs = n; cntts = m; sound = sound; some = x.0 })))
