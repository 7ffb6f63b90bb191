-- The sections: the search for a tag among those before, one law for each way out of a turn, and what a turn that goes on says.
use Prim.Native.Nat.{ℕ, ◌+◌, ◌≤◌, ◌<◌}
use mathlib.Core.Path.{◌≡◌, refl, sym, ◌∙◌, ap}
use mathlib.Core.Bool.{Bool, true, false, cond}
use mathlib.Core.List.{List}
use native.Mathlib.Omega.{arith}
use native.Mathlib.Numerals.{add-one}
use lib.Dec.{ltb, eqb}
use lib.ListN.{length}
use borrow.Author.Tests.{eq-eqb, ne_eqb, lt-ltb, le-ltb, ltb-false, eqb-true, eqb-false}
use Rattle.std.specs.Prelude.{Err}
use Rattle.layout.specs.declared.turn.Refusal.{Refusal}
use Rattle.layout.specs.Scan.{first, Turn, Refused, More, Done}
use Rattle.layout.specs.Answers.{Answer, refused, granted}
use Rattle.layout.specs.Bytes.{word, four, tag_at, tagged}
use Rattle.layout.specs.Style.{section_place, section_tagged, section_turn_at, section_turn, section_read}
use Rattle.layout.proofs.Scans.{first_end, first_here, first_next}
use Rattle.layout.proofs.Numbers.{tagged_is}
use Rattle.read_style.specs.Walk.{Fit, Walked}

-- section number k has this tag
abbrev pub has_tag : List ℕ → List ℕ → ℕ → Bool
has_tag s tag = λ k. tagged s (section_place s k) tag

pub place_start : (s : List ℕ) (start : ℕ) → start ≡ 22 + word s 18 → start ≡ section_place s 0
unfolding section_place
place_start s start e = e

module _ (s : List ℕ) (k place : ℕ) (e : place ≡ section_place s k) where
  pub place_next : (l : ℕ) → l ≡ word s (place + 4) → place + 8 + l ≡ section_place s (k + 1)
  unfolding section_place
  place_next l f = rw (add-one k) (rw (f, e))

  -- each of the first n sections stands within the file
  pub fit_at : (n : ℕ) → Fit s n → k < n → place + 8 + word s (place + 4) ≤ length s
  fit_at n f l = rw e (f.fits k l)

-- ---- whether one of the first n sections has a tag

module _ (s : List ℕ) (n tag k : ℕ) (rest : section_tagged s n (four tag) ≡ first (has_tag s (four tag)) k n) where
  module _ (place m : ℕ) (e : place ≡ section_place s k) (t : tag_at s place ≡ four m) (m' : m < 4294967296) (tag' : tag < 4294967296) (l : k < n) where
    here : has_tag s (four tag) k ≡ eqb m tag
    here = rw (← e) (tagged_is s place m tag t m' tag')

    pub seen_here : m ≡ tag → ltb (section_tagged s n (four tag)) n ≡ true
    seen_here h = rw (rest ∙ first_here (has_tag s (four tag)) k n l (here ∙ eq-eqb m tag h)) (lt-ltb k n l)

    pub seen_next : (m ≡ tag → ⊥) → section_tagged s n (four tag) ≡ first (has_tag s (four tag)) (k + 1) n
    seen_next h = rest ∙ first_next (has_tag s (four tag)) k n l (here ∙ ne_eqb m tag h)

  pub seen_none : n ≡ k → ltb (section_tagged s n (four tag)) n ≡ false
  seen_none h = rw (rest ∙ first_end (has_tag s (four tag)) k n h) (le-ltb k n (omega arith))

-- ---- the ways out of a turn

module _ (s : List ℕ) (n at : ℕ) where
  pub turn_done : at ≡ length s → section_turn_at s n at ≡ Done
  unfolding section_turn_at
  turn_done h = rw (eq-eqb at (length s) h)

  -- the refusal of its length goes on as it is
  after : Answer ℕ → Turn → Turn
  after (refused number place) rest = Refused number place
  after (granted size) rest = rest

  module _ (o : at ≡ length s → ⊥) where
    turn_read : section_turn_at s n at ≡ after (section_read s at) (cond (ltb (section_tagged s n (tag_at s at)) n) (Refused 4 at) More)
    unfolding section_turn_at section_read after
    turn_read = rw (ne_eqb at (length s) o) (go (ltb (length s) (at + 8)) (ltb (length s) (at + 8 + word s (at + 4))) _)
      where
        go : (a b : Bool) (t : Turn) → cond a (Refused 2 at) (cond b (Refused 2 at) t) ≡ after (cond a (refused 2 at) (cond b (refused 2 at) (granted (word s (at + 4))))) t
        go true b t = refl
        go false true t = refl
        go false false t = refl

    pub turn_cut : (why : Refusal) → refused why.number why.place ≡ section_read s at → section_turn_at s n at ≡ Err why
    unfolding after
    turn_cut why e = turn_read ∙ rw (← e)

    -- seen before, or not
    pub turn_last : (size : ℕ) → granted size ≡ section_read s at → (m : ℕ) → tag_at s at ≡ four m → (b : Bool) → ltb (section_tagged s n (four m)) n ≡ b
        → section_turn_at s n at ≡ cond b (Refused 4 at) More
    unfolding after
    turn_last size e m t b q = turn_read ∙ rw (← e, t, q)

-- ---- a turn that goes on

-- the section stands within the file, and none before has its tag
pub record SectionMore (s : List ℕ) (n at : ℕ) : Type 0 where
  pub within : at + 8 + word s (at + 4) ≤ length s
  pub fresh : n ≤ section_tagged s n (tag_at s at)

module _ (s : List ℕ) (n at : ℕ) where
  pub section_more : section_turn_at s n at ≡ More → SectionMore s n at
  unfolding section_turn_at
  section_more m =
      go (eqb at (length s)) (ltb (length s) (at + 8)) (ltb (length s) (at + 8 + word s (at + 4))) (ltb (section_tagged s n (tag_at s at)) n) refl refl m
    where
      go : (a b c d : Bool) → ltb (length s) (at + 8 + word s (at + 4)) ≡ c → ltb (section_tagged s n (tag_at s at)) n ≡ d
          → cond a Done (cond b (Refused 2 at) (cond c (Refused 2 at) (cond d (Refused 4 at) More))) ≡ More → SectionMore s n at
      go true b c d h i q = absurd (let z : ◌≡◌ {A = ℕ} 0 1 = cc in omega arith)
      go false true c d h i q = absurd (let z : ◌≡◌ {A = ℕ} 0 1 = cc in omega arith)
      go false false true d h i q = absurd (let z : ◌≡◌ {A = ℕ} 0 1 = cc in omega arith)
      go false false false true h i q = absurd (let z : ◌≡◌ {A = ℕ} 0 1 = cc in omega arith)
      go false false false false h i q = record { within = ltb-false _ _ h; fresh = ltb-false _ _ i }

  -- section number n is the one at `at`
  pub turn_at : at ≡ section_place s n → section_turn s n ≡ section_turn_at s n at
  unfolding section_turn
  turn_at e = rw e

-- ---- the walk

pub walk_start : (s : List ℕ) (start : ℕ) → start ≡ 22 + word s 18 → 22 + word s 18 ≤ length s → Walked s 0 start
walk_start s start e l =
    record { fit = record { fits = λ k h. absurd (omega arith) }; stands = place_start s start e; within = omega arith; many = omega arith }

pub walk_next : (s : List ℕ) (n at l : ℕ) → Walked s n at → SectionMore s n at → l ≡ word s (at + 4) → Walked s (n + 1) (at + 8 + l)
walk_next s n at l walked more e =
    record {
      fit = record { fits = λ k h. go k h (eqb k n) refl };
      stands = place_next s n at walked.stands l e;
      within = omega (arith, more.within);
      many = omega (arith, walked.many);
    }
  where
    go : (k : ℕ) → k < n + 1 → (b : Bool) → eqb k n ≡ b → section_place s k + 8 + word s (section_place s k + 4) ≤ length s
    go k h true q = let z : section_place s k ≡ at = ap (section_place s) (eqb-true k n q) ∙ sym walked.stands in rw z more.within
    go k h false q = walked.fit.fits k (omega (arith, eqb-false k n q))
