-- A turn of the body as the code takes it: the ways out, and the tables after a turn that goes on.
use Prim.Native.Nat.{ℕ, zero, suc, ◌+◌, ◌-◌, ◌≤◌, ◌<◌}
use native.Mathlib.Numerals.{add-one}
use native.Mathlib.Omega.{arith}
use native.Mathlib.Decide.{dec_lt}
use mathlib.Core.Path.{◌≡◌, refl, sym, ap, ◌∙◌}
use mathlib.Core.Bool.{true, false, cond}
use mathlib.Core.List.{List}
use lib.ListN.{length, get_or, set, take, drop, length-drop, length-set}
use lib.Dec.{ltb}
use lib.Seq.{take_all, get_or-set_same, get_or-set_other}
use Rattle.std.specs.Prelude.{Option, Some, None, Ok, Err}
use Rattle.layout.specs.Bytes.{word, four, CSEG}
use Rattle.layout.specs.Refusals.{name_again}
use Rattle.layout.specs.Group.{head_fault, group_at, Sound}
use Rattle.layout.specs.Scan.{first, run, Turn, Refused, More, Run, Stopped, Ended}
use Rattle.layout.specs.declared.turn.Refusal.{Refusal}
use Rattle.layout.specs.Body.{group_place, sharing, unlike_body, group_turn_at, group_turn}
use Rattle.layout.specs.declared.edition.Edition.{Edition}
use Rattle.layout.specs.declared.turn.Inside.{Inside}
use Rattle.layout.proofs.Scans.{first_passed, first_stands, first_within}
use Rattle.layout.proofs.Runs.{run_stop, run_done, run_more, not_ended}
use Rattle.layout.proofs.Groups.{cseg_tag}
use Rattle.layout.proofs.GroupPlaces.{group_place_lem}
use Rattle.layout.proofs.HeadsThere.{head_drop}
use Rattle.layout.proofs.Sixteen.{group_sixteen, group_cntts}
use Rattle.layout.proofs.Bodies.{turn_end, turn_head, turn_many, turn_unsound, turn_unlike, turn_sound, group_there}
use Rattle.layout.proofs.Accepted.{body_within}
use Rattle.read_bytes.specs.Heads.{headed}
use Rattle.read_bytes.proofs.Headed.{head_fine, head_faulty}
use Rattle.read_met.specs.Before.{Places, again}
use Rattle.read_body.specs.declared.groups.Groups.{Groups}
use Rattle.read_body.specs.Known.{Insides, after_names, Turned, turn_of, GroupTurned, GroupsEntered, BodySurveyed}

-- ---- the group at a place, in the bytes from there on as the code cuts them

abbrev from : List ℕ → ℕ → List ℕ
from s at = take (length s - at) (drop at s)

module _ (s : List ℕ) (at : ℕ) (h : at ≤ length s) where
  from_there : from s at ≡ drop at s
  from_there = take_all (length s - at) (drop at s) (rw length-drop (omega arith))

  -- a place of the group is one of the body
  pub place_within : (why : Refusal) → group_at (from s at) ≡ Err why → at + why.place ≤ length s
  place_within why e = omega (arith, group_place_lem (drop at s) why.number why.place (rw from_there at e), length-drop at s)

  -- the text of a sound group, and where it ends
  pub text_is : (ed : Edition) (t c m : ℕ) → group_at (from s at) ≡ Sound ed t c m → (t ≡ word s (at + 12)) × (at + 16 + t ≤ length s)
  text_is ed t c m e = let g = group_there s 0 at ed t c m h (rw from_there at e) in (g.0, omega (arith, g.1.0, g.1.1))

  -- a header without fault in the body is one there
  pub headed_there : (u : Unit {0}) → headed (head_fault s at (four 0x43534547)) at ≡ Ok u → head_fault (from s at) 0 CSEG ≡ 0
  headed_there u q = rw (from_there, ← cseg_tag) (head_drop s (four 0x43534547) at h ∙ head_fine _ _ u q)

-- ---- the ways out of a turn

module _ (s : List ℕ) (n at : ℕ) (here : at ≡ group_place s n) where
  -- a turn that does not go on is the same whatever the names
  pub turned_end : at ≡ length s → GroupTurned s n at (Ok None)
  unfolding group_turn after_names turn_of
  turned_end h =
      record { turn = ap (group_turn_at s n) (sym here) ∙ turn_end s n at h; few = λ x m. over x m; like = λ x m. over x m; sound = λ x m. over x m }
    where
      over : {A : Type 0} (x : Inside) → ◌≡◌ {A = Turned} (Ok None) (Ok (Some x)) → A
      over x m = absurd (let z : ◌≡◌ {A = ℕ} 0 1 = cc in omega arith)

  refusing : (why : Refusal) → group_turn_at s n at ≡ Err why → GroupTurned s n at (Err why)
  unfolding group_turn after_names turn_of
  refusing why t =
      record { turn = ap (group_turn_at s n) (sym here) ∙ t; few = λ x m. over x m; like = λ x m. over x m; sound = λ x m. over x m }
    where
      over : {A : Type 0} (x : Inside) → ◌≡◌ {A = Turned} (Err why) (Ok (Some x)) → A
      over x m = absurd (let z : ◌≡◌ {A = ℕ} 0 1 = cc in omega arith)

  module _ (o : at ≡ length s → ⊥) where
    abbrev fault : ℕ
    fault = head_fault s at (four 0x43534547)

    pub turned_head : (why : Refusal) → headed fault at ≡ Err why → GroupTurned s n at (Err why)
    turned_head why h = let q = head_faulty fault at why h in refusing why (turn_head s n at o fault refl q.0 ∙ ap Err q.1)

    module _ (u : Unit {0}) (q : headed fault at ≡ Ok u) where
      fine : fault ≡ 0
      fine = head_fine fault at u q

      pub turned_many : 32 ≤ n → GroupTurned s n at (Err (record { number = 12; place = at }))
      turned_many h = refusing _ (turn_many s n at o fault refl fine h)

      module _ (w : n < 32) (h : at ≤ length s) where
        pub turned_unsound : (why : Refusal) → group_at (from s at) ≡ Err why → GroupTurned s n at (Err (record { number = why.number; place = at + why.place }))
        turned_unsound why g = refusing _ (turn_unsound s n at o fault refl fine w why.number why.place (rw (from_there s at h) at g))

        module _ (x : Inside) (g : group_at (from s at) ≡ Ok x) where
          sound_there : group_at (drop at s) ≡ Ok x
          sound_there = rw (from_there s at h) at g

          pub turned_unlike : unlike_body s n x.edition x.ctabs ≡ true → GroupTurned s n at (Err (record { number = 21; place = at }))
          turned_unlike u = refusing _ (turn_unlike s n at o fault refl fine w x.edition x.text x.ctabs x.cntts sound_there u)

          -- one that goes on does so unless a name stands in an earlier group
          pub turned_more : unlike_body s n x.edition x.ctabs ≡ false → GroupTurned s n at (Ok (Some x))
          unfolding group_turn after_names turn_of again
          turned_more u =
              record {
                turn = ap (group_turn_at s n) (sym here) ∙ (turn_sound s n at o fault refl fine w x.edition x.text x.ctabs x.cntts sound_there (ltb (sharing s n at) n) u refl ∙ rw here refl);
                few = λ y q. w;
                like = λ y q. (let z : x ≡ y = cc in rw (← z) u);
                sound = λ y q. (let z : x ≡ y = cc in rw (← z, ← (text_is s at h x.edition x.text x.ctabs x.cntts g).0) sound_there);
              }

-- ---- the tables: empty at the start, one entry for each turn that goes on

-- what holds of the first n entries of a table and of a new one holds of n + 1
pub table_next : (P : ℕ → ℕ → Type 0) (t : List ℕ) (n x : ℕ) → n < length t → ((k : ℕ) → k < n → P k (get_or t k 0)) → P n x
    → (k : ℕ) → k < n + 1 → P k (get_or (set t n x) k 0)
table_next P t n x l old new k h = go (dec_lt k n)
  where
    go : Dec (k < n) → P k (get_or (set t n x) k 0)
    go (yes a) = rw (get_or-set_other t n k x 0 (λ q. absurd (omega arith))) (old k a)
    go (no a) = let q : k ≡ n = omega arith in rw (q, get_or-set_same t n x 0 l) new

module _ (s : List ℕ) where
  pub places_start : (t : List ℕ) → length t ≡ 32 → Places s 0 t
  places_start t e = record { size = e; place = λ k l. absurd (omega arith); fits = λ k l. absurd (omega arith) }

  pub insides_start : (t : Groups) → length t.counts ≡ 32 → Insides s 0 t
  insides_start t e = record { size = e; sound = λ k l. absurd (omega arith) }

  module _ (n at : ℕ) (l : n < 32) (here : at ≡ group_place s n) where
    pub places_next : (t : List ℕ) → Places s n t → at + 16 + word s (at + 12) ≤ length s → Places s (n + 1) (set t n at)
    places_next t known h =
        record {
          size = length-set t n at ∙ known.size;
          place = table_next (λ k x. x ≡ group_place s k) t n at (omega (arith, known.size)) known.place here;
          fits = λ k a. go k a (dec_lt k n);
        }
      where
        go : (k : ℕ) → k < n + 1 → Dec (k < n) → group_place s k + 16 + word s (group_place s k + 12) ≤ length s
        go k a (yes b) = known.fits k b
        go k a (no b) = let q : k ≡ n = omega arith in rw (q, ← here) h

-- a group has at most sixteen Ctabs and Cntts, which a byte counts
pub counts_small : (s : List ℕ) (at : ℕ) (e : Edition) (x y : ℕ) → group_at (drop at s) ≡ Sound e (word s (at + 12)) x y → (x < 256) × (y < 256)
counts_small s at e x y h =
    (omega (arith, group_sixteen (drop at s) e (word s (at + 12)) x y h), omega (arith, group_cntts (drop at s) e (word s (at + 12)) x y h))

-- the group is one of 32, and it and its text stand within the body
abbrev pub Fitting : List ℕ → ℕ → ℕ → Type 0
Fitting s n at = (n < 32) × ((at + 8 + word s (at + 4) ≤ length s) × (at + 16 + word s (at + 12) ≤ length s))

pub not_some : {A : Type 0} (o : Option A) → ((x : A) → o ≡ Some x → ⊥) → o ≡ None
not_some None h = refl
not_some (Some x) h = absurd (h x refl)

module _ (s : List ℕ) (n at : ℕ) (r : Turned) (turned : GroupTurned s n at r) where
  module _ (here : at ≡ group_place s n) (x : Inside) (m : r ≡ Ok (Some x)) where
    -- so it is where a turn goes on
    pub more_within : at ≤ length s → Fitting s n at
    more_within h =
        let g = group_there s n at x.edition (word s (at + 12)) x.ctabs x.cntts h (turned.sound x m) in
        (turned.few x m, (g.1.1, omega (arith, g.1.0, g.1.1)))

    -- .. and it does unless a name stands in an earlier group
    pub more_turn : group_turn s n ≡ cond (again s n) (Refused name_again (group_place s n)) More
    unfolding after_names turn_of
    more_turn = turned.turn ∙ rw (m, here) refl

  -- one that does not go on ends the run, whatever the names
  module _ (l : n < 33) where
    pub stop_turn : (why : Refusal) → r ≡ Err why → run (group_turn s) n 33 ≡ Err why
    unfolding after_names turn_of
    stop_turn why e = run_stop (group_turn s) n 33 why.number why.place l (turned.turn ∙ rw e refl)

    pub done_turn : r ≡ Ok None → run (group_turn s) n 33 ≡ Ended n
    unfolding after_names turn_of
    done_turn e = run_done (group_turn s) n 33 l (turned.turn ∙ rw e refl)

-- what holds of the first n and of number n holds of n + 1
pub turns_next : (s : List ℕ) (n : ℕ) → ((k : ℕ) → k < n → group_turn s k ≡ cond (again s k) (Refused name_again (group_place s k)) More)
    → group_turn s n ≡ cond (again s n) (Refused name_again (group_place s n)) More
    → (k : ℕ) → k < n + 1 → group_turn s k ≡ cond (again s k) (Refused name_again (group_place s k)) More
turns_next s n old new k h = go (dec_lt k n)
  where
    go : Dec (k < n) → group_turn s k ≡ cond (again s k) (Refused name_again (group_place s k)) More
    go (yes a) = old k a
    go (no a) = let q : k ≡ n = omega arith in rw q new

-- ---- the run, once the names are looked at

-- turns that go on are passed over
pub run_from : (turn : ℕ → Turn) (e k : ℕ) → k ≤ e → ((j : ℕ) → j < k → turn j ≡ More) → run turn 0 e ≡ run turn k e
run_from turn e zero h more = refl
run_from turn e (suc k) h more =
    run_from turn e k (omega arith) (λ j l. more j (omega arith)) ∙ (run_more turn k e (omega arith) (more k (omega arith)) ∙ ap (λ (j : ℕ). run turn j e) (add-one k))

module _ (s : List ℕ) (r : Run) (t : Groups) (h : length s ≤ 32768) (entered : GroupsEntered s r t) where
  -- a group without a name of an earlier one goes on
  fresh : (k j : ℕ) → k ≡ first (again s) 0 t.count → j < k → k ≤ t.count → group_turn s j ≡ More
  fresh k j e l w = entered.turns j (omega arith) ∙ rw (first_passed (again s) t.count j (rw e at l)) refl

  module _ (k : ℕ) (e : k ≡ first (again s) 0 t.count) where
    pub names_again : k < t.count → BodySurveyed s (Stopped 13 (get_or t.places k 0)) t
    names_again l =
        record {
          run = sym (body_within s h ∙ (run_from (group_turn s) 33 k (omega (arith, entered.few)) (λ j q. fresh k j e q (omega arith))
              ∙ run_stop (group_turn s) k 33 13 (get_or t.places k 0) (omega (arith, entered.few))
              (entered.turns k l ∙ rw (e, first_stands (again s) t.count (rw e at l)) (rw (← e, entered.stand.place k l) refl))));
          known = λ n q. not_ended _ _ n q;
        }

    pub names_apart : t.count ≤ k → BodySurveyed s r t
    names_apart l =
        let w : k ≡ t.count = omega (arith, e, first_within (again s) t.count) in
        record {
          run = sym (body_within s h ∙ (run_from (group_turn s) 33 t.count (omega (arith, entered.few)) (λ j q. fresh k j e (omega arith) (omega arith)) ∙ entered.rest));
          known = λ n q. rw (← (entered.ended n q)) (record { few = entered.few; count = refl; stand = entered.stand; insides = entered.insides });
        }
