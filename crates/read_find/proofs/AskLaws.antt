-- What a search for a group says of every question that is asked after the body: its refusals, and where the group stands.
use Prim.Native.Nat.{ℕ, ◌+◌, ◌*◌, ◌≤◌, ◌<◌}
use native.Mathlib.Omega.{arith}
use mathlib.Core.Path.{◌≡◌, refl, ap, ◌∙◌}
use mathlib.Core.Bool.{Bool, true, false, cond}
use mathlib.Core.List.{List}
use lib.Dec.{leb}
use lib.ListN.{length}
use borrow.Author.Tests.{lt-leb, leb-false}
use Rattle.layout.specs.Answers.{Answer, refused, after_run}
use Rattle.layout.specs.Body.{group_place, body_run}
use Rattle.layout.specs.Asked.{standing_at, standing, of_group, group_named, of_part}
use Rattle.layout.specs.Scan.{Run, Stopped, Ended}
use Rattle.layout.specs.declared.turn.Refusal.{Refusal}
use Rattle.layout.specs.Group.{ctab_place}
use Rattle.layout.specs.declared.answer.Standing.{Standing}
use Rattle.layout.proofs.Bodies.{group_there}
use Rattle.layout.proofs.Accepted.{body_accepted}
use Rattle.read_find.specs.Find.{Stands, Search, Refused, Missing, Found, among, numbered, group_located, part_located, told}
use Rattle.std.specs.Prelude.{Option, Some, None, ok_or, Ok, Err}

-- the parts of a group stand within the body
pub record Within (s : List ℕ) (x : Standing) : Type 0 where
  pub text : x.text + x.length ≤ length s
  pub ctabs : ctab_place x.edition x.ctabs x.records ≤ length s
  pub cntts : x.cntts + 10 * x.seconds ≤ length s

-- group number g of an accepted body stands within it
pub standing_within : (s : List ℕ) (n g : ℕ) → body_run s ≡ Ended n → g < n → Within s (standing s g)
unfolding standing standing_at
standing_within s n g e l =
    let a = body_accepted s n e in
    let m = a.each g l in
    let t = group_there s g (group_place s g) m.edition m.text m.ctabs m.cntts (a.within g l) m.sound in
    rw (m.sound, standing_at) (record { text = omega (arith, t.1.0, t.1.1); ctabs = omega (arith, t.1.0, t.1.1); cntts = omega (arith, t.1.0, t.1.1) })

-- ---- what a search says of the body

-- the group is number k of an accepted body, and stands so
pub record There (s : List ℕ) (k : ℕ) (x : Standing) : Type 0 where
  pub count : ℕ
  pub run : body_run s ≡ Ended count
  pub below : k < count
  pub stands : standing s k ≡ x

-- a look among n groups at number k, which is none of them or stands somewhere
abbrev look : List ℕ → (ℕ → ℕ) → ℕ → Search
look s k n = numbered s n (k n)

module _ (s : List ℕ) (k : ℕ → ℕ) where
  refusing : (a b : ℕ) (r : Run) → among r (look s k) ≡ Refused a b → r ≡ Stopped a b
  refusing a b (Err why) q = let z : ◌≡◌ {A = Refusal} why (record { number = a; place = b }) = cc in ap Err z
  refusing a b (Ok n) q = go (leb n (k n)) q
    where
      go : (x : Bool) → cond x Missing (Found (k n) (standing s (k n))) ≡ Refused a b → Ended n ≡ Stopped a b
      go true w = absurd (let z : ◌≡◌ {A = ℕ} 0 1 = cc in omega arith)
      go false w = absurd (let z : ◌≡◌ {A = ℕ} 0 1 = cc in omega arith)

  missing : (r : Run) → among r (look s k) ≡ Missing → (n : ℕ) × ((r ≡ Ended n) × (leb n (k n) ≡ true))
  missing (Err why) q = absurd (let z : ◌≡◌ {A = ℕ} 0 1 = cc in omega arith)
  missing (Ok n) q = go (leb n (k n)) refl q
    where
      go : (x : Bool) → leb n (k n) ≡ x → cond x Missing (Found (k n) (standing s (k n))) ≡ Missing → (m : ℕ) × ((Ended n ≡ Ended m) × (leb m (k m) ≡ true))
      go true h w = (n, (refl, h))
      go false h w = absurd (let z : ◌≡◌ {A = ℕ} 0 1 = cc in omega arith)

  finding : (j : ℕ) (x : Standing) (r : Run) → body_run s ≡ r → among r (look s k) ≡ Found j x → (there : There s j x) × (k there.count ≡ j)
  finding j x (Err why) e q = absurd (let z : ◌≡◌ {A = ℕ} 0 1 = cc in omega arith)
  finding j x (Ok n) e q = go (leb n (k n)) refl q
    where
      go : (b : Bool) → leb n (k n) ≡ b → cond b Missing (Found (k n) (standing s (k n))) ≡ Found j x → (there : There s j x) × (k there.count ≡ j)
      go true h w = absurd (let z : ◌≡◌ {A = ℕ} 0 1 = cc in omega arith)
      go false h w =
          let z : ◌≡◌ {A = Stands} (record { group = k n; standing = standing s (k n) }) (record { group = j; standing = x }) = cc in
          let y : k n ≡ j = ap (λ (w : Stands). w.group) z in
          (record { count = n; run = e; below = rw (← y) (leb-false n (k n) h); stands = rw (← y) (ap (λ (w : Stands). w.standing) z) }, y)

-- a group that was found stands within the body
pub there_within : (s : List ℕ) (k : ℕ) (x : Standing) → There s k x → Within s x
there_within s k x there = rw (← there.stands) (standing_within s there.count k there.run there.below)

-- ---- what is told of what was found

pub told_there : (number : ℕ) (o : Option Stands) → ok_or o (record { number = number; place = 0 }) ≡ told number (Ok o)
unfolding told
told_there number None = refl
told_there number (Some x) = refl

-- what is told is what was found
pub told_found : (number : ℕ) (r : Search) (x : Stands) → told number r ≡ Ok x → r ≡ Ok (Some x)
unfolding told
told_found number (Err why) x q = absurd (let z : ◌≡◌ {A = ℕ} 0 1 = cc in omega arith)
told_found number (Ok None) x q = absurd (let z : ◌≡◌ {A = ℕ} 0 1 = cc in omega arith)
told_found number (Ok (Some y)) x q = let z : y ≡ x = cc in rw z

-- .. or the refusal of the body, or the number's
pub told_refused : {A : Type 0} (number : ℕ) (r : Search) (answer : Answer A) → ((a b : ℕ) → r ≡ Refused a b → answer ≡ refused a b) → (r ≡ Missing → answer ≡ refused number 0)
    → (why : Refusal) → told number r ≡ Err why → answer ≡ refused why.number why.place
unfolding told
told_refused number (Err why') answer f g why q = let z : why' ≡ why = cc in f why'.number why'.place refl ∙ ap (λ (w : Refusal). refused w.number w.place) z
told_refused number (Ok None) answer f g why q = let z : ◌≡◌ {A = Refusal} (record { number = number; place = 0 }) why = cc in g refl ∙ ap (λ (w : Refusal). refused w.number w.place) z
told_refused number (Ok (Some x)) answer f g why q = absurd (let z : ◌≡◌ {A = ℕ} 0 1 = cc in omega arith)

-- ---- by number

module _ (s : List ℕ) (g : ℕ) where
  pub group_there_is : (k : ℕ) (x : Standing) → group_located s g ≡ Found k x → There s g x
  unfolding group_located
  group_there_is k x h = let r = finding s (λ _. g) k x (body_run s) refl h in rw (← r.1) at r.0

  pub group_stopped : (a b : ℕ) → group_located s g ≡ Refused a b → body_run s ≡ Stopped a b
  unfolding group_located
  group_stopped a b h = refusing s (λ _. g) a b (body_run s) h

  pub group_ended : group_located s g ≡ Missing → (n : ℕ) × ((body_run s ≡ Ended n) × (leb n g ≡ true))
  unfolding group_located
  group_ended h = missing s (λ _. g) (body_run s) h

  module _ {A : Type 0} (ask : Answer A) where
    pub of_refused : (a b : ℕ) → group_located s g ≡ Refused a b → of_group s g ask ≡ refused a b
    unfolding of_group after_run
    of_refused a b h = rw (group_stopped a b h, after_run)

    pub of_missing : group_located s g ≡ Missing → of_group s g ask ≡ refused 16 0
    unfolding of_group after_run
    of_missing h = let r = group_ended h in rw (r.1.0, after_run) (rw r.1.1)

    -- .. which is 16 for a group that is not there
    pub of_told : (why : Refusal) → told 16 (group_located s g) ≡ Err why → of_group s g ask ≡ refused why.number why.place
    of_told why h = told_refused 16 (group_located s g) (of_group s g ask) (λ a b q. of_refused a b q) (λ q. of_missing q) why h

    pub of_found : (x : Standing) → There s g x → of_group s g ask ≡ ask
    unfolding of_group after_run
    of_found x there = rw (there.run, after_run) (rw (lt-leb there.count g there.below))

-- ---- by the name of a part

module _ (s name : List ℕ) where
  -- the group that has the part
  pub record PartThere (k : ℕ) (x : Standing) : Type 0 where
    pub there : There s k x
    pub named : group_named s there.count name ≡ k

  pub part_there_is : (k : ℕ) (x : Standing) → part_located s name ≡ Found k x → PartThere k x
  unfolding part_located
  part_there_is k x h = let r = finding s (λ n. group_named s n name) k x (body_run s) refl h in record { there = r.0; named = r.1 }

  pub part_stopped : (a b : ℕ) → part_located s name ≡ Refused a b → body_run s ≡ Stopped a b
  unfolding part_located
  part_stopped a b h = refusing s (λ n. group_named s n name) a b (body_run s) h

  pub part_ended : part_located s name ≡ Missing → (n : ℕ) × ((body_run s ≡ Ended n) × (leb n (group_named s n name) ≡ true))
  unfolding part_located
  part_ended h = missing s (λ n. group_named s n name) (body_run s) h

  module _ {A : Type 0} (ask : ℕ → Answer A) where
    pub part_missed : (n : ℕ) → leb n (group_named s n name) ≡ true → of_part s name n ask ≡ refused 15 0
    unfolding of_part
    part_missed n h = rw h

    pub part_asked : (k : ℕ) (x : Standing) (p : PartThere k x) → of_part s name p.there.count ask ≡ ask k
    unfolding of_part
    part_asked k x p = rw (p.named, lt-leb p.there.count k p.there.below)
