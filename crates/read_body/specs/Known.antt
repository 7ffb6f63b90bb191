-- What strict reading knows of a body's first n groups: where they stand, and what is inside them. The names are looked at last.
use Rattle.std.specs.Prelude.{ℕ, ◌+◌, ◌≤◌, ◌<◌, ◌≡◌, Bool, false, cond, not, ◌&&◌, List, ltb, eqb, length, get_or, set, drop, Option, Some, None, unwrap_or, Result, Ok, Err}
use Rattle.layout.specs.Scan.{Turn, Refused, More, Done, Run, Ended, run}
use Rattle.layout.specs.declared.turn.Refusal.{Refusal}
use Rattle.layout.specs.declared.turn.Met.TheVariants.{Chunk, End}
use Rattle.layout.specs.Bytes.{word}
use Rattle.layout.specs.Refusals.{name_again}
use Rattle.layout.specs.Group.{Sound, group_at}
use Rattle.layout.specs.Body.{group_place, judged_no, edition_in, fixing, unlike_body, group_turn, body_run, group_limit}
use Rattle.layout.specs.declared.edition.Edition.{Edition}
use Rattle.layout.specs.declared.edition.Edition.TheVariants.{First}
use Rattle.layout.specs.Editions.{alike}
use Rattle.layout.specs.declared.turn.Inside.{Inside}
use Rattle.read_met.specs.Before.{Places, again}
use Rattle.read_body.specs.declared.groups.Counts.{Counts}
use Rattle.read_body.specs.declared.groups.Groups.{Groups}

-- ---- the edition of a body: that of its first group with records

-- what is known of it after n groups: the edition of the first of them that has records, where one has
pub record Fixed (s : List ℕ) (n : ℕ) (body : Option Edition) : Type 0 where
  pub none : body ≡ None → n ≤ fixing s n
  pub some : (e : Edition) → body ≡ Some e → (fixing s n < n) × (e ≡ edition_in (judged_no s (fixing s n)))

-- a group of c records is of another edition than the body, where that is known
unfoldable pub unlike : Option Edition → Edition → ℕ → Bool
unlike None e c = false
unlike (Some body) e c = ltb 0 c && not (alike body e)

-- the edition after a group: the first with records decides
unfoldable pub edition_after : Option Edition → Edition → ℕ → Option Edition
edition_after (Some body) e c = Some body
edition_after None e c = cond (eqb c 0) None (Some e)

-- the edition of a group of c records in a body of an edition: "one without records suits either", and is told as of the first
unfoldable pub edition_with : Option Edition → ℕ → Edition
edition_with body c = cond (eqb c 0) First (unwrap_or body First)

-- the tables with one group more, which stands at `at`
abbrev pub with_group : Groups → ℕ → Inside → Groups
with_group t at x =
    record {
      count = t.count + 1;
      places = set t.places t.count at;
      counts = set t.counts t.count (record { ctabs = x.ctabs; cntts = x.cntts });
      edition = edition_after t.edition x.edition x.ctabs;
    }

-- what group number k has
abbrev pub counts_no : Groups → ℕ → Counts
counts_no t k = get_or t.counts k (record { ctabs = 0; cntts = 0 })

-- tables of how many Ctabs and Cntts each of n groups has; those with records are of the body's edition
pub record Insides (s : List ℕ) (n : ℕ) (t : Groups) : Type 0 where
  pub size : length t.counts ≡ 32
  pub sound : (k : ℕ) → k < n → judged_no s k ≡ Sound (edition_with t.edition (counts_no t k).ctabs) (word s (group_place s k + 12)) (counts_no t k).ctabs (counts_no t k).cntts

-- ".. contents, then 13": a turn at `at`, once it is known whether a name of it stands in an earlier group
unfoldable pub after_names : Bool → ℕ → Turn → Turn
after_names b at (Err why) = Err why
after_names b at (Ok Chunk) = cond b (Refused name_again at) More
after_names b at (Ok End) = Done

-- a turn but for its names: where it goes on what is inside the group, and nothing at the end
abbrev pub Turned : Type 0
Turned = Result (Option Inside) Refusal

unfoldable pub turn_of : Turned → Turn
turn_of (Err why) = Err why
turn_of (Ok None) = Done
turn_of (Ok (Some x)) = More

-- so it is told
pub record GroupTurned (s : List ℕ) (n at : ℕ) (r : Turned) : Type 0 where
  pub turn : group_turn s n ≡ after_names (again s n) at (turn_of r)
  pub few : (x : Inside) → r ≡ Ok (Some x) → n < 32
  pub like : (x : Inside) → r ≡ Ok (Some x) → unlike_body s n x.edition x.ctabs ≡ false
  pub sound : (x : Inside) → r ≡ Ok (Some x) → group_at (drop at s) ≡ Sound x.edition (word s (at + 12)) x.ctabs x.cntts

-- the groups that go on but for their names, and the run after them
pub record GroupsEntered (s : List ℕ) (r : Run) (t : Groups) : Type 0 where
  pub few : t.count ≤ 32
  pub stand : Places s t.count t.places
  pub insides : Insides s t.count t
  pub turns : (k : ℕ) → k < t.count → group_turn s k ≡ cond (again s k) (Refused name_again (group_place s k)) More
  pub rest : run (group_turn s) t.count (group_limit + 1) ≡ r
  pub ended : (n : ℕ) → r ≡ Ended n → t.count ≡ n

-- so many groups are in the tables
pub record Entered (s : List ℕ) (n : ℕ) (t : Groups) : Type 0 where
  pub few : n ≤ 32
  pub count : t.count ≡ n
  pub stand : Places s n t.places
  pub insides : Insides s n t

-- a whole body, and where it is accepted the tables of its groups
pub record BodySurveyed (s : List ℕ) (r : Run) (t : Groups) : Type 0 where
  pub run : r ≡ body_run s
  pub known : (n : ℕ) → r ≡ Ended n → Entered s n t
