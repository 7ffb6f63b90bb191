-- Where a group and its parts stand.
use Prim.Native.Nat.{ℕ, ◌+◌, ◌≤◌, ◌<◌}
use native.Mathlib.Omega.{arith}
use mathlib.Core.Path.{◌≡◌}
use mathlib.Core.List.{List}
use lib.ListN.{length, get_or, drop}
use borrow.Author.Tests.{le-leb, lt-leb}
use Rattle.layout.specs.Bytes.{word}
use Rattle.layout.specs.Group.{ctab_place, Sound, group_size, group_at}
use Rattle.layout.specs.Body.{body_run}
use Rattle.layout.specs.Asked.{standing_at, standing, group_named}
use Rattle.layout.specs.declared.edition.Edition.{Edition}
use Rattle.std.specs.Prelude.{Err}
use Rattle.layout.specs.Scan.{Ended}
use Rattle.layout.specs.declared.turn.Refusal.{Refusal}
use Rattle.layout.specs.declared.answer.Standing.{Standing}
use Rattle.layout.proofs.Numbers.{word_drop}
use Rattle.read_body.specs.declared.groups.Groups.{Groups}
use Rattle.read_body.specs.Known.{edition_with, counts_no, Entered}
use Rattle.read_find.specs.Find.{Missing, Found, numbered, group_located, part_located}

-- the numbers of a sound group
pub standing_is : (s : List ℕ) (ed : Edition) (at l w c m : ℕ) → group_at (drop at s) ≡ Sound ed (word s (at + 12)) c m → l ≡ word s (at + 12) → w ≡ word s (at + 4)
    → ◌≡◌ {A = Standing} (record { edition = ed; at = at; size = 8 + w; text = at + 16; length = l; ctabs = at + 16 + l; records = c; cntts = ctab_place ed (at + 16 + l) c; seconds = m }) (standing_at s at (group_at (drop at s)))
unfolding standing_at group_size
standing_is s ed at l w c m e f g = rw (e, standing_at) (rw (f, g, word_drop s at 4))

-- ---- group number k of n, by what the tables have of it

module _ (s : List ℕ) (n : ℕ) where
  pub number_missing : (k : ℕ) → n ≤ k → numbered s n k ≡ Missing
  number_missing k h = rw (le-leb n k h)

  module _ (t : Groups) (e : Entered s n t) (k : ℕ) (h : k < n) where
    pub entry_sound : group_at (drop (get_or t.places k 0) s) ≡ Sound (edition_with t.edition (counts_no t k).ctabs) (word s (get_or t.places k 0 + 12)) (counts_no t k).ctabs (counts_no t k).cntts
    entry_sound = rw (e.stand.place k h) (e.insides.sound k h)

    pub entry_within : get_or t.places k 0 ≤ length s
    entry_within = omega (arith, e.stand.fits k h, e.stand.place k h)

    pub number_found : (x : Standing) → x ≡ standing_at s (get_or t.places k 0) (group_at (drop (get_or t.places k 0) s)) → numbered s n k ≡ Found k x
    unfolding standing
    number_found x q = rw (lt-leb n k h, ← (e.stand.place k h), ← q)

-- ---- the ways out of a search

module _ (s : List ℕ) where
  module _ (why : Refusal) (e : body_run s ≡ Err why) where
    pub group_refused : (g : ℕ) → group_located s g ≡ Err why
    unfolding group_located
    group_refused g = rw e

    pub part_refused : (name : List ℕ) → part_located s name ≡ Err why
    unfolding part_located
    part_refused name = rw e

  module _ (n : ℕ) (e : body_run s ≡ Ended n) where
    pub group_asked : (g : ℕ) → group_located s g ≡ numbered s n g
    unfolding group_located
    group_asked g = rw e

    pub part_asked : (name : List ℕ) (k : ℕ) → k ≡ group_named s n name → part_located s name ≡ numbered s n k
    unfolding part_located
    part_asked name k q = rw (e, q)
