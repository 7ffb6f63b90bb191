-- Who plays: one law for each way out of the call.
use Prim.Native.Nat.{ℕ, ◌<◌}
use mathlib.Core.Path.{◌≡◌, refl, ap, ◌∙◌}
use mathlib.Core.List.{List}
use borrow.Author.Tests.{le-leb, lt-leb}
use Rattle.std.specs.Prelude.{Option, None, Some, Ok, Err}
use Rattle.layout.specs.declared.turn.Refusal.{Refusal}
use Rattle.layout.specs.Scan.{Ended}
use Rattle.layout.specs.Answers.{refused, granted, after_run}
use Rattle.layout.specs.Body.{body_run, group_no}
use Rattle.layout.specs.Asked.{of_part}
use Rattle.layout.specs.Plays.{playing, who_plays}
use Rattle.read_find.specs.declared.Stands.{Stands}
use Rattle.read_find.specs.Find.{Missing, part_located}
use Rattle.read_find.proofs.AskLaws.{there_within, part_there_is, part_stopped, part_ended, part_missed, part_asked}
use Rattle.ask_plays.specs.PlaysAt.{GroupAsked}
use Rattle.ask_plays.proofs.Standing.{there_sixteen, there_playing}

-- ---- the ways out

-- a body that is not refused was read to its end
pub read_through : (s name : List ℕ) (o : Option Stands) → part_located s name ≡ Ok o → (n : ℕ) × (body_run s ≡ Ended n)
read_through s name None e = let r = part_ended s name e in (r.0, r.1.0)
read_through s name (Some x) e = let p = part_there_is s name x.group x.standing e in (p.there.count, p.there.run)

-- and the part is missing where it was not found
pub not_found : (o : Option Stands) → ((x : Stands) → o ≡ Some x → ⊥) → o ≡ None
not_found None h = refl
not_found (Some x) h = absurd (h x refl)

module _ (s name : List ℕ) (root type : ℕ) where
  pub plays_refused : (why : Refusal) → part_located s name ≡ Err why → who_plays s name root type ≡ refused why.number why.place
  unfolding who_plays after_run
  plays_refused why h = rw (part_stopped s name why.number why.place h, after_run)

  module _ (n : ℕ) (run : body_run s ≡ Ended n) where
    pub no_such_root : 11 < root → who_plays s name root type ≡ refused 16 0
    unfolding who_plays after_run
    no_such_root h = rw (run, after_run) (rw (le-leb 12 root h))

    module _ (r : root < 12) where
      pub no_such_type : 33 < type → who_plays s name root type ≡ refused 16 0
      unfolding who_plays after_run
      no_such_type h = rw (run, after_run) (rw (lt-leb 12 root r, le-leb 34 type h))

      module _ (k : type < 34) where
        asked : who_plays s name root type ≡ of_part s name n (λ g. granted (playing (group_no s g) root type))
        unfolding who_plays after_run
        asked = rw (run, after_run) (rw (lt-leb 12 root r, lt-leb 34 type k))

  pub no_such_part : part_located s name ≡ Missing → root < 12 → type < 34 → who_plays s name root type ≡ refused 15 0
  no_such_part h r k =
      let e = part_ended s name h in
      asked e.0 e.1.0 r k ∙ part_missed s name (λ g. granted (playing (group_no s g) root type)) e.0 e.1.1

  pub part_plays : (x : Stands) → part_located s name ≡ Ok (Some x) → root < 12 → type < 34 → GroupAsked s name root type x.standing
  part_plays x h r t =
      let p = part_there_is s name x.group x.standing h in
      record {
        plays =
            asked p.there.count p.there.run r t
            ∙ part_asked s name (λ g. granted (playing (group_no s g) root type)) x.group x.standing p
            ∙ ap (λ cs. granted cs) (there_playing s x.group x.standing p.there root type);
        ctabs = (there_within s x.group x.standing p.there).ctabs;
        few = there_sixteen s x.group x.standing p.there;
        root_known = r;
        type_known = t;
      }
