-- What an accepted answer of who plays says: the body has a group with the part, and what is granted is who plays in it. Every way out before it refuses, with a number above 0.
use Prim.Native.Nat.{ℕ, ◌<◌}
use mathlib.Core.Path.{◌≡◌, refl}
use mathlib.Core.Bool.{cond, ◌||◌}
use mathlib.Core.List.{List}
use native.Mathlib.Omega.{arith}
use lib.Dec.{leb}
use borrow.Author.Tests.{leb-false}
use Rattle.layout.specs.Lists.{has}
use Rattle.layout.specs.Scan.{Run}
use Rattle.layout.specs.Scan.{Ended}
use Rattle.layout.specs.declared.record.SourceChannel.{SourceChannel}
use Rattle.layout.specs.Answers.{Answer, refused, granted, number_of, after_run}
use Rattle.layout.specs.Sdec.{names}
use Rattle.layout.specs.Body.{group_place, text_at, body_run, group_no}
use Rattle.layout.specs.Asked.{group_named, of_part}
use Rattle.layout.specs.Plays.{playing, who_plays}
use Rattle.layout.proofs.Scans.{first_stands}
use Rattle.layout.proofs.Choices.{either}
use Rattle.law_refusals.specs.Body.{Named, BodyRefused}
use Rattle.law_refusals.specs.After.{HasGroup}
use Rattle.law_refusals.proofs.Told.{RunTold}
use Rattle.law_refusals.proofs.Above.{body_above}
use Rattle.law_refusals.proofs.Bodies.{body_told, has_groups}
use Rattle.std.specs.Prelude.{Ok, Err}

-- the group that has the part, and who plays in it
pub record PlayersFound (s name : List ℕ) (root type : ℕ) (a : Answer (List SourceChannel)) : Type 0 where
  pub group : ℕ
  pub has : HasGroup s group
  pub named : Named s group name
  pub is : a ≡ granted (playing (group_no s group) root type)

module _ (s name : List ℕ) (root type : ℕ) where
  -- an answer that accepts has found it
  abbrev Found : Answer (List SourceChannel) → Type 0
  Found a = number_of a ≡ 0 → PlayersFound s name root type a

  part_named : (n : ℕ) → group_named s n name < n → Named s (group_named s n name) name
  unfolding group_named
  part_named n l = first_stands (λ k. has (names (text_at s (group_place s k))) name) n l

  pub players_found : Found (who_plays s name root type)
  unfolding who_plays after_run of_part number_of
  players_found = go (body_run s) refl (body_told s)
    where
      among : (n : ℕ) → body_run s ≡ Ended n → Found (of_part s name n (λ g. granted (playing (group_no s g) root type)))
      among n e =
          either Found (leb n (group_named s n name)) (refused 15 0) (granted (playing (group_no s (group_named s n name)) root type)) (λ f z. absurd (omega arith)) (λ f z.
          let l = leb-false n (group_named s n name) f in
          record { group = group_named s n name; has = record { count = n; groups = has_groups s n e; there = l }; named = part_named n l; is = refl })

      go : (r : Run) → body_run s ≡ r → RunTold (BodyRefused s) r
          → Found (after_run r (λ n. cond (leb 12 root || leb 34 type) (refused 16 0) (of_part s name n (λ g. granted (playing (group_no s g) root type)))))
      go (Err why) e h = λ z. absurd (omega (arith, body_above s why.number why.place h))
      go (Ok n) e h =
          either Found (leb 12 root || leb 34 type) (refused 16 0) (of_part s name n (λ g. granted (playing (group_no s g) root type))) (λ f z. absurd (omega arith)) (λ f. among n e)
