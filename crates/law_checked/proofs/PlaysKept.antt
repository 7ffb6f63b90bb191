-- Who plays, in two bodies that are the same but for one record: the part is found in the same group of both, for the names are the same; another group answers the same, and that
-- of the record the same but for its channel.
use Prim.Native.Nat.{ℕ, ◌<◌}
use mathlib.Core.Path.{◌≡◌, refl, sym, ap, ◌∙◌}
use mathlib.Core.Bool.{Bool, true, false, cond, ◌||◌}
use mathlib.Core.List.{List}
use lib.Dec.{leb, eqb}
use borrow.Author.Tests.{eqb-true, eqb-false, leb-false}
use Rattle.layout.specs.Lists.{has}
use Rattle.layout.specs.Scan.{Ended}
use Rattle.layout.specs.declared.record.SourceChannel.{SourceChannel}
use Rattle.layout.specs.Records.{blank}
use Rattle.layout.specs.Answers.{Answer, refused, granted, after_run}
use Rattle.layout.specs.Sdec.{names}
use Rattle.layout.specs.Body.{group_place, text_at, body_run, group_no}
use Rattle.layout.specs.Asked.{group_named, of_part}
use Rattle.layout.specs.Plays.{plays_under, playing, who_plays}
use Rattle.layout.proofs.Scans.{first_alike, first_stands}
use Rattle.layout.proofs.Accepted.{body_accepted}
use Rattle.law_refusals.specs.Body.{Named}
use Rattle.law_checked.specs.Others.{record_no, OthersAsBefore, SameButFor, AnsweredAlike, both_refuse, both_tell, PlaysAsBefore}
use Rattle.law_checked.proofs.OwnText.{own_text}
use Rattle.law_checked.proofs.PlaysApart.{same_lists, channels_apart, nothing_apart}

-- who plays in a body of n groups, by the number of the group that has the part
unfoldable answer : List ℕ → ℕ → ℕ → ℕ → ℕ → Answer (List SourceChannel)
answer s n k root type = cond (leb 12 root || leb 34 type) (refused 16 0) (cond (leb n k) (refused 15 0) (granted (playing (group_no s k) root type)))

asked : (s : List ℕ) (n : ℕ) (name : List ℕ) (root type : ℕ) → body_run s ≡ Ended n → who_plays s name root type ≡ answer s n (group_named s n name) root type
unfolding who_plays after_run of_part answer
asked s n name root type e = rw (e, after_run)

module _ (s t : List ℕ) (g channel : ℕ) (o : OthersAsBefore s t g channel) where
  abbrev n : ℕ
  n = o.n

  same_text : (k : ℕ) → k < n → text_at t (group_place t k) ≡ text_at s (group_place s k)
  same_text k l = own_text t n (body_accepted t n o.again) k l ∙ o.texts k l ∙ sym (own_text s n (body_accepted s n o.accepted) k l)

  same_named : (name : List ℕ) → group_named t n name ≡ group_named s n name
  unfolding group_named
  same_named name =
      first_alike (λ k. has (names (text_at t (group_place t k))) name) (λ k. has (names (text_at s (group_place s k))) name) n (λ k l. ap (λ (x : List ℕ). has (names x) name) (same_text k l))

  -- the answer of the after body, by the group found in the body before
  after : (name : List ℕ) (root type : ℕ) → who_plays t name root type ≡ answer t n (group_named s n name) root type
  after name root type = asked t n name root type o.again ∙ ap (λ k. answer t n k root type) (same_named name)

  -- ---- another group

  other_records : (k : ℕ) → k < n → (k ≡ g → ⊥) → (group_no t k).records ≡ (group_no s k).records
  other_records k l other = same_lists blank (group_no s k).records (group_no t k).records (o.counts k l) (λ j. o.records k j l (λ q. absurd (other q)))

  other_playing : (k root type : ℕ) → k < n → (k ≡ g → ⊥) → playing (group_no t k) root type ≡ playing (group_no s k) root type
  unfolding playing
  other_playing k root type l other = rw (other_records k l other)

  part_named : (name : List ℕ) → group_named s n name < n → Named s (group_named s n name) name
  unfolding group_named
  part_named name l = first_stands (λ k. has (names (text_at s (group_place s k))) name) n l

  other_answer : (k root type : ℕ) → (k < n → k ≡ g → ⊥) → answer t n k root type ≡ answer s n k root type
  unfolding answer
  other_answer k root type other = ap (λ x. cond (leb 12 root || leb 34 type) (refused 16 0) x) (go (leb n k) refl)
    where
      go : (b : Bool) → leb n k ≡ b → cond (leb n k) (refused 15 0) (granted (playing (group_no t k) root type)) ≡ cond (leb n k) (refused 15 0) (granted (playing (group_no s k) root type))
      go true q = rw q
      go false q = let l = leb-false n k q in ap (λ x. cond (leb n k) (refused 15 0) (granted x)) (other_playing k root type l (other l))

  -- ---- the group of the record

  abbrev old : SourceChannel
  old = (record_no s g o.index).source

  abbrev new : SourceChannel
  new = (record_no t g o.index).source

  own_playing : (root type : ℕ) → SameButFor old new (playing (group_no s g) root type) (playing (group_no t g) root type)
  unfolding playing
  own_playing root type =
      channels_apart (plays_under root type) (group_no s g).records (group_no t g).records o.index (o.counts g o.there) o.its
      (λ j other. o.records g j o.there (λ q. other))

  told : (k root type : ℕ) → k < n → SameButFor old new (playing (group_no s k) root type) (playing (group_no t k) root type)
  told k root type l = go (eqb k g) refl
    where
      go : (b : Bool) → eqb k g ≡ b → SameButFor old new (playing (group_no s k) root type) (playing (group_no t k) root type)
      go true q = rw (eqb-true k g q) (own_playing root type)
      go false q = rw (other_playing k root type l (eqb-false k g q)) (nothing_apart old new (playing (group_no s k) root type))

  answered : (k root type : ℕ) → AnsweredAlike old new (answer s n k root type) (answer t n k root type)
  unfolding answer
  answered k root type = go (leb 12 root || leb 34 type) (leb n k) refl
    where
      go : (a b : Bool) → leb n k ≡ b
          → AnsweredAlike old new (cond a (refused 16 0) (cond b (refused 15 0) (granted (playing (group_no s k) root type))))
          (cond a (refused 16 0) (cond b (refused 15 0) (granted (playing (group_no t k) root type))))
      go true b q = both_refuse 16 0
      go false true q = both_refuse 15 0
      go false false q = both_tell _ _ (told k root type (leb-false n k q))

  -- every question who plays is answered as before, but for the record's channel
  pub plays_as_before : PlaysAsBefore s t g o.index
  plays_as_before =
      record {
        elsewhere = λ name root type other.
            after name root type ∙ other_answer (group_named s n name) root type (λ l q. other (rw q at (part_named name l))) ∙ sym (asked s n name root type o.accepted);
        here = λ name root type. rw (asked s n name root type o.accepted, after name root type) (answered (group_named s n name) root type);
      }
