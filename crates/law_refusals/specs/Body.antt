-- When a group, and when a body is refused (document 01, "Numbers of refusal": "strict body: 3; per group header cut 2, tag 6, length 2, count 12, contents, then 13"; document 02, §4: 21).
use Rattle.std.specs.Prelude.{ℕ, ◌+◌, ◌<◌, ◌≤◌, ◌≡◌, true, List, length, drop}
use Rattle.layout.specs.declared.edition.Edition.{Edition}
use Rattle.layout.specs.Group.{Sound}
use Rattle.layout.specs.Lists.{has}
use Rattle.layout.specs.Bytes.{word, CSEG}
use Rattle.layout.specs.Refusals.{over_limit, bad_tag, too_many_groups, name_again, other_edition}
use Rattle.layout.specs.Sdec.{names}
use Rattle.layout.specs.Group.{payload, group_at}
use Rattle.layout.specs.Body.{body_limit, group_limit, group_place, text_at}
use Rattle.law_refusals.specs.Heads.{HeadRefused, Headed}
use Rattle.law_refusals.specs.Contents.{ContentsRefused}

-- ---- a group at the start of its parent's bytes p: number and place

pub data GroupRefused (p : List ℕ) : ℕ → ℕ → Type 0 where
  -- 2, 6, 2: its header, at its tag
  group_head : (number : ℕ) → HeadRefused p 0 CSEG number → GroupRefused p number 0
  -- 6: "a group with empty payload", at the group's tag
  group_empty : Headed p 0 CSEG → word p 4 ≡ 0 → GroupRefused p bad_tag 0
  -- a refusal of its contents, which stand behind its header
  group_contents : (number place : ℕ) → Headed p 0 CSEG → (word p 4 ≡ 0 → ⊥) → ContentsRefused (payload p) number place → GroupRefused p number (8 + place)

-- ---- a body

-- the bytes p begin with a sound group
pub record GroupStands (p : List ℕ) : Type 0 where
  pub edition : Edition
  pub text : ℕ
  pub ctabs : ℕ
  pub cntts : ℕ
  pub sound : group_at p ≡ Sound edition text ctabs cntts

-- this name is one of those of group number k
abbrev pub Named : List ℕ → ℕ → List ℕ → Type 0
Named s k name = has (names (text_at s (group_place s k))) name ≡ true

-- group number i is sound, has records, and is of this edition
pub record Recorded (s : List ℕ) (i : ℕ) (e : Edition) : Type 0 where
  pub text : ℕ
  pub ctabs : ℕ
  pub cntts : ℕ
  pub sound : group_at (drop (group_place s i) s) ≡ Sound e text ctabs cntts
  pub some : 0 < ctabs

-- a body within its limit, whose first k groups are sound, have no name in common, and where they have records are of one edition
pub record GroupsBefore (s : List ℕ) (k : ℕ) : Type 0 where
  pub short : length s ≤ body_limit
  pub groups : (i : ℕ) → i < k → GroupStands (drop (group_place s i) s)
  pub apart : (i j : ℕ) (name : List ℕ) → i < j → j < k → Named s i name → Named s j name → ⊥
  pub alike : (i j : ℕ) (e f : Edition) → i < j → j < k → Recorded s i e → Recorded s j f → e ≡ f

-- the refusals of a body: number and place
pub data BodyRefused (s : List ℕ) : ℕ → ℕ → Type 0 where
  -- 3: "body over its limit", at 0
  body_over : body_limit < length s → BodyRefused s over_limit 0
  -- 2, 6, 2: the header of group number k, at its tag; bytes follow the groups before it
  head_refused : (k number : ℕ) → GroupsBefore s k → k ≤ group_limit → group_place s k < length s → HeadRefused s (group_place s k) CSEG number → BodyRefused s number (group_place s k)
  -- 12: "33rd group", at its tag; groups are numbered from 0
  too_many : GroupsBefore s group_limit → Headed s (group_place s group_limit) CSEG → BodyRefused s too_many_groups (group_place s group_limit)
  -- a refusal of group number k, whose header is well, at the place where that stands in the body
  group_refused : (k number place : ℕ) → GroupsBefore s k → k < group_limit → Headed s (group_place s k) CSEG → GroupRefused (drop (group_place s k) s) number place → BodyRefused s number (group_place s k + place)
  -- 21: "a group of another edition than the first group with records", at its tag
  other_edition_given : (i k : ℕ) (e f : Edition) → GroupsBefore s k → k < group_limit → i < k → Recorded s i e → Recorded s k f → (e ≡ f → ⊥)
      → BodyRefused s other_edition (group_place s k)
  -- 13: "name in an earlier group", at the later group's tag; it is of no other edition, since 21 comes "after its contents and before 13"
  name_again_given : (i k : ℕ) (name : List ℕ) → GroupsBefore s k → k < group_limit → GroupStands (drop (group_place s k) s)
      → ((h : ℕ) (e f : Edition) → h < k → Recorded s h e → Recorded s k f → e ≡ f) → i < k → Named s i name → Named s k name
      → BodyRefused s name_again (group_place s k)

-- a body that is accepted, with n groups: they are sound, and the last of them ends with it
pub record HasGroups (s : List ℕ) (n : ℕ) : Type 0 where
  pub before : GroupsBefore s n
  pub few : n ≤ group_limit
  pub cover : group_place s n ≡ length s
