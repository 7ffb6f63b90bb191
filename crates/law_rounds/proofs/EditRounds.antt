-- An edit read back: the bytes after it are those of the same groups with one record replaced; these are allowed, so they are read as they were written.
use Prim.Native.Nat.{ℕ, ◌+◌, ◌≤◌, ◌<◌}
use mathlib.Core.Path.{◌≡◌, sym, ap, ap₂, ◌∙◌}
use mathlib.Core.List.{List, flat_map}
use native.Mathlib.Omega.{arith}
use lib.ListN.{length, get_or, set, length-set}
use Rattle.layout.specs.Scan.{Ended}
use Rattle.layout.specs.declared.lock.Override.{Override}
use Rattle.layout.specs.declared.record.Record.{Record}
use Rattle.layout.specs.Records.{bytes_of, channel_of, edition_of, file_bytes}
use Rattle.layout.specs.Answers.{granted}
use Rattle.layout.specs.Group.{ctab_place, Group}
use Rattle.layout.specs.Body.{group_place, body_run, no_group, group_no}
use Rattle.layout.specs.Asked.{standing, row_in}
use Rattle.layout.specs.Write.{group_bytes, Whole, first_edition, Allowed}
use Rattle.layout.specs.Edit.{replaced, edited}
use Rattle.layout.proofs.Accepted.{Accepted, body_accepted}
use Rattle.law_rounds.specs.Rounds.{Bytes, groups_of, BodyAllowed, with_record, EditRead}
use Rattle.layout.proofs.Lists.{rows_length}
use Rattle.layout.proofs.Replaced.{replaced_length, replaced_block}
use Rattle.layout.proofs.Records.{Ranged}
use Rattle.law_rounds.proofs.InRange.{edit_ranged}
use Rattle.law_rounds.proofs.BodyRounds.{body_back, body_allowed, body_run_lem, groups_back}
use Rattle.law_rounds.proofs.Sets.{set_each, set_same}
use Rattle.law_rounds.proofs.EditPlace.{EditPlaced, edit_placed}
use Rattle.law_rounds.proofs.EditGranted.{edit_granted}
use Rattle.law_rounds.proofs.EditedGroup.{byte_of, Edited, group_edited}

-- ---- allowed groups of which one is replaced by an allowed one of the same text, size, and number of records of the same edition

set_allowed : (gs : List Group) (k : ℕ) (g : Group) → BodyAllowed gs → Allowed g → g.text ≡ (get_or gs k no_group).text
    → length g.records ≡ length (get_or gs k no_group).records → first_edition g.records ≡ first_edition (get_or gs k no_group).records → length (flat_map group_bytes (set gs k g)) ≤ 32768
    → BodyAllowed (set gs k g)
set_allowed gs k g a ok e c d small =
    let same : (j : ℕ) → j < length gs → (get_or (set gs k g) j no_group).text ≡ (get_or gs j no_group).text = set_same (λ (x : Group). x.text) gs k g no_group e in
    let count : (j : ℕ) → j < length gs → length (get_or (set gs k g) j no_group).records ≡ length (get_or gs j no_group).records = set_same (λ (x : Group). length x.records) gs k g no_group c in
    let edition : (j : ℕ) → j < length gs → first_edition (get_or (set gs k g) j no_group).records ≡ first_edition (get_or gs j no_group).records = set_same (λ (x : Group). first_edition x.records) gs k g no_group d in
    record {
      each = set_each Allowed gs k g no_group ok a.each;
      few = rw (length-set gs k g) a.few;
      editions = λ i j u v x y. let w : i < length gs = rw (length-set gs k g) at u in let z : j < length gs = rw (length-set gs k g) at v in
          edition i w ∙ a.editions i j w z (omega (arith, count i w)) (omega (arith, count j z)) ∙ sym (edition j z);
      apart = λ i j u v. let z : j < length gs = rw (length-set gs k g) at v in rw (same i (omega arith), same j z) (a.apart i j u z);
      short = small;
    }

-- ---- the body after

module _ (s : List ℕ) (n g channel : ℕ) (b : Bytes s) (h : Accepted s n) (l : g < n) (p : EditPlaced s n g channel)
    (new : Record) (w : Whole new) (same : channel_of new ≡ channel) (like : edition_of new ≡ (standing s g).edition) (r : Ranged (edition_of new) (bytes_of new)) where
  -- the number of the record
  abbrev row : ℕ
  row = row_in s (standing s g) channel

  -- the group after
  abbrev put : Group
  put = with_record (group_no s g) row new

  -- where the record's bytes begin, in the group
  abbrev inner : ℕ
  inner = 8 + (8 + length (group_no s g).text + byte_of (group_no s g) row)

  group : Edited (group_no s g) row new
  group = group_edited (group_no s g) p.allowed row p.its new w r (same ∙ sym p.channelled) (like ∙ p.edition ∙ p.allowed.editions row p.its)

  inner_is : ctab_place (standing s g).edition (standing s g).ctabs row + 8 ≡ group_place s g + inner
  inner_is = rw p.edition (omega (arith, p.ctabs))

  bytes_after : replaced s (group_place s g + inner) (file_bytes new) ≡ flat_map group_bytes (set (groups_of s n) g put)
  bytes_after =
      ap₂ (λ x y. replaced x (y + inner) (file_bytes new)) (sym (body_back s n b h)) p.place
      ∙ replaced_block no_group group_bytes (groups_of s n) g inner put (file_bytes new) (rw rows_length l) (rw p.listed group.room) (rw p.listed group.bytes)

  groups_allowed : BodyAllowed (set (groups_of s n) g put)
  groups_allowed =
      let long = replaced_length s (group_place s g + inner) (file_bytes new) (omega (arith, group.room, p.ends)) in
      set_allowed (groups_of s n) g put (body_allowed s n b h) group.allowed (rw p.listed)
      (rw p.listed (length-set (group_no s g).records row _)) (rw p.listed group.edition) (rw (← bytes_after, long) h.short)

  count : length (set (groups_of s n) g put) ≡ n
  count = length-set (groups_of s n) g put ∙ rows_length (group_no s) 0 n

  -- the bytes after are accepted, with as many groups ..
  run_after : body_run (replaced s (group_place s g + inner) (file_bytes new)) ≡ Ended n
  run_after = ap body_run bytes_after ∙ body_run_lem (set (groups_of s n) g put) groups_allowed ∙ ap Ended count

  -- .. and read as these
  groups_after : groups_of (replaced s (group_place s g + inner) (file_bytes new)) n ≡ set (groups_of s n) g put
  groups_after = ap₂ groups_of bytes_after (sym count) ∙ groups_back (set (groups_of s n) g put) groups_allowed

ended_once : (a b : ℕ) → Ended a ≡ Ended b → a ≡ b
ended_once a b e = cc

-- the groups of the body after, of which there are as many: those before, with the record of the source channel replaced
pub record EditGroups (s after : List ℕ) (g channel : ℕ) (new : Record) (n : ℕ) : Type 0 where
  pub groups : groups_of after n ≡ set (groups_of s n) g (with_record (group_no s g) (row_in s (standing s g) channel) new)

pub edit_groups : (s after : List ℕ) (g channel : ℕ) (new : Record) (over : Override) → Bytes s → Whole new → edited s g channel new over ≡ granted after → (n : ℕ) → body_run s ≡ Ended n → EditGroups s after g channel new n
edit_groups s after g channel new over b w e n run =
    let q = edit_granted s after g channel new over e in
    let same : q.n ≡ n = ended_once q.n n (sym q.accepted ∙ run) in
    let h = body_accepted s n run in
    let l : g < n = rw same at q.there in
    let p = edit_placed s n g b h l channel q.its in
    let r = edit_ranged new q.ranged in
    let is = q.is ∙ ap (λ x. replaced s x (file_bytes new)) (inner_is s n g channel b h l p new w q.own q.like r) in
    record { groups = ap (λ x. groups_of x n) is ∙ groups_after s n g channel b h l p new w q.own q.like r }

pub edit_back : (s after : List ℕ) (g channel : ℕ) (new : Record) (over : Override) → Bytes s → Whole new → edited s g channel new over ≡ granted after → EditRead s after g channel new
edit_back s after g channel new over b w e =
    let q = edit_granted s after g channel new over e in
    let h = body_accepted s q.n q.accepted in
    let p = edit_placed s q.n g b h q.there channel q.its in
    let r = edit_ranged new q.ranged in
    let is = q.is ∙ ap (λ x. replaced s x (file_bytes new)) (inner_is s q.n g channel b h q.there p new w q.own q.like r) in
    record {
      n = q.n;
      index = row_in s (standing s g) channel;
      accepted = q.accepted;
      there = q.there;
      its = p.its;
      channelled = p.channelled;
      again = ap body_run is ∙ run_after s q.n g channel b h q.there p new w q.own q.like r;
      groups = ap (λ x. groups_of x q.n) is ∙ groups_after s q.n g channel b h q.there p new w q.own q.like r;
    }
