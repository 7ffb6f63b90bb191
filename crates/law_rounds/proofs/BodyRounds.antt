-- The two round trips of a body: what is accepted is the bytes of its groups, which are allowed; the bytes of allowed groups are accepted and read as these.
use Prim.Native.Nat.{ℕ, zero, suc, ◌+◌, ◌-◌, ◌≤◌, ◌<◌}
use mathlib.Core.Path.{◌≡◌, refl, sym, ap, ap₂, ◌∙◌}
use mathlib.Core.Bool.{false}
use mathlib.Core.List.{List, [], ◌++◌, append-nil, flat_map}
use native.Mathlib.Omega.{arith}
use lib.ListN.{length, get_or, take, drop, length-drop, take-append-drop}
use lib.Seq.{drop-drop, drop-length}
use borrow.Author.Tests.{ltb-false, le-ltb}
use Rattle.layout.specs.Scan.{first}
use Rattle.layout.specs.Scan.{More}
use Rattle.layout.specs.Scan.{Ended}
use Rattle.layout.specs.Sdec.{shares}
use Rattle.layout.specs.Group.{payload, group_size, Group, group_of}
use Rattle.layout.specs.Body.{group_place, text_at, sharing, unlike_body, records_of, edition_in, group_turn, body_run, no_group, group_value, group_no}
use Rattle.layout.specs.Write.{group_bytes, first_edition, Allowed}
use Rattle.layout.proofs.Scans.{first_passed, first_none}
use Rattle.layout.proofs.Groups.{cseg_tag}
use Rattle.layout.proofs.Bodies.{turn_end, turn_sound}
use Rattle.layout.proofs.Accepted.{Accepted, body_within}
use Rattle.law_rounds.specs.Rounds.{Bytes, groups_of, BodyAllowed}
use Rattle.law_rounds.proofs.Runs.{ran_run}
use Rattle.layout.proofs.Lists.{rows_length, get_d_rows}
use Rattle.law_rounds.proofs.Blocks.{moved, rows_is, blocks_read, blocks_written}
use Rattle.law_rounds.proofs.Chunks.{bytes_drop}
use Rattle.law_rounds.proofs.GroupRounds.{group_allowed, group_back}
use Rattle.law_rounds.proofs.BodyEditions.{edition_no, records_no, one_edition, none_unlike}
use Rattle.law_rounds.proofs.GroupThere.{there_sound, there_edition, there_count, there_size, there_value, there_fits, there_ends, there_head, there_text}

-- ---- read

module _ (s : List ℕ) (n : ℕ) (b : Bytes s) (h : Accepted s n) where
  -- group number i by what its turn found
  value_of : (i : ℕ) (l : i < n) → group_no s i ≡ group_of (h.each i l).edition (payload (drop (group_place s i) s)) (h.each i l).text (h.each i l).ctabs (h.each i l).cntts
  unfolding group_no group_value
  value_of i l = ap (group_value (drop (group_place s i) s)) (h.each i l).sound

  pub allowed_of : (i : ℕ) → i < n → Allowed (group_no s i)
  allowed_of i l = rw (value_of i l) (group_allowed (drop (group_place s i) s) _ _ _ _ (h.each i l).sound)

  pub bytes_of : (i : ℕ) → i < n → drop (group_place s i) s ≡ group_bytes (group_no s i) ++ drop (group_place s (suc i)) s
  unfolding group_place
  bytes_of i l =
      let at : ℕ = group_place s i in
      let own : group_bytes (group_no s i) ≡ take (group_size (drop at s)) (drop at s) =
      ap group_bytes (value_of i l) ∙ group_back (drop at s) _ _ _ _ (h.each i l).sound (bytes_drop s at b) in
      sym (take-append-drop (group_size (drop at s)) (drop at s)) ∙ ap₂ (λ x y. x ++ y) (sym own) (drop-drop (group_size (drop at s)) at s)

  text_of : (i : ℕ) → i < n → text_at s (group_place s i) ≡ (group_no s i).text
  text_of i l = there_text s (group_place s i) (group_no s i) _ (bytes_of i l) (allowed_of i l)

  -- no group before has a name of group number j
  apart_of : (i j : ℕ) → i < j → j < n → shares (group_no s i).text (group_no s j).text ≡ false
  unfolding sharing
  apart_of i j k l =
      let w : j ≤ first (λ i. shares (text_at s (group_place s i)) (text_at s (group_place s j))) 0 j = ltb-false _ _ (h.each j l).apart in
      rw (text_of i (omega arith), text_of j l) at (first_passed (λ i. shares (text_at s (group_place s i)) (text_at s (group_place s j))) j i (omega arith))

  -- groups with records are of one edition
  edition_of_lem : (i : ℕ) → i < n → edition_no s i ≡ first_edition (group_no s i).records
  edition_of_lem i l = there_edition s (group_place s i) (group_no s i) _ (bytes_of i l) (allowed_of i l)

  count_of : (i : ℕ) → i < n → records_no s i ≡ length (group_no s i).records
  count_of i l = there_count s (group_place s i) (group_no s i) _ (bytes_of i l) (allowed_of i l)

  like_of : (i : ℕ) → i < n → unlike_body s i (edition_no s i) (records_no s i) ≡ false
  unfolding edition_in records_of
  like_of i l = ap₂ (unlike_body s i) (ap edition_in (h.each i l).sound) (ap records_of (h.each i l).sound) ∙ (h.each i l).like

  editions_of : (i j : ℕ) → i < n → j < n → 0 < length (group_no s i).records → 0 < length (group_no s j).records → first_edition (group_no s i).records ≡ first_edition (group_no s j).records
  editions_of i j k l a b =
      sym (edition_of_lem i k) ∙ one_edition s n like_of i j k l (omega (arith, count_of i k)) (omega (arith, count_of j l)) ∙ edition_of_lem j l

  pub body_back : flat_map group_bytes (groups_of s n) ≡ s
  unfolding group_place
  body_back =
      sym (blocks_read s (group_place s) (group_no s) group_bytes n bytes_of
      ∙ ap (λ x. flat_map group_bytes (groups_of s n) ++ x) (moved s (group_place s n) (length s) h.cover ∙ drop-length s)
      ∙ append-nil _)

  pub body_allowed : BodyAllowed (groups_of s n)
  body_allowed =
      let below : (i : ℕ) → i < length (groups_of s n) → i < n = λ i u. rw rows_length at u in
      let at : (i : ℕ) → i < length (groups_of s n) → get_or (groups_of s n) i no_group ≡ group_no s i = λ i u. get_d_rows (group_no s) no_group n i (below i u) in
      let count : (i : ℕ) → i < length (groups_of s n) → length (get_or (groups_of s n) i no_group).records ≡ length (group_no s i).records = λ i u. ap (λ (g : Group). length g.records) (at i u) in
      record {
        each = λ i u. rw (at i u) (allowed_of i (below i u));
        few = omega (arith, rows_length (group_no s) 0 n, h.few);
        editions = λ i j u v x y. rw (at i u, at j v) (editions_of i j (below i u) (below j v) (omega (arith, count i u)) (omega (arith, count j v)));
        apart = λ i j u v. rw (at i (omega arith), at j v) (apart_of i j u (below j v));
        short = rw body_back h.short;
      }

-- ---- written

module _ (gs : List Group) (a : BodyAllowed gs) where
  -- the bytes of the groups
  s : List ℕ
  s = flat_map group_bytes gs

  -- what stands behind group number i
  later : ℕ → List ℕ
  later i = flat_map group_bytes (drop (suc i) gs) ++ []

  stand : ((i : ℕ) → i < length gs → drop (group_place s i) s ≡ group_bytes (get_or gs i no_group) ++ later i) × (drop (group_place s (length gs)) s ≡ [])
  unfolding s later group_place
  stand =
      blocks_written s (group_place s) no_group group_bytes [] gs
      (λ i y l q. ap (λ x. group_place s i + x) (there_size s (group_place s i) (get_or gs i no_group) y q (a.each i l)))
      (sym (append-nil (flat_map group_bytes gs)))

  next : (i : ℕ) → i < length gs → group_place s (suc i) ≡ group_place s i + length (group_bytes (get_or gs i no_group))
  unfolding group_place
  next i l = ap (λ x. group_place s i + x) (there_size s (group_place s i) (get_or gs i no_group) (later i) (stand.0 i l) (a.each i l))

  start : group_place s 0 ≤ length s
  unfolding group_place
  start = omega arith

  -- the last group ends with the body
  at_end : group_place s (length gs) ≡ length s
  at_end =
      let e : length (drop (group_place s (length gs)) s) ≡ 0 = ap length stand.1 in
      let z : length s - group_place s (length gs) ≡ 0 = rw length-drop at e in
      omega (arith, within (length gs) refl)
    where
      within : (k : ℕ) → length gs ≡ k → group_place s k ≤ length s
      within zero h = start
      within (suc k) h =
          let l : k < length gs = omega arith in
          rw (next k l) (there_ends s (group_place s k) (get_or gs k no_group) (later k) (stand.0 k l) (a.each k l))

  text_at_lem : (i : ℕ) → i < length gs → text_at s (group_place s i) ≡ (get_or gs i no_group).text
  text_at_lem i l = there_text s (group_place s i) (get_or gs i no_group) (later i) (stand.0 i l) (a.each i l)

  edition_at_lem : (i : ℕ) → i < length gs → edition_no s i ≡ first_edition (get_or gs i no_group).records
  edition_at_lem i l = there_edition s (group_place s i) (get_or gs i no_group) (later i) (stand.0 i l) (a.each i l)

  count_at : (i : ℕ) → i < length gs → records_no s i ≡ length (get_or gs i no_group).records
  count_at i l = there_count s (group_place s i) (get_or gs i no_group) (later i) (stand.0 i l) (a.each i l)

  like : (i : ℕ) → i < length gs → unlike_body s i (first_edition (get_or gs i no_group).records) (length (get_or gs i no_group).records) ≡ false
  like i l =
      ap₂ (unlike_body s i) (sym (edition_at_lem i l)) (sym (count_at i l))
      ∙ none_unlike s (length gs) (λ i j u v x y. edition_at_lem i u ∙ a.editions i j u v (omega (arith, count_at i u)) (omega (arith, count_at j v)) ∙ sym (edition_at_lem j v)) i l

  turn : (i : ℕ) → i < length gs → group_turn s i ≡ More
  unfolding group_turn sharing
  turn i l =
      let at : ℕ = group_place s i in
      let g : Group = get_or gs i no_group in
      let fits = there_fits s at g (later i) (stand.0 i l) (a.each i l) in
      let none : first (λ k. shares (text_at s (group_place s k)) (text_at s at)) 0 i ≡ i =
      first_none (λ k. shares (text_at s (group_place s k)) (text_at s at)) i (λ k u. rw (text_at_lem k (omega arith), text_at_lem i l) (a.apart k i u l)) in
      turn_sound s i at (omega arith) 0 (sym (rw cseg_tag (there_head s at g (later i) (stand.0 i l) (a.each i l)))) refl (omega (arith, a.few)) _ _ _ _
      (there_sound s at g (later i) (stand.0 i l) (a.each i l)) false (like i l) (rw none (le-ltb i i (omega arith)))

  pub body_run_lem : body_run (flat_map group_bytes gs) ≡ Ended (length gs)
  unfolding s group_turn
  body_run_lem =
      body_within (flat_map group_bytes gs) a.short
      ∙ ran_run (group_turn s) 33 (length gs) (omega (arith, a.few)) turn (turn_end s (length gs) (group_place s (length gs)) at_end)

  pub groups_back : groups_of (flat_map group_bytes gs) (length gs) ≡ gs
  unfolding s group_no
  groups_back = rows_is (group_no s) no_group gs (λ i l. there_value s (group_place s i) (get_or gs i no_group) (later i) (stand.0 i l) (a.each i l))
