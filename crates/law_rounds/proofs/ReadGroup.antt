-- What the reading calls give of a group of an accepted body: its records, its text and its bytes, as one value that may be written.
use Prim.Native.Nat.{ℕ, suc, ◌≤◌, ◌<◌}
use mathlib.Core.Path.{◌≡◌, refl, sym, ap, ◌∙◌}
use mathlib.Core.Bool.{cond}
use mathlib.Core.List.{List}
use native.Mathlib.Omega.{arith}
use lib.Dec.{ltb, leb}
use lib.ListN.{length, take, drop}
use lib.Seq.{take_at}
use borrow.Author.Tests.{leb-false, le-ltb, lt-leb}
use Rattle.layout.specs.Scan.{Run}
use Rattle.layout.specs.Scan.{Ended}
use Rattle.layout.specs.declared.record.Record.{Record}
use Rattle.layout.specs.Answers.{refused, granted, after_run, part_of, value_or}
use Rattle.layout.specs.Body.{group_place, text_at, body_run, group_no}
use Rattle.layout.specs.Asked.{of_group, text_of, records_read}
use Rattle.layout.specs.Write.{group_bytes, Allowed}
use Rattle.layout.proofs.Accepted.{body_accepted}
use Rattle.law_rounds.specs.Rounds.{Bytes}
use Rattle.law_rounds.specs.Calls.{size_of_group, bytes_of_group}
use Rattle.law_rounds.proofs.Granted.{if_granted, granted_once}
use Rattle.law_rounds.proofs.GroupThere.{there_size, there_text}
use Rattle.law_rounds.proofs.BodyRounds.{allowed_of, bytes_of}
use Rattle.std.specs.Prelude.{Ok, Err}

module _ (s : List ℕ) (g room : ℕ) where
  -- what granted records say: the body is accepted, it has the group, and the records are the group's own
  pub record RecordsGranted (records : List Record) : Type 0 where
    pub n : ℕ
    pub accepted : body_run s ≡ Ended n
    pub there : g < n
    pub own : records ≡ (group_no s g).records

  pub records_granted : (records : List Record) → records_read s g room ≡ granted records → RecordsGranted records
  unfolding records_read of_group after_run
  records_granted records e = go (body_run s) refl e
    where
      own : List Record
      own = (group_no s g).records

      go : (r : Run) → body_run s ≡ r → after_run r (λ n. cond (leb n g) (refused 16 0) (cond (ltb room (length own)) (refused 14 0) (granted own))) ≡ granted records → RecordsGranted records
      go (Err why) f q = absurd (let z : ◌≡◌ {A = ℕ} 0 1 = cc in omega arith)
      go (Ok n) f q =
          let a = if_granted (leb n g) 16 0 _ records q in
          let b = if_granted (ltb room (length own)) 14 0 (granted own) records a.1 in
          record { n = n; accepted = f; there = leb-false n g a.0; own = sym (granted_once own records b.1) }

-- ---- group number g of an accepted body

module _ (s : List ℕ) (g n : ℕ) (e : body_run s ≡ Ended n) (l : g < n) where
  -- its text is shown ..
  pub text_shown : (part : List ℕ) → part ≡ part_of (text_of s g) → part ≡ text_at s (group_place s g)
  unfolding text_of of_group after_run part_of value_or
  text_shown part h = h ∙ rw (e, lt-leb n g l, after_run)

  -- .. and its records are granted where there is room
  pub records_given : (room : ℕ) → length (group_no s g).records ≤ room → records_read s g room ≡ granted (group_no s g).records
  unfolding records_read of_group after_run
  records_given room h = rw (e, lt-leb n g l, le-ltb room (length (group_no s g).records) h, after_run)

  module _ (b : Bytes s) where
    pub text_own : text_at s (group_place s g) ≡ (group_no s g).text
    text_own = let h = body_accepted s n e in there_text s (group_place s g) (group_no s g) _ (bytes_of s n b h g l) (allowed_of s n b h g l)

    pub own_allowed : Allowed (group_no s g)
    own_allowed = allowed_of s n b (body_accepted s n e) g l

    pub own_size : length (group_bytes (group_no s g)) ≡ size_of_group s g
    own_size = let h = body_accepted s n e in sym (there_size s (group_place s g) (group_no s g) _ (bytes_of s n b h g l) (allowed_of s n b h g l))

    -- what it writes is its very bytes
    pub own_bytes : group_bytes (group_no s g) ≡ bytes_of_group s g
    own_bytes =
        let h = body_accepted s n e in
        sym (ap (take (size_of_group s g)) (bytes_of s n b h g l) ∙ take_at (group_bytes (group_no s g)) (drop (group_place s (suc g)) s) (size_of_group s g) own_size)
