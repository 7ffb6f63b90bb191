-- What a granted edit says: the body is accepted, the group and the record of the channel are there, and the new record is of that channel, of the group's edition and in range, and the old one is not kept.
use Prim.Native.Nat.{ℕ, ◌+◌, ◌≤◌, ◌<◌}
use mathlib.Core.Path.{◌≡◌, refl, sym}
use mathlib.Core.Bool.{false, cond, not}
use mathlib.Core.List.{List}
use native.Mathlib.Omega.{arith}
use lib.Dec.{ltb, leb, eqb}
use lib.ListN.{get_or}
use borrow.Author.Tests.{ltb-false, leb-false, eqb-true, not-false}
use Rattle.layout.specs.Group.{ctab_place}
use Rattle.layout.specs.Scan.{Run}
use Rattle.layout.specs.Scan.{Ended}
use Rattle.layout.specs.declared.lock.Override.{Override}
use Rattle.layout.specs.declared.record.Record.{Record}
use Rattle.layout.specs.Editions.{held, alike}
use Rattle.layout.specs.Lock.{lock_byte, keeps}
use Rattle.layout.specs.Records.{channel_of, edition_of, file_bytes}
use Rattle.layout.specs.Answers.{refused, granted, after_run}
use Rattle.layout.specs.declared.answer.Standing.{Standing}
use Rattle.layout.specs.Body.{body_run}
use Rattle.layout.specs.Asked.{standing, row_in, of_group, of_channel}
use Rattle.layout.specs.Edit.{replaced, first_edited, edited}
use Rattle.layout.proofs.Editions.{alike_is}
use Rattle.law_rounds.proofs.Granted.{if_granted, granted_once}
use Rattle.std.specs.Prelude.{Ok, Err}

pub record EditGranted (s after : List ℕ) (g channel : ℕ) (new : Record) (over : Override) (x : Standing) : Type 0 where
  pub n : ℕ
  pub accepted : body_run s ≡ Ended n
  pub there : g < n
  pub its : row_in s x channel < x.records
  pub own : channel_of new ≡ channel
  pub like : edition_of new ≡ x.edition
  pub free : keeps over (get_or s (ctab_place x.edition x.ctabs (row_in s x channel) + 8 + lock_byte) 0) ≡ false
  pub ranged : held (edition_of new) ≤ first_edited new
  pub is : after ≡ replaced s (ctab_place x.edition x.ctabs (row_in s x channel) + 8) (file_bytes new)

pub edit_granted : (s after : List ℕ) (g channel : ℕ) (new : Record) (over : Override) → edited s g channel new over ≡ granted after → EditGranted s after g channel new over (standing s g)
unfolding edited of_group of_channel after_run
edit_granted s after g channel new over e = go (body_run s) refl e
  where
    x : Standing
    x = standing s g

    bytes : List ℕ
    bytes = replaced s (ctab_place x.edition x.ctabs (row_in s x channel) + 8) (file_bytes new)

    go : (r : Run) → body_run s ≡ r
        → after_run r (λ n. cond (leb n g) (refused 16 0) (cond (leb x.records (row_in s x channel)) (refused 15 0) (cond (not (eqb (channel_of new) channel)) (refused 16 0)
        (cond (not (alike x.edition (edition_of new))) (refused 21 0) (cond (keeps over (get_or s (ctab_place x.edition x.ctabs (row_in s x channel) + 8 + 10) 0)) (refused 22 10)
        (cond (ltb (first_edited new) (held (edition_of new))) (refused 9 (first_edited new)) (granted bytes))))))) ≡ granted after
        → EditGranted s after g channel new over (standing s g)
    go (Err why) f q = let z : ◌≡◌ {A = ℕ} 0 1 = cc in absurd (omega arith)
    go (Ok n) f q =
        let a = if_granted (leb n g) 16 0 _ after q in
        let b = if_granted (leb x.records (row_in s x channel)) 15 0 _ after a.1 in
        let d = if_granted (not (eqb (channel_of new) channel)) 16 0 _ after b.1 in
        let k = if_granted (not (alike x.edition (edition_of new))) 21 0 _ after d.1 in
        let v = if_granted (keeps over (get_or s (ctab_place x.edition x.ctabs (row_in s x channel) + 8 + 10) 0)) 22 10 _ after k.1 in
        let h = if_granted (ltb (first_edited new) (held (edition_of new))) 9 (first_edited new) (granted bytes) after v.1 in
        record {
          n = n;
          accepted = f;
          there = leb-false n g a.0;
          its = leb-false _ _ b.0;
          own = eqb-true _ _ (not-false _ d.0);
          like = sym (alike_is _ _ (not-false _ k.0));
          free = v.0;
          ranged = ltb-false _ _ h.0;
          is = sym (granted_once bytes after h.1);
        }
