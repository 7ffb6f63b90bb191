-- Both bodies are read and the record is there, in the words of the conditions and in those of the search.
use Prim.Native.Nat.{ℕ, ◌≤◌, ◌<◌}
use native.Mathlib.Decide.{dec_lt}
use native.Mathlib.Omega.{arith}
use mathlib.Core.List.{List}
use Rattle.layout.specs.declared.answer.Standing.{Standing}
use Rattle.layout.specs.Asked.{standing, row_in}
use Rattle.layout.proofs.Seen.{ctab_seen, ctab_unseen}
use Rattle.law_refusals.specs.After.{HasChannel}
use Rattle.law_refusals.proofs.Bodies.{has_groups}
use Rattle.law_refusals.proofs.BodyExact.{body_ended}
use Rattle.law_checked.specs.Alike.{BothRead}
use Rattle.law_checked.proofs.Verdicts.{BodiesRead}

module _ (s t : List ℕ) (g channel : ℕ) where
  pub read_both : BodiesRead s t g channel → BothRead s t g channel
  unfolding row_in
  read_both r =
      let x : Standing = standing s g in
      record {
        has = record {
          group = record { count = r.n; groups = has_groups s r.n r.before; there = r.there };
          row = row_in s x channel;
          within = r.its;
          source = ctab_seen x.edition s x.ctabs x.records channel r.its;
        };
        groups = r.m;
        again = has_groups t r.m r.after;
      }

  -- a channel that the group has is found
  found : (h : HasChannel s g channel) → row_in s (standing s g) channel < (standing s g).records
  unfolding row_in
  found h = go (dec_lt (row_in s (standing s g) channel) (standing s g).records)
    where
      go : Dec (row_in s (standing s g) channel < (standing s g).records) → row_in s (standing s g) channel < (standing s g).records
      go (yes l) = l
      go (no l) = let x : Standing = standing s g in absurd (ctab_unseen x.edition s x.ctabs x.records channel (omega arith) h.row h.within h.source)

  pub both_read : BothRead s t g channel → BodiesRead s t g channel
  both_read b =
      let h = b.has.group in
      record { n = h.count; m = b.groups; before = body_ended s h.count h.groups; after = body_ended t b.groups b.again; there = h.there; its = found b.has }
