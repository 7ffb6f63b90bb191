-- Demand 2, who plays at the call: the group that was found, and each field of what is told by one law about who plays in it.
use Prim.Native.Nat.{ℕ}
use mathlib.Core.Path.{◌≡◌, sym, ap, ◌∙◌}
use mathlib.Core.List.{List}
use lib.ListN.{length}
use Rattle.layout.specs.declared.record.SourceChannel.{SourceChannel}
use Rattle.layout.specs.declared.answer.Played.{Played}
use Rattle.layout.specs.Answers.{Answer, granted, number_of, value_or}
use Rattle.layout.specs.Group.{Group}
use Rattle.layout.specs.Body.{group_no}
use Rattle.layout.specs.Plays.{playing, who_plays, played}
use Rattle.layout.proofs.Sixteen.{Channels}
use Rattle.law_refusals.specs.Body.{Named}
use Rattle.law_refusals.specs.After.{HasGroup}
use Rattle.law_refusals.proofs.BodyExact.{body_ended}
use Rattle.law_refusals.proofs.Players.{PlayersFound, players_found}
use Rattle.ask_plays.proofs.Playing.{channel_in, players_picked, told_bits, bits_told, told_channel, told_once, told_in_sixteen, place_unused, group_channels_apart}
use Rattle.demands.specs.Playing.{ChannelsTold, WhoPlaysIsTold}

channels_told : (g : Group) (root type : ℕ) → Channels (channel_in g.records) (length g.records) → ChannelsTold g.records root type (played (granted (playing g root type)))
unfolding played value_or
channels_told g root type apart =
    let those = players_picked g root type in
    record {
      row = those.row;
      plays = λ k l. let b = told_bits g root type k l in record { there = those.there k l; root_bit = b.0; type_bit = b.1 };
      channel = told_channel g root type;
      every = λ i a. bits_told g root type i a.there a.root_bit a.type_bit;
      order = those.order;
      once = told_once g root type apart;
      places = told_in_sixteen g root type apart;
      unused = λ k l. ap (λ (c : SourceChannel). c.0) (place_unused (playing g root type) k l);
    }

pub who_plays_is_told : WhoPlaysIsTold
unfolding played number_of
who_plays_is_told body name root type p h z = found (who_plays body name root type) (players_found body name root type (sym (ap (λ (x : Played). x.number) h) ∙ z)) h
  where
    found : (a : Answer (List SourceChannel)) → PlayersFound body name root type a → p ≡ played a
        → (g : ℕ) × (HasGroup body g × (Named body g name × ChannelsTold (group_no body g).records root type p))
    found a f q =
        let apart = group_channels_apart body f.has.count f.group (body_ended body f.has.count f.has.groups) f.has.there in
        (f.group, (f.has, (f.named, rw (q, f.is) (channels_told (group_no body f.group) root type apart))))
