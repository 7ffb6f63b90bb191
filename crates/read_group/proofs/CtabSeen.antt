-- The table of channels over the Ctabs of a group.
use Prim.Native.Nat.{ℕ, ◌+◌, ◌≤◌}
use mathlib.Core.Path.{◌≡◌, sym}
use mathlib.Core.Bool.{Bool, true}
use mathlib.Core.List.{List}
use lib.Dec.{ltb}
use lib.ListN.{length, get_or, set}
use Rattle.layout.specs.Scan.{Ended}
use Rattle.layout.specs.declared.edition.Edition.{Edition}
use Rattle.layout.specs.Group.{ctab_place, ctab_channel, ctab_of}
use Rattle.layout.proofs.Runs.{ended_once}
use Rattle.layout.proofs.Ctabs.{CtabMore, channel_small}
use Rattle.read_group.specs.Seen.{is_seen, Seen}
use Rattle.read_group.proofs.SeenLaws.{seen_next}

module _ (ed : Edition) (c : List ℕ) where
  -- whether a Ctab before has the channel that the byte at `at` is
  pub ctab_seen : (p n at channel : ℕ) (x : Bool) → channel ≡ get_or c at 0 → is_seen (ctab_channel ed c p) n channel ≡ x → ltb (ctab_of ed c p n (get_or c at 0)) n ≡ x
  unfolding is_seen ctab_of
  ctab_seen p n at channel x e s = rw (← e) s

  -- a run that ended has one number only
  pub ended_seen : (h : List Bool) (p n m : ℕ) → ctab_place ed p n ≤ length c → Seen (ctab_channel ed c p) n h → Ended n ≡ Ended m
      → (ctab_place ed p m ≤ length c) × Seen (ctab_channel ed c p) m h
  ended_seen h p n m l seen e = rw (← (ended_once n m e)) (l, seen)

  -- a Ctab more
  pub ctabs_more : (h : List Bool) (p n channel : ℕ) → Seen (ctab_channel ed c p) n h → CtabMore ed c p n (ctab_place ed p n) → channel ≡ get_or c (ctab_place ed p n + 8) 0
      → Seen (ctab_channel ed c p) (n + 1) (set h channel true)
  unfolding ctab_channel
  ctabs_more h p n channel seen more e = seen_next (ctab_channel ed c p) n channel h seen (rw e (channel_small ed c (ctab_place ed p n + 8) more.inside)) (sym e)
