-- A Cntt by the two tables of channels: the rule on the bytes, and from a Cntt to the next.
use Prim.Native.Nat.{ℕ, ◌+◌, ◌*◌, ◌<◌}
use mathlib.Core.Path.{◌≡◌, sym}
use mathlib.Core.Bool.{Bool, true, false, not}
use mathlib.Core.List.{List}
use lib.Dec.{ltb, leb}
use lib.ListN.{get_or, set}
use borrow.Author.Tests.{ltb-true, ltb-false, le-leb, lt-leb}
use Rattle.layout.specs.declared.edition.Edition.TheVariants.{First}
use Rattle.layout.specs.Group.{ctab_channel, ctab_of, cntt_channel, cntt_of, cntt_fault}
use Rattle.layout.proofs.Cntts.{CnttMore}
use Rattle.read_group.specs.Seen.{is_seen, Seen, channel_fault}
use Rattle.read_group.proofs.SeenLaws.{seen_next}

not_below : (x n : ℕ) (b : Bool) → ltb x n ≡ b → leb n x ≡ not b
not_below x n true e = lt-leb n x (ltb-true x n e)
not_below x n false e = le-leb n x (ltb-false x n e)

-- the rule on flags is the rule on the bytes, at a byte y that is the channel
pub fault_at : (c : List ℕ) (p n j channel : ℕ) (ctab again : Bool) → is_seen (ctab_channel First c p) n channel ≡ ctab → is_seen (cntt_channel c (p + 35 * n)) j channel ≡ again
    → (y : ℕ) → channel ≡ y → channel_fault ctab again ≡ cntt_fault c p n (p + 35 * n) j y
unfolding is_seen ctab_of cntt_of cntt_fault
fault_at c p n j channel ctab again of seen y e = rw (← e, seen, not_below (ctab_of First c p n channel) n ctab of)

-- ---- from a Cntt to the next

module _ (c : List ℕ) (p n j : ℕ) (more : CnttMore c p n (p + 35 * n) j (p + 35 * n + 10 * j)) (channel : ℕ) (e : channel ≡ get_or c (p + 35 * n + 10 * j + 8) 0) where
  pub small : channel < 16
  small = rw e more.channel

  pub cntts_more : (h : List Bool) → Seen (cntt_channel c (p + 35 * n)) j h → Seen (cntt_channel c (p + 35 * n)) (j + 1) (set h channel true)
  unfolding cntt_channel
  cntts_more h seen = seen_next (cntt_channel c (p + 35 * n)) j channel h seen small (sym e)
