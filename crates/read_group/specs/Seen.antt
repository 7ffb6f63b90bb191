-- What a table of sixteen flags, one for each source channel, says of a run of chunks: whether one of them has the channel.
use Rattle.std.specs.Prelude.{ℕ, ◌<◌, ◌≡◌, Bool, false, cond, not, List, ltb, eqb, length, get_or}
use Rattle.layout.specs.Refusals.{accepted, channel_again, stray_cntt}
use Rattle.layout.specs.Scan.{first}

-- whether one of n chunks has this channel, chunk number i having the channel `chan i`
unfoldable pub is_seen : (ℕ → ℕ) → ℕ → ℕ → Bool
is_seen chan n channel = ltb (first (λ i. eqb (chan i) channel) 0 n) n

-- the table h says it of every channel
pub record Seen (chan : ℕ → ℕ) (n : ℕ) (h : List Bool) : Type 0 where
  pub size : length h ≡ 16
  pub each : (channel : ℕ) → channel < 16 → is_seen chan n channel ≡ get_or h channel false

-- a Cntt by whether a Ctab has its channel and whether a Cntt before it has: 10 where one of these has the channel, 11 where no Ctab has it; 0 where all is well
abbrev pub channel_fault : Bool → Bool → ℕ
channel_fault ctab again = cond again channel_again (cond (not ctab) stray_cntt accepted)
