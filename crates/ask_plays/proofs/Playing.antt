-- What `playing` says of a group: the source channels of exactly those records whose two bits are set, in Ctab order, each once.
-- They are those of a list that pass a test, and that a group's source channels are apart is what the reader's rules say of its Ctabs.
use Prim.Native.Nat.{ℕ, ◌+◌, ◌-◌, ◌≤◌, ◌<◌}
use native.Mathlib.Omega.{arith}
use native.Mathlib.Decide.{dec_lt}
use mathlib.Core.Path.{◌≡◌, sym, ap, ◌∙◌}
use mathlib.Core.Bool.{true, and-eq-true_iff}
use mathlib.Core.List.{List}
use lib.ListN.{length, get_or, drop, replicate, length-append, length-replicate, get_or-replicate, get_or-eq_default, get_or-append}
use lib.Seq.{get_or-append-add}
use Rattle.layout.specs.Lists.{rows}
use Rattle.layout.specs.declared.edition.Edition.{Edition}
use Rattle.layout.specs.declared.record.SourceChannel.{SourceChannel}
use Rattle.layout.specs.declared.record.Record.{Record}
use Rattle.layout.specs.Scan.{Ended}
use Rattle.layout.specs.Records.{blank, channel_of}
use Rattle.layout.specs.Group.{payload, Group, ctab_place, ctab_channel, record_at, group_of}
use Rattle.layout.specs.Body.{group_place, body_run, group_value, group_no}
use Rattle.layout.specs.Plays.{bit, root_mask, chord_mask, plays_under, playing, no_channel, in_sixteen}
use Rattle.layout.proofs.Lists.{rows_length, get_d_rows}
use Rattle.layout.proofs.Sixteen.{Channels, at_most_sixteen, group_apart}
use Rattle.layout.proofs.RecordBytes.{record_channel}
use Rattle.layout.proofs.Accepted.{body_accepted}
use Rattle.ask_plays.proofs.Picked.{Picked, those_picked}

-- ---- the sixteen places

module _ (cs : List SourceChannel) where
  pub place_used : (k : ℕ) → k < length cs → get_or (in_sixteen cs) k no_channel ≡ get_or cs k no_channel
  unfolding in_sixteen
  place_used k l = get_or-append cs (replicate (16 - length cs) no_channel) no_channel k l

  pub place_unused : (k : ℕ) → length cs ≤ k → get_or (in_sixteen cs) k no_channel ≡ no_channel
  unfolding in_sixteen
  place_unused k l =
      let z : length cs + (k - length cs) ≡ k = omega arith in
      (rw z at (get_or-append-add cs (replicate (16 - length cs) no_channel) (k - length cs) no_channel)) ∙ none_there (16 - length cs) (k - length cs)
    where
      none_there : (n i : ℕ) → get_or (replicate n no_channel) i no_channel ≡ no_channel
      none_there n i = go (dec_lt i n)
        where
          go : Dec (i < n) → get_or (replicate n no_channel) i no_channel ≡ no_channel
          go (yes h) = get_or-replicate n i no_channel no_channel h
          go (no h) = get_or-eq_default (replicate n no_channel) no_channel (omega (arith, length-replicate n no_channel))

  pub sixteen_places : length cs ≤ 16 → length (in_sixteen cs) ≡ 16
  unfolding in_sixteen
  sixteen_places l = omega (arith, length-append cs (replicate (16 - length cs) no_channel), length-replicate (16 - length cs) no_channel)

-- ---- who plays in a group

-- the source channel of record number i of these
abbrev pub channel_in : List Record → ℕ → ℕ
channel_in rs i = channel_of (get_or rs i blank)

module _ (g : Group) (root type : ℕ) where
  -- they are the source channels of the records that play, in Ctab order
  pub players_picked : Picked (plays_under root type) (λ r. r.source) blank g.records (playing g root type)
  unfolding playing
  players_picked = those_picked (plays_under root type) (λ r. r.source) blank g.records

  -- a record that is told has both its bits set ..
  pub told_bits : (k : ℕ) → k < length (playing g root type)
      → (bit (root_mask (get_or g.records (players_picked.row k) blank)) root ≡ true) × (bit (chord_mask (get_or g.records (players_picked.row k) blank)) type ≡ true)
  unfolding plays_under
  told_bits k l = let r = get_or g.records (players_picked.row k) blank in (and-eq-true_iff (bit (root_mask r) root) (bit (chord_mask r) type)).0 (players_picked.passes k l)

  -- .. and every record with both bits set is told
  pub bits_told : (i : ℕ) → i < length g.records → bit (root_mask (get_or g.records i blank)) root ≡ true → bit (chord_mask (get_or g.records i blank)) type ≡ true
      → (k : ℕ) × ((k < length (playing g root type)) × (players_picked.row k ≡ i))
  unfolding plays_under
  bits_told i l h b = players_picked.every i l (rw (h, b))

  -- source channel number k of the sixteen places
  abbrev told_at : ℕ → ℕ
  told_at k = (get_or (in_sixteen (playing g root type)) k no_channel).0

  pub told_channel : (k : ℕ) → k < length (playing g root type) → told_at k ≡ channel_in g.records (players_picked.row k)
  unfolding channel_of
  told_channel k l = ap (λ (c : SourceChannel). c.0) (place_used (playing g root type) k l ∙ players_picked.is k l)

  -- where the group's source channels are apart, each is told once, and they fit
  module _ (a : Channels (channel_in g.records) (length g.records)) where
    pub told_once : (j k : ℕ) → j < k → k < length (playing g root type) → told_at j ≡ told_at k → ⊥
    told_once j k h l e =
        a.apart (players_picked.row j) (players_picked.row k) (players_picked.order j k h l) (players_picked.there k l) (sym (told_channel j (omega arith)) ∙ (e ∙ told_channel k l))

    pub told_in_sixteen : length (in_sixteen (playing g root type)) ≡ 16
    told_in_sixteen =
        sixteen_places (playing g root type)
        (at_most_sixteen told_at (length (playing g root type)) (record { low = λ k l. rw (told_channel k l) (a.low (players_picked.row k) (players_picked.there k l)); apart = told_once }))

-- ---- the source channels of a group of an accepted body are apart

records_apart : (c : List ℕ) (ed : Edition) (t n m : ℕ) → Channels (ctab_channel ed c (8 + t)) n → Channels (channel_in (group_of ed c t n m).records) (length (group_of ed c t n m).records)
unfolding group_of channel_of
records_apart c ed t n m a =
    let row : ℕ → Record = record_at ed c (8 + t) (ctab_place ed (8 + t) n) m in
    let long : length (rows row 0 n) ≡ n = rows_length row 0 n in
    let at : (i : ℕ) → i < n → channel_in (rows row 0 n) i ≡ ctab_channel ed c (8 + t) i = λ i l. ap channel_of (get_d_rows row blank n i l) ∙ record_channel ed c (8 + t) (ctab_place ed (8 + t) n) m i in
    record {
      low = λ i l. rw (at i (omega arith)) (a.low i (omega arith));
      apart = λ i j h l e. a.apart i j h (omega arith) (sym (at i (omega arith)) ∙ (e ∙ at j (omega arith)));
    }

pub group_channels_apart : (s : List ℕ) (n g : ℕ) → body_run s ≡ Ended n → g < n → Channels (channel_in (group_no s g).records) (length (group_no s g).records)
unfolding group_no group_value
group_channels_apart s n g run l =
    let more = (body_accepted s n run).each g l in
    rw (more.sound, group_value)
    (records_apart (payload (drop (group_place s g) s)) more.edition more.text more.ctabs more.cntts
    (group_apart (drop (group_place s g) s) more.edition more.text more.ctabs more.cntts more.sound))
