-- The sixteen places as the loop fills them.
use Prim.Native.Nat.{ℕ, zero, suc, ◌+◌, ◌-◌, ◌≤◌, ◌<◌}
use native.Mathlib.Omega.{arith}
use native.Mathlib.Numerals.{add-one}
use mathlib.Core.Path.{◌≡◌, refl, sym, ap, ◌∙◌}
use mathlib.Core.Bool.{Bool, true, false, cond}
use mathlib.Core.List.{List, [], ◌∷◌, ◌++◌, append-nil}
use lib.ListN.{length, set, replicate, length-append}
use lib.Seq.{set-append_seam, append_snoc}
use Rattle.layout.specs.declared.edition.Edition.{Edition}
use Rattle.layout.specs.declared.record.SourceChannel.{SourceChannel}
use Rattle.layout.specs.Group.{ctab_place}
use Rattle.layout.specs.Answers.{granted, number_of, place_of, value_or}
use Rattle.layout.specs.Plays.{no_channel, in_sixteen, played}
use Rattle.ask_plays.specs.PlaysAt.{plays_at, source_at, player_at, players_at}

-- ---- the sixteen places

module _ (ed : Edition) (s : List ℕ) (p root type : ℕ) where
  alone_few : (at : ℕ) → length (player_at s at root type) ≤ 1
  unfolding player_at
  alone_few at = go (plays_at s at root type)
    where
      go : (b : Bool) → length (cond b (source_at s at ∷ []) []) ≤ 1
      go true = omega arith
      go false = omega arith

  -- no more play than are asked
  pub players_few : (n : ℕ) → length (players_at ed s p root type n) ≤ n
  unfolding players_at
  players_few zero = omega arith
  players_few (suc n) =
      omega (arith, players_few n, alone_few (ctab_place ed p n + 8), length-append (players_at ed s p root type n) (player_at s (ctab_place ed p n + 8) root type))

  -- the places hold those of the first i Ctabs that play, and the count is how many
  pub record Filled (i count : ℕ) (channels : List SourceChannel) : Type 0 where
    pub counts : count ≡ length (players_at ed s p root type i)
    pub places : channels ≡ in_sixteen (players_at ed s p root type i)

  pub filled_start : Filled 0 0 (replicate 16 no_channel)
  unfolding players_at in_sixteen
  filled_start = record { counts = refl; places = refl }

  module _ (i count : ℕ) (channels : List SourceChannel) (filled : Filled i count channels) where
    pub filled_room : i < 16 → count < 16
    filled_room h = omega (arith, filled.counts, players_few i)

    next : players_at ed s p root type (i + 1) ≡ players_at ed s p root type i ++ player_at s (ctab_place ed p i + 8) root type
    unfolding players_at
    next = rw add-one refl

    -- a record that does not play
    pub filled_passed : plays_at s (ctab_place ed p i + 8) root type ≡ false → Filled (i + 1) count channels
    unfolding player_at
    filled_passed h =
        let e : players_at ed s p root type (i + 1) ≡ players_at ed s p root type i = next ∙ rw (h, append-nil) in
        record { counts = rw e filled.counts; places = rw e filled.places }

    -- a record that plays
    pub filled_more : i < 16 → plays_at s (ctab_place ed p i + 8) root type ≡ true → Filled (i + 1) (count + 1) (set channels count (source_at s (ctab_place ed p i + 8)))
    unfolding player_at in_sixteen
    filled_more l h =
        let xs : List SourceChannel = players_at ed s p root type i in
        let a : SourceChannel = source_at s (ctab_place ed p i + 8) in
        let e : players_at ed s p root type (i + 1) ≡ xs ++ (a ∷ []) = next ∙ rw h in
        let long : length (xs ++ (a ∷ [])) ≡ length xs + 1 = length-append xs (a ∷ []) in
        let z : 16 - length xs ≡ suc (16 - length (xs ++ (a ∷ []))) = omega (arith, players_few i) in
        record {
          counts = omega (arith, filled.counts, ap length e);
          places =
              rw (filled.places, filled.counts, e, z) (set-append_seam xs no_channel (replicate (16 - length (xs ++ (a ∷ []))) no_channel) a ∙ sym (append_snoc xs a (replicate (16 - length (xs ++ (a ∷ []))) no_channel)));
        }

-- after the last Ctab
pub filled_end : (ed : Edition) (s : List ℕ) (p root type n i count : ℕ) (channels : List SourceChannel) → Filled ed s p root type i count channels → i ≡ n
    → record { number = 0; place = 0; count = count; channels = channels } ≡ played (granted (players_at ed s p root type n))
unfolding played number_of place_of value_or
filled_end ed s p root type n i count channels filled e = rw (← e, filled.counts, filled.places)
