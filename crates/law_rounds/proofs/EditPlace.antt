-- The group and the record that an edit speaks of, where they stand in an accepted body.
use Prim.Native.Nat.{ℕ, suc, ◌+◌, ◌≤◌, ◌<◌}
use mathlib.Core.Path.{◌≡◌, sym, ap, ap₂, ◌∙◌}
use mathlib.Core.List.{List, ◌++◌, flat_map}
use native.Mathlib.Omega.{arith}
use lib.Dec.{eqb}
use lib.ListN.{length, get_or, take, drop}
use borrow.Author.Tests.{eqb-true}
use Rattle.layout.specs.Records.{blank, channel_of}
use Rattle.layout.specs.Group.{ctab_place, ctab_channel, ctab_of, Group}
use Rattle.layout.specs.Body.{group_place, no_group, group_no}
use Rattle.layout.specs.Asked.{standing_at, standing, row_in}
use Rattle.layout.specs.Write.{group_bytes, first_edition, Allowed}
use Rattle.layout.proofs.Scans.{first_stands}
use Rattle.layout.proofs.Accepted.{Accepted}
use Rattle.law_rounds.specs.Rounds.{Bytes, groups_of}
use Rattle.layout.proofs.Lists.{rows_length, get_d_rows}
use Rattle.law_rounds.proofs.Blocks.{block_place}
use Rattle.law_rounds.proofs.GroupThere.{there_sound, there_size, there_ends, there_channel}
use Rattle.law_rounds.proofs.BodyRounds.{allowed_of, bytes_of}

-- the group by its place and its bytes, and the record by its number in the group
pub record EditPlaced (s : List ℕ) (n g channel : ℕ) : Type 0 where
  pub allowed : Allowed (group_no s g)
  pub listed : get_or (groups_of s n) g no_group ≡ group_no s g
  pub place : group_place s g ≡ length (flat_map group_bytes (take g (groups_of s n)))
  pub ends : group_place s g + length (group_bytes (group_no s g)) ≤ length s
  pub edition : (standing s g).edition ≡ first_edition (group_no s g).records
  pub ctabs : (standing s g).ctabs ≡ group_place s g + 16 + length (group_no s g).text
  pub its : row_in s (standing s g) channel < length (group_no s g).records
  pub channelled : channel_of (get_or (group_no s g).records (row_in s (standing s g) channel) blank) ≡ channel

module _ (s : List ℕ) (n g : ℕ) (b : Bytes s) (h : Accepted s n) (l : g < n) where
  abbrev own : Group
  own = group_no s g

  abbrev at : ℕ
  at = group_place s g

  own_allowed : Allowed own
  own_allowed = allowed_of s n b h g l

  own_there : drop at s ≡ group_bytes own ++ drop (group_place s (suc g)) s
  own_there = bytes_of s n b h g l

  edition_is : (standing s g).edition ≡ first_edition own.records
  unfolding standing standing_at
  edition_is = ap (λ j. (standing_at s at j).edition) (there_sound s at own _ own_there own_allowed)

  ctabs_is : (standing s g).ctabs ≡ at + 16 + length own.text
  unfolding standing standing_at
  ctabs_is = ap (λ j. (standing_at s at j).ctabs) (there_sound s at own _ own_there own_allowed)

  records_is : (standing s g).records ≡ length own.records
  unfolding standing standing_at
  records_is = ap (λ j. (standing_at s at j).records) (there_sound s at own _ own_there own_allowed)

  -- a group stands behind the bytes of those before it
  place_is : group_place s g ≡ length (flat_map group_bytes (take g (groups_of s n)))
  unfolding group_place
  place_is = block_place no_group group_bytes (groups_of s n) (group_place s) next g (rw rows_length (omega arith)) ∙ omega arith
    where
      next : (i : ℕ) → i < length (groups_of s n) → group_place s (suc i) ≡ group_place s i + length (group_bytes (get_or (groups_of s n) i no_group))
      next i u =
          let k : i < n = rw rows_length at u in
          rw (get_d_rows (group_no s) no_group n i k) (ap (λ x. group_place s i + x) (there_size s (group_place s i) (group_no s i) _ (bytes_of s n b h i k) (allowed_of s n b h i k)))

  module _ (channel : ℕ) (has : row_in s (standing s g) channel < (standing s g).records) where
    abbrev row : ℕ
    row = row_in s (standing s g) channel

    row_there : row < length own.records
    row_there = omega (arith, records_is, has)

    row_channel : channel_of (get_or own.records row blank) ≡ channel
    unfolding row_in ctab_of ctab_channel
    row_channel =
        let here : get_or s (ctab_place (standing s g).edition (standing s g).ctabs row + 8) 0 ≡ channel =
        eqb-true _ _ (first_stands (λ i. eqb (ctab_channel (standing s g).edition s (standing s g).ctabs i) channel) (standing s g).records has) in
        sym (there_channel s at own _ own_there own_allowed row row_there) ∙ ap₂ (λ x e. get_or s (ctab_place e x row + 8) 0) (sym ctabs_is) (sym edition_is) ∙ here

    pub edit_placed : EditPlaced s n g channel
    edit_placed =
        record {
          allowed = own_allowed;
          listed = get_d_rows (group_no s) no_group n g l;
          place = place_is;
          ends = there_ends s at own _ own_there own_allowed;
          edition = edition_is;
          ctabs = ctabs_is;
          its = row_there;
          channelled = row_channel;
        }
