-- Where the record of a source channel stands: in the contents of its group, behind a Ctab's header and before the next group.
use Prim.Native.Nat.{ℕ, suc, ◌+◌, ◌≤◌, ◌<◌}
use mathlib.Core.Path.{◌≡◌, refl}
use mathlib.Core.List.{List}
use native.Mathlib.Omega.{arith}
use native.Mathlib.Decide.{dec_lt}
use lib.ListN.{get_or, drop}
use Rattle.layout.specs.declared.edition.Edition.{Edition}
use Rattle.layout.specs.declared.answer.Standing.{Standing}
use Rattle.layout.specs.Group.{Judged}
use Rattle.layout.specs.Group.{Unsound, Sound}
use Rattle.layout.specs.Editions.{size}
use Rattle.layout.specs.Group.{ctab_place, ctab_channel, ctab_of, group_at}
use Rattle.layout.specs.Body.{group_place}
use Rattle.layout.specs.Asked.{standing_at, standing, row_of, row_in}
use Rattle.layout.proofs.Ctabs.{place_before}
use Rattle.layout.proofs.Seen.{ctab_seen}
use Rattle.layout.proofs.GroupSound.{group_sound_is}
use Rattle.law_checked.proofs.SameBytes.{Clear, short_of, past}
use Rattle.law_checked.proofs.SamePlaces.{place_suc, places_rise}
use Rattle.std.specs.Prelude.{Ok, Err}

-- record number i of group number g, of a source channel: `long` bytes at `at` of the body
pub record RecordStands (s : List ℕ) (g channel at long i : ℕ) : Type 0 where
  pub edition : Edition
  pub text : ℕ
  pub ctabs : ℕ
  pub cntts : ℕ
  pub sound : group_at (drop (group_place s g) s) ≡ Sound edition text ctabs cntts
  pub within : i < ctabs
  pub place : at ≡ group_place s g + 8 + (ctab_place edition (8 + text) i + 8)
  pub sized : long ≡ size edition
  pub ends : at + long ≤ group_place s (suc g)
  pub channelled : get_or s at 0 ≡ channel

module _ (s : List ℕ) (g channel : ℕ) where
  -- the record of the channel stands in a group that stands so
  abbrev Stands : Standing → Type 0
  Stands x = RecordStands s g channel (row_of x (row_in s x channel)).at (size x.edition) (row_in s x channel)

  judged : (j : Judged) → group_at (drop (group_place s g) s) ≡ j → row_in s (standing_at s (group_place s g) j) channel < (standing_at s (group_place s g) j).records
      → Stands (standing_at s (group_place s g) j)
  unfolding standing_at row_in group_place ctab_channel
  judged (Err why) e h = absurd (omega arith)
  judged (Ok x) e h =
      let p = group_place s g in
      let i = ctab_of x.edition s (p + 16 + x.text) x.ctabs channel in
      let is = group_sound_is (drop p s) x.edition x.text x.ctabs x.cntts e in
      record {
        edition = x.edition;
        text = x.text;
        ctabs = x.ctabs;
        cntts = x.cntts;
        sound = e;
        within = h;
        place = omega arith;
        sized = refl;
        ends = omega (arith, is.size, place_before x.edition (p + 16 + x.text) i x.ctabs h);
        channelled = ctab_seen x.edition s (p + 16 + x.text) x.ctabs channel h;
      }

  pub record_stands : row_in s (standing s g) channel < (standing s g).records
      → RecordStands s g channel (row_of (standing s g) (row_in s (standing s g) channel)).at (size (standing s g).edition) (row_in s (standing s g) channel)
  unfolding standing
  record_stands h = judged (group_at (drop (group_place s g) s)) refl h

-- the length in a group's header stands clear of every record
pub header_clear : (s : List ℕ) (g channel at long i : ℕ) → RecordStands s g channel at long i → (k : ℕ) → Clear at long (group_place s k + 4) 4
header_clear s g channel at long i r k = go (dec_lt g k) (dec_lt k g)
  where
    go : Dec (g < k) → Dec (k < g) → Clear at long (group_place s k + 4) 4
    go (yes d) x = past (omega (arith, r.ends, places_rise s g k d))
    go (no d) (yes x) = short_of (omega (arith, r.place, places_rise s k g x, place_suc s k))
    go (no d) (no x) = let z : k ≡ g = omega arith in rw z (short_of (omega (arith, r.place)))
