-- A sound group's own bytes taken as a body: the first turn goes on, since no earlier group shares a name or fixes an edition, and the second is the end. No other bytes are read as one group.
use Prim.Native.Nat.{ℕ, ◌≤◌, ◌<◌}
use native.Mathlib.Nat.{zero-add}
use native.Mathlib.Omega.{arith}
use mathlib.Core.Path.{◌≡◌, refl, ◌∙◌}
use mathlib.Core.Logic.{◌↔◌}
use mathlib.Core.Bool.{false, and-false}
use mathlib.Core.List.{List}
use lib.Dec.{ltb}
use lib.ListN.{length}
use borrow.Author.Tests.{le-ltb}
use Rattle.layout.specs.Scan.{More, Done}
use Rattle.layout.specs.Bytes.{four}
use Rattle.layout.specs.Group.{head_fault, group_size}
use Rattle.layout.specs.Body.{group_place, sharing, fixing, unlike_body, group_turn}
use Rattle.layout.proofs.Runs.{run_more, run_done}
use Rattle.layout.proofs.Groups.{cseg_tag}
use Rattle.layout.proofs.GroupSound.{group_sound_is}
use Rattle.layout.proofs.Bodies.{turn_end, turn_sound}
use Rattle.layout.proofs.Accepted.{body_within, body_accepted}
use Rattle.read_salvage.proofs.Verdicts.{size_some}
use Rattle.law_salvage.specs.Salvage.{ReadsAsOne, SoundGroup}

-- a sound group has bytes
pub group_some : (g : List ℕ) → SoundGroup g → 8 < length g
group_some g h = rw h.whole at (size_some g h.edition h.text h.ctabs h.cntts h.sound)

module _ (g : List ℕ) (h : SoundGroup g) where
  -- no group before it, so none that fixes another edition
  suits : unlike_body g 0 h.edition h.ctabs ≡ false
  unfolding unlike_body
  suits = rw (le-ltb (fixing g 0) 0 (omega arith)) (and-false (ltb 0 h.ctabs))

  goes_on : group_turn g 0 ≡ More
  unfolding group_turn group_place
  goes_on =
      let head : head_fault g 0 (four 0x43534547) ≡ 0 = rw cseg_tag (group_sound_is g h.edition h.text h.ctabs h.cntts h.sound).head in
      turn_sound g 0 0 (λ z. omega (arith, group_some g h)) (head_fault g 0 (four 0x43534547)) refl head (omega arith) h.edition h.text h.ctabs h.cntts h.sound false suits
      (le-ltb (sharing g 0 0) 0 (omega arith))

  ends : group_turn g 1 ≡ Done
  unfolding group_turn group_place
  ends = rw zero-add (turn_end g 1 (group_size g) h.whole)

  pub reads_one : length g ≤ 32768 → ReadsAsOne g
  reads_one l = body_within g l ∙ (run_more (group_turn g) 0 33 (omega arith) goes_on ∙ run_done (group_turn g) 1 33 (omega arith) ends)

pub one_read : (g : List ℕ) → ReadsAsOne g → SoundGroup g
unfolding group_place
one_read g e =
    let a = body_accepted g 1 e in
    let m = a.each 0 (omega arith) in
    record { edition = m.edition; text = m.text; ctabs = m.ctabs; cntts = m.cntts; sound = m.sound; whole = rw zero-add at a.cover }

-- bytes within the limit read as one exactly when they are a sound group and no more
pub reads_exactly : (g : List ℕ) → length g ≤ 32768 → SoundGroup g ↔ ReadsAsOne g
reads_exactly g l = (λ h. reads_one g h l, λ e. one_read g e)
