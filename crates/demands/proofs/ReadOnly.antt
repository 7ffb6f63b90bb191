-- Document 02, §6: each statement by one law.
use Prim.Native.Nat.{ℕ}
use mathlib.Core.Path.{◌≡◌, ap, ◌∙◌}
use mathlib.Core.List.{List}
use lib.ListN.{get_or}
use lib.Seq.{get_or-set_other}
use Rattle.layout.specs.declared.lock.Override.TheVariants.{NotAsked}
use Rattle.layout.specs.declared.record.Record.{Record}
use Rattle.layout.specs.Records.{bytes_of}
use Rattle.law_refusals.proofs.Locked as locked
use Rattle.law_rounds.specs.Calls.{FieldChanged}
use Rattle.law_rounds.proofs.EditCall.{edit_accepted}
use Rattle.law_rounds.proofs.FieldCall.{field_call, field_in_place_call}
use Rattle.law_rounds.proofs.LockedStays.{locked_stays}
use Rattle.demands.specs.ReadOnly.{OverrideIsAsBefore, LockedIsRefused, ElseEditedAsBefore, LockedRecordsStay, LockedPressIsRefused, ElsePressedAsBefore, LockedBytesStay, LockedBytesStayInPlace}

pub override_is_as_before : OverrideIsAsBefore
override_is_as_before = locked.overridden

pub locked_is_refused : LockedIsRefused
locked_is_refused = locked.locked_exactly

pub else_edited_as_before : ElseEditedAsBefore
else_edited_as_before = locked.locked_else

pub locked_records_stay : LockedRecordsStay
locked_records_stay before group channel new a after b w p z n run h i l lock = locked_stays before after group channel new b w (edit_accepted before group channel new NotAsked a after p z) n run h i l lock

pub locked_press_is_refused : LockedPressIsRefused
locked_press_is_refused = locked.screen_exactly

pub else_pressed_as_before : ElsePressedAsBefore
else_pressed_as_before = locked.screen_else

bytes_stay : (r after : Record) (index value : ℕ) → FieldChanged r index value after → r.locked ≡ 1 → (k : ℕ) → (k ≡ 10 → ⊥) → get_or (bytes_of after) k 0 ≡ get_or (bytes_of r) k 0
bytes_stay r after index value x lock k other = ap (λ (y : List ℕ). get_or y k 0) x.bytes ∙ get_or-set_other (bytes_of r) index k value 0 (λ e. other (e ∙ x.free lock))

pub locked_bytes_stay : LockedBytesStay
locked_bytes_stay old index value c p z = bytes_stay old c.held index value ((field_call old index value c p).0 z)

pub locked_bytes_stay_in_place : LockedBytesStayInPlace
locked_bytes_stay_in_place before index value a after p z = bytes_stay before after index value ((field_in_place_call before index value a after p).0 z)
