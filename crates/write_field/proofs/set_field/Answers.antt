-- One law for each way out.
use mathlib.Core.Path.{sym, ap, ◌∙◌}
use native.Mathlib.Omega.{arith}
use lib.ListN.{length}
use Rattle.layout.proofs.Editions.{held_spare, held_size}
use Rattle.layout.proofs.Records.{laid_length}
use Rattle.write_field.proofs.Setting.{set_within, front_length, front_held, set_over, set_locked, set_out, set_in}
use Rattle.write_field.proofs.set_field.Goals as goal

pub returns-then-end-index : goal.returns-then-end-index
returns-then-end-index c = set_over _ _ _ _ c.edition_of-edition.ensures (omega (arith, c.held_of-end.ensures))

pub returns-then-is_kept : goal.returns-then-is_kept
returns-then-is_kept c =
    let kept = c in
    let end = kept in
    set_locked _ _ _ _ end.edition_of-edition.ensures (omega (arith, end.held_of-end.ensures)) (sym c.if-is_kept.true ∙ kept.is_kept.ensures)

pub rule_before-rule-requires : goal.rule_before-rule-requires
rule_before-rule-requires c =
    let end = c in
    omega (arith, ap length c.bytes_of-b.ensures, laid_length end.args.r, held_spare end.edition_of-edition.result, end.held_of-end.ensures)

pub is_out-requires : goal.is_out-requires
is_out-requires c =
    let end = c in
    omega (arith, held_size end.edition_of-edition.result, end.held_of-end.ensures)

pub returns-then-is_out : goal.returns-then-is_out
returns-then-is_out c =
    let bytes = c in
    let kept = bytes in
    let end = kept in
    set_out _ _ _ _ end.edition_of-edition.ensures (omega (arith, end.held_of-end.ensures)) (sym bytes.if-is_kept.false ∙ kept.is_kept.ensures) _ bytes.bytes_of-b.ensures _ c.rule_before-rule.ensures
    (sym c.if-is_out.true ∙ c.is_out.ensures)

pub bounds-b-index : goal.bounds-b-index
bounds-b-index c =
    let end = c in
    omega (arith, held_spare end.edition_of-edition.result, end.held_of-end.ensures)

pub slice_bounds-b-end : goal.slice_bounds-b-end
slice_bounds-b-end c =
    let bytes = c in
    let end = bytes in
    set_within end.args.r _ _ _ _ end.edition_of-edition.result bytes.bytes_of-b.ensures end.held_of-end.ensures

pub slice_bounds-record_of-end : goal.slice_bounds-record_of-end
slice_bounds-record_of-end c =
    let bytes = c in
    let end = bytes in
    front_length end.args.r _ _ _ _ end.edition_of-edition.result bytes.bytes_of-b.ensures end.held_of-end.ensures

pub record_of-held-requires : goal.record_of-held-requires
record_of-held-requires c =
    let bytes = c in
    let end = bytes in
    front_held end.args.r _ _ _ _ end.edition_of-edition.result bytes.bytes_of-b.ensures end.held_of-end.ensures

pub returns : goal.returns
returns c =
    let out = c in
    let bytes = out in
    let kept = bytes in
    let end = kept in
    set_in _ _ _ _ end.edition_of-edition.ensures (omega (arith, end.held_of-end.ensures)) (sym bytes.if-is_kept.false ∙ kept.is_kept.ensures) _ bytes.bytes_of-b.ensures _ out.rule_before-rule.ensures (sym c.if-is_out.false ∙ out.is_out.ensures)
    _ c.second_of-second.ensures _ c.position_of-position.ensures _ end.held_of-end.ensures _ c.record_of-held.ensures
