-- What a refusal leaves, where a C call or a form by value says it in words of its own: channels as numbers, a record as a row, a flat table, a table in two parts. The rest are the laws of `law_refusals` themselves.
use Prim.Native.Nat.{ℕ}
use mathlib.Core.Path.{◌≡◌, refl, sym, ap, subst, ◌∙◌}
use mathlib.Core.List.{List, map, flat_map}
use lib.ListN.{length, take, drop, replicate, length-replicate}
use Rattle.layout.specs.declared.record.Record.{Record}
use Rattle.layout.specs.declared.answer.Counted.{Counted}
use Rattle.layout.specs.declared.answer.Changed.{Changed}
use Rattle.layout.specs.Records.{blank}
use Rattle.layout.specs.Answers.{Answer, number_of, retold, lent_after, counted_all}
use Rattle.layout.specs.Asked.{records_read}
use Rattle.layout.specs.Screen.{field_set, changed}
use Rattle.layout.specs.Promises.{RecordsRead, PlaysTold}
use Rattle.c_row.specs.declared.row.Row.{Row}
use Rattle.c_row.specs.Rows.{recorded, row_for}
use Rattle.c_row.specs.Flat.{lent_rows, row_bytes, RowsRead}
use Rattle.layout.specs.declared.edition.Edition.TheVariants.{First}
use Rattle.layout.specs.declared.answer.Standing.{Standing}
use Rattle.c_export.specs.declared.answer.Bounds.{Bounds}
use Rattle.c_export.specs.declared.answer.Players.{Players}
use Rattle.c_export.specs.declared.answer.Edited.{Edited}
use Rattle.c_export.specs.Crossing.{as_standing, as_grouped, edition_told, GroupCrossed, as_played, edit_of}
use Rattle.casm_by_value.specs.declared.Filled.{Filled}
use Rattle.law_refusals.specs.Given.{GivenUnder}
use Rattle.law_refusals.specs.After.{RecordsAsked}
use Rattle.law_refusals.specs.Records.{FieldRefused}
use Rattle.law_refusals.proofs.Kept.{lent_kept, retold_number, records_kept}
use Rattle.law_refusals.proofs.Nothing.{group_nothing, players_nothing, field_nothing}
use Rattle.law_refusals.proofs.Calls.{records_given}
use Rattle.law_refusals.proofs.Changes.{field_given}
use Rattle.law_crossing.proofs.Crossed.{numbers_back, channel_number, by_parts}

-- ---- casm_plays

pub players_nobody : (s part : List ℕ) (root type : ℕ) (r : Players) → PlaysTold s part root type (as_played r) → (r.number ≡ 0 → ⊥) → (r.count ≡ 0) × (r.channels ≡ replicate 16 0)
players_nobody s part root type r p z =
    let none = players_nothing s part root type (as_played r) p z in
    (none.0, sym (numbers_back r.channels) ∙ ap (map channel_number) none.1)

-- ---- casm_group

-- a refusal has no records, and so no edition
pub group_crossed_nothing : (body : List ℕ) (group : ℕ) (r : Bounds) → GroupCrossed body group r → (r.number ≡ 0 → ⊥)
    → (as_standing r ≡ record { edition = First; at = 0; size = 0; text = 0; length = 0; ctabs = 0; records = 0; cntts = 0; seconds = 0 }) × (r.edition ≡ 0)
unfolding edition_told
group_crossed_nothing body group r p n =
    let s = group_nothing body group (as_grouped r) p.found n in
    (s, p.edition ∙ ap (λ (x : Standing). edition_told x.edition x.records) s)

-- ---- casm_field

module _ (row : Row) (index value : ℕ) (r : Edited) (p : r ≡ edit_of (changed (recorded row) (field_set (recorded row) index value))) where
  abbrev told : Changed
  told = changed (recorded row) (field_set (recorded row) index value)

  pub field_crossed_given : GivenUnder (FieldRefused (recorded row) index value) r.number r.place
  field_crossed_given = subst (λ (x : Edited). GivenUnder (FieldRefused (recorded row) index value) x.number x.place) (sym p) (field_given (recorded row) index value told refl)

  pub field_crossed_kept : (r.number ≡ 0 → ⊥) → r.held ≡ row_for (recorded row)
  field_crossed_kept z =
      ap (λ (x : Edited). x.held) p ∙ ap row_for (field_nothing (recorded row) index value told refl (λ e. z (ap (λ (x : Edited). x.number) p ∙ e)))

-- ---- casm_records: the same question as of a table of so many records

module _ (s : List ℕ) (g : ℕ) (before : List ℕ) (r : Counted) (after : List ℕ) (p : RowsRead s g before r after) where
  abbrev room : ℕ
  room = lent_rows (length before)

  abbrev lent : List Record
  lent = replicate room blank

  many : length lent ≡ room
  many = length-replicate room blank

  as_table : RecordsRead s g lent r (lent_after (records_read s g (length lent)) lent)
  as_table = record { answer = subst (λ (n : ℕ). r ≡ counted_all (records_read s g n)) (sym many) p.answer; table = refl }

  pub rows_given : GivenUnder (RecordsAsked s g (lent_rows (length before))) r.number r.place
  rows_given = subst (λ (n : ℕ). GivenUnder (RecordsAsked s g n) r.number r.place) many (records_given s g lent r _ as_table)

  pub rows_kept : (r.number ≡ 0 → ⊥) → (after ≡ before) × (r.count ≡ 0)
  unfolding counted_all
  rows_kept z =
      let a : Answer (List Record) = records_read s g room in
      let e : r.number ≡ number_of a = ap (λ (x : Counted). x.number) p.answer in
      (p.table ∙ lent_kept (retold (flat_map row_bytes) a) before r.number (e ∙ sym (retold_number (flat_map row_bytes) a)) z, (records_kept s g lent r _ as_table z).1)

-- ---- read_with_room: the lent part and the rest are as they were

pub table_kept : (s : List ℕ) (g : ℕ) (start : List Record) (room : ℕ) (b : Filled) → RecordsRead s g (take room start) b.answer (take room b.table) → drop room b.table ≡ drop room start
    → (b.answer.number ≡ 0 → ⊥) → (b.table ≡ start) × (b.answer.count ≡ 0)
table_kept s g start room b p f z =
    let kept = records_kept s g (take room start) b.answer (take room b.table) p z in
    (by_parts room b.table start kept.0 f, kept.1)
