-- A group's answer as it crosses: its edition is told by a number, and that number stands for it.
use Prim.Native.Nat.{ℕ}
use mathlib.Core.Path.{◌≡◌, refl, sym, ap, subst, ◌∙◌}
use mathlib.Core.Bool.{Bool, true, false, cond}
use mathlib.Core.List.{List}
use lib.Dec.{eqb, leb}
use lib.ListN.{drop}
use borrow.Author.Tests.{ne_eqb, eqb-true}
use Rattle.layout.specs.declared.edition.Edition.{Edition}
use Rattle.layout.specs.declared.edition.Edition.TheVariants.{First, Second}
use Rattle.layout.specs.Scan.{Run}
use Rattle.layout.specs.Group.{Judged}
use Rattle.layout.specs.declared.answer.Grouped.{Grouped}
use Rattle.layout.specs.declared.answer.Standing.{Standing}
use Rattle.layout.specs.Answers.{refused, granted, after_run, value_or, nowhere, grouped}
use Rattle.layout.specs.Group.{payload, group_at}
use Rattle.layout.specs.Body.{group_place, body_run}
use Rattle.layout.specs.Asked.{standing_at, standing, of_group, group_found}
use Rattle.layout.proofs.GroupSound.{Contents, contents_sound_is, empty_first, group_sound_is}
use Rattle.c_row.specs.Rows.{edition_by, edition_number}
use Rattle.c_export.specs.declared.answer.Bounds.{Bounds}
use Rattle.c_export.specs.Crossing.{edition_told, GroupCrossed}
use Rattle.std.specs.Prelude.{Ok, Err}

-- what is told of no record, and of some
pub told_none : (e : Edition) (n : ℕ) → n ≡ 0 → 0 ≡ edition_told e n
unfolding edition_told
told_none e n h = sym (rw h)

pub told_some : (e : Edition) (n told : ℕ) → (n ≡ 0 → ⊥) → told ≡ edition_number e → told ≡ edition_told e n
unfolding edition_told
told_some e n told h t = rw (ne_eqb n 0 h) t

-- a group without records is of the first edition ..
abbrev Empty : Standing → Type 0
Empty x = x.records ≡ 0 → x.edition ≡ First

standing_empty : (s : List ℕ) (at : ℕ) (j : Judged) → group_at (drop at s) ≡ j → Empty (standing_at s at j)
unfolding standing_at
standing_empty s at (Err why) e h = refl
standing_empty s at (Ok x) e h =
    let p = drop at s in
    let is = contents_sound_is (payload p) x.edition x.text x.ctabs x.cntts (group_sound_is p x.edition x.text x.ctabs x.cntts e).inside in
    empty_first (payload p) x.edition x.text x.cntts (subst (λ (k : ℕ). Contents (payload p) x.edition x.text k x.cntts) h is)

found_empty : (s : List ℕ) (g : ℕ) → Empty (grouped (group_found s g)).group
unfolding grouped value_or group_found of_group after_run standing
found_empty s g = go (body_run s)
  where
    there : (b : Bool) → Empty (value_or nowhere (cond b (refused 16 0) (granted (standing s g))))
    there true h = refl
    there false h = standing_empty s (group_place s g) (group_at (drop (group_place s g) s)) refl h

    go : (r : Run) → Empty (value_or nowhere (after_run r (λ n. cond (leb n g) (refused 16 0) (granted (standing s g)))))
    go (Err why) h = refl
    go (Ok n) h = there (leb n g) h

-- .. so the number that is told stands for the edition
number_stands : (e : Edition) → edition_by (edition_number e) ≡ e
unfolding edition_by edition_number
number_stands First = refl
number_stands Second = refl

none_stands : edition_by 0 ≡ First
unfolding edition_by
none_stands = refl

told_stands : (e : Edition) (n : ℕ) → (n ≡ 0 → e ≡ First) → edition_by (edition_told e n) ≡ e
unfolding edition_told
told_stands e n h = go (eqb n 0) refl
  where
    go : (b : Bool) → eqb n 0 ≡ b → edition_by (cond b 0 (edition_number e)) ≡ e
    go true z = none_stands ∙ sym (h (eqb-true n 0 z))
    go false z = number_stands e

-- a group's answer as it crosses, and with its edition by that number
abbrev bounds : Grouped → ℕ → Bounds
bounds x told =
    record {
      number = x.number;
      place = x.place;
      at = x.group.at;
      size = x.group.size;
      text_at = x.group.text;
      text_length = x.group.length;
      records_at = x.group.ctabs;
      records = x.group.records;
      cntts_at = x.group.cntts;
      cntts = x.group.seconds;
      edition = told;
    }

abbrev with_edition : Grouped → Edition → Grouped
with_edition x e =
    record {
      number = x.number;
      place = x.place;
      group =
          record {
            edition = e;
            at = x.group.at;
            size = x.group.size;
            text = x.group.text;
            length = x.group.length;
            ctabs = x.group.ctabs;
            records = x.group.records;
            cntts = x.group.cntts;
            seconds = x.group.seconds;
          };
    }

pub group_told : (s : List ℕ) (g : ℕ) (x : Grouped) (told : ℕ) → x ≡ grouped (group_found s g) → told ≡ edition_told x.group.edition x.group.records → GroupCrossed s g (bounds x told)
group_told s g x told e t =
    let empty = subst (λ (y : Grouped). Empty y.group) (sym e) (found_empty s g) in
    let stands : edition_by told ≡ x.group.edition = ap edition_by t ∙ told_stands x.group.edition x.group.records empty in
    let crossed : with_edition x x.group.edition ≡ x = refl in
    record {
      found = ap (with_edition x) stands ∙ (crossed ∙ e);
      edition = t ∙ ap (λ (y : Edition). edition_told y x.group.records) (sym stands);
    }
