-- The kind of each entry of a salvage list is the refusal of its bytes: another kind than 0 is one, and no other is. Proved of each part, and so of each entry.
use Prim.Native.Nat.{ℕ}
use native.Mathlib.Omega.{arith}
use mathlib.Core.Path.{◌≡◌, refl, sym, ◌∙◌}
use mathlib.Core.List.{List, [], ◌∷◌, append-nil, flat_map}
use lib.ListN.{take, drop}
use Rattle.layout.specs.declared.edition.Edition.{Edition}
use Rattle.layout.specs.Lists.{All}
use Rattle.layout.specs.Group.{Judged}
use Rattle.layout.specs.Group.{Unsound, Sound}
use Rattle.layout.specs.Refusals.{bad_tag}
use Rattle.layout.specs.Group.{group_size, group_at}
use Rattle.layout.specs.Salvage.{front, pieces, Part, rest, listed, judged, parts, Entry, salvage}
use Rattle.read_salvage.specs.Cut.{Free, Piece}
use Rattle.read_salvage.proofs.Cseg.{no_true}
use Rattle.read_salvage.proofs.Cut.{front_is_free, pieces_are}
use Rattle.read_salvage.proofs.Verdicts.{size_some, sound_cseg, sound_own}
use Rattle.law_salvage.specs.Salvage.{entry_bytes}
use Rattle.layout.proofs.Elements.{all_append, all_flat_map, all_so}
use Rattle.read_salvage.proofs.Joined.{parts_joined}
use Rattle.law_salvage.proofs.Places.{entries_all}
use Rattle.law_salvage.proofs.Entries.{dropped_free}
use Rattle.law_refusals.specs.Body.{GroupRefused}
use Rattle.law_refusals.specs.Salvage.{EntryRefused, piece_refused, other_bytes}
use Rattle.law_refusals.proofs.Told.{JudgedTold}
use Rattle.law_refusals.proofs.Groups.{group_told}
use Rattle.law_refusals.proofs.GroupExact.{group_answers}
use Rattle.law_refusals.proofs.Sound.{stands_not_refused}
use Rattle.std.specs.Prelude.{Ok, Err}
use Rattle.layout.proofs.Refused.{one_number}

-- ---- the one kind that bytes can be refused with

-- bytes with no CSEG
free_kind : (s : List ℕ) → Free s → (number : ℕ) → EntryRefused s number → bad_tag ≡ number
free_kind s f _ (piece_refused number place c r) = absurd (no_true (f 0) c.first)
free_kind s f _ (other_bytes g) = refl

-- a piece whose group is refused
piece_kind : (p : List ℕ) → Piece p → (number place : ℕ) → group_at p ≡ Unsound number place → (other : ℕ) → EntryRefused p other → number ≡ other
piece_kind p c number place e _ (piece_refused other at _ r) = one_number (sym e ∙ group_answers p other at r)
piece_kind p c number place e _ (other_bytes f) = absurd (no_true (f 0) c.first)

-- a sound group: none
group_kind : (g : List ℕ) (ed : Edition) (t n m : ℕ) → group_at g ≡ Sound ed t n m → (number : ℕ) → EntryRefused g number → 0 ≡ number
group_kind g ed t n m e _ (piece_refused number place c r) = absurd (stands_not_refused g (record { edition = ed; text = t; ctabs = n; cntts = m; sound = e }) number place r)
group_kind g ed t n m e _ (other_bytes f) = absurd (no_true (f 0) (sound_cseg g ed t n m e))

-- ---- each part

record Reason (bytes : List ℕ) (kind : ℕ) : Type 0 where
  only : (kind ≡ 0 → ⊥) → EntryRefused bytes kind
  always : (number : ℕ) → EntryRefused bytes number → kind ≡ number

abbrev AllReasons : List Part → Type 0
AllReasons ps = All (λ (p : Part). Reason p.bytes p.kind) ps

rest_reasons : (s : List ℕ) → Free s → AllReasons (rest s)
unfolding rest
rest_reasons [] f = tt
rest_reasons (b ∷ s) f = (record { only = λ z. other_bytes f; always = free_kind (b ∷ s) f }, tt)

listed_reasons : (p : List ℕ) → Piece p → (v : Judged) → group_at p ≡ v → JudgedTold (GroupRefused p) v → AllReasons (listed p v)
unfolding listed
listed_reasons p c (Ok x) e h =
    let own : group_at (take (group_size p) p) ≡ Sound x.edition x.text x.ctabs x.cntts = rw append-nil at (sound_own p [] x.edition x.text x.ctabs x.cntts e) in (
      record { only = λ z. absurd (z refl); always = group_kind (take (group_size p) p) x.edition x.text x.ctabs x.cntts own },
      rest_reasons (drop (group_size p) p) (dropped_free p c (group_size p) (omega (arith, size_some p x.edition x.text x.ctabs x.cntts e))),
    )
listed_reasons p c (Err why) e h = (record { only = λ z. piece_refused why.number why.place c h; always = piece_kind p c why.number why.place e }, tt)

judged_reasons : (p : List ℕ) → Piece p → AllReasons (judged p)
unfolding judged
judged_reasons p c = listed_reasons p c (group_at p) refl (group_told p)

parts_reasons : (s : List ℕ) → AllReasons (parts s)
unfolding parts
parts_reasons s =
    all_append _ (rest (front s)) (flat_map judged (pieces s)) (rest_reasons (front s) (front_is_free s))
    (all_flat_map Piece _ judged judged_reasons (pieces s) (pieces_are s))

-- ---- each entry

entry_reasons : (s : List ℕ) → All (λ (e : Entry). Reason (entry_bytes s e) e.kind) (salvage s)
unfolding salvage
entry_reasons s = rw parts_joined at (entries_all (λ (bytes : List ℕ) (size kind : ℕ). Reason bytes kind) [] (parts s) (parts_reasons s))

-- a kind other than 0 is the refusal of the entry's bytes
pub kinds_refused : (s : List ℕ) → All (λ (e : Entry). (e.kind ≡ 0 → ⊥) → EntryRefused (entry_bytes s e) e.kind) (salvage s)
kinds_refused s = all_so _ _ (λ (e : Entry) (h : Reason (entry_bytes s e) e.kind). h.only) (salvage s) (entry_reasons s)

-- .. and a refusal of its bytes is its kind
pub refused_kinds : (s : List ℕ) → All (λ (e : Entry). (number : ℕ) → EntryRefused (entry_bytes s e) number → e.kind ≡ number) (salvage s)
refused_kinds s = all_so _ _ (λ (e : Entry) (h : Reason (entry_bytes s e) e.kind). h.always) (salvage s) (entry_reasons s)
