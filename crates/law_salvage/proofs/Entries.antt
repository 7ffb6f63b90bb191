-- What holds of each part, and so of each entry: it is not empty, its kind is 0 exactly when it is a sound group, its bytes alone list it again and are judged alone as it is. Proved once for bytes with no CSEG and once for a piece.
use Prim.Native.Nat.{ℕ, zero, suc, ◌+◌, ◌≤◌, ◌<◌}
use native.Mathlib.Nat.{not-suc-le-zero, zero-lt-suc, suc-add, zero-add}
use native.Mathlib.Omega.{arith}
use mathlib.Core.Path.{◌≡◌, refl, sym, ap, ◌∙◌}
use mathlib.Core.Logic.{◌↔◌}
use mathlib.Core.Bool.{true, false}
use mathlib.Core.List.{List, [], ◌∷◌, map, append-nil, flatten, flat_map}
use lib.ListN.{length, take, drop, length-take, length-drop, take-append-drop}
use lib.Seq.{length-take-le, drop-drop}
use Rattle.layout.specs.declared.edition.Edition.{Edition}
use Rattle.layout.specs.Group.{Judged}
use Rattle.layout.specs.Group.{Unsound, Sound}
use Rattle.layout.specs.Answers.{refused, granted, number_of}
use Rattle.layout.specs.Bytes.{word}
use Rattle.layout.specs.Group.{group_size, group_at}
use Rattle.layout.specs.Salvage.{cseg, front, pieces, Part, rest, listed, judged, parts, Entry, entries_from, salvage, entry_judged}
use Rattle.layout.specs.Lists.{All}
use Rattle.read_salvage.specs.Cut.{Free, Piece}
use Rattle.read_salvage.proofs.Cseg.{no_true, no_cseg, cseg_part, opens_apart}
use Rattle.read_salvage.proofs.Cut.{front_is_free, pieces_are}
use Rattle.read_salvage.proofs.Parts.{parts_nil, parts_free, parts_piece, parts_group}
use Rattle.read_salvage.proofs.Verdicts.{size_some, size_within, sound_cseg, size_own, sound_own}
use Rattle.read_salvage.proofs.Numbered.{refusal_some}
use Rattle.read_salvage.proofs.Alone.{alone_loose, alone_refused, alone_sound}
use Rattle.law_salvage.specs.Salvage.{Covers, entry_bytes, ReadsAsOne, SoundGroup}
use Rattle.layout.proofs.Elements.{all_append, all_flat_map, all_so}
use Rattle.read_salvage.proofs.Joined.{parts_joined}
use Rattle.law_salvage.proofs.Places.{entries_cover, entries_bytes, entries_all}
use Rattle.law_salvage.proofs.AsBody.{reads_exactly}
use Rattle.std.specs.Prelude.{Ok, Err}

-- ---- each part

record Fact (bytes : List ℕ) (size kind : ℕ) : Type 0 where
  some : 0 < size
  exact : (kind ≡ 0) ↔ SoundGroup bytes
  alone : salvage bytes ≡ record { place = 0; size = size; kind = kind } ∷ []
  told : length bytes ≤ 32768 → number_of (entry_judged bytes) ≡ kind
  whole : length bytes ≤ 32768 → kind ≡ 0 → entry_judged bytes ≡ granted size

abbrev Facts : List Part → Type 0
Facts ps = All (λ (p : Part). Fact p.bytes (length p.bytes) p.kind) ps

-- bytes that are one part are listed as one entry
listed_alone : (s : List ℕ) (kind : ℕ) → parts s ≡ record { bytes = s; kind = kind } ∷ [] → salvage s ≡ record { place = 0; size = length s; kind = kind } ∷ []
unfolding salvage entries_from
listed_alone s kind e = rw e

rest_facts : (s : List ℕ) → Free s → Facts (rest s)
unfolding rest number_of
rest_facts [] f = tt
rest_facts (b ∷ s) f = (
  record {
    some = zero-lt-suc (length s);
    exact = (λ h. absurd (omega arith), λ h. absurd (no_true (f 0) (sound_cseg (b ∷ s) h.edition h.text h.ctabs h.cntts h.sound)));
    alone = listed_alone (b ∷ s) 6 (rw (append-nil, parts_nil) at (parts_free (b ∷ s) [] f tt));
    told = λ l. rw (alone_loose (b ∷ s) l (f 0));
    whole = λ l h. absurd (omega arith);
  },
  tt,
)

-- the bytes of a sound group at the start of p, by themselves
taken_group : (p : List ℕ) (ed : Edition) (t n m : ℕ) → group_at p ≡ Sound ed t n m → SoundGroup (take (group_size p) p)
taken_group p ed t n m e =
    let l : length (take (group_size p) p) ≡ group_size p = length-take-le (group_size p) p (size_within p ed t n m e) in
    let z : group_size (take (group_size p) p) ≡ group_size p = rw append-nil at (size_own p [] ed t n m e) in
    record { edition = ed; text = t; ctabs = n; cntts = m; sound = rw append-nil at (sound_own p [] ed t n m e); whole = rw (l, z) }

taken_alone : (p : List ℕ) → Piece p → (ed : Edition) (t n m : ℕ) → group_at p ≡ Sound ed t n m
    → salvage (take (group_size p) p) ≡ record { place = 0; size = length (take (group_size p) p); kind = 0 } ∷ []
taken_alone p c ed t n m e =
    let g : List ℕ = take (group_size p) p in
    let s = taken_group p ed t n m e in
    let only : (k : ℕ) → cseg (drop (suc k) g) ≡ false = λ k. cseg_part (suc k) g (drop (group_size p) p) (rw take-append-drop (c.only k)) in
    listed_alone g 0 (rw (append-nil, parts_nil) at (parts_group g [] s.edition s.text s.ctabs s.cntts s.sound s.whole only (opens_apart g [] tt)))

-- judged alone they are accepted, with all of them
taken_judged : (p : List ℕ) (ed : Edition) (t n m : ℕ) → group_at p ≡ Sound ed t n m → length (take (group_size p) p) ≤ 32768
    → entry_judged (take (group_size p) p) ≡ granted (length (take (group_size p) p))
unfolding group_size
taken_judged p ed t n m e l =
    let g : List ℕ = take (group_size p) p in
    let s = taken_group p ed t n m e in
    rw s.whole at (alone_sound g l (sound_cseg g s.edition s.text s.ctabs s.cntts s.sound) s.edition s.text s.ctabs s.cntts (word g 4) s.sound refl)

-- past its start a piece has no CSEG
pub dropped_free : (p : List ℕ) → Piece p → (n : ℕ) → 0 < n → Free (drop n p)
dropped_free p c zero h k = absurd (not-suc-le-zero h)
dropped_free p c (suc n) h k = rw (drop-drop, suc-add) (c.only (n + k))

piece_some : (p : List ℕ) → Piece p → 0 < length p
piece_some [] c = absurd (no_cseg c.first)
piece_some (b ∷ p) c = zero-lt-suc (length p)

refused_alone : (p : List ℕ) → Piece p → (number place : ℕ) → group_at p ≡ Unsound number place → salvage p ≡ record { place = 0; size = length p; kind = number } ∷ []
unfolding judged listed
refused_alone p c number place e = listed_alone p number (rw (append-nil, parts_nil, e, listed) at (parts_piece p [] c tt))

listed_facts : (p : List ℕ) → Piece p → (v : Judged) → group_at p ≡ v → Facts (listed p v)
unfolding listed number_of
listed_facts p c (Ok x) e =
    let l : 8 < group_size p = size_some p x.edition x.text x.ctabs x.cntts e in
    let w : length (take (group_size p) p) ≡ group_size p = length-take-le (group_size p) p (size_within p x.edition x.text x.ctabs x.cntts e) in (
      record {
        some = rw w (omega arith);
        exact = (λ _. taken_group p x.edition x.text x.ctabs x.cntts e, λ _. refl);
        alone = taken_alone p c x.edition x.text x.ctabs x.cntts e;
        told = λ k. rw (taken_judged p x.edition x.text x.ctabs x.cntts e k);
        whole = λ k _. taken_judged p x.edition x.text x.ctabs x.cntts e k;
      },
      rest_facts (drop (group_size p) p) (dropped_free p c (group_size p) (omega arith)),
    )
listed_facts p c (Err why) e = (
  record {
    some = piece_some p c;
    exact = (λ h. absurd (omega (arith, refusal_some p why.number why.place e)), λ h. absurd (let q = h.sound in let z : ◌≡◌ {A = ℕ} 0 1 = cc in omega arith));
    alone = refused_alone p c why.number why.place e;
    told = λ l. rw (alone_refused p l c.first why.number why.place e);
    whole = λ l h. absurd (omega (arith, refusal_some p why.number why.place e));
  },
  tt,
)

judged_facts : (p : List ℕ) → Piece p → Facts (judged p)
unfolding judged
judged_facts p c = listed_facts p c (group_at p) refl

parts_facts : (s : List ℕ) → Facts (parts s)
unfolding parts
parts_facts s =
    all_append _ (rest (front s)) (flat_map judged (pieces s)) (rest_facts (front s) (front_is_free s))
    (all_flat_map Piece _ judged judged_facts (pieces s) (pieces_are s))

-- ---- each entry

-- the entries follow one another from place 0 to the body's length, and none is empty
pub entries_cover_body : (s : List ℕ) → Covers 0 (salvage s) (length s)
unfolding salvage
entries_cover_body s =
    rw (zero-add, parts_joined) at
    (entries_cover 0 (parts s) (all_so _ _ (λ (p : Part) (h : Fact p.bytes (length p.bytes) p.kind). h.some) (parts s) (parts_facts s)))

-- their bytes, one after the other, are the body
pub entries_give_back : (s : List ℕ) → flatten (map (entry_bytes s) (salvage s)) ≡ s
unfolding salvage
entries_give_back s =
    let q : map (entry_bytes s) (entries_from 0 (parts s)) ≡ map (λ (p : Part). p.bytes) (parts s) = rw parts_joined at (entries_bytes [] (parts s)) in
    rw q (parts_joined s)

entry_facts : (s : List ℕ) → All (λ (e : Entry). Fact (entry_bytes s e) e.size e.kind) (salvage s)
unfolding salvage
entry_facts s = rw parts_joined at (entries_all Fact [] (parts s) (parts_facts s))

-- an entry's bytes are no more than the body's
bytes_within : (s : List ℕ) (e : Entry) → length (entry_bytes s e) ≤ length s
unfolding entry_bytes
bytes_within s e = omega (arith, length-take e.size (drop e.place s), length-drop e.place s)

-- an entry has kind 0 exactly when its bytes read as one group
pub kinds_exact : (s : List ℕ) → length s ≤ 32768 → All (λ (e : Entry). (e.kind ≡ 0) ↔ ReadsAsOne (entry_bytes s e)) (salvage s)
kinds_exact s l = all_so _ _ exact (salvage s) (entry_facts s)
  where
    exact : (e : Entry) → Fact (entry_bytes s e) e.size e.kind → (e.kind ≡ 0) ↔ ReadsAsOne (entry_bytes s e)
    exact e h =
        let r = reads_exactly (entry_bytes s e) (omega (arith, bytes_within s e)) in
        (λ z. r.0 (h.exact.0 z), λ o. h.exact.1 (r.1 o))

-- an entry's bytes alone are listed as that entry, at place 0
pub entries_alone : (s : List ℕ) → All (λ (e : Entry). salvage (entry_bytes s e) ≡ record { place = 0; size = e.size; kind = e.kind } ∷ []) (salvage s)
entries_alone s = all_so _ _ (λ (e : Entry) (h : Fact (entry_bytes s e) e.size e.kind). h.alone) (salvage s) (entry_facts s)

-- judged alone, an entry's bytes have its kind as their number ..
pub entries_judged : (body : List ℕ) → length body ≤ 32768 → All (λ (e : Entry). number_of (entry_judged (entry_bytes body e)) ≡ e.kind) (salvage body)
entries_judged body l = all_so _ _ (λ (e : Entry) (h : Fact (entry_bytes body e) e.size e.kind). h.told (omega (arith, bytes_within body e))) (salvage body) (entry_facts body)

-- .. and an entry that is a group is accepted, with its own size
pub groups_judged : (body : List ℕ) → length body ≤ 32768 → All (λ (e : Entry). e.kind ≡ 0 → entry_judged (entry_bytes body e) ≡ granted e.size) (salvage body)
groups_judged body l = all_so _ _ (λ (e : Entry) (h : Fact (entry_bytes body e) e.size e.kind). h.whole (omega (arith, bytes_within body e))) (salvage body) (entry_facts body)

-- an answer that refuses with this place, and whose number is this kind
judged_as : (bytes : List ℕ) (number place kind : ℕ) → entry_judged bytes ≡ refused number place → number_of (entry_judged bytes) ≡ kind → entry_judged bytes ≡ refused kind place
unfolding number_of
judged_as bytes number place kind e k = e ∙ ap (λ (n : ℕ). refused n place) (ap number_of (sym e) ∙ k)

-- one that begins with CSEG and is no group is refused with its kind, where the group rules refuse its bytes ..
pub pieces_judged : (body : List ℕ) → length body ≤ 32768
    → All (λ (e : Entry). cseg (entry_bytes body e) ≡ true → (number place : ℕ) → group_at (entry_bytes body e) ≡ Unsound number place → entry_judged (entry_bytes body e) ≡ refused e.kind place) (salvage body)
pieces_judged body l = all_so _ _ placed (salvage body) (entry_facts body)
  where
    placed : (e : Entry) → Fact (entry_bytes body e) e.size e.kind → cseg (entry_bytes body e) ≡ true → (number place : ℕ) → group_at (entry_bytes body e) ≡ Unsound number place
        → entry_judged (entry_bytes body e) ≡ refused e.kind place
    placed e h c number place v =
        let k : length (entry_bytes body e) ≤ 32768 = omega (arith, bytes_within body e) in
        judged_as (entry_bytes body e) number place e.kind (alone_refused (entry_bytes body e) k c number place v) (h.told k)

-- .. and one that does not, at its start
pub loose_judged : (body : List ℕ) → length body ≤ 32768 → All (λ (e : Entry). cseg (entry_bytes body e) ≡ false → entry_judged (entry_bytes body e) ≡ refused e.kind 0) (salvage body)
loose_judged body l = all_so _ _ placed (salvage body) (entry_facts body)
  where
    placed : (e : Entry) → Fact (entry_bytes body e) e.size e.kind → cseg (entry_bytes body e) ≡ false → entry_judged (entry_bytes body e) ≡ refused e.kind 0
    placed e h c =
        let k : length (entry_bytes body e) ≤ 32768 = omega (arith, bytes_within body e) in
        judged_as (entry_bytes body e) 6 0 e.kind (alone_loose (entry_bytes body e) k c) (h.told k)
