-- Document 02, §1: a sound group with its Cntts in another order is the bytes of the same group renumbered. That is allowed, so it is read as it was written.
use Prim.Native.Nat.{ℕ, ◌+◌, ◌*◌, ◌<◌}
use mathlib.Core.Path.{◌≡◌, refl, sym, ap, ap₂, ◌∙◌}
use mathlib.Core.List.{List, [], ◌++◌, append_assoc, append-nil, flat_map}
use native.Mathlib.Omega.{arith}
use lib.ListN.{length, get_or, take, drop, length-append, length-drop, take-append-drop}
use lib.Seq.{take_at, drop_at, length-take-le}
use Rattle.layout.specs.Bytes.{CSEG, Sdec, four, chunk}
use Rattle.layout.specs.declared.edition.Edition.{Edition}
use Rattle.layout.specs.Group.{Sound}
use Rattle.layout.specs.Records.{blank}
use Rattle.layout.specs.Group.{ctab_place, payload, group_size, group_at, Group, group_of}
use Rattle.layout.specs.Write.{ctab_bytes, cntt_count, cntts_in, cntts_bytes, payload_bytes, group_bytes, first_edition, Allowed}
use Rattle.layout.proofs.Lists.{rows_length}
use Rattle.layout.proofs.Positions.{positions_right}
use Rattle.layout.proofs.GroupSound.{contents_sound_is, group_sound_is}
use Rattle.law_rounds.specs.Rounds.{Bytes}
use Rattle.law_rounds.specs.Rearranged.{Rearrangement, rearranged, RearrangedRead}
use Rattle.law_rounds.proofs.Blocks.{moved, flat_alike}
use Rattle.law_rounds.proofs.Chunks.{length_chunk}
use Rattle.law_rounds.proofs.CnttNumbers.{own_cntt, CnttNumbers, home_of, positions_number, counted, length_cntts, cntts_there, there_ten}
use Rattle.law_rounds.proofs.GroupRounds.{group_allowed, group_edition, group_counted, group_back, placed, group_read}
use Rattle.law_rounds.proofs.Renumbered.{renumbered, renumbered_numbers, renumbered_edition, renumbered_allowed, renumbered_same, renumbered_moved, renumbered_ctabs, renumbered_cntts}

-- ---- a group's bytes: what stands before its Cntts, where its payload has l bytes, and these

abbrev front : ℕ → List ℕ → List ℕ → List ℕ
front l text ctabs = CSEG ++ (four l ++ (chunk Sdec text ++ ctabs))

front_split : (g : Group) → group_bytes g ≡ front (length (payload_bytes g)) g.text (flat_map ctab_bytes g.records) ++ cntts_bytes g.records
unfolding group_bytes payload_bytes chunk
front_split g = simp append_assoc

-- ---- the Cntts of a sound group rearranged

module _ (p : List ℕ) (ed : Edition) (t n m : ℕ) (order : ℕ → ℕ) (b : Bytes p) (e : group_at p ≡ Sound ed t n m) (o : Rearrangement m order) where
  -- the group that is read
  abbrev g : Group
  g = group_of ed (payload p) t n m

  -- the record that has Cntt number j
  abbrev home : ℕ → ℕ
  home j = home_of (group_of ed (payload p) t n m).records j

  -- the group renumbered
  abbrev new : Group
  new = renumbered (group_of ed (payload p) t n m) m (λ j. home_of (group_of ed (payload p) t n m).records (order j))

  -- where the Cntts begin
  abbrev q : ℕ
  q = ctab_place ed (8 + t) n

  -- what stands before them
  abbrev before : List ℕ
  before = front (length (payload_bytes g)) g.text (flat_map ctab_bytes g.records)

  allowed : Allowed g
  allowed = group_allowed p ed t n m e

  text_size : length g.text ≡ t
  unfolding group_of
  text_size =
      let c = contents_sound_is (payload p) ed t n m (group_sound_is p ed t n m e).inside in
      length-take-le t (drop 8 (payload p)) (rw length-drop (omega (arith, c.cover)))

  records_size : length g.records ≡ n
  unfolding group_of
  records_size = rows_length _ 0 n

  numbers : CnttNumbers g.records m home
  numbers = rw (group_counted p ed t n m e) at (positions_number g.records (positions_right g.records allowed.positions))

  new_size : length new.records ≡ n
  new_size = sym (renumbered_same g m home order numbers o).count ∙ records_size

  new_numbers : CnttNumbers new.records m (λ j. home (order j))
  new_numbers = renumbered_numbers g m home order numbers o

  new_allowed : Allowed new
  new_allowed = renumbered_allowed g m home order numbers o allowed

  -- how many bytes the payload of the one and of the other has
  size_before : length (payload_bytes g) ≡ q + 10 * m
  size_before = (placed g allowed).cover ∙ rw (group_edition p ed t n m e, text_size, records_size, group_counted p ed t n m e)

  size_after : length (payload_bytes new) ≡ q + 10 * m
  size_after =
      (placed new new_allowed).cover ∙ rw (renumbered_edition g m home order numbers o, group_edition p ed t n m e, text_size, new_size, counted new.records m (λ j. home (order j)) new_numbers)

  -- ---- the bytes

  whole : p ≡ before ++ (cntts_bytes g.records ++ drop (group_size p) p)
  whole =
      sym (take-append-drop (group_size p) p) ∙ ap (λ x. x ++ drop (group_size p) p) (sym (group_back p ed t n m e b) ∙ front_split g)
      ∙ append_assoc before (cntts_bytes g.records) (drop (group_size p) p)

  before_size : length before ≡ 8 + q
  unfolding group_bytes
  before_size =
      let x = sym (length_chunk CSEG (payload_bytes g) refl) ∙ ap length (front_split g) ∙ length-append before (cntts_bytes g.records) in
      omega (arith, size_before, length_cntts g.records m home numbers)

  cntt_there : (j : ℕ) → j < m → take 10 (drop (8 + (q + 10 * order j)) p) ≡ own_cntt (get_or g.records (home (order j)) blank)
  cntt_there j l =
      ap (take 10) (moved p (8 + (q + 10 * order j)) (8 + q + 10 * order j) (omega arith))
      ∙ there_ten p (8 + q + 10 * order j) _
      (cntts_there g.records m home numbers p (8 + q) _ (ap (drop (8 + q)) whole ∙ drop_at before _ (8 + q) before_size) (order j) (o.within j l))

  same_size : length (payload_bytes new) ≡ length (payload_bytes g)
  same_size = size_after ∙ sym size_before

  bytes : rearranged p q m order ≡ group_bytes new
  unfolding rearranged
  bytes =
      ap₂ (λ x y. x ++ y) (ap (take (8 + q)) whole ∙ take_at before _ (8 + q) before_size)
      (flat_alike (λ j. take 10 (drop (8 + (q + 10 * order j)) p)) own_cntt (λ j. j) (λ j. get_or g.records (home (order j)) blank) m cntt_there)
      ∙ sym (front_split new
      ∙ ap₂ (λ x y. front x g.text y ++ cntts_bytes new.records) same_size (renumbered_ctabs g m home order numbers o)
      ∙ ap (λ x. before ++ x) (renumbered_cntts g m home order numbers o))

  -- ---- and what is read

  back : (group_at (group_bytes new) ≡ Sound ed t n m) × (group_of ed (payload (group_bytes new)) t n m ≡ new)
  back =
      let r = group_read new new_allowed [] in
      let k : r.cntts ≡ m =
      sym (group_counted (group_bytes new ++ []) _ _ _ _ r.sound) ∙ ap (λ (x : Group). cntts_in x.records) r.back ∙ counted new.records m (λ j. home (order j)) new_numbers in
      let d : first_edition new.records ≡ ed = renumbered_edition g m home order numbers o ∙ group_edition p ed t n m e in
      (rw (append-nil (group_bytes new), d, text_size, new_size, k) at r.sound, rw (append-nil (group_bytes new), d, text_size, new_size, k) at r.back)

  rearranged_read : RearrangedRead p ed t n m order
  unfolding cntt_count
  rearranged_read =
      let value : group_of ed (payload (rearranged p q m order)) t n m ≡ new = ap (λ x. group_of ed (payload x) t n m) bytes ∙ back.1 in
      record {
        sound = ap group_at bytes ∙ back.0;
        same = rw value (renumbered_same g m home order numbers o);
        moved = λ i v l s. rw value (renumbered_moved g m home order numbers o i (rw records_size l) (ap cntt_count s));
      }

-- "accept them in any order"
pub cntts_rearranged : (p : List ℕ) (e : Edition) (text n m : ℕ) (order : ℕ → ℕ) → Bytes p → group_at p ≡ Sound e text n m → Rearrangement m order → RearrangedRead p e text n m order
cntts_rearranged = rearranged_read
