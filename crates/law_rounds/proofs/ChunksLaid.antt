-- The chunks of a sound group as they stand in the bytes of a body: its header, its Sdec, its records and its Cntts, none of them but the header tagged CSEG.
use Prim.Native.Nat.{ℕ, ◌+◌, ◌*◌, ◌≤◌, ◌<◌}
use native.Mathlib.Omega.{arith}
use mathlib.Core.Path.{◌≡◌, refl, sym, ap, ◌∙◌}
use mathlib.Core.Bool.{true, false}
use mathlib.Core.List.{List}
use lib.ListN.{length, get_or, take, drop, length-drop}
use lib.Seq.{get_or-take, get_or-drop, drop-drop}
use Rattle.layout.specs.Lists.{same}
use Rattle.layout.specs.Bytes.{word, tag_at, tagged, CSEG, Sdec, Cntt}
use Rattle.layout.specs.Editions.{tag_of, size}
use Rattle.layout.specs.declared.edition.Edition.{Edition}
use Rattle.layout.specs.declared.edition.Edition.TheVariants.{First, Second}
use Rattle.layout.specs.Group.{head_fault, ctab_place, ctab_turn, ctabs_of, cntt_turn, cntts_of, payload, group_size, group_at}
use Rattle.layout.specs.Chunks.{step_at}
use Rattle.layout.specs.Group.{Sound}
use Rattle.layout.proofs.Same.{same_is}
use Rattle.layout.proofs.Numbers.{word_drop, word_take, tag_is}
use Rattle.layout.proofs.Heads.{head_sound}
use Rattle.layout.proofs.HeadsThere.{head_drop}
use Rattle.layout.proofs.Ctabs.{turn_more}
use Rattle.layout.proofs.Cntts.{cntt_turn_more}
use Rattle.layout.proofs.GroupPlaces.{payload_length}
use Rattle.layout.proofs.GroupSound.{Behind, contents_sound_is, cntts_of_lem, none_of, group_sound_is}
use Rattle.read_find.proofs.Sites.{step_whole}
use Rattle.law_rounds.proofs.Runs.{run_ran}

-- at p stands a chunk of so many bytes that is no group
pub record Plain (s : List ℕ) (p w : ℕ) : Type 0 where
  pub other : tagged s p CSEG ≡ false
  pub width : step_at s p ≡ w

-- a tag that is not CSEG
no_group_given : (s : List ℕ) (p : ℕ) (tag : List ℕ) → same tag CSEG ≡ false → tagged s p tag ≡ true → tagged s p CSEG ≡ false
unfolding tagged
no_group_given s p tag d e = rw (same_is (tag_at s p) tag e) d

sdec_other : same Sdec CSEG ≡ false
unfolding same
sdec_other = refl

ctab_other : (ed : Edition) → same (tag_of ed) CSEG ≡ false
unfolding same
ctab_other First = refl
ctab_other Second = refl

cntt_other : same Cntt CSEG ≡ false
unfolding same
cntt_other = refl

-- a tag of a part of the bytes that holds it
tag_within : (s : List ℕ) (a n x : ℕ) → x + 4 ≤ length (take n (drop a s)) → x + 4 ≤ n → a + x + 4 ≤ length s → tag_at (take n (drop a s)) x ≡ tag_at s (a + x)
tag_within s a n x h k l =
    tag_is (take n (drop a s)) x (get_or s (a + x) 0) (get_or s (a + x + 1) 0) (get_or s (a + x + 2) 0) (get_or s (a + x + 3) 0) h
    (back 0 x (a + x) (omega arith) (omega arith) (omega arith)) (back 1 (x + 1) (a + x + 1) (omega arith) (omega arith) (omega arith))
    (back 2 (x + 2) (a + x + 2) (omega arith) (omega arith) (omega arith)) (back 3 (x + 3) (a + x + 3) (omega arith) (omega arith) (omega arith))
    ∙ sym (tag_is s (a + x) (get_or s (a + x) 0) (get_or s (a + x + 1) 0) (get_or s (a + x + 2) 0) (get_or s (a + x + 3) 0) l refl refl refl refl)
  where
    back : (d y z : ℕ) → d < 4 → y ≡ x + d → z ≡ a + y → get_or s z 0 ≡ get_or (take n (drop a s)) y 0
    back d y z i e f = rw f (sym (get_or-take n (drop a s) y 0 (omega arith) ∙ get_or-drop a s y 0))

alike_tagged : (c s tag : List ℕ) (x y : ℕ) → tag_at c x ≡ tag_at s y → tagged c x tag ≡ true → tagged s y tag ≡ true
unfolding tagged
alike_tagged c s tag x y u v = rw (← u) v

-- a chunk of a part is one of the whole
part_plain : (s : List ℕ) (a n x k y : ℕ) (tag : List ℕ) → same tag CSEG ≡ false → length (take n (drop a s)) ≡ n → a + n ≤ length s
    → head_fault (take n (drop a s)) x tag ≡ 0 → word (take n (drop a s)) (x + 4) ≡ k → y ≡ a + x → Plain s y (8 + k)
part_plain s a n x k y tag d long fits h e q =
    let v = head_sound (take n (drop a s)) x tag h in
    let u : tag_at (take n (drop a s)) x ≡ tag_at s (a + x) = tag_within s a n x (omega (arith, v.1)) (omega (arith, v.1)) (omega (arith, v.1)) in
    let o : tagged s (a + x) CSEG ≡ false = no_group_given s (a + x) tag d (alike_tagged (take n (drop a s)) s tag x (a + x) u v.0) in
    let z : a + (x + 4) ≡ a + x + 4 = omega arith in
    let w : word s (a + x + 4) ≡ k = rw z at (sym (word_take (drop a s) n (x + 4) (omega (arith, v.1)) ∙ word_drop s a (x + 4)) ∙ e) in
    rw q (record { other = o; width = step_whole s (a + x) o ∙ ap (λ (l : ℕ). 8 + l) w })

-- what stands in a sound group at `at`: its header, its Sdec, n records and m Cntts
pub record Laid (s : List ℕ) (at : ℕ) (ed : Edition) (t n m : ℕ) : Type 0 where
  pub head : tagged s at CSEG ≡ true
  pub text : Plain s (at + 8) (8 + t)
  pub ctab : (i : ℕ) → i < n → Plain s (ctab_place ed (at + 16 + t) i) (8 + size ed)
  pub cntt : (j : ℕ) → j < m → Plain s (ctab_place ed (at + 16 + t) n + 10 * j) 10

-- the Cntts of contents c
behind_cntt : (c : List ℕ) (t n m : ℕ) (ed : Edition) → Behind c t n m ed → (j : ℕ) → j < m
    → (head_fault c (ctab_place ed (8 + t) n + 10 * j) Cntt ≡ 0) × (word c (ctab_place ed (8 + t) n + 10 * j + 4) ≡ 2)
unfolding cntts_of
behind_cntt c t n m First b j h =
    let k = cntt_turn_more c (8 + t) n (ctab_place First (8 + t) n) j ((run_ran (cntt_turn c (8 + t) n (ctab_place First (8 + t) n)) (length c + 1) m (cntts_of_lem c t n m b)).goes j h) in
    (k.head, k.size)
behind_cntt c t n m Second b j h = absurd (omega (arith, none_of c t n m b))

module _ (s : List ℕ) (at : ℕ) (ed : Edition) (t n m : ℕ) (l : at ≤ length s) (sound : group_at (drop at s) ≡ Sound ed t n m) where
  -- the group's contents
  abbrev inner : List ℕ
  inner = take (word s (at + 4)) (drop (at + 8) s)

  inner_is : payload (drop at s) ≡ inner
  unfolding payload
  inner_is = rw (word_drop s at 4, drop-drop 8 at s)

  pub group_laid : Laid s at ed t n m
  unfolding group_size ctabs_of
  group_laid =
      let g = group_sound_is (drop at s) ed t n m sound in
      let w = word_drop s at 4 in
      let long : length inner ≡ word s (at + 4) = rw inner_is at (payload_length (drop at s) g.within) ∙ w in
      let fits : at + 8 + word s (at + 4) ≤ length s = omega (arith, w, g.within, length-drop at s) in
      let is = contents_sound_is inner ed t n m (rw inner_is at g.inside) in
      let h : head_fault s at CSEG ≡ 0 = sym (head_drop s CSEG at l) ∙ g.head in
      record {
        head = (head_sound s at CSEG h).0;
        text = part_plain s (at + 8) (word s (at + 4)) 0 t (at + 8) Sdec sdec_other long fits is.tagged (sym is.text) (omega arith);
        ctab = λ i k.
            (let c = turn_more ed inner (8 + t) i ((run_ran (ctab_turn ed inner (8 + t)) (length inner + 1) n is.ctabs).goes i k) in
            part_plain s (at + 8) (word s (at + 4)) (ctab_place ed (8 + t) i) (size ed) (ctab_place ed (at + 16 + t) i) (tag_of ed) (ctab_other ed) long fits c.head c.length (omega arith));
        cntt = λ j k.
            (let c = behind_cntt inner t n m ed is.behind j k in
            part_plain s (at + 8) (word s (at + 4)) (ctab_place ed (8 + t) n + 10 * j) 2 (ctab_place ed (at + 16 + t) n + 10 * j) Cntt cntt_other long fits c.0 c.1 (omega arith));
      }
