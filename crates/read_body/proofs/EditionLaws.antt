-- The edition of a body as the pass over its groups comes to know it: the first group with records decides, and each later one with records is of it.
use Prim.Native.Nat.{ℕ, ◌+◌, ◌≤◌, ◌<◌}
use native.Mathlib.Omega.{arith}
use native.Mathlib.Decide.{dec_lt}
use mathlib.Core.Path.{◌≡◌, refl, sym, ap, ◌∙◌}
use mathlib.Core.Bool.{Bool, true, false, cond, not, ◌&&◌, true≢false}
use mathlib.Core.List.{List}
use lib.Dec.{ltb, eqb}
use lib.ListN.{drop, length-set}
use lib.Seq.{get_or-set_same, get_or-set_other}
use borrow.Author.Tests.{eq-eqb, ne_eqb, lt-ltb, le-ltb, ltb-false}
use Rattle.std.specs.Prelude.{Option, Some, None, unwrap_or}
use Rattle.std.specs.Option.{option_or}
use Rattle.layout.specs.Bytes.{word}
use Rattle.layout.specs.declared.edition.Edition.{Edition}
use Rattle.layout.specs.declared.edition.Edition.TheVariants.{First}
use Rattle.layout.specs.Editions.{alike}
use Rattle.layout.specs.Group.{Sound, payload}
use Rattle.layout.specs.Body.{group_place, judged_no, records_of, edition_in, fixing, unlike_body}
use Rattle.layout.specs.declared.turn.Inside.{Inside}
use Rattle.layout.proofs.Scans.{first_passed, first_within, first_kept, first_grown}
use Rattle.layout.proofs.Editions.{alike_is}
use Rattle.layout.proofs.GroupSound.{contents_sound_is, group_sound_is, empty_first}
use Rattle.read_body.specs.declared.groups.Counts.{Counts}
use Rattle.read_body.specs.declared.groups.Groups.{Groups}
use Rattle.read_body.specs.Known.{Fixed, unlike, edition_after, edition_with, with_group, counts_no, Insides}

not_not : (b : Bool) → not b ≡ false → b ≡ true
not_not true h = refl
not_not false h = absurd (true≢false h)

and_none : (b : Bool) → b && false ≡ false
and_none true = refl
and_none false = refl

-- an edition that is known is not unknown
known_not : {A : Type 0} (e : Edition) → Some e ≡ None → A
known_not e h = absurd (let z : ◌≡◌ {A = ℕ} 0 1 = cc in omega arith)

unknown_not : {A : Type 0} (e : Edition) → None ≡ Some e → A
unknown_not e h = absurd (let z : ◌≡◌ {A = ℕ} 0 1 = cc in omega arith)

-- ---- the tests of the code

module _ (body : Option Edition) (e : Edition) (c : ℕ) where
  pub after_none : c ≡ 0 → body ≡ edition_after body e c
  unfolding edition_after
  after_none h = go body
    where
      go : (b : Option Edition) → b ≡ edition_after b e c
      go None = rw (eq-eqb c 0 h)
      go (Some b) = refl

  pub after_some : (c ≡ 0 → ⊥) → option_or body (Some e) ≡ edition_after body e c
  unfolding edition_after
  after_some h = go body
    where
      go : (b : Option Edition) → option_or b (Some e) ≡ edition_after b e c
      go None = rw (ne_eqb c 0 h)
      go (Some b) = refl

  pub unlike_unknown : body ≡ None → unlike body e c ≡ false
  unfolding unlike
  unlike_unknown h = rw h

  module _ (b : Edition) (h : body ≡ Some b) where
    pub unlike_empty : c ≡ 0 → unlike body e c ≡ false
    unfolding unlike
    unlike_empty z = rw (h, z)

    pub unlike_by : (c ≡ 0 → ⊥) → unlike body e c ≡ not (alike b e)
    unfolding unlike
    unlike_by z = rw (h, lt-ltb 0 c (omega arith))

-- ---- what is known after n groups

module _ (s : List ℕ) where
  pub fixed_start : Fixed s 0 None
  fixed_start = record { none = λ h. omega arith; some = λ e h. unknown_not e h }

  module _ (n : ℕ) (body : Option Edition) (so : Fixed s n body) where
    -- what is asked of the body is asked of what is known
    pub unlike_body_lem : (e : Edition) (c : ℕ) → unlike_body s n e c ≡ unlike body e c
    unfolding unlike_body unlike
    unlike_body_lem e c = go body refl
      where
        go : (b : Option Edition) → body ≡ b → (ltb 0 c && (ltb (fixing s n) n && not (alike (edition_in (judged_no s (fixing s n))) e))) ≡ unlike b e c
        go None h = rw (le-ltb (fixing s n) n (so.none h)) (and_none (ltb 0 c))
        go (Some b) h = rw (lt-ltb (fixing s n) n (so.some b h).0, ← (so.some b h).1) refl

    -- no group has records where none is known to have
    none_yet : body ≡ None → (k : ℕ) → k < n → records_of (judged_no s k) ≡ 0
    unfolding fixing
    none_yet h k l =
        let w : n ≤ fixing s n = so.none h in
        let q : ltb 0 (records_of (judged_no s k)) ≡ false = first_passed (λ j. ltb 0 (records_of (judged_no s j))) n k (omega arith) in
        let z : records_of (judged_no s k) ≤ 0 = ltb-false _ _ q in
        omega arith

    -- one group more
    module _ (e : Edition) (t c m : ℕ) (sound : judged_no s n ≡ Sound e t c m) where
      abbrev has : ℕ → Bool
      has k = ltb 0 (records_of (judged_no s k))

      has_here : has n ≡ ltb 0 c
      unfolding records_of
      has_here = rw (sound, records_of)

      edition_here : edition_in (judged_no s n) ≡ e
      unfolding edition_in
      edition_here = rw (sound, edition_in)

      pub fixed_next : Fixed s (n + 1) (edition_after body e c)
      unfolding fixing edition_after
      fixed_next = go body refl (dec_lt 0 c)
        where
          grown : body ≡ None → fixing s (n + 1) ≡ cond (ltb 0 c) n (n + 1)
          grown h = let w : n ≤ fixing s n = so.none h in first_grown has n (omega (arith, first_within has n)) ∙ rw has_here refl

          go : (b : Option Edition) → body ≡ b → Dec (0 < c) → Fixed s (n + 1) (edition_after b e c)
          go (Some b) h d =
              let w = so.some b h in
              let q : fixing s (n + 1) ≡ fixing s n = first_kept has n w.0 in
              record { none = λ x. known_not b x; some = λ f x. (let y : b ≡ f = cc in (omega (arith, q, w.0), rw (q, ← y) w.1)) }
          go None h (yes l) =
              let q : fixing s (n + 1) ≡ n = grown h ∙ rw (lt-ltb 0 c l) refl in
              rw (ne_eqb c 0 (λ z. absurd (omega arith)))
              (record { none = λ x. known_not e x; some = λ f x. (let y : e ≡ f = cc in (omega (arith, q), rw (q, ← y) (sym edition_here))) })
          go None h (no l) =
              let q : fixing s (n + 1) ≡ n + 1 = grown h ∙ rw (le-ltb 0 c (omega arith)) refl in
              rw (eq-eqb c 0 (omega arith)) (record { none = λ x. omega (arith, q); some = λ f x. unknown_not f x })

      -- the group itself is of the edition after it
      own_edition : unlike_body s n e c ≡ false → edition_with (edition_after body e c) c ≡ e
      unfolding edition_with edition_after unlike
      own_edition like = go (dec_lt 0 c) body refl
        where
          go : Dec (0 < c) → (b : Option Edition) → body ≡ b → cond (eqb c 0) First (unwrap_or (edition_after b e c) First) ≡ e
          go (no l) b h =
              let z : c ≡ 0 = omega arith in
              rw (eq-eqb c 0 z) (sym (empty_first (payload (drop (group_place s n) s)) e t m
              (contents_sound_is (payload (drop (group_place s n) s)) e t 0 m (rw z at (group_sound_is (drop (group_place s n) s) e t c m sound).inside))))
          go (yes l) (Some b) h =
              let u : (ltb 0 c && not (alike b e)) ≡ false = ap (λ (x : Option Edition). unlike x e c) (sym h) ∙ (sym (unlike_body_lem e c) ∙ like) in
              rw (ne_eqb c 0 (λ z. absurd (omega arith))) (alike_is b e (not_not (alike b e) (rw (lt-ltb 0 c l) at u)))
          go (yes l) None h = rw (ne_eqb c 0 (λ z. absurd (omega arith))) refl

      -- the groups before are of it, too
      old_edition : (k d m : ℕ) → k < n → judged_no s k ≡ Sound (edition_with body d) (word s (group_place s k + 12)) d m → edition_with (edition_after body e c) d ≡ edition_with body d
      unfolding edition_with edition_after records_of
      old_edition k d m l h = go body refl
        where
          none : body ≡ None → d ≡ 0
          none q = sym (rw (h, records_of) refl) ∙ none_yet q k l

          go : (b : Option Edition) → body ≡ b → cond (eqb d 0) First (unwrap_or (edition_after b e c) First) ≡ cond (eqb d 0) First (unwrap_or b First)
          go (Some b) q = refl
          go None q = rw (eq-eqb d 0 (none q)) refl

  -- the tables with one group more
  module _ (t : Groups) (so : Fixed s t.count t.edition) (at text : ℕ) (x : Inside) (sound : judged_no s t.count ≡ Sound x.edition text x.ctabs x.cntts) where
    abbrev new : Counts
    new = record { ctabs = x.ctabs; cntts = x.cntts }

    abbrev none : Counts
    none = record { ctabs = 0; cntts = 0 }

    pub insides_next : Insides s t.count t → t.count < 32 → text ≡ word s (group_place s t.count + 12) → unlike_body s t.count x.edition x.ctabs ≡ false → Insides s (t.count + 1) (with_group t at x)
    insides_next inside l here like = record { size = length-set t.counts t.count new ∙ inside.size; sound = λ k a. go k a (dec_lt k t.count) }
      where
        go : (k : ℕ) → k < t.count + 1 → Dec (k < t.count)
            → judged_no s k ≡ Sound (edition_with (edition_after t.edition x.edition x.ctabs) (counts_no (with_group t at x) k).ctabs) (word s (group_place s k + 12)) (counts_no (with_group t at x) k).ctabs (counts_no (with_group t at x) k).cntts
        go k a (yes b) =
            let q : k ≡ t.count → ⊥ = λ x. absurd (omega arith) in
            rw (get_or-set_other t.counts t.count k new none q, old_edition t.count t.edition so x.edition text x.ctabs x.cntts sound k _ _ b (inside.sound k b)) (inside.sound k b)
        go k a (no b) =
            let q : k ≡ t.count = omega arith in
            rw (q, get_or-set_same t.counts t.count new none (omega (arith, inside.size)), own_edition t.count t.edition so x.edition text x.ctabs x.cntts sound like, ← here) sound
