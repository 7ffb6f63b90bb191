-- A plan is what the definition of writing answers: the refusal, or the group's length.
use Prim.Native.Nat.{ℕ, zero, suc, ◌+◌, ◌*◌, ◌≤◌, ◌<◌}
use mathlib.Core.Path.{◌≡◌, refl, sym, ◌∙◌, ap, ap₂}
use mathlib.Core.Logic.{◌⊎◌, inl, inr}
use mathlib.Core.Bool.{Bool, true, false, cond}
use mathlib.Core.List.{List, [], ◌∷◌, ◌++◌, flat_map}
use native.Mathlib.Omega.{arith}
use native.Mathlib.Decide.{dec_lt}
use lib.Dec.{ltb}
use lib.ListN.{length, get_or, take, length-append}
use lib.Seq.{get_or-take, length-take-le}
use borrow.Author.Tests.{lt-ltb, le-ltb, ltb-true, ltb-false}
use Rattle.layout.specs.declared.edition.Edition.{Edition}
use Rattle.layout.specs.declared.edition.Edition.TheVariants.{First, Second}
use Rattle.layout.specs.declared.record.Record.{Record}
use Rattle.std.specs.Prelude.{Ok, Err}
use Rattle.layout.specs.declared.turn.Refusal.{Refusal}
use Rattle.layout.specs.Scan.{Ended, run}
use Rattle.layout.specs.Bytes.{four, chunk}
use Rattle.layout.specs.Answers.{refused, granted, after_run}
use Rattle.layout.specs.Editions.{tag_of, size as size_of, closing}
use Rattle.layout.specs.Records.{blank, bytes_of, channel_of, form_edition, edition_of, file_bytes}
use Rattle.layout.specs.Sdec.{sound_text}
use Rattle.layout.specs.Write.{ctab_bytes, cntts_bytes, payload_bytes, group_bytes, wrong_positions, first_edition, record_turn, records_run, group_from, written}
use Rattle.layout.proofs.Editions.{closed_length}
use Rattle.layout.proofs.Records.{bytes_length}
use Rattle.layout.proofs.Runs.{run_end}
use Rattle.layout.proofs.Sixteen.{at_most_sixteen}
use Rattle.write_plan.specs.declared.Taken.{Taken}
use Rattle.write_plan.specs.declared.Checked.{Checked}
use Rattle.write_plan.specs.Chunks.{cntts_down}
use Rattle.write_plan.specs.Checking.{Looks, Plans, no_cntts, refused_at, records_in, taken, taken_at, OneEdition, no_plan, planned, plan_of}
use Rattle.write_plan.proofs.Seen.{seen_start}
use Rattle.write_plan.proofs.Looking.{begun_many, begun_bad, begun_sound, planned_not, planned_wrong, planned_short, planned_fits}
use Rattle.write_plan.proofs.Down.{cntts_length}
use Rattle.write_plan.proofs.Slots.{down_start, down_few, down_wrong, down_is}
use Rattle.write_plan.proofs.Running.{Going, Halted, going}

-- ---- the group's length

chunk_length : (e : Edition) (b : List ℕ) → length (chunk (tag_of e) b) ≡ 8 + length b
unfolding chunk four
chunk_length First b = omega arith
chunk_length Second b = omega arith

pub ctab_length : (r : Record) → length (ctab_bytes r) ≡ 8 + size_of (edition_of r)
unfolding ctab_bytes file_bytes
ctab_length r = omega (arith, chunk_length (edition_of r) (bytes_of r ++ closing (edition_of r)), closed_length (edition_of r) (bytes_of r) (bytes_length r))

pub ctabs_length : (e : Edition) (rs : List Record) → OneEdition e rs (length rs) → length (flat_map ctab_bytes rs) ≡ (8 + size_of e) * length rs
unfolding flat_map
ctabs_length e [] h = omega arith
ctabs_length e (r ∷ rs) h =
    omega (arith, length-append (ctab_bytes r) (flat_map ctab_bytes rs), ctab_length r, ap size_of (h 0 (omega arith)), ctabs_length e rs (λ i l. h (suc i) (omega arith)))

pub group_length : (text : List ℕ) (e : Edition) (rs : List Record) → OneEdition e rs (length rs)
    → length (group_bytes (record { text = text; records = rs })) ≡ 16 + length text + (8 + size_of e) * length rs + length (cntts_bytes rs)
unfolding group_bytes payload_bytes chunk four
group_length text e rs h =
    let a = length-append (flat_map ctab_bytes rs) (cntts_bytes rs) in
    let b = length-append text (flat_map ctab_bytes rs ++ cntts_bytes rs) in
    omega (arith, a, b, ctabs_length e rs h)

-- the first of a table's records are of the edition that they have in it
pub editions_take : (e : Edition) (rs : List Record) (n : ℕ) → n ≤ length rs → OneEdition e rs n → OneEdition e (take n rs) (length (take n rs))
editions_take e rs n h all i l =
    let z : i < n = omega (arith, length-take-le n rs h) in
    all i z ∙ ap edition_of (sym (get_or-take n rs i blank z))

-- ---- what a plan says

-- refused, as writing is
pub record NotPlanned (text : List ℕ) (table : List Record) (count room : ℕ) (p : Plans) : Type 0 where
  pub why : Refusal
  pub plan : p ≡ Err why
  pub answer : written text table count room ≡ refused why.number why.place

-- accepted, and the group fits
pub record Planned (text : List ℕ) (table : List Record) (count room : ℕ) (p : Plans) : Type 0 where
  pub edition : Edition
  pub seconds : ℕ
  pub cntts : List ℕ
  pub plan : p ≡ Ok (record { records = count; edition = edition; length = length (group_bytes (group_from text table count)); seconds = seconds; cntts = cntts })
  pub within : count ≤ length table
  pub editions : OneEdition edition table count
  pub few : seconds ≤ 16
  pub down : cntts_down cntts seconds ≡ cntts_bytes (take count table)
  pub fits : length (group_bytes (group_from text table count)) ≤ room
  pub answer : written text table count room ≡ granted (group_bytes (group_from text table count))

edition_in : Looks → Edition
edition_in (Ok x) = x.edition
edition_in (Err why) = First

-- the records past the count are not looked at
looked_take : (t : Taken) (rs : List Record) (n i : ℕ) → i ≤ n → taken_at t rs i ≡ taken_at t (take n rs) i
unfolding taken_at
looked_take t rs n zero h = refl
looked_take t rs n (suc i) h = ap₂ (λ (a : Taken) (r : Record). taken a i r) (looked_take t rs n i (omega arith)) (sym (get_or-take n rs i blank (omega arith)))

module _ (text : List ℕ) (table : List Record) (count room : ℕ) where
  abbrev Says : Plans → Type 0
  Says p = NotPlanned text table count room p ⊎ Planned text table count room p

  many : length table < count → Says (plan_of text table count room)
  unfolding plan_of records_in taken_at written
  many h =
      let e : plan_of text table count room ≡ no_plan 16 0 = rw (begun_many text (length table) count h) (planned_not (record { checked = refused_at 16 0; cntts = no_cntts }) room _ refl) in
      inl (record { why = _; plan = e; answer = rw (lt-ltb (length table) count h) })

  bad : count ≤ length table → sound_text text ≡ false → Says (plan_of text table count room)
  unfolding plan_of records_in taken_at written
  bad h f =
      let e : plan_of text table count room ≡ no_plan 8 0 = rw (begun_bad text (length table) count h f) (planned_not (record { checked = refused_at 8 0; cntts = no_cntts }) room _ refl) in
      inl (record { why = _; plan = e; answer = rw (le-ltb (length table) count h, f) })

  module _ (h : count ≤ length table) (f : sound_text text ≡ true) where
    abbrev rs : List Record
    rs = take count table

    abbrev begins : Taken
    begins = record { checked = Ok (record { records = count; edition = First; length = 16 + length text; seen = 0; seconds = 0; reach = 0 }); cntts = no_cntts }

    abbrev ends : Taken
    ends = taken_at begins rs count

    long : length rs ≡ count
    long = length-take-le count table h

    looks : plan_of text table count room ≡ planned ends room
    unfolding plan_of records_in
    looks = rw (begun_sound text (length table) count h f) (ap (λ (t : Taken). planned t room) (looked_take begins table count count (omega arith)))

    answers : written text table count room
        ≡ after_run (run (record_turn rs) 0 (length rs)) (λ n. cond (wrong_positions rs) (refused 18 0) (cond (ltb room (length (group_bytes (group_from text table count)))) (refused 14 0) (granted (group_bytes (group_from text table count)))))
    unfolding written records_run
    answers = rw (le-ltb (length table) count h, f)

    halted : Halted rs ends.checked → Says (plan_of text table count room)
    unfolding after_run
    halted a =
        inl (record {
          why = a.why;
          plan = looks ∙ planned_not ends room a.why a.refused;
          answer = answers ∙ rw (a.stopped, after_run);
        })

    module _ (g : Going rs (16 + length text) count ends) where
      abbrev x : Checked
      x = g.so_far

      few : count ≤ 16
      few = at_most_sixteen _ count g.channels

      -- the edition of the first is that of the plan; where there is none, it is the first edition
      edition : x.edition ≡ first_edition rs
      unfolding taken_at first_edition form_edition edition_in
      edition = go count g.accepted g.edition
        where
          go : (m : ℕ) → (taken_at begins (take m table) m).checked ≡ Ok x → ((m ≡ 0 → ⊥) → x.edition ≡ first_edition (take m table)) → x.edition ≡ first_edition (take m table)
          go zero e h = ap edition_in (sym e)
          go (suc m) e h = h (λ z. omega arith)

      editions : OneEdition x.edition table count
      editions i l = edition ∙ (g.editions i l ∙ ap edition_of (get_or-take count table i blank l))

      ended : run (record_turn rs) 0 (length rs) ≡ Ended count
      ended = g.rest ∙ run_end (record_turn rs) count (length rs) long

      wrong : ltb x.seconds x.reach ≡ wrong_positions rs
      wrong = down_wrong rs count _ _ _ long few g.down

      -- positions are wrong
      misplaced : wrong_positions rs ≡ true → Says (plan_of text table count room)
      unfolding after_run
      misplaced e =
          inl (record {
            why = _;
            plan = looks ∙ planned_wrong ends room x g.accepted (ltb-true _ _ (wrong ∙ e));
            answer = answers ∙ rw (ended, after_run) (rw e);
          })

      -- they are right
      module _ (e : wrong_positions rs ≡ false) where
        right : x.reach ≤ x.seconds
        right = ltb-false _ _ (wrong ∙ e)

        down : cntts_down ends.cntts x.seconds ≡ cntts_bytes rs
        down = down_is rs count _ _ _ long few g.down e

        size : x.length ≡ length (group_bytes (group_from text table count))
        size =
            let whole = rw long at (group_length text (first_edition rs) rs (λ i l. g.editions i (omega (arith, long)))) in
            omega (arith, g.size, whole, ap length down, cntts_length ends.cntts x.seconds)

        plan_with : ℕ → ℕ → Plans
        plan_with m l = Ok (record { records = m; edition = x.edition; length = l; seconds = x.seconds; cntts = ends.cntts })

        placed : Says (plan_of text table count room)
        unfolding after_run plan_with
        placed = go (dec_lt room (length (group_bytes (group_from text table count))))
          where
            go : Dec (room < length (group_bytes (group_from text table count))) → Says (plan_of text table count room)
            go (yes l) =
                inl (record {
                  why = _;
                  plan = looks ∙ planned_short ends room x g.accepted right (rw size l);
                  answer = answers ∙ rw (ended, after_run) (rw (e, lt-ltb room (length (group_bytes (group_from text table count))) l));
                })
            go (no l) =
                let fits : length (group_bytes (group_from text table count)) ≤ room = omega arith in
                inr (record {
                  plan = looks ∙ (planned_fits ends room x g.accepted right (rw size fits) ∙ ap₂ (λ (m l : ℕ). plan_with m l) (g.records ∙ long) size);
                  edition = x.edition;
                  seconds = x.seconds;
                  cntts = ends.cntts;
                  within = h;
                  editions = editions;
                  few = down_few rs count _ _ _ long few g.down;
                  down = down;
                  fits = fits;
                  answer = answers ∙ rw (ended, after_run) (rw (e, le-ltb room (length (group_bytes (group_from text table count))) fits));
                })

      whole : Says (plan_of text table count room)
      whole = go (wrong_positions rs) refl
        where
          go : (t : Bool) → wrong_positions rs ≡ t → Says (plan_of text table count room)
          go true e = misplaced e
          go false e = placed e

    starts : Going rs (16 + length text) 0 begins
    starts =
        record {
          so_far = _;
          accepted = refl;
          records = sym long;
          edition = λ z. absurd (z refl);
          editions = λ j l. absurd (omega arith);
          seen = seen_start (λ j. channel_of (get_or rs j blank));
          channels = record { low = λ i l. absurd (omega arith); apart = λ i j k l. absurd (omega arith) };
          down = down_start rs;
          size = omega arith;
          rest = refl;
        }

    sound : Says (plan_of text table count room)
    sound = go (going rs (16 + length text) begins starts count (omega (arith, long)))
      where
        go : Going rs (16 + length text) count ends ⊎ Halted rs ends.checked → Says (plan_of text table count room)
        go (inl g) = whole g
        go (inr a) = halted a

  pub plan_says : Says (plan_of text table count room)
  plan_says = go (dec_lt (length table) count) (sound_text text) refl
    where
      go : Dec (length table < count) → (b : Bool) → sound_text text ≡ b → Says (plan_of text table count room)
      go (yes l) b e = many l
      go (no l) false e = bad (omega arith) e
      go (no l) true e = sound (omega arith) e
