-- What the steps of the writer leave in the buffer is what the definition writes there.
use Prim.Native.Nat.{ℕ, ◌+◌, ◌*◌, ◌-◌, ◌≤◌, ◌<◌}
use mathlib.Core.Path.{◌≡◌, refl, sym, ◌∙◌, ap, ap₂}
use mathlib.Core.Logic.{◌⊎◌, inl, inr}
use mathlib.Core.List.{List, ◌++◌, flat_map, append_assoc}
use native.Mathlib.Omega.{arith}
use native.Mathlib.Decide.{dec_lt}
use lib.ListN.{length, get_or, take, drop, length-append}
use lib.Seq.{take-take, take-append-le, drop_at, length-take-le}
use Rattle.std.specs.Prelude.{Ok, Err}
use Rattle.layout.specs.declared.edition.Edition.{Edition}
use Rattle.layout.specs.declared.record.Record.{Record}
use Rattle.layout.specs.Bytes.{CSEG, Sdec, four, chunk}
use Rattle.layout.specs.Answers.{number_of, place_of, value_or, lent_after, measured}
use Rattle.layout.specs.Edit.{replaced}
use Rattle.layout.specs.Editions.{size}
use Rattle.layout.specs.Group.{ctab_place}
use Rattle.layout.specs.Records.{blank, edition_of}
use Rattle.layout.specs.Write.{ctab_bytes, cntts_bytes, payload_bytes, group_bytes, first_edition, group_from}
use Rattle.layout.specs.Promises.{GroupWritten}
use Rattle.layout.proofs.Replaced.{replaced_start, replaced_length, replaced_twice}
use Rattle.write_plan.specs.declared.Plan.{Plan}
use Rattle.write_plan.specs.Chunks.{cntts_down, framed}
use Rattle.write_plan.specs.Checking.{Plans, OneEdition, plan_of, measured_by, start_place, start_bytes}
use Rattle.write_plan.proofs.Down.{cntts_length}
use Rattle.write_chunks.proofs.Putting.{place_within}
use Rattle.write_plan.proofs.Planning.{ctabs_length, group_length, editions_take, NotPlanned, Planned, plan_says}

-- what is so of every plan: each step has the room that it asks for
pub record PlanFits (text : List ℕ) (rs : List Record) (room : ℕ) (p : Plan) : Type 0 where
  pub start : (16 + length text ≤ p.length) × (p.length ≤ room)
  pub within : p.records ≤ length rs
  pub editions : OneEdition p.edition rs p.records
  pub chunks : ctab_place p.edition (start_place text (Ok p)) p.records + 10 * p.seconds ≤ room
  pub few : p.seconds ≤ 16

abbrev accepting : List ℕ → List Record → ℕ → Edition → ℕ → List ℕ → Plan
accepting text rs count edition seconds cntts =
    record { records = count; edition = edition; length = length (group_bytes (group_from text rs count)); seconds = seconds; cntts = cntts }

module _ (text : List ℕ) (rs : List Record) (count : ℕ) (h : count ≤ length rs) (e : Edition) (same : OneEdition e rs count) (seconds : ℕ) (cntts : List ℕ) (down : cntts_down cntts seconds ≡ cntts_bytes (take count rs)) where
  ctabs_long : length (flat_map ctab_bytes (take count rs)) ≡ (8 + size e) * count
  ctabs_long = rw (length-take-le count rs h) at (ctabs_length e (take count rs) (editions_take e rs count h same))

  whole_length : length (group_bytes (group_from text rs count)) ≡ ctab_place e (16 + length text) count + 10 * seconds
  whole_length =
      let l = rw (length-take-le count rs h) at (group_length text e (take count rs) (editions_take e rs count h same)) in
      omega (arith, l, ap length down, cntts_length cntts seconds)

  whole_fits : (room : ℕ) → seconds ≤ 16 → length (group_bytes (group_from text rs count)) ≤ room → PlanFits text rs room (accepting text rs count e seconds cntts)
  unfolding start_place
  whole_fits room few f =
      let l = whole_length in
      record { start = (omega (arith, l), f); within = h; editions = same; chunks = omega (arith, l, f); few = few }

plan_in : Plans → Plan → Plan
plan_in (Ok p) q = p
plan_in (Err why) q = q

pub plan_fits : (text : List ℕ) (rs : List Record) (count room : ℕ) (plan : Plans) → plan ≡ plan_of text rs count room → (p : Plan) → plan ≡ Ok p → PlanFits text rs room p
unfolding plan_in
plan_fits text rs count room plan e p is = go (plan_says text rs count room)
  where
    go : NotPlanned text rs count room (plan_of text rs count room) ⊎ Planned text rs count room (plan_of text rs count room) → PlanFits text rs room p
    go (inl a) = let z : ◌≡◌ {A = Plans} (Ok p) (Err a.why) = sym is ∙ (e ∙ a.plan) in absurd cc
    go (inr b) =
        let z = ap (λ (x : Plans). plan_in x p) (sym is ∙ (e ∙ b.plan)) in
        rw z (whole_fits text rs count b.within b.edition b.editions b.seconds b.cntts b.down room b.few b.fits)

-- its records are of the edition of the first, and have the room that they ask for: so for the first m of them; where there are none, their edition plays no part
place_none : (e f : Edition) (at n : ℕ) → n ≡ 0 → ctab_place e at n ≡ ctab_place f at n
place_none e f at n h = rw h (omega arith)

pub fits_first : (text : List ℕ) (rs : List Record) (room : ℕ) (p : Plan) → PlanFits text rs room p → (m : ℕ) → m ≤ p.records
    → OneEdition (first_edition rs) rs m × (ctab_place (first_edition rs) (start_place text (Ok p)) m ≤ room)
unfolding first_edition
fits_first text rs room p f m h = go (dec_lt 0 m)
  where
    within : ctab_place p.edition (start_place text (Ok p)) m ≤ room
    within = omega (arith, place_within p.edition (start_place text (Ok p)) m p.records h, f.chunks)

    go : Dec (0 < m) → OneEdition (edition_of (get_or rs 0 blank)) rs m × (ctab_place (edition_of (get_or rs 0 blank)) (start_place text (Ok p)) m ≤ room)
    go (yes a) =
        let z : edition_of (get_or rs 0 blank) ≡ p.edition = sym (f.editions 0 (omega arith)) in
        (λ i l. z ∙ f.editions i (omega arith), rw z within)
    go (no a) =
        let z = place_none (edition_of (get_or rs 0 blank)) p.edition (start_place text (Ok p)) m (omega arith) in
        (λ i l. absurd (omega arith), omega (arith, z, within))

-- ---- the buffer

-- bytes b behind the room of a, and then a, are a ++ b
replaced_ahead : (s : List ℕ) (k : ℕ) (a b : List ℕ) → k + length a ≤ length s → replaced (replaced s (k + length a) b) k a ≡ replaced s k (a ++ b)
unfolding replaced
replaced_ahead s k a b h =
    let n : ℕ = k + length a in
    let rest : List ℕ = b ++ drop (n + length b) s in
    let l : length (take n s) ≡ n = length-take-le n s h in
    let front : take k (take n s ++ rest) ≡ take k s = take-append-le k (take n s) rest (omega (arith, l)) ∙ take-take k n s (omega arith) in
    let z : n + length b ≡ k + length (a ++ b) = omega (arith, length-append a b) in
    ap₂ (λ (x y : List ℕ). x ++ (a ++ y)) front (drop_at (take n s) rest n l ∙ ap (λ (m : ℕ). b ++ drop m s) z)
    ∙ ap (λ (x : List ℕ). take k s ++ x) (sym (append_assoc a b (drop (k + length (a ++ b)) s)))

-- the start, the part behind the room of the middle one, and the middle one
steps : (a b d out : List ℕ) (i : ℕ) → length a ≡ i → i + length b ≤ length out → replaced (replaced (replaced out 0 a) (i + length b) d) i b ≡ (a ++ (b ++ d)) ++ drop (length (a ++ (b ++ d))) out
steps a b d out i e f =
    let y : i ≡ 0 + length a = omega (arith, e) in
    replaced_ahead (replaced out 0 a) i b d (omega (arith, replaced_length out 0 a (omega arith)))
    ∙ (ap (λ (k : ℕ). replaced (replaced out 0 a) k (b ++ d)) y ∙ (replaced_twice out 0 a (b ++ d) (omega arith) ∙ replaced_start out (a ++ (b ++ d))))

-- the frame, and the Ctabs in the room left for them
abbrev pub buffer : List ℕ → List Record → List ℕ → Plan → List ℕ
buffer text rs out p = replaced (framed text (Ok p) out) (start_place text (Ok p)) (flat_map ctab_bytes (take p.records rs))

module _ (text : List ℕ) (rs : List Record) (out : List ℕ) where
  module _ (count : ℕ) (h : count ≤ length rs) (e : Edition) (same : OneEdition e rs count) (seconds : ℕ) (cntts : List ℕ) (down : cntts_down cntts seconds ≡ cntts_bytes (take count rs)) (room : length (group_bytes (group_from text rs count)) ≤ length out) where
    abbrev front : List ℕ
    front = CSEG ++ (four (length (group_bytes (group_from text rs count)) - 8) ++ chunk Sdec text)

    abbrev ctabs : List ℕ
    ctabs = flat_map ctab_bytes (take count rs)

    front_length : length front ≡ 16 + length text
    unfolding chunk four
    front_length = omega arith

    ahead : length (group_bytes (group_from text rs count)) - 8 ≡ length (payload_bytes (group_from text rs count))
    unfolding group_bytes chunk four
    ahead = omega arith

    inside_is : CSEG ++ (four (length (payload_bytes (group_from text rs count))) ++ (chunk Sdec text ++ (ctabs ++ cntts_bytes (take count rs)))) ≡ group_bytes (group_from text rs count)
    unfolding group_bytes payload_bytes chunk
    inside_is = refl

    group_is : front ++ (ctabs ++ cntts_down cntts seconds) ≡ group_bytes (group_from text rs count)
    group_is =
        let sized = four (length (payload_bytes (group_from text rs count))) in
        let behind = ctabs ++ cntts_bytes (take count rs) in
        rw (ahead, down) (append_assoc CSEG (sized ++ chunk Sdec text) behind ∙ (ap (λ (t : List ℕ). CSEG ++ t) (append_assoc sized (chunk Sdec text) behind) ∙ inside_is))

    whole_written : buffer text rs out (accepting text rs count e seconds cntts) ≡ group_bytes (group_from text rs count) ++ drop (length (group_bytes (group_from text rs count))) out
    unfolding framed start_place start_bytes
    whole_written =
        let l : length ctabs ≡ (8 + size e) * count = ctabs_long text rs count h e same seconds cntts down in
        rw (← l) (steps front ctabs (cntts_down cntts seconds) out (16 + length text) front_length (omega (arith, l, whole_length text rs count h e same seconds cntts down, room)))
        ∙ ap (λ (b : List ℕ). b ++ drop (length b) out) group_is

-- ---- the promise

-- what is left in the buffer by a plan, or by a refusal
unfoldable pub Left : List ℕ → List Record → List ℕ → Plans → List ℕ → Type 0
Left text rs out (Ok p) last = last ≡ buffer text rs out p
Left text rs out (Err why) last = last ≡ out

pub plan_written : (text : List ℕ) (rs : List Record) (count : ℕ) (out last : List ℕ) (plan : Plans) → plan ≡ plan_of text rs count (length out) → Left text rs out plan last → GroupWritten text rs count out (measured_by plan) last
unfolding measured_by measured number_of place_of value_or lent_after Left
plan_written text rs count out last plan e w = go (plan_says text rs count (length out))
  where
    go : NotPlanned text rs count (length out) (plan_of text rs count (length out)) ⊎ Planned text rs count (length out) (plan_of text rs count (length out)) → GroupWritten text rs count out (measured_by plan) last
    go (inl a) =
        let z : last ≡ out = rw (e, a.plan) at w in
        rw (e, a.plan) (record { answer = rw a.answer; buffer = z ∙ rw a.answer })
    go (inr b) =
        let z = rw (e, b.plan) at w in
        rw (e, b.plan) (record { answer = rw b.answer; buffer = z ∙ (whole_written text rs out count b.within b.edition b.editions b.seconds b.cntts b.down b.fits ∙ rw b.answer) })
