-- A refusal's number is above 0 in every answer of demand 2, so a call whose number is 0 was granted what it asked for.
use Prim.Native.Nat.{ℕ, ◌+◌, ◌*◌, ◌<◌}
use mathlib.Core.Path.{◌≡◌, refl}
use mathlib.Core.Bool.{Bool, true, false, cond, not, ◌&&◌}
use mathlib.Core.List.{List}
use native.Mathlib.Omega.{arith}
use lib.Dec.{ltb, leb, eqb}
use lib.ListN.{length, get_or, take, drop, set}
use borrow.Author.Tests.{eqb-false}
use Rattle.layout.specs.Scan.{run}
use Rattle.layout.specs.Bytes.{CSEG}
use Rattle.layout.specs.Scan.{Refused, More, Done}
use Rattle.layout.specs.Scan.{Run}
use Rattle.layout.specs.Scan.{Stopped}
use Rattle.layout.specs.Group.{Judged}
use Rattle.layout.specs.Editions.{size, held, alike}
use Rattle.layout.specs.Lock.{locks, keeps}
use Rattle.layout.specs.Ranges.{out_of, rule_at}
use Rattle.layout.specs.declared.lock.Override.{Override}
use Rattle.layout.specs.declared.record.Record.{Record}
use Rattle.layout.specs.Records.{bytes_of, record_of, blank, channel_of, edition_of, second_in, position_in, first_bad, file_bytes}
use Rattle.layout.specs.Sdec.{sound_text}
use Rattle.layout.specs.declared.answer.Standing.{Standing}
use Rattle.layout.specs.Answers.{Answer, refused, granted, number_of, after_run}
use Rattle.layout.specs.Group.{head_fault, ctab_place, group_at}
use Rattle.layout.specs.Body.{group_place, sharing, unlike_body, after_contents, group_turn_at, group_turn, body_run, group_no}
use Rattle.layout.specs.Asked.{standing, of_group, row_in, of_channel, records_read}
use Rattle.layout.specs.Write.{group_bytes, wrong_positions, first_edition, record_on, record_turn, records_run, group_from, written}
use Rattle.layout.specs.Edit.{replaced, first_edited, edited}
use Rattle.layout.specs.Screen.{field_set}
use Rattle.layout.proofs.Runs.{run_stopped}
use Rattle.read_salvage.proofs.Numbered.{refusal_some}
use Rattle.std.specs.Prelude.{Ok, Err}
use Rattle.layout.proofs.Refused.{one_number}

-- ---- an answer

module _ {A : Type 0} where
  -- a refusal here has a number above 0
  abbrev pub Numbered : Answer A → Type 0
  Numbered a = (k place : ℕ) → a ≡ refused k place → 0 < k

  pub accepts_granted : (a : Answer A) → Numbered a → number_of a ≡ 0 → (x : A) × (a ≡ granted x)
  unfolding number_of
  accepts_granted (refused k place) h e = absurd (omega (arith, h k place refl))
  accepts_granted (granted x) h e = (x, refl)

  granted_numbered : (x : A) → Numbered (granted x)
  granted_numbered x k place e = absurd (let z : ◌≡◌ {A = ℕ} 0 1 = cc in omega arith)

  if_numbered : (b : Bool) (k place : ℕ) (t : Answer A) → 0 < k → Numbered t → Numbered (cond b (refused k place) t)
  if_numbered true k place t h f j at e = let z : k ≡ j = cc in omega arith
  if_numbered false k place t h f j at e = f j at e

  -- a run whose refusals have numbers above 0, and what is then asked
  run_numbered : (r : Run) (ask : ℕ → Answer A) → ((k place : ℕ) → r ≡ Stopped k place → 0 < k) → ((n : ℕ) → Numbered (ask n)) → Numbered (after_run r ask)
  unfolding after_run
  run_numbered (Err why) ask h f k place e = let z : why.number ≡ k = cc in rw z at (h why.number why.place refl)
  run_numbered (Ok n) ask h f k place e = f n k place e

-- ---- the body

module _ (s : List ℕ) (n at k place : ℕ) where
  after_numbered : (r : Judged) → group_at (drop at s) ≡ r → after_contents s n at r ≡ Refused k place → 0 < k
  unfolding after_contents
  after_numbered (Err why) e q = let z : why.number ≡ k = one_number q in rw z at (refusal_some (drop at s) why.number why.place e)
  after_numbered (Ok x) e q = go (unlike_body s n x.edition x.ctabs) (ltb (sharing s n at) n) q
    where
      go : (a b : Bool) → cond a (Refused 21 at) (cond b (Refused 13 at) More) ≡ Refused k place → 0 < k
      go true b w = let z : 21 ≡ k = one_number w in omega arith
      go false true w = let z : 13 ≡ k = one_number w in omega arith
      go false false w = absurd (let z : ◌≡◌ {A = ℕ} 0 1 = cc in omega arith)

  turn_numbered : group_turn_at s n at ≡ Refused k place → 0 < k
  unfolding group_turn_at
  turn_numbered q = go (eqb at (length s)) (eqb (head_fault s at CSEG) 0) (leb 32 n) refl q
    where
      go : (a b d : Bool) → eqb (head_fault s at CSEG) 0 ≡ b
          → cond a Done (cond (not b) (Refused (head_fault s at CSEG) at) (cond d (Refused 12 at) (after_contents s n at (group_at (drop at s))))) ≡ Refused k place → 0 < k
      go true b d h r = absurd (let z : ◌≡◌ {A = ℕ} 0 1 = cc in omega arith)
      go false false d h r = let y = eqb-false (head_fault s at CSEG) 0 h in let z : head_fault s at CSEG ≡ k = one_number r in omega arith
      go false true true h r = let z : 12 ≡ k = one_number r in omega arith
      go false true false h r = after_numbered (group_at (drop at s)) refl r

body_numbered : (s : List ℕ) (k place : ℕ) → body_run s ≡ Stopped k place → 0 < k
unfolding body_run group_turn
body_numbered s k place e = go (ltb 32768 (length s)) e
  where
    go : (b : Bool) → cond b (Stopped 3 0) (run (group_turn s) 0 33) ≡ Stopped k place → 0 < k
    go true q = let z : 3 ≡ k = one_number q in omega arith
    go false q = run_stopped (group_turn s) (λ n. Unit {0}) (λ n held m. tt) (λ a b. 0 < a) (λ n a b held m. turn_numbered s n (group_place s n) a b m) 33 k place tt q

pub records_numbered : (s : List ℕ) (g room : ℕ) → Numbered (records_read s g room)
unfolding records_read of_group
records_numbered s g room =
    run_numbered (body_run s) _ (body_numbered s)
    (λ n. if_numbered (leb n g) 16 0 _ (omega arith)
    (if_numbered (ltb room (length (group_no s g).records)) 14 0 _ (omega arith) (granted_numbered (group_no s g).records)))

pub edited_numbered : (s : List ℕ) (g channel : ℕ) (new : Record) (over : Override) → Numbered (edited s g channel new over)
unfolding edited of_group of_channel
edited_numbered s g channel new over =
    let x : Standing = standing s g in
    let row : ℕ = row_in s x channel in
    run_numbered (body_run s) _ (body_numbered s)
    (λ n. if_numbered (leb n g) 16 0 _ (omega arith) (if_numbered (leb x.records row) 15 0 _ (omega arith) (if_numbered (not (eqb (channel_of new) channel)) 16 0 _ (omega arith)
    (if_numbered (not (alike x.edition (edition_of new))) 21 0 _ (omega arith) (if_numbered (keeps over (get_or s (ctab_place x.edition x.ctabs row + 8 + 10) 0)) 22 10 _ (omega arith)
    (if_numbered (ltb (first_edited new) (held (edition_of new))) 9 (first_edited new) _ (omega arith) (granted_numbered (replaced s (ctab_place x.edition x.ctabs row + 8) (file_bytes new)))))))))

pub field_numbered : (r : Record) (index value : ℕ) → Numbered (field_set r index value)
unfolding field_set
field_numbered r index value =
    if_numbered (leb (held (edition_of r)) index) 16 0 _ (omega arith) (if_numbered (not (eqb index 10) && locks r.locked) 22 10 _ (omega arith) (if_numbered (out_of (edition_of r) index (rule_at (bytes_of r) 0 index) value) 9 index _ (omega arith)
    (granted_numbered (record_of (edition_of r) (set (bytes_of r) index value) (second_in r) (position_in r)))))

-- ---- writing

record_numbered : (rs : List Record) (i k place : ℕ) → record_turn rs i ≡ Refused k place → 0 < k
unfolding record_turn
record_numbered rs i k place e =
    go (not (alike (first_edition rs) (edition_of (get_or rs i blank)))) (ltb (first_bad (get_or rs i blank)) (held (first_edition rs))) (ltb (record_on rs i (channel_of (get_or rs i blank))) i) e
  where
    at : ℕ
    at = size (first_edition rs) * i

    go : (a b c : Bool) → cond a (Refused 21 at) (cond b (Refused 9 (at + first_bad (get_or rs i blank))) (cond c (Refused 10 at) More)) ≡ Refused k place → 0 < k
    go true b c q = let z : 21 ≡ k = one_number q in omega arith
    go false true c q = let z : 9 ≡ k = one_number q in omega arith
    go false false true q = let z : 10 ≡ k = one_number q in omega arith
    go false false false q = absurd (let z : ◌≡◌ {A = ℕ} 0 1 = cc in omega arith)

records_run_numbered : (rs : List Record) (k place : ℕ) → records_run rs ≡ Stopped k place → 0 < k
unfolding records_run
records_run_numbered rs k place e =
    run_stopped (record_turn rs) (λ n. Unit {0}) (λ n held m. tt) (λ a b. 0 < a) (λ n a b held m. record_numbered rs n a b m) (length rs) k place tt e

pub written_numbered : (text : List ℕ) (table : List Record) (count room : ℕ) → Numbered (written text table count room)
unfolding written
written_numbered text table count room =
    let b : List ℕ = group_bytes (group_from text table count) in
    if_numbered (ltb (length table) count) 16 0 _ (omega arith) (if_numbered (not (sound_text text)) 8 0 _ (omega arith)
    (run_numbered (records_run (take count table)) _ (records_run_numbered (take count table))
    (λ n. if_numbered (wrong_positions (take count table)) 18 0 _ (omega arith) (if_numbered (ltb room (length b)) 14 0 _ (omega arith) (granted_numbered b)))))
