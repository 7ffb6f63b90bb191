-- A check of two bodies at the call: yes and no exactly where the words of the request hold, and what a yes leaves as it was.
use Prim.Native.Nat.{ℕ, ◌<◌}
use mathlib.Core.Path.{◌≡◌, ap, ◌∙◌}
use mathlib.Core.Bool.{true, false}
use mathlib.Core.Logic.{◌↔◌}
use mathlib.Core.List.{List}
use native.Mathlib.Decide.{dec_lt}
use native.Mathlib.Omega.{arith}
use lib.ListN.{length}
use Rattle.layout.specs.declared.answer.Checked.{Checked}
use Rattle.layout.specs.Check.{Yes, No, bodies_checked}
use Rattle.layout.specs.Promises.{BodiesChecked}
use Rattle.law_checked.specs.Alike.{Outside, ahead, behind, AlikeOutside, UnlikeAt, another_byte, before_ends, after_ends, FirstUnlike, BothRead, record_place, record_size}
use Rattle.law_checked.specs.Others.{OthersAsBefore, PlaysAsBefore}
use Rattle.law_checked.proofs.Alike.{yes_is, is_yes, no_is, is_no}
use Rattle.law_checked.proofs.Verdicts.{BodiesRead, yes_read, no_read, read_checked}
use Rattle.law_checked.proofs.Readable.{read_both, both_read}
use Rattle.law_checked.proofs.RefusedExact.{denied_above}
use Rattle.law_checked.proofs.RowWithin.{row_within}
use Rattle.law_checked.proofs.Answered.{said_yes, is_said_yes, said_no, is_said_no}
use Rattle.law_checked.proofs.OthersKept.{others_as_before}
use Rattle.law_checked.proofs.PlaysKept.{plays_as_before}
use Rattle.law_checked.proofs.EndsOutside.{ends_outside}

module _ (s t : List ℕ) (g channel : ℕ) (r : Checked) (p : BodiesChecked s t g channel r) where
  pub yes_exactly : (r.yes ≡ true) ↔ (BothRead s t g channel × AlikeOutside s t (record_place s g channel) (record_size s g))
  yes_exactly = (there, back)
    where
      there : r.yes ≡ true → BothRead s t g channel × AlikeOutside s t (record_place s g channel) (record_size s g)
      there h =
          let q = yes_read s t g channel (said_yes (bodies_checked s t g channel) r p h) in
          (read_both s t g channel q.0, yes_is s t (record_place s g channel) (record_size s g) q.1)

      back : BothRead s t g channel × AlikeOutside s t (record_place s g channel) (record_size s g) → r.yes ≡ true
      back a =
          is_said_yes (bodies_checked s t g channel) r p
          (read_checked s t g channel (both_read s t g channel a.0) ∙ is_yes s t (record_place s g channel) (record_size s g) a.1)

  -- accepted, and no
  abbrev SaidNo : ℕ → Type 0
  SaidNo k = (r.number ≡ 0) × ((r.yes ≡ false) × (r.unlike ≡ k))

  verdict : (k : ℕ) → SaidNo k → bodies_checked s t g channel ≡ No k
  verdict k a = said_no (bodies_checked s t g channel) (denied_above s t g channel) r p a.0 a.1.0 ∙ ap No a.1.1

  pub no_exactly : (k : ℕ) → SaidNo k ↔ (BothRead s t g channel × FirstUnlike s t (record_place s g channel) (record_size s g) k)
  no_exactly k = (there, back)
    where
      there : SaidNo k → BothRead s t g channel × FirstUnlike s t (record_place s g channel) (record_size s g) k
      there a =
          let q = no_read s t g channel k (verdict k a) in
          (read_both s t g channel q.0, no_is s t (record_place s g channel) (record_size s g) k q.1)

      back : BothRead s t g channel × FirstUnlike s t (record_place s g channel) (record_size s g) k → SaidNo k
      back a =
          is_said_no (bodies_checked s t g channel) r k p
          (read_checked s t g channel (both_read s t g channel a.0) ∙ is_no s t (record_place s g channel) (record_size s g) k a.1)

  -- the shorter never ends inside the record, so the place of a no is outside it
  pub no_outside : (k : ℕ) → SaidNo k → Outside (record_place s g channel) (record_size s g) k
  no_outside k a =
      let q = no_read s t g channel k (verdict k a) in
      let f = no_is s t (record_place s g channel) (record_size s g) k q.1 in
      go q.0 f f.here
    where
      go : BodiesRead s t g channel → FirstUnlike s t (record_place s g channel) (record_size s g) k → UnlikeAt s t (record_place s g channel) (record_size s g) k → Outside (record_place s g channel) (record_size s g) k
      go read f (another_byte l m o d) = o
      go read f (before_ends e l) = behind (omega (arith, e, row_within s t g channel read))
      go read f (after_ends e l) = ended read f e (dec_lt k (record_place s g channel))
        where
          ended : BodiesRead s t g channel → FirstUnlike s t (record_place s g channel) (record_size s g) k → k ≡ length t → Dec (k < record_place s g channel) → Outside (record_place s g channel) (record_size s g) k
          ended b f e (yes d) = ahead d
          ended b f e (no d) =
              behind (omega (arith, e, ends_outside s t b.n b.m g channel b.before b.after b.there b.its (λ i u. f.earlier i (omega arith) (ahead u)) (omega (arith, e))))

  pub rest_as_before : r.yes ≡ true → (o : OthersAsBefore s t g channel) × PlaysAsBefore s t g o.index
  rest_as_before h =
      let q = yes_read s t g channel (said_yes (bodies_checked s t g channel) r p h) in
      let b = q.0 in
      let o = others_as_before s t b.n b.m g channel b.before b.after b.there b.its (yes_is s t (record_place s g channel) (record_size s g) q.1) in
      (o, plays_as_before s t g channel o)
