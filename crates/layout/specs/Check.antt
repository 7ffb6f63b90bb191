-- Checking what other editors return (document 02, §13): two bodies, or two style files, that should differ in one record only.
use Rattle.std.specs.Prelude.{ℕ, ◌+◌, min, Bool, true, false, cond, not, ◌&&◌, ◌||◌, List, ltb, leb, eqb, length, get_or}
use Rattle.layout.specs.Scan.{first}
use Rattle.layout.specs.Refusals.{accepted}
use Rattle.layout.specs.Answers.{Answer, refused, granted, Which, Neither, BeforeFile, AfterFile, BeforeBody, AfterBody, Checked}
use Rattle.layout.specs.Editions.{size}
use Rattle.layout.specs.Body.{body_read}
use Rattle.layout.specs.Asked.{Whereabouts, channel_found}
use Rattle.layout.specs.Style.{casm_found}
use Rattle.layout.specs.Listing.{body_in}

-- what a check comes to: a refusal, with what it speaks of, its number and its place; or yes; or no, with the first place that is unlike
pub data Verdict : Type 0 where
  Denied : Which → ℕ → ℕ → Verdict
  Yes : Verdict
  No : ℕ → Verdict

-- ---- the comparison of s and t outside the n bytes at `at`

-- "differ in no byte outside that Ctab's or Ctb2's record": at place k, outside, they do
unfoldable pub unlike_at : List ℕ → List ℕ → ℕ → ℕ → ℕ → Bool
unlike_at s t at n k = (ltb k at || leb (at + n) k) && not (eqb (get_or s k 0) (get_or t k 0))

-- the first such place, or the end of the shorter where there is none before it
unfoldable pub first_unlike : List ℕ → List ℕ → ℕ → ℕ → ℕ
first_unlike s t at n = first (unlike_at s t at n) 0 (min (length s) (length t))

-- "yes exactly when .. they are equally long and differ in no byte outside"; a no carries the place (ours)
unfoldable pub compared : List ℕ → List ℕ → ℕ → ℕ → Verdict
compared s t at n =
    cond (eqb (length s) (length t) && leb (length s) (first_unlike s t at n)) Yes
    (No (first_unlike s t at n))

-- ---- what is refused

-- "the answer names the body refused": a refusal with what it speaks of, its place counted from where that begins; or what is then asked
unfoldable pub unless : {A : Type 0} → Which → ℕ → Answer A → (A → Verdict) → Verdict
unless which from (refused number place) ask = Denied which number (from + place)
unless which from (granted a) ask = ask a

-- "both being readable"; "refusals: the before body's, the after body's, 16, then 15 in the before body", the bodies s and t beginning at a and b of what was lent
unfoldable pub of_record_before : ℕ → ℕ → List ℕ → List ℕ → ℕ → ℕ → (Whereabouts → Verdict) → Verdict
of_record_before a b s t g channel ask =
    unless BeforeBody a (body_read s) (λ _.
    unless AfterBody b (body_read t) (λ _.
    unless BeforeBody 0 (channel_found s g channel) ask))

-- "given the body before, the body after, a group number and a source channel"
unfoldable pub bodies_checked : List ℕ → List ℕ → ℕ → ℕ → Verdict
bodies_checked s t g channel = of_record_before 0 0 s t g channel (λ row. compared s t row.at (size row.edition))

-- the same of two style files (ours): neither may differ from the other anywhere but in that record; the finding's refusals come first, and places count from the file's start
unfoldable pub files_checked : List ℕ → List ℕ → ℕ → ℕ → Verdict
files_checked before after g channel =
    unless BeforeFile 0 (casm_found before) (λ x.
    unless AfterFile 0 (casm_found after) (λ y.
    of_record_before (x.start + 8) (y.start + 8) (body_in before x) (body_in after y) g channel (λ row.
    compared before after (x.start + 8 + row.at) (size row.edition))))

-- the answer of the calls
unfoldable pub checked : Verdict → Checked
checked (Denied which number place) = record { number = number; place = place; which = which; yes = false; unlike = 0 }
checked Yes = record { number = accepted; place = 0; which = Neither; yes = true; unlike = 0 }
checked (No unlike) = record { number = accepted; place = 0; which = Neither; yes = false; unlike = unlike }
