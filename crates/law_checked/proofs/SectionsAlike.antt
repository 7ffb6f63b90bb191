-- Two files that are alike outside some bytes of the CASM body: no header of a section stands in that body, so all headers are the same, stand where they stood, and the same section is found.
use Prim.Native.Nat.{ℕ, zero, suc, ◌+◌, ◌-◌, ◌≤◌, ◌<◌}
use mathlib.Core.Path.{◌≡◌, refl}
use mathlib.Core.List.{List}
use native.Mathlib.Omega.{arith}
use native.Mathlib.Decide.{dec_lt}
use lib.ListN.{length}
use Rattle.layout.specs.Scan.{run_of, run}
use Rattle.layout.specs.Scan.{Turn}
use Rattle.layout.specs.Scan.{Refused, More, Done}
use Rattle.layout.specs.Scan.{Run}
use Rattle.layout.specs.Scan.{Stopped, Ended}
use Rattle.layout.specs.Bytes.{word, tag_at, tagged, MThd, MTrk, CASM}
use Rattle.layout.specs.Answers.{after_run, Span}
use Rattle.layout.specs.Style.{no_style, section_place, section_tagged, section_turn_at, section_turn, sections_run, casm_among, casm_found}
use Rattle.layout.proofs.Scans.{first_alike}
use Rattle.law_checked.specs.Alike.{Outside, ahead, behind, AlikeOutside}
use Rattle.law_checked.proofs.SameBytes.{SameBytes, same_word, same_tag, same_tagged}
use Rattle.law_checked.proofs.CasmPlace.{CasmAt, place_up_to, track_first}
use Rattle.layout.specs.declared.turn.Met.TheVariants.{Chunk, End}
use Rattle.std.specs.Prelude.{Ok, Err}

-- ---- a run goes as its turns

turns_alike : (p q : ℕ → Turn) → ((i : ℕ) → p i ≡ q i) → (n k : ℕ) → run_of p k n ≡ run_of q k n
unfolding run_of
turns_alike p q f zero k = refl
turns_alike p q f (suc n) k = go (q k) (f k) refl (turns_alike p q f n (suc k))
  where
    go : (t : Turn) → p k ≡ q k → q k ≡ t → run_of p (suc k) n ≡ run_of q (suc k) n → run_of p k (suc n) ≡ run_of q k (suc n)
    go (Err why) g h more = rw (g, h, run_of)
    go (Ok Chunk) g h more = rw (g, h, run_of) more
    go (Ok End) g h more = rw (g, h, run_of)

run_alike : (p q : ℕ → Turn) → ((i : ℕ) → p i ≡ q i) → (e : ℕ) → run p 0 e ≡ run q 0 e
unfolding run
run_alike p q f e = turns_alike p q f (e - 0) 0

-- ---- two files alike outside n bytes at `at`, which stand in the body of a section of the first

module _ (s t : List ℕ) (at n : ℕ) (alike : AlikeOutside s t at n) (x : Span) (casm : CasmAt s x) (low : x.start + 8 ≤ at) (high : at + n ≤ x.start + 8 + x.size) where
  -- bytes before the section's body
  leading : (p w : ℕ) → p + w ≤ x.start + 8 → SameBytes s t p w
  leading p w l i h = alike.same (p + i) (ahead (omega arith))

  -- the header of each section
  header : (k : ℕ) → SameBytes s t (section_place s k) 8
  unfolding section_place
  header k i l = alike.same (section_place s k + i) (go (dec_lt casm.number k))
    where
      go : Dec (casm.number < k) → Outside at n (section_place s k + i)
      go (yes h) = behind (omega (arith, high, casm.start, casm.size, next, place_up_to s (suc casm.number) k (omega arith)))
        where
          next : section_place s (suc casm.number) ≡ x.start + 8 + x.size
          next = rw (casm.start, casm.size)
      go (no h) = ahead (omega (arith, low, casm.start, place_up_to s k casm.number (omega arith)))

  lengths : (k : ℕ) → word s (section_place s k + 4) ≡ word t (section_place s k + 4)
  lengths k = same_word s t (section_place s k + 4) (λ i l. let z : section_place s k + 4 + i ≡ section_place s k + (4 + i) = omega arith in rw z (header k (4 + i) (omega arith)))

  track : 22 ≤ x.start
  track = omega (arith, track_first s casm.number, casm.start)

  places : (k : ℕ) → section_place s k ≡ section_place t k
  unfolding section_place
  places zero = rw (same_word s t 18 (leading 18 4 (omega (arith, track))))
  places (suc k) = rw (lengths k, places k)

  style : no_style s ≡ no_style t
  unfolding no_style
  style =
      rw (
        alike.long,
        same_tagged s t 0 alike.long MThd (leading 0 4 (omega (arith, track))),
        same_word s t 4 (leading 4 4 (omega (arith, track))),
        same_tagged s t 14 alike.long MTrk (leading 14 4 (omega (arith, track))),
        same_word s t 18 (leading 18 4 (omega (arith, track))),
      )

  tags : (k : ℕ) → tag_at s (section_place s k) ≡ tag_at t (section_place s k)
  tags k = same_tag s t (section_place s k) alike.long (λ i l. header k i (omega arith))

  seen : (m : ℕ) (tag : List ℕ) → section_tagged s m tag ≡ section_tagged t m tag
  unfolding section_tagged tagged
  seen m tag = first_alike (λ k. tagged s (section_place s k) tag) (λ k. tagged t (section_place t k) tag) m (λ k l. rw (tags k, places k))

  turn : (k : ℕ) → section_turn s k ≡ section_turn t k
  unfolding section_turn section_turn_at
  turn k = rw (alike.long, tags k, lengths k, seen k (tag_at t (section_place s k)), places k)

  among : (m : ℕ) → casm_among s m ≡ casm_among t m
  unfolding casm_among
  among m = rw (alike.long, lengths (section_tagged s m CASM), places (section_tagged s m CASM), seen m CASM)

  runs : sections_run s ≡ sections_run t
  unfolding sections_run
  runs = rw alike.long (run_alike (section_turn s) (section_turn t) turn (length t))

  after_alike : (r : Run) → after_run r (casm_among s) ≡ after_run r (casm_among t)
  unfolding after_run
  after_alike (Err why) = refl
  after_alike (Ok m) = among m

  pub casm_alike : casm_found s ≡ casm_found t
  unfolding casm_found
  casm_alike = rw (alike.long, style, runs, after_alike (sections_run t))
