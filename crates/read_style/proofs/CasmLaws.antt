-- The CASM section: its place as the walk goes on, and one law for each answer of the call.
use Prim.Native.Nat.{ℕ, ◌+◌, ◌≤◌, ◌<◌}
use mathlib.Core.Path.{◌≡◌, refl, sym, ap, ◌∙◌}
use mathlib.Core.Bool.{Bool, true, false, cond}
use mathlib.Core.List.{List}
use native.Mathlib.Omega.{arith}
use lib.Dec.{ltb}
use lib.ListN.{length}
use borrow.Author.Tests.{lt-ltb, le-ltb, le-leb, lt-leb}
use Rattle.std.specs.Prelude.{Option, None, Some, Result, Ok, Err}
use Rattle.layout.specs.declared.turn.Refusal.{Refusal}
use Rattle.layout.specs.Scan.{first, Ended}
use Rattle.layout.specs.Bytes.{word, tag_at, tagged, CASM}
use Rattle.layout.specs.Answers.{refused, granted, after_run}
use Rattle.layout.specs.Style.{no_style, section_tagged, sections_run, casm_among, casm_found}
use Rattle.layout.proofs.Scans.{first_end, first_kept, first_grown, first_within}
use Rattle.layout.proofs.Same.{same_is}
use Rattle.read_style.specs.Walk.{Fit, Walked, CasmAt, SectionsRead}
use Rattle.read_style.proofs.SectionLaws.{has_tag, SectionMore}

-- ---- the place of the CASM tag

pub casm_start : (s : List ℕ) → CasmAt s 0 None
unfolding section_tagged
casm_start s = record { none = λ e. first_end (has_tag s CASM) 0 0 refl; some = λ at q. absurd (let z : ◌≡◌ {A = ℕ} 0 1 = cc in omega arith) }

module _ (s : List ℕ) (n at : ℕ) (casm : Option ℕ) (walked : Walked s n at) (more : SectionMore s n at) (known : CasmAt s n casm) where
  this : has_tag s CASM n ≡ tagged s at CASM
  this = rw walked.stands

  -- the CASM section itself: none before has its tag
  casm_here : (after : Option ℕ) → tagged s at CASM ≡ true → after ≡ Some at → CasmAt s (n + 1) after
  unfolding tagged section_tagged
  casm_here after t e =
      let c : tag_at s at ≡ CASM = same_is (tag_at s at) CASM t in
      let f : n ≤ first (has_tag s CASM) 0 n = rw c at more.fresh in
      let w : first (has_tag s CASM) 0 n ≤ n = first_within (has_tag s CASM) n in
      let g : first (has_tag s CASM) 0 (n + 1) ≡ n = first_grown (has_tag s CASM) n (omega arith) ∙ rw (this ∙ t) in
      record {
        none = λ z. absurd (let y : ◌≡◌ {A = ℕ} 0 1 = cc in omega arith);
        some = λ x z. let q : x ≡ at = cc in (omega arith, rw g (q ∙ walked.stands));
      }

  -- another section
  casm_there : (after : Option ℕ) → tagged s at CASM ≡ false → after ≡ casm → CasmAt s (n + 1) after
  unfolding section_tagged
  casm_there after t e =
      record {
        none = λ z. first_grown (has_tag s CASM) n (known.none (sym e ∙ z)) ∙ rw (this ∙ t);
        some = λ x z.
            let k = known.some x (sym e ∙ z) in
            let g : first (has_tag s CASM) 0 (n + 1) ≡ first (has_tag s CASM) 0 n = first_kept (has_tag s CASM) n k.0 in
            (omega (arith, k.0), rw g k.1);
      }

  pub casm_next : (after : Option ℕ) → after ≡ cond (tagged s at CASM) (Some at) casm → CasmAt s (n + 1) after
  casm_next after e = go (tagged s at CASM) refl e
    where
      go : (b : Bool) → tagged s at CASM ≡ b → after ≡ cond b (Some at) casm → CasmAt s (n + 1) after
      go true t q = casm_here after t q
      go false t q = casm_there after t q

-- ---- what the walk answers

module _ (s : List ℕ) where
  pub walk_stopped : (r : Result (Option ℕ) Refusal) (why : Refusal) → r ≡ Err why → sections_run s ≡ Err why → SectionsRead s r
  walk_stopped r why e run =
      record { stopped = λ w q. let z : why ≡ w = cc in run ∙ ap Err z; ended = λ casm q. absurd (let z : ◌≡◌ {A = ℕ} 0 1 = cc in omega arith) }

  pub walk_ended : (casm : Option ℕ) (n : ℕ) → sections_run s ≡ Ended n → Fit s n → CasmAt s n casm → SectionsRead s (Ok casm)
  walk_ended casm n run fit stands =
      record {
        stopped = λ w q. absurd (let z : ◌≡◌ {A = ℕ} 0 1 = cc in omega arith);
        ended = λ x q. let z : casm ≡ x = cc in record { n = n; run = run; fit = fit; stands = rw (← z) stands };
      }

-- no place
pub none_of : (casm : Option ℕ) → ((at : ℕ) → casm ≡ Some at → ⊥) → casm ≡ None
none_of None h = refl
none_of (Some at) h = absurd (h at refl)

-- ---- the answers of the call

module _ (s : List ℕ) where
  pub file_over : 1048576 < length s → casm_found s ≡ refused 3 0
  unfolding casm_found
  file_over h = rw (lt-ltb 1048576 (length s) h)

  module _ (l : length s ≤ 1048576) where
    pub no_style_lem : no_style s ≡ true → casm_found s ≡ refused 1 0
    unfolding casm_found
    no_style_lem h = rw (le-ltb 1048576 (length s) l, h)

    module _ (style : no_style s ≡ false) where
      pub sections_stopped : (why : Refusal) → sections_run s ≡ Err why → casm_found s ≡ refused why.number why.place
      unfolding casm_found after_run
      sections_stopped why e = rw (le-ltb 1048576 (length s) l, style, e)

      module _ (n : ℕ) (casm : Option ℕ) (e : sections_run s ≡ Ended n) (known : CasmAt s n casm) where
        sections_ended : casm_found s ≡ casm_among s n
        unfolding casm_found after_run
        sections_ended = rw (le-ltb 1048576 (length s) l, style, e)

        pub casm_none : casm ≡ None → casm_found s ≡ refused 5 (length s)
        unfolding casm_among
        casm_none h = sections_ended ∙ rw (le-leb n (section_tagged s n CASM) (omega (arith, known.none h)))

        module _ (at : ℕ) (is : casm ≡ Some at) (size : ℕ) (f : size ≡ word s (at + 4)) where
          among : casm_among s n ≡ cond (ltb 32768 size) (refused 3 at) (granted (record { start = at; size = size }))
          unfolding casm_among
          among = let k = known.some at is in rw (lt-leb n (section_tagged s n CASM) k.0, ← k.1, ← f)

          pub casm_over : 32768 < size → casm_found s ≡ refused 3 at
          casm_over h = sections_ended ∙ among ∙ rw (lt-ltb 32768 size h)

          pub casm_found_lem : size ≤ 32768 → casm_found s ≡ granted (record { start = at; size = size })
          casm_found_lem h = sections_ended ∙ among ∙ rw (le-ltb 32768 size h)

-- a section that has a tag stands within the file
pub casm_fits : (s : List ℕ) (n : ℕ) (casm : Option ℕ) (at : ℕ) → Fit s n → CasmAt s n casm → casm ≡ Some at → at + 8 ≤ length s
casm_fits s n casm at f known is = let k = known.some at is in omega (arith, f.fits (section_tagged s n CASM) k.0, k.1)
