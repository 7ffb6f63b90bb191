-- The text of a body, and of a file: what the calls answer is what the definition lists.
use Prim.Native.Nat.{ℕ, ◌+◌, ◌-◌, ◌*◌, ◌≤◌, ◌<◌}
use mathlib.Core.Path.{◌≡◌, sym, ap, ◌∙◌}
use mathlib.Core.List.{List, ◌++◌, flat_map}
use native.Mathlib.Omega.{arith}
use lib.ListN.{length, take, drop, length-append, length-drop}
use lib.Seq.{length-take-le}
use borrow.Author.Tests.{lt-ltb, le-ltb}
use Rattle.layout.specs.declared.answer.Counted.{Counted}
use Rattle.layout.specs.declared.answer.Located.{Located}
use Rattle.layout.specs.Answers.{refused, granted, number_of, place_of, value_or, counted_all, retold, lent_after, Span}
use Rattle.layout.specs.Style.{casm_found, located}
use Rattle.layout.specs.Salvage.{Entry, salvage, list_numbers, salvaged}
use Rattle.layout.specs.Promises.{Salvaged}
use Rattle.layout.specs.Listing.{refused_line, casm_line, entry_line, end_line, text_listed, body_in, text_found, list_text, FileListed}
use Rattle.layout.proofs.Replaced.{replaced_start}
use Rattle.io.specs.Counts.{IsPrefixLen}
use Rattle.read_style.proofs.PlaceLaws.{Standing, casm_stands, casm_none, casm_there}
use Rattle.read_salvage.proofs.Room.{numbers_length}
use Rattle.read_salvage.proofs.Bounds.{room_for_any_body}
use Rattle.list_spell.specs.Puts.{Put}
use Rattle.list_text.specs.Held.{entries_in}
use Rattle.list_text.proofs.Entries.{holds_what_was_listed}
use Rattle.list_text.proofs.Measures.{lines_most}

-- ---- of a body

-- the salvage call with room for 8,192 entries
pub record AllListed (body : List ℕ) (r : Counted) (after : List ℕ) : Type 0 where
  pub count : r.count ≡ length (salvage body)
  pub held : entries_in after r.count ≡ salvage body
  pub within : 3 * r.count ≤ length after

pub all_listed : (body before : List ℕ) (r : Counted) (after : List ℕ) → length before ≡ 24576 → length body ≤ 32768 → Salvaged body before r after → AllListed body r after
unfolding counted_all number_of place_of value_or retold lent_after
all_listed body before r after l h p =
    let es : List Entry = salvage body in
    let g : salvaged body (length before) ≡ granted es = ap (salvaged body) l ∙ (room_for_any_body body h).1 in
    let q : r ≡ record { number = 0; place = 0; count = length es } = rw g at p.answer in
    let m : after ≡ list_numbers es ++ drop (length (list_numbers es)) before = rw g at p.list in
    let n : r.count ≡ length es = ap (λ (x : Counted). x.count) q in
    record {
      count = n;
      held = rw (n, m) (holds_what_was_listed es (drop (length (list_numbers es)) before));
      within = omega (arith, n, ap length m, length-append (list_numbers es) (drop (length (list_numbers es)) before), numbers_length es);
    }

-- the lines of the entries that the list holds, and what they are of the text
module _ (body : List ℕ) (r : Counted) (list : List ℕ) (g : AllListed body r list) where
  abbrev told : List ℕ
  told = flat_map entry_line (entries_in list r.count)

  told_is : told ≡ flat_map entry_line (salvage body)
  told_is = ap (flat_map entry_line) g.held

  pub told_most : length body ≤ 32768 → length told ≤ 122880
  told_most h = rw told_is (lines_most body h)

  pub text_told : (tag : ℕ) → casm_line (record { start = tag; size = length body }) ++ (told ++ end_line r.count) ≡ text_listed (record { start = tag; size = length body }) (granted (salvage body))
  unfolding text_listed
  text_told tag = rw (told_is, g.count)

-- ---- of a file

-- a text put at the start is the text of the file
pub file_listed : (file out text : List ℕ) (r : ℕ) (after : List ℕ) → list_text file ≡ text → Put out 0 text r after → FileListed file out r after
file_listed file out text r after e p =
    let z : r ≡ length text = omega (arith, p.place) in
    record { measure = z ∙ ap length (sym e); text = rw (e, z) (p.buffer ∙ replaced_start out text) }

-- so much of the buffer is used
pub used_counts : (file before : List ℕ) (used : ℕ) (after : List ℕ) → FileListed file before used after → IsPrefixLen used after
used_counts file before used after p =
    let l : used ≤ length after = omega (arith, p.measure, ap length p.text, length-append (list_text file) (drop used before)) in
    (l, sym (length-take-le used after l))

module _ (file : List ℕ) where
  pub text_over : 65536 < length file → list_text file ≡ refused_line 3 0
  unfolding list_text
  text_over h = rw (lt-ltb 65536 (length file) h)

  module _ (h : length file ≤ 65536) (r : Located) (e : r ≡ located (casm_found file)) where
    text_is : list_text file ≡ text_found file (casm_found file)
    unfolding list_text
    text_is = rw (le-ltb 65536 (length file) h)

    module _ (z : r.number ≡ 0 → ⊥) where
      found_none : casm_found file ≡ refused r.number r.place
      found_none = casm_none file r e z

      pub text_refused : list_text file ≡ refused_line r.number r.place
      unfolding text_found
      text_refused = text_is ∙ ap (text_found file) found_none

    module _ (z : r.number ≡ 0) where
      abbrev section : Span
      section = record { start = r.tag; size = r.length }

      found : casm_found file ≡ granted section
      found = casm_there file r e z

      pub stands : Standing file section
      stands = casm_stands file section found

      -- the body as it is lent
      module _ (body : List ℕ) (b : body ≡ take (r.tag + 8 + r.length - (r.tag + 8)) (drop (r.tag + 8) file)) where
        body_is : body ≡ body_in file section
        unfolding body_in
        body_is = let y : r.tag + 8 + r.length - (r.tag + 8) ≡ r.length = omega arith in rw y at b

        pub body_length : length body ≡ r.length
        unfolding body_in
        body_length = ap length body_is ∙ length-take-le r.length (drop (r.tag + 8) file) (omega (arith, stands.0, length-drop (r.tag + 8) file))

        pub text_found_lem : list_text file ≡ text_listed (record { start = r.tag; size = length body }) (granted (salvage body))
        unfolding text_found
        text_found_lem =
            text_is ∙ (ap (text_found file) found
            ∙ (ap (λ (x : List ℕ). text_listed section (salvaged x 24576)) (sym body_is)
            ∙ (ap (text_listed section) (room_for_any_body body (omega (arith, body_length, stands.1))).1
            ∙ ap (λ (k : ℕ). text_listed (record { start = r.tag; size = k }) (granted (salvage body))) (sym body_length))))
