-- What an edit inside a style file writes: the body with one record replaced stands where the body stood, so all else is as it was, the same section is found, and the check says yes.
use Prim.Native.Nat.{ℕ, ◌+◌, ◌≤◌}
use mathlib.Core.Path.{◌≡◌, refl, sym, ap, ◌∙◌, subst}
use mathlib.Core.List.{List, ◌++◌}
use native.Mathlib.Omega.{arith}
use lib.ListN.{length, take, drop}
use lib.Seq.{length-take-le, take_at, drop_at, drop-drop}
use Rattle.layout.specs.declared.lock.Override.{Override}
use Rattle.layout.specs.declared.record.Record.{Record}
use Rattle.layout.specs.Answers.{Answer, refused, granted, Span}
use Rattle.layout.specs.Body.{body_read}
use Rattle.layout.specs.Asked.{part_found}
use Rattle.layout.specs.Style.{casm_found}
use Rattle.layout.specs.Listing.{body_in}
use Rattle.layout.specs.Write.{Whole}
use Rattle.layout.specs.Edit.{replaced, edited, after, file_edited}
use Rattle.layout.specs.Check.{Yes, bodies_checked, files_checked}
use Rattle.layout.proofs.Replaced.{replaced_length}
use Rattle.read_style.proofs.PlaceLaws.{casm_stands}
use Rattle.law_rounds.specs.Rounds.{Bytes}
use Rattle.law_rounds.proofs.Chunks.{bytes_part}
use Rattle.law_rounds.proofs.Granted.{granted_once}
use Rattle.law_rounds.proofs.EditRounds.{edit_back}
use Rattle.law_refusals.proofs.FileEditExact.{part_granted}
use Rattle.law_checked.specs.Alike.{AlikeOutside, record_place, record_size}
use Rattle.law_checked.specs.FileEdit.{EditedAlone}
use Rattle.law_checked.proofs.Alike.{yes_is}
use Rattle.law_checked.proofs.Verdicts.{BodiesRead, yes_read}
use Rattle.law_checked.proofs.RowWithin.{row_within}
use Rattle.law_checked.proofs.CasmPlace.{casm_at}
use Rattle.law_checked.proofs.SectionsAlike.{casm_alike}
use Rattle.law_checked.proofs.BodiesAlike.{body_length, bodies_alike}
use Rattle.law_checked.proofs.FilesAlike.{yes_files}
use Rattle.law_checked.proofs.OthersKept.{others_as_before}
use Rattle.law_checked.proofs.OwnEdit.{edit_answered_yes}

-- ---- what was granted step by step

after_granted : {A B : Type 0} (from : ℕ) (a : Answer A) (ask : A → Answer B) (y : B) → after from a ask ≡ granted y → (x : A) × ((a ≡ granted x) × (ask x ≡ granted y))
unfolding after
after_granted from (refused number place) ask y e = absurd (let z : ◌≡◌ {A = ℕ} 0 1 = cc in omega arith)
after_granted from (granted x) ask y e = (x, (refl, e))

-- the section, the group that has the part, and the body after
record Edited (before name : List ℕ) (channel : ℕ) (new : Record) (over : Override) (out : List ℕ) : Type 0 where
  pub casm : Span
  pub group : ℕ
  pub body : List ℕ
  pub found : casm_found before ≡ granted casm
  pub part : part_found (body_in before casm) name ≡ granted group
  pub edit : edited (body_in before casm) group channel new over ≡ granted body
  pub is : out ≡ replaced before (casm.start + 8) body

steps : (before name : List ℕ) (channel : ℕ) (new : Record) (over : Override) (out : List ℕ) → file_edited before name channel new over ≡ granted out → Edited before name channel new over out
unfolding file_edited
steps before name channel new over out e =
    let x = after_granted 0 (casm_found before) _ out e in
    let n = after_granted (x.0.start + 8) (body_read (body_in before x.0)) _ out x.1.1 in
    let g = after_granted 0 (part_found (body_in before x.0) name) _ out n.1.1 in
    let b = after_granted 0 (edited (body_in before x.0) g.0 channel new over) _ out g.1.1 in
    record { casm = x.0; group = g.0; body = b.0; found = x.1.0; part = g.1.0; edit = b.1.0; is = sym (granted_once _ out b.1.1) }

-- ---- bytes as many as a part, in its place

module _ (file : List ℕ) (begin n : ℕ) (b : List ℕ) (fits : begin + n ≤ length file) (many : length b ≡ n) where
  ahead_kept : take begin (replaced file begin b) ≡ take begin file
  unfolding replaced
  ahead_kept = take_at (take begin file) (b ++ drop (begin + length b) file) begin (length-take-le begin file (omega arith))

  from_there : drop begin (replaced file begin b) ≡ b ++ drop (begin + length b) file
  unfolding replaced
  from_there = drop_at (take begin file) (b ++ drop (begin + length b) file) begin (length-take-le begin file (omega arith))

  part_put : take n (drop begin (replaced file begin b)) ≡ b
  part_put = ap (take n) from_there ∙ take_at b (drop (begin + length b) file) n many

  behind_kept : drop (begin + n) (replaced file begin b) ≡ drop (begin + n) file
  behind_kept =
      sym (drop-drop n begin (replaced file begin b))
      ∙ (ap (drop n) from_there ∙ (drop_at b (drop (begin + length b) file) n many ∙ ap (λ k. drop (begin + k) file) many))

-- ---- the file after

module _ (before name : List ℕ) (channel : ℕ) (new : Record) (over : Override) (out : List ℕ) (bytes : Bytes before) (w : Whole new) (d : Edited before name channel new over out) where
  abbrev x : Span
  x = d.casm

  abbrev s : List ℕ
  s = body_in before x

  abbrev place : ℕ
  place = record_place s d.group channel

  abbrev wide : ℕ
  wide = record_size s d.group

  stands : x.start + 8 + x.size ≤ length before
  stands = (casm_stands before x d.found).0

  own : Bytes s
  unfolding body_in
  own = bytes_part before x.size (x.start + 8) bytes

  body_yes : bodies_checked s d.body d.group channel ≡ Yes
  body_yes = edit_answered_yes s d.body d.group channel new over own w d.edit

  both : BodiesRead s d.body d.group channel
  both = (yes_read s d.body d.group channel body_yes).0

  bodies : AlikeOutside s d.body place wide
  bodies = yes_is s d.body place wide (yes_read s d.body d.group channel body_yes).1

  many : length d.body ≡ x.size
  many = sym bodies.long ∙ body_length before x stands

  -- the body after is what stands in the file after
  body_there : body_in out x ≡ d.body
  unfolding body_in
  body_there = ap (λ (f : List ℕ). take x.size (drop (x.start + 8) f)) d.is ∙ part_put before (x.start + 8) x.size d.body stands many

  front : take (x.start + 8) out ≡ take (x.start + 8) before
  front = ap (take (x.start + 8)) d.is ∙ ahead_kept before (x.start + 8) x.size d.body stands many

  rest : drop (x.start + 8 + x.size) out ≡ drop (x.start + 8 + x.size) before
  rest = ap (drop (x.start + 8 + x.size)) d.is ∙ behind_kept before (x.start + 8) x.size d.body stands many

  long : length out ≡ length before
  long = ap length d.is ∙ replaced_length before (x.start + 8) d.body (omega (arith, stands, many))

  alike_files : AlikeOutside before out (x.start + 8 + place) wide
  alike_files = bodies_alike before out x place wide stands (omega (arith, stands, long)) front rest (subst (λ (t : List ℕ). AlikeOutside s t place wide) (sym body_there) bodies)

  found_again : casm_found out ≡ granted x
  found_again =
      let row : place + wide ≤ x.size = omega (arith, row_within s d.body d.group channel both, body_length before x stands) in
      sym (casm_alike before out (x.start + 8 + place) wide alike_files x (casm_at before x d.found) (omega arith) (omega (arith, row))) ∙ d.found

  answered_yes : bodies_checked s (body_in out x) d.group channel ≡ Yes
  answered_yes = subst (λ (t : List ℕ). bodies_checked s t d.group channel ≡ Yes) (sym body_there) body_yes

  alone : EditedAlone before name channel new out
  alone =
      record {
        group = d.group;
        sections = record { casm = x; found = d.found; again = found_again; ahead = front; behind = rest; bodies = answered_yes };
        named = (part_granted s name d.group d.part).1;
        alike = alike_files;
        others = rw body_there (others_as_before s d.body both.n both.m d.group channel both.before both.after both.there both.its bodies);
        read = rw body_there (edit_back s d.body d.group channel new over own w d.edit);
      }

  yes_of_files : files_checked before out d.group channel ≡ Yes
  unfolding alone
  yes_of_files = yes_files before out d.group channel alone.sections

module _ (before name : List ℕ) (channel : ℕ) (new : Record) (over : Override) (out : List ℕ) (bytes : Bytes before) (w : Whole new) (e : file_edited before name channel new over ≡ granted out) where
  pub file_edited_alone : EditedAlone before name channel new out
  file_edited_alone = alone before name channel new over out bytes w (steps before name channel new over out e)

  pub file_edit_yes : (y : Span) (g : ℕ) → casm_found before ≡ granted y → part_found (body_in before y) name ≡ granted g → files_checked before out g channel ≡ Yes
  file_edit_yes y g f p =
      let d = steps before name channel new over out e in
      let q : y ≡ d.casm = granted_once y d.casm (sym f ∙ d.found) in
      let r : d.group ≡ g = granted_once d.group g (sym d.part ∙ rw q at p) in
      subst (λ (k : ℕ). files_checked before out k channel ≡ Yes) r (yes_of_files before name channel new over out bytes w d)
