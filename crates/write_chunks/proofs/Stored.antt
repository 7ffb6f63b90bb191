-- The chunks behind their headers, as they come about.
use Prim.Native.Nat.{ℕ, ◌+◌, ◌-◌, ◌≤◌, ◌<◌}
use mathlib.Core.Path.{◌≡◌, refl, sym, ◌∙◌, ap, ap₂}
use mathlib.Core.List.{List, ◌∷◌, ◌++◌, append_assoc}
use native.Mathlib.Omega.{arith}
use lib.ListN.{length, get_or, set, take, drop, take-append-drop}
use lib.Seq.{drop-cons, drop_at, set-append_seam, length-take-le}
use borrow.Rule.Slice.PartMut.{mid_of, put_mid}
use Rattle.layout.specs.declared.record.Record.{Record}
use Rattle.layout.specs.Records.{Value}
use Rattle.layout.specs.Bytes.{four, chunk, CSEG, Sdec}
use Rattle.layout.specs.declared.edition.Edition.{Edition}
use Rattle.layout.specs.declared.edition.Edition.TheVariants.{First, Second}
use Rattle.layout.specs.Editions.{tag_of, size, held, closing}
use Rattle.layout.specs.Records.{bytes_of, edition_of, file_bytes, laid_out}
use Rattle.layout.proofs.Editions.{size_least, held_spare, closed_length}
use Rattle.layout.proofs.Records.{bytes_length, laid_front, laid_length}
use Rattle.layout.proofs.Groups.{sdec_tag, cseg_tag}
use Rattle.layout.specs.Edit.{replaced}
use Rattle.layout.specs.Group.{ctab_place}
use Rattle.layout.specs.Write.{ctab_bytes, cntt_bytes}
use Rattle.write_chunks.proofs.Tails.{tail_written, tail_replaced}

-- the bytes held, and behind those of the first edition 00
module _ (e : Edition) (b old xs : List ℕ) (z : length b ≡ held e) (q : xs ≡ b ++ drop (length b) old) where
  held_over : xs ≡ b ++ drop (held e) old
  held_over = q ∙ ap (λ (k : ℕ). b ++ drop k old) z

  pub held_first : e ≡ First → size e ≤ length old → set xs 26 0 ≡ b ++ (closing e ++ drop (size e) old)
  held_first f h =
      let n : length b ≡ 26 = rw f at z in
      let more : 26 < length old = omega (arith, size_least e) in
      let over : xs ≡ b ++ (get_or old 26 0 ∷ drop 27 old) = rw f at held_over ∙ ap (λ (d : List ℕ). b ++ d) (drop-cons old 26 0 more) in
      rw f (ap₂ (λ (l : List ℕ) (k : ℕ). set l k 0) over (sym n) ∙ set-append_seam b (get_or old 26 0) (drop 27 old) 0)

  pub held_second : e ≡ Second → xs ≡ b ++ (closing e ++ drop (size e) old)
  held_second f = rw f (rw f at held_over)

-- the bytes held, of a record laid out
module _ (r : Record) (e : Edition) (b : List ℕ) (n : ℕ) (laid : b ≡ laid_out r) (is : e ≡ edition_of r) (many : n ≡ held e) where
  pub held_within : n ≤ length b
  held_within = omega (arith, ap length laid, laid_length r, held_spare e, many)

  pub held_are : take n b ≡ bytes_of r
  held_are = ap₂ take (many ∙ ap held is) laid ∙ laid_front r

  pub held_length : length (take n b) ≡ held e
  held_length = ap length held_are ∙ (bytes_length r ∙ ap held (sym is))

  pub held_cut : n ≡ length (take n b)
  held_cut = many ∙ sym held_length

-- .. are the record's bytes in the file
pub record_stored : (r : Record) (b d xs : List ℕ) → b ≡ bytes_of r → xs ≡ b ++ (closing (edition_of r) ++ d) → xs ≡ file_bytes r ++ d
unfolding file_bytes
record_stored r b d xs e q = rw e at q ∙ sym (append_assoc (bytes_of r) (closing (edition_of r)) d)

-- a tail behind a header, given the bytes b at its start
module _ (tag size : ℕ) (old xs : List ℕ) (h : 8 ≤ length xs) (q : xs ≡ four tag ++ (four size ++ drop 8 old)) where
  pub headed : (b ys : List ℕ) (n : ℕ) → length b ≡ n → ys ≡ b ++ drop n (mid_of 8 (length xs - 8) xs) → put_mid 8 (length xs - 8) xs ys ≡ four tag ++ (four size ++ (b ++ drop (8 + n) old))
  unfolding four
  headed b ys n z w = tail_written (four tag ++ four size) old xs 8 refl h q b ys n z w

-- a chunk and what stands behind it
chunk_then : (tag b d : List ℕ) → chunk tag b ++ d ≡ tag ++ (four (length b) ++ (b ++ d))
unfolding chunk
chunk_then tag b d = append_assoc tag (four (length b) ++ b) d ∙ ap (λ (x : List ℕ). tag ++ x) (append_assoc (four (length b)) b d)

module _ (old xs : List ℕ) (h : 8 ≤ length xs) where
  pub sdec_stored : (text ys : List ℕ) → xs ≡ four 0x53646563 ++ (four (length text) ++ drop 8 old) → ys ≡ text ++ drop (length text) (mid_of 8 (length xs - 8) xs)
      → put_mid 8 (length xs - 8) xs ys ≡ chunk Sdec text ++ drop (8 + length text) old
  sdec_stored text ys q w =
      headed 0x53646563 (length text) old xs h q text ys (length text) refl w
      ∙ (ap (λ (t : List ℕ). t ++ (four (length text) ++ (text ++ drop (8 + length text) old))) sdec_tag ∙ sym (chunk_then Sdec text (drop (8 + length text) old)))

  pub front_stored : (text ys : List ℕ) (size : ℕ) → xs ≡ four 0x43534547 ++ (four size ++ drop 8 old) → ys ≡ chunk Sdec text ++ drop (8 + length text) (mid_of 8 (length xs - 8) xs)
      → put_mid 8 (length xs - 8) xs ys ≡ CSEG ++ (four size ++ (chunk Sdec text ++ drop (16 + length text) old))
  unfolding chunk four
  front_stored text ys size q w =
      let z : 8 + (8 + length text) ≡ 16 + length text = omega arith in
      let y : length (chunk Sdec text) ≡ 8 + length text = omega arith in
      headed 0x43534547 size old xs h q (chunk Sdec text) ys (8 + length text) y w
      ∙ (ap (λ (t : List ℕ). t ++ (four size ++ (chunk Sdec text ++ drop (8 + (8 + length text)) old))) cseg_tag ∙ ap (λ (k : ℕ). CSEG ++ (four size ++ (chunk Sdec text ++ drop k old))) z)

-- a record put behind the room of its header, and then the header
pub ctab_stored : (e : Edition) (t n : ℕ) (old b ys last : List ℕ) → 8 ≤ length old → four t ≡ tag_of e → n ≡ size e → length b ≡ held e
    → ys ≡ b ++ (closing e ++ drop (size e) (mid_of 8 (length old - 8) old)) → last ≡ four t ++ (four n ++ drop 8 (put_mid 8 (length old - 8) old ys))
    → last ≡ chunk (tag_of e) (b ++ closing e) ++ drop (8 + size e) old
ctab_stored e t n old b ys last h tag is z w q =
    let f : List ℕ = b ++ closing e in
    let l : length f ≡ size e = closed_length e b z in
    let eight : length (take 8 old) ≡ 8 = length-take-le 8 old h in
    let rest : List ℕ = f ++ drop (8 + size e) old in
    let p : put_mid 8 (length old - 8) old ys ≡ take 8 old ++ rest =
    tail_written (take 8 old) old old 8 eight h (sym (take-append-drop 8 old)) f ys (size e) l (w ∙ sym (append_assoc b (closing e) (drop (size e) (mid_of 8 (length old - 8) old)))) in
    q ∙ (ap (λ (x : List ℕ). four t ++ (four n ++ x)) (ap (drop 8) p ∙ drop_at (take 8 old) rest 8 eight)
    ∙ (ap₂ (λ (t : List ℕ) (k : ℕ). t ++ (four k ++ rest)) tag (is ∙ sym l) ∙ sym (chunk_then (tag_of e) f (drop (8 + size e) old))))

-- a Cntt's two bytes stored behind its header
pub cntt_stored : (channel v : ℕ) (old xs : List ℕ) → 10 ≤ length old → xs ≡ four 0x436E7474 ++ (four 2 ++ drop 8 old) → set (set xs 8 channel) 9 v ≡ cntt_bytes channel (Value v) ++ drop 10 old
unfolding four chunk cntt_bytes
cntt_stored channel v old xs h q = rw (q, drop-cons old 8 0 (omega arith), drop-cons old 9 0 (omega arith))

-- ---- chunks in place of what stands there

ctab_long : (e : Edition) (b : List ℕ) → length b ≡ held e → length (chunk (tag_of e) (b ++ closing e)) ≡ 8 + size e
unfolding chunk four
ctab_long First b z = omega (arith, closed_length First b z)
ctab_long Second b z = omega (arith, closed_length Second b z)

module _ (old : List ℕ) (to : ℕ) (l : to ≤ length old) where
  pub ctab_placed : (e : Edition) (at : ℕ) (b ys : List ℕ) → to ≡ at → length b ≡ held e → ys ≡ chunk (tag_of e) (b ++ closing e) ++ drop (8 + size e) (mid_of to (length old - to) old)
      → put_mid to (length old - to) old ys ≡ replaced old at (chunk (tag_of e) (b ++ closing e))
  ctab_placed e at b ys p z w =
      let f : List ℕ = chunk (tag_of e) (b ++ closing e) in
      tail_replaced old f ys to (8 + size e) l (ctab_long e b z) w ∙ ap (λ (k : ℕ). replaced old k f) p

  pub cntt_placed : (channel v : ℕ) (ys : List ℕ) → ys ≡ cntt_bytes channel (Value v) ++ drop 10 (mid_of to (length old - to) old) → put_mid to (length old - to) old ys ≡ replaced old to (cntt_bytes channel (Value v))
  unfolding cntt_bytes chunk four
  cntt_placed channel v ys w = tail_replaced old (cntt_bytes channel (Value v)) ys to 10 l refl w

-- a record's Ctab from its bytes
pub ctab_of_lem : (r : Record) (b : List ℕ) → b ≡ bytes_of r → chunk (tag_of (edition_of r)) (b ++ closing (edition_of r)) ≡ ctab_bytes r
unfolding ctab_bytes file_bytes
ctab_of_lem r b e = rw e

pub ctab_put : (r : Record) (e : Edition) (b out last : List ℕ) (at i : ℕ) → e ≡ edition_of r → b ≡ bytes_of r → last ≡ replaced out (ctab_place e at i) (chunk (tag_of e) (b ++ closing e))
    → last ≡ replaced out (ctab_place (edition_of r) at i) (ctab_bytes r)
ctab_put r e b out last at i is h q =
    let z = rw is at q in
    z ∙ ap (replaced out (ctab_place (edition_of r) at i)) (ctab_of_lem r b h)
