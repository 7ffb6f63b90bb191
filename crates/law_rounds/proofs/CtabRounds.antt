-- A Ctab read is what is held of its record, closed and behind a header, and a Ctab so written is read (document 01, "The CASM body": Ctab): over the edition.
use Prim.Native.Nat.{ℕ, ◌+◌, ◌≤◌, ◌<◌}
use mathlib.Core.Path.{◌≡◌, refl, sym, ap, ◌∙◌}
use mathlib.Core.Bool.{true, false}
use mathlib.Core.List.{List, ◌++◌, append_assoc}
use native.Mathlib.Omega.{arith}
use native.Mathlib.Nat.{add-zero}
use lib.Dec.{eqb}
use lib.ListN.{length, get_or, take, drop, length-drop, get_or-append}
use lib.Seq.{get_or-take, length-take-le, take_at, get_or-drop}
use borrow.Author.Tests.{le-ltb, le-leb, eq-eqb, ne_eqb}
use Rattle.layout.specs.Lists.{same}
use Rattle.layout.specs.Scan.{first}
use Rattle.layout.specs.Bytes.{tag_at, tagged, Cntt, chunk}
use Rattle.layout.specs.Scan.{More}
use Rattle.layout.specs.declared.edition.Edition.{Edition}
use Rattle.layout.specs.declared.edition.Edition.TheVariants.{First, Second}
use Rattle.layout.specs.Editions.{tag_of, size, held, closing}
use Rattle.layout.specs.Ranges.{out_at, first_out}
use Rattle.layout.specs.declared.record.Record.{Record}
use Rattle.layout.specs.Records.{bytes_of, edition_of, file_bytes}
use Rattle.layout.specs.Group.{ctabs_over, ctab_channel, ctab_of, ctab_at}
use Rattle.layout.specs.Write.{ctab_bytes}
use Rattle.layout.proofs.Editions.{held_size as held_within, held_some, size_least, closed_length}
use Rattle.layout.proofs.Scans.{first_passed, first_none}
use Rattle.layout.proofs.Heads.{head_sound}
use Rattle.layout.proofs.Same.{same_is}
use Rattle.layout.proofs.Records.{bytes_length, Ranged}
use Rattle.layout.proofs.Ctabs.{CtabMore, ctab_fits}
use Rattle.layout.proofs.Outs.{out_alike}
use Rattle.law_rounds.specs.Rounds.{Bytes}
use Rattle.law_rounds.proofs.Chunks.{chunk_read, length_chunk, written_length, written_rest, written_byte, written_head}
use Rattle.law_rounds.proofs.InRange.{closing_read, closing_ranged}

pub length_file : (r : Record) → length (file_bytes r) ≡ size (edition_of r)
unfolding file_bytes
length_file r = closed_length (edition_of r) (bytes_of r) (bytes_length r)

pub four_bytes : (e : Edition) → length (tag_of e) ≡ 4
four_bytes First = refl
four_bytes Second = refl

pub length_ctab : (r : Record) → length (ctab_bytes r) ≡ 8 + size (edition_of r)
unfolding ctab_bytes
length_ctab r = length_chunk (tag_of (edition_of r)) (file_bytes r) (four_bytes (edition_of r)) ∙ rw (length_file r)

-- ---- read

module _ (e : Edition) (c : List ℕ) (p n at : ℕ) (h : CtabMore e c p n at) where
  -- byte k of its record is in its range
  read_ranged : (k : ℕ) → k < size e → out_at e c (at + 8) k ≡ false
  unfolding first_out
  read_ranged k l =
      let w : size e ≤ first (out_at e c (at + 8)) 0 (size e) = h.inside in
      first_passed (out_at e c (at + 8)) (size e) k (omega arith)

  -- what is held of it
  abbrev own : List ℕ
  own = take (held e) (drop (at + 8) c)

  pub held_size : length own ≡ held e
  held_size = length-take-le (held e) (drop (at + 8) c) (rw length-drop (omega (arith, ctab_fits e c p n at h, held_within e)))

  pub held_ranged : Ranged e own
  held_ranged k l = out_alike e own c 0 (at + 8) (held e) byte k l ∙ read_ranged k (omega (arith, held_within e))
    where
      byte : (i : ℕ) → i < held e → get_or own (0 + i) 0 ≡ get_or c (at + 8 + i) 0
      byte i m = ap (λ k. get_or own k 0) (omega arith) ∙ get_or-take (held e) (drop (at + 8) c) i 0 m ∙ get_or-drop (at + 8) c i 0

  pub ctab_read : Bytes c → drop at c ≡ chunk (tag_of e) (own ++ closing e) ++ drop (at + 8 + size e) c
  ctab_read b =
      let fits = ctab_fits e c p n at h in
      chunk_read c at (tag_of e) (size e) b (head_sound c at (tag_of e) h.head).0 h.length fits
      ∙ ap (λ x. chunk (tag_of e) x ++ drop (at + 8 + size e) c) (closing_read e c (at + 8) fits read_ranged)

-- ---- written

-- a Ctab is no Cntt, so the run goes on where it stands
no_cntt : (e : Edition) → same (tag_of e) Cntt ≡ false
unfolding same
no_cntt First = refl
no_cntt Second = refl

not_over : (e : Edition) (c : List ℕ) (at : ℕ) → at + 8 + size e ≤ length c → tagged c at (tag_of e) ≡ true → ctabs_over c at ≡ false
unfolding ctabs_over tagged
not_over e c at h t =
    let z : tag_at c at ≡ tag_of e = same_is (tag_at c at) (tag_of e) t in
    rw (ne_eqb at (length c) (omega arith), le-leb (at + 8) (length c) (omega arith), z, no_cntt e)

pub ctab_goes : (e : Edition) (c : List ℕ) (p n at : ℕ) → CtabMore e c p n at → ctab_at e c p n at ≡ More
unfolding ctab_at
ctab_goes e c p n at h =
    rw (
      not_over e c at (ctab_fits e c p n at h) (head_sound c at (tag_of e) h.head).0,
      h.head,
      eq-eqb _ _ h.length,
      le-ltb (first_out e c (at + 8) (size e)) (size e) h.inside,
      h.fresh,
    )

-- the bytes b, as many as are held
module _ (e : Edition) (c : List ℕ) (at : ℕ) (b x : List ℕ) (long : length b ≡ held e) (q : drop at c ≡ chunk (tag_of e) (b ++ closing e) ++ x) where
  abbrev file : List ℕ
  file = b ++ closing e

  byte_of : (k : ℕ) → k < size e → get_or c (at + 8 + k) 0 ≡ get_or file k 0
  byte_of k l = written_byte c at (tag_of e) file x (four_bytes e) q k (omega (arith, closed_length e b long))

  pub channel_at : get_or c (at + 8) 0 ≡ get_or b 0 0
  channel_at =
      ap (λ k. get_or c k 0) (sym (add-zero (at + 8))) ∙ byte_of 0 (omega (arith, size_least e)) ∙ get_or-append b (closing e) 0 0 (omega (arith, held_some e))

  pub held_at : take (held e) (drop (at + 8) c) ≡ b
  held_at =
      ap (take (held e)) (written_rest c at (tag_of e) file x (four_bytes e) q ∙ append_assoc b (closing e) x) ∙ take_at b _ (held e) long

  pub ctab_written : Ranged e b → (p n : ℕ) → ((i : ℕ) → i < n → ctab_channel e c p i ≡ get_or b 0 0 → ⊥) → CtabMore e c p n at
  unfolding first_out ctab_of
  ctab_written ok p n f =
      let z = closed_length e b long in
      let byte : (i : ℕ) → i < size e → get_or c (at + 8 + i) 0 ≡ get_or file (0 + i) 0 = λ i l. byte_of i l ∙ ap (λ k. get_or file k 0) (omega arith) in
      let none : first (out_at e c (at + 8)) 0 (size e) ≡ size e =
      first_none (out_at e c (at + 8)) (size e) (λ k l. out_alike e c file (at + 8) 0 (size e) byte k l ∙ closing_ranged e b long ok k l) in
      let fresh : first (λ i. eqb (ctab_channel e c p i) (get_or c (at + 8) 0)) 0 n ≡ n =
      first_none (λ i. eqb (ctab_channel e c p i) (get_or c (at + 8) 0)) n (λ i l. ne_eqb _ _ (λ q. f i l (q ∙ channel_at))) in
      record {
        head = written_head c at (tag_of e) file x (four_bytes e) q (few e (length file) z);
        length = written_length c at (tag_of e) file x (four_bytes e) q (few e (length file) z) ∙ z;
        inside = omega arith;
        fresh = rw fresh (le-ltb n n (omega arith));
      }
    where
      few : (e : Edition) (k : ℕ) → k ≡ size e → k < 4294967296
      few First k h = omega arith
      few Second k h = omega arith
