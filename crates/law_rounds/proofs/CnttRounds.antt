-- A Cntt read is the bytes of its source channel and its value, and a Cntt written is read (document 01, "The CASM body": Cntt).
use Prim.Native.Nat.{ℕ, suc, ◌+◌, ◌≤◌, ◌<◌}
use mathlib.Core.Path.{◌≡◌, refl, sym, ap, ap₂, ◌∙◌}
use mathlib.Core.Bool.{true}
use mathlib.Core.List.{List, [], ◌∷◌, ◌++◌}
use native.Mathlib.Omega.{arith}
use native.Mathlib.Nat.{add-zero}
use lib.ListN.{length, get_or, take, drop}
use lib.Seq.{drop-cons}
use borrow.Author.Tests.{ne_eqb}
use Rattle.layout.specs.Bytes.{Cntt, chunk}
use Rattle.layout.specs.Scan.{More}
use Rattle.layout.specs.Records.{Value}
use Rattle.layout.specs.Ranges.{cntt_value}
use Rattle.layout.specs.Group.{head_fault, cntt_fault, cntt_at}
use Rattle.layout.specs.Write.{cntt_bytes}
use Rattle.layout.proofs.Heads.{head_sound}
use Rattle.layout.proofs.Cntts.{CnttMore, cntt_fits, channel_in_lem}
use Rattle.law_rounds.specs.Rounds.{Bytes}
use Rattle.law_rounds.proofs.Blocks.{moved}
use Rattle.law_rounds.proofs.Chunks.{chunk_read, written_length, written_byte, written_head}

module _ (c : List ℕ) (p n q j at : ℕ) (h : CnttMore c p n q j at) where
  pub cntt_read : Bytes c → drop at c ≡ cntt_bytes (get_or c (at + 8) 0) (Value (get_or c (at + 9) 0)) ++ drop (at + 10) c
  unfolding cntt_bytes
  cntt_read b =
      let fits = cntt_fits c p n q j at h in
      chunk_read c at Cntt 2 b (head_sound c at Cntt h.head).0 h.size (omega arith)
      ∙ ap₂ (λ x y. chunk Cntt x ++ y) (two fits) (moved c (at + 8 + 2) (at + 10) (omega arith))
    where
      two : at + 10 ≤ length c → take 2 (drop (at + 8) c) ≡ get_or c (at + 8) 0 ∷ get_or c (at + 9) 0 ∷ []
      two fits =
          ap (take 2) (drop-cons c (at + 8) 0 (omega arith) ∙ ap (λ x. get_or c (at + 8) 0 ∷ x) (moved c (suc (at + 8)) (at + 9) (omega arith)
          ∙ drop-cons c (at + 9) 0 (omega arith)))

  pub cntt_goes : cntt_at c p n q j at ≡ More
  unfolding cntt_at
  cntt_goes =
      let fits = cntt_fits c p n q j at h in
      rw (
        ne_eqb at (length c) (omega arith),
        h.head,
        h.size,
        channel_in_lem (get_or c (at + 8) 0) (omega (arith, h.channel)),
        h.value,
        h.fault,
      )

module _ (c : List ℕ) (at channel v : ℕ) (x : List ℕ) (e : drop at c ≡ cntt_bytes channel (Value v) ++ x) where
  chunked : drop at c ≡ chunk Cntt (channel ∷ v ∷ []) ++ x
  unfolding cntt_bytes
  chunked = e

  pub written_channel : get_or c (at + 8) 0 ≡ channel
  written_channel = ap (λ k. get_or c k 0) (sym (add-zero (at + 8))) ∙ written_byte c at Cntt (channel ∷ v ∷ []) x refl chunked 0 (omega arith)

  pub written_value : get_or c (at + 9) 0 ≡ v
  written_value = ap (λ k. get_or c k 0) (omega arith) ∙ written_byte c at Cntt (channel ∷ v ∷ []) x refl chunked 1 (omega arith)

  pub cntt_headed : head_fault c at Cntt ≡ 0
  cntt_headed = written_head c at Cntt (channel ∷ v ∷ []) x refl chunked (omega arith)

  pub cntt_written : (p n q j : ℕ) → channel < 16 → cntt_value v ≡ true → cntt_fault c p n q j (get_or c (at + 8) 0) ≡ 0 → CnttMore c p n q j at
  cntt_written p n q j l t o =
      record {
        head = cntt_headed;
        size = written_length c at Cntt (channel ∷ v ∷ []) x refl chunked (omega arith);
        channel = rw written_channel l;
        value = rw written_value t;
        fault = o;
      }
