-- The bits of a name that are set with those of its word are all set, and so are those of every name that had its own.
use Prim.Native.Nat.{ℕ, ◌<◌}
use mathlib.Core.Path.{◌≡◌, refl}
use mathlib.Core.Bool.{Bool, true, false}
use mathlib.Core.List.{List}
use lib.Bits.{bit_or}
use lib.Dec.{eqb}
use lib.ListN.{length, get_or, set}
use lib.Seq.{get_or-set_same, get_or-set_other}
use borrow.Author.Tests.{eq-eqb, eqb-true, eqb-false}
use Rattle.read_names.proofs.Words.{or_again, or_kept}
use Rattle.read_met.specs.Table.{word_of, bits, met, Meeting}

module _ (t : List ℕ) (mark : ℕ) (l : word_of mark < length t) where
  -- the word with the bits set
  abbrev pub v : ℕ
  v = bit_or (get_or t (word_of mark) 0) (bits mark)

  at_word : get_or (set t (word_of mark) v) (word_of mark) 0 ≡ v
  at_word = get_or-set_same t (word_of mark) v 0 l

  still : (other : ℕ) → met t other ≡ true → (b : Bool) → eqb (word_of other) (word_of mark) ≡ b → met (set t (word_of mark) v) other ≡ true
  unfolding met
  still other h true e =
      let q : word_of other ≡ word_of mark = eqb-true (word_of other) (word_of mark) e in
      rw (q, at_word) (eq-eqb (bit_or v (bits other)) v (or_kept (get_or t (word_of mark) 0) (bits mark) (bits other) (eqb-true _ _ (rw q at h))))
  still other h false e = rw (get_or-set_other t (word_of mark) (word_of other) v 0 (eqb-false (word_of other) (word_of mark) e)) h

  -- the word is stored with the bits p of the mark, and the answer is whether that changed it
  pub meeting : (p : ℕ) → p ≡ bits mark → Meeting t (set t (word_of mark) (bit_or (get_or t (word_of mark) 0) p)) mark (eqb (bit_or (get_or t (word_of mark) 0) p) (get_or t (word_of mark) 0))
  unfolding met
  meeting p e =
      rw e (record {
        answer = refl;
        here = rw at_word (eq-eqb (bit_or v (bits mark)) v (or_again (get_or t (word_of mark) 0) (bits mark)));
        kept = λ other h. still other h (eqb (word_of other) (word_of mark)) refl;
      })
