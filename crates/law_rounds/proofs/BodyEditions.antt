-- The editions of a body's groups (document 02, §4): no group is unlike the first with records exactly where those with records are of one edition.
use Prim.Native.Nat.{ℕ, ◌≤◌, ◌<◌}
use mathlib.Core.Path.{◌≡◌, refl, sym, ap, ◌∙◌}
use mathlib.Core.Bool.{Bool, true, false, not, ◌&&◌, false≢true}
use mathlib.Core.List.{List}
use native.Mathlib.Omega.{arith}
use native.Mathlib.Decide.{dec_lt}
use lib.Dec.{ltb}
use borrow.Author.Tests.{lt-ltb, ltb-true, not-false}
use Rattle.layout.specs.declared.edition.Edition.{Edition}
use Rattle.layout.specs.Editions.{alike}
use Rattle.layout.specs.Body.{judged_no, records_of, edition_in, fixing, unlike_body}
use Rattle.layout.proofs.Editions.{alike_self, alike_is}
use Rattle.layout.proofs.Scans.{first_passed, first_stands, first_is}

module _ (s : List ℕ) where
  -- the edition of group number k, and how many records it has
  abbrev pub edition_no : ℕ → Edition
  edition_no k = edition_in (judged_no s k)

  abbrev pub records_no : ℕ → ℕ
  records_no k = records_of (judged_no s k)

  -- it has records
  abbrev has : ℕ → Bool
  has k = ltb 0 (records_of (judged_no s k))

  -- the first of n groups with records is no later than any with records
  fixing_first : (n j : ℕ) → j < n → 0 < records_no j → fixing s n ≤ j
  unfolding fixing
  fixing_first n j l h = go (dec_lt j (fixing s n))
    where
      go : Dec (j < fixing s n) → fixing s n ≤ j
      go (yes d) = absurd (false≢true (sym (first_passed has n j d) ∙ lt-ltb 0 (records_no j) h))
      go (no d) = omega arith

  -- .. and the same where it is sought among fewer
  fixing_fewer : (n j : ℕ) → j ≤ n → fixing s n < j → fixing s j ≡ fixing s n
  unfolding fixing
  fixing_fewer n j l h = first_is has j (fixing s n) h (first_stands has n (omega arith)) (λ k u. first_passed has n k u)

  -- a group that is not unlike is of the edition of the first with records
  like_fixing : (j : ℕ) → 0 < records_no j → fixing s j < j → unlike_body s j (edition_no j) (records_no j) ≡ false → edition_no (fixing s j) ≡ edition_no j
  unfolding unlike_body
  like_fixing j h l e = alike_is _ _ (not-false _ (rw (lt-ltb 0 (records_no j) h, lt-ltb (fixing s j) j l) at e))

  module _ (n : ℕ) where
    pub one_edition : ((j : ℕ) → j < n → unlike_body s j (edition_no j) (records_no j) ≡ false)
        → (i j : ℕ) → i < n → j < n → 0 < records_no i → 0 < records_no j → edition_no i ≡ edition_no j
    one_edition like i j k l a b = sym (fixed i k a) ∙ fixed j l b
      where
        fixed : (j : ℕ) → j < n → 0 < records_no j → edition_no (fixing s n) ≡ edition_no j
        fixed j l h = go (dec_lt (fixing s n) j)
          where
            go : Dec (fixing s n < j) → edition_no (fixing s n) ≡ edition_no j
            go (yes d) =
                let z : fixing s j ≡ fixing s n = fixing_fewer n j (omega arith) d in
                ap edition_no (sym z) ∙ like_fixing j h (omega arith) (like j l)
            go (no d) = ap edition_no (omega (arith, fixing_first n j l h))

    pub none_unlike : ((i j : ℕ) → i < n → j < n → 0 < records_no i → 0 < records_no j → edition_no i ≡ edition_no j)
        → (j : ℕ) → j < n → unlike_body s j (edition_no j) (records_no j) ≡ false
    unfolding unlike_body fixing
    none_unlike one j l = go (ltb 0 (records_no j)) (ltb (fixing s j) j) refl refl
      where
        go : (a b : Bool) → ltb 0 (records_no j) ≡ a → ltb (fixing s j) j ≡ b → a && (b && not (alike (edition_no (fixing s j)) (edition_no j))) ≡ false
        go false b x y = refl
        go true false x y = refl
        go true true x y =
            let d : fixing s j < j = ltb-true _ _ y in
            let some : 0 < records_no (fixing s j) = ltb-true 0 (records_no (fixing s j)) (first_stands has j d) in
            let e : edition_no (fixing s j) ≡ edition_no j = one (fixing s j) j (omega arith) l some (ltb-true 0 (records_no j) x) in
            rw e (ap not (alike_self (edition_no j)))
