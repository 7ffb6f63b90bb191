-- Two refusals that are the same have one number and one place; two groups that are the same have the same inside.
use Prim.Native.Nat.{ℕ}
use mathlib.Core.Path.{◌≡◌, ap}
use Rattle.std.specs.Prelude.{Result, Ok, Err}
use Rattle.layout.specs.Editions.{Edition, First}
use Rattle.layout.specs.Scan.{Refusal}
use Rattle.layout.specs.Group.{Judged, Inside, Sound}

module _ {A : Type 0} where
  number_in : Result A Refusal → ℕ
  number_in (Ok a) = 0
  number_in (Err why) = why.number

  place_in : Result A Refusal → ℕ
  place_in (Ok a) = 0
  place_in (Err why) = why.place

  abbrev refused_at : ℕ → ℕ → Result A Refusal
  refused_at number place = Err (record { number = number; place = place })

  pub one_number : {a b c d : ℕ} → refused_at a b ≡ refused_at c d → a ≡ c
  unfolding number_in
  one_number q = ap number_in q

  pub one_place : {a b c d : ℕ} → refused_at a b ≡ refused_at c d → b ≡ d
  unfolding place_in
  one_place q = ap place_in q

nothing_in : Inside
nothing_in = record { edition = First; text = 0; ctabs = 0; cntts = 0 }

inside_of : Judged → Inside
inside_of (Ok x) = x
inside_of (Err why) = nothing_in

module _ {e f : Edition} {t u n o m p : ℕ} (q : Sound e t n m ≡ Sound f u o p) where
  pub one_edition : e ≡ f
  unfolding inside_of
  one_edition = ap (λ r. (inside_of r).edition) q

  pub one_text : t ≡ u
  unfolding inside_of
  one_text = ap (λ r. (inside_of r).text) q

  pub one_ctabs : n ≡ o
  unfolding inside_of
  one_ctabs = ap (λ r. (inside_of r).ctabs) q

  pub one_cntts : m ≡ p
  unfolding inside_of
  one_cntts = ap (λ r. (inside_of r).cntts) q
