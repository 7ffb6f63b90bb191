-- Who plays of two lists of records that differ at one place: the answers are the same before it and behind it, and at it is the one record's channel, present or not.
use Prim.Native.Nat.{ℕ, suc, ◌<◌}
use mathlib.Core.Path.{◌≡◌, refl, sym, ap, ◌∙◌}
use mathlib.Core.Bool.{Bool, true, false, cond}
use mathlib.Core.List.{List, [], ◌∷◌, ◌++◌, append_assoc, append-nil, map}
use lib.Dec.{eqb}
use lib.ListN.{length, get_or, take, drop, set, length-set}
use lib.Seq.{split_at, set_split, get_or-set_same, get_or-set_other, ext_get_or}
use borrow.Author.Tests.{eqb-true, eqb-false}
use Rattle.layout.specs.Lists.{those}
use Rattle.layout.specs.declared.record.SourceChannel.{SourceChannel}
use Rattle.layout.specs.declared.record.Record.{Record}
use Rattle.layout.specs.Records.{blank}
use Rattle.law_checked.specs.Others.{Presence, absent, present, SameButFor}

-- ---- lists that differ at one place

module _ {A : Type 0} (d : A) (xs ys : List A) (i : ℕ) (long : length ys ≡ length xs) (l : i < length xs) (others : (j : ℕ) → (j ≡ i → ⊥) → get_or ys j d ≡ get_or xs j d) where
  set_there : set xs i (get_or ys i d) ≡ ys
  set_there = ext_get_or d (set xs i (get_or ys i d)) ys (length-set xs i (get_or ys i d) ∙ sym long) (λ j k. go j (eqb j i) refl)
    where
      go : (j : ℕ) (b : Bool) → eqb j i ≡ b → get_or (set xs i (get_or ys i d)) j d ≡ get_or ys j d
      go j true z = let q : j ≡ i = eqb-true j i z in rw q (get_or-set_same xs i (get_or ys i d) d l)
      go j false z = let q = eqb-false j i z in get_or-set_other xs i j (get_or ys i d) d q ∙ sym (others j q)

  split_there : ys ≡ take i xs ++ (get_or ys i d ∷ drop (suc i) xs)
  split_there = sym set_there ∙ set_split xs i (get_or ys i d) l

pub same_lists : {A : Type 0} (d : A) (xs ys : List A) → length ys ≡ length xs → ((j : ℕ) → get_or ys j d ≡ get_or xs j d) → ys ≡ xs
same_lists d xs ys long h = ext_get_or d ys xs long (λ j k. h j)

-- ---- those that pass a test

module _ (test : Record → Bool) where
  -- the channels of those records that pass
  abbrev channels : List Record → List SourceChannel
  channels rs = map (λ (r : Record). r.source) (those test rs)

  channels_cons : (r : Record) (rs : List Record) → channels (r ∷ rs) ≡ channels (r ∷ []) ++ channels rs
  unfolding those
  channels_cons r rs = go (test r)
    where
      go : (b : Bool) → map (λ (r : Record). r.source) (cond b (r ∷ those test rs) (those test rs)) ≡ map (λ (r : Record). r.source) (cond b (r ∷ []) []) ++ channels rs
      go true = refl
      go false = refl

  channels_append : (xs ys : List Record) → channels (xs ++ ys) ≡ channels xs ++ channels ys
  unfolding those
  channels_append [] ys = refl
  channels_append (x ∷ xs) ys =
      channels_cons x (xs ++ ys)
      ∙ ap (λ z. channels (x ∷ []) ++ z) (channels_append xs ys)
      ∙ sym (append_assoc (channels (x ∷ [])) (channels xs) (channels ys))
      ∙ ap (λ z. z ++ channels ys) (sym (channels_cons x xs))

  presence : (r : Record) → Presence r.source (channels (r ∷ []))
  unfolding those
  presence r = go (test r)
    where
      go : (b : Bool) → Presence r.source (map (λ (r : Record). r.source) (cond b (r ∷ []) []))
      go true = present
      go false = absent

  -- split at one place
  channels_split : (xs ys : List Record) (r : Record) → channels (xs ++ (r ∷ ys)) ≡ channels xs ++ (channels (r ∷ []) ++ channels ys)
  channels_split xs ys r = channels_append xs (r ∷ ys) ∙ ap (λ x. channels xs ++ x) (channels_cons r ys)

  pub channels_apart : (xs ys : List Record) (i : ℕ) → length ys ≡ length xs → i < length xs → ((j : ℕ) → (j ≡ i → ⊥) → get_or ys j blank ≡ get_or xs j blank)
      → SameButFor (get_or xs i blank).source (get_or ys i blank).source (channels xs) (channels ys)
  channels_apart xs ys i long l others =
      let old = get_or xs i blank in
      let new = get_or ys i blank in
      record {
        front = channels (take i xs);
        was = channels (old ∷ []);
        is = channels (new ∷ []);
        rest = channels (drop (suc i) xs);
        answer_before = ap (λ x. channels x) (split_at xs i blank l) ∙ channels_split (take i xs) (drop (suc i) xs) old;
        answer_after = ap (λ x. channels x) (split_there blank xs ys i long l others) ∙ channels_split (take i xs) (drop (suc i) xs) new;
        there_before = presence old;
        there_after = presence new;
      }

-- the same answers
pub nothing_apart : (old new : SourceChannel) (xs : List SourceChannel) → SameButFor old new xs xs
nothing_apart old new xs =
    record { front = xs; was = []; is = []; rest = []; answer_before = sym (append-nil xs); answer_after = sym (append-nil xs); there_before = absent; there_after = absent }
