-- An edit inside a style file: bytes replaced in the body are replaced in the file, and one law for each way out.
use Prim.Native.Nat.{ℕ, ◌+◌, ◌≤◌, ◌<◌}
use mathlib.Core.Path.{◌≡◌, refl, sym, ap, ap₂, ◌∙◌}
use mathlib.Core.Bool.{Bool, true, false, cond, not}
use mathlib.Core.List.{List, ◌++◌}
use native.Mathlib.Omega.{arith}
use lib.Dec.{ltb, eqb}
use lib.ListN.{length, get_or, take, drop, length-take, take-append-drop}
use lib.Seq.{get_or-take, get_or-drop, length-take-le}
use Rattle.layout.specs.declared.answer.Answered.{Answered}
use Rattle.layout.specs.declared.answer.Located.{Located}
use Rattle.layout.specs.declared.answer.Standing.{Standing}
use Rattle.layout.specs.declared.edition.Edition.{Edition}
use Rattle.layout.specs.declared.lock.Override.{Override}
use Rattle.layout.specs.declared.record.Record.{Record}
use Rattle.layout.specs.Answers.{Answer, refused, granted, after_run, number_of, place_of, value_or, answered}
use Rattle.layout.specs.Editions.{size, held, alike}
use Rattle.layout.specs.Lock.{keeps}
use Rattle.layout.specs.Records.{channel_of, edition_of, file_bytes}
use Rattle.layout.specs.Body.{body_read}
use Rattle.layout.specs.Asked.{of_channel, channel_found, part_found}
use Rattle.layout.specs.Style.{casm_found, located}
use Rattle.layout.specs.Listing.{body_in}
use Rattle.layout.specs.Edit.{replaced, first_edited, edited, after, file_edited}
use Rattle.layout.specs.Promises.{FileEdited}
use Rattle.layout.proofs.Accepted.{body_place}
use Rattle.layout.proofs.Editions.{alike_is, size_least}
use Rattle.layout.proofs.Replaced.{replaced_length, replaced_whole, replaced_behind, replaced_before}
use Rattle.read_find.specs.Find.{Refused, Missing, Found}
use Rattle.read_find.specs.Row.{Refused as No, At}
use Rattle.read_find.specs.Find.{part_located}
use Rattle.read_find.specs.Row.{sought}
use Rattle.read_find.proofs.AskLaws.{PartThere, part_there_is, part_stopped, part_ended, part_asked}
use Rattle.read_find.proofs.ReadLaws.{part_missing}
use Rattle.read_find.proofs.RowLaws.{row_found, record_refused, record_there, record_within}
use Rattle.read_style.proofs.PlaceLaws.{casm_stands, casm_none}
use Rattle.write_edit.specs.EditAt.{edited_at, EditedAt, told}
use Rattle.write_edit.proofs.Editing.{file_length}

-- ---- bytes of a part of the file

-- what is replaced inside a part that lies between two others
between : (u s v : List ℕ) (at : ℕ) (b : List ℕ) → at + length b ≤ length s → replaced (u ++ (s ++ v)) (length u + 0) (replaced s at b) ≡ replaced (u ++ (s ++ v)) (length u + at) b
between u s v at b h =
    let w = replaced_length s at b h in
    replaced_behind u (s ++ v) 0 (replaced s at b)
    ∙ ap (λ x. u ++ x) (replaced_before s v 0 (replaced s at b) (omega (arith, w)) ∙ ap (λ x. x ++ v) (replaced_whole s (replaced s at b) (sym w)))
    ∙ sym (replaced_behind u (s ++ v) at b ∙ ap (λ x. u ++ x) (replaced_before s v at b h))

module _ (file : List ℕ) (start n : ℕ) (s : List ℕ) (p : s ≡ take n (drop start file)) where
  -- the file is what stands before the part, the part, and the rest
  cut : file ≡ take start file ++ (s ++ drop n (drop start file))
  cut = sym (ap (λ x. take start file ++ x) (ap (λ y. y ++ drop n (drop start file)) p ∙ take-append-drop n (drop start file)) ∙ take-append-drop start file)

  -- the part put back with bytes replaced in it is the file with them replaced there
  replaced_inside : (at : ℕ) (b : List ℕ) → start ≤ length file → at + length b ≤ length s → replaced file start (replaced s at b) ≡ replaced file (start + at) b
  replaced_inside at b fits h =
      let long = length-take-le start file fits in
      let y : start ≡ length (take start file) + 0 = omega (arith, long) in
      let z : length (take start file) + at ≡ start + at = omega (arith, long) in
      ap₂ (λ x k. replaced x k (replaced s at b)) cut y
      ∙ between (take start file) s (drop n (drop start file)) at b h
      ∙ ap₂ (λ x k. replaced x k b) (sym cut) z

  -- a byte of the part is the file's
  byte_inside : (k : ℕ) → k < length s → get_or s k 0 ≡ get_or file (start + k) 0
  byte_inside k h = ap (λ x. get_or x k 0) p ∙ (get_or-take n (drop start file) k 0 (omega (arith, ap length p, length-take n (drop start file))) ∙ get_or-drop start file k 0)

-- ---- the ways out

module _ (file name : List ℕ) (channel : ℕ) (r : Record) (over : Override) where
  file_refused : (number place : ℕ) (a : Answered) → a ≡ told number place → file_edited file name channel r over ≡ refused number place → FileEdited file name channel r over a file
  unfolding answered number_of place_of value_or
  file_refused number place a q e = record { answer = q ∙ rw e; file = rw e }

  pub no_section : (x : Located) → x ≡ located (casm_found file) → (x.number ≡ 0 → ⊥) → (a : Answered) → a ≡ told x.number x.place → FileEdited file name channel r over a file
  unfolding file_edited after
  no_section x e z a q =
      let y : 0 + x.place ≡ x.place = omega arith in
      file_refused x.number x.place a q (rw (casm_none file x e z, after) (rw y))

  module _ (tag n : ℕ) (f : casm_found file ≡ granted (record { start = tag; size = n })) (s : List ℕ) (p : s ≡ take n (drop (tag + 8) file)) where
    -- what stands within the body stands within the file
    pub begins : tag + 8 ≤ length file
    begins = omega (arith, (casm_stands file (record { start = tag; size = n }) f).0)

    inside : (k : ℕ) → k ≤ length s → tag + 8 + k ≤ length file
    inside k l = omega (arith, (casm_stands file (record { start = tag; size = n }) f).0, ap length p, length-take n (drop (tag + 8) file))

    -- an edit in the body, its bytes put back into the file
    abbrev in_file : Answer (List ℕ) → Answer (List ℕ)
    in_file x = after 0 x (λ body. granted (replaced file (tag + 8) body))

    in_file_lem : file_edited file name channel r over ≡ after (tag + 8) (body_read s) (λ _. after 0 (part_found s name) (λ g. in_file (edited s g channel r over)))
    unfolding file_edited after body_in
    in_file_lem = rw (f, after) (rw p)

    pub body_sum : (number place : ℕ) → part_located s name ≡ Refused number place → tag + 8 + place ≤ length file
    body_sum number place h = inside place (body_place s number place (part_stopped s name number place h))

    pub body_refused : (number place : ℕ) → part_located s name ≡ Refused number place → (a : Answered) → a ≡ told number (tag + 8 + place) → FileEdited file name channel r over a file
    unfolding after body_read after_run
    body_refused number place h a q = file_refused number (tag + 8 + place) a q (in_file_lem ∙ rw (part_stopped s name number place h, after_run, after))

    pub no_part : part_located s name ≡ Missing → (a : Answered) → a ≡ told 15 0 → FileEdited file name channel r over a file
    unfolding after body_read after_run
    no_part h a q = file_refused 15 0 a q (in_file_lem ∙ rw ((part_ended s name h).1.0, after_run, part_missing s name h, after))

    -- ---- the group that has the part

    module _ (k : ℕ) (x : Standing) (h : part_located s name ≡ Found k x) where
      abbrev part : PartThere s name k x
      part = part_there_is s name k x h

      in_group : file_edited file name channel r over ≡ in_file (edited s k channel r over)
      unfolding after body_read part_found after_run
      in_group = in_file_lem ∙ rw (part.there.run, after_run, part_asked s name (λ g. granted g) k x part, after)

      pub no_channel_given : (number place : ℕ) → sought (of_channel s x channel (λ row. granted row)) ≡ No number place → (a : Answered) → a ≡ told number place → FileEdited file name channel r over a file
      unfolding after edited
      no_channel_given number place q a t =
          let y : 0 + place ≡ place = omega arith in
          let e : edited s k channel r over ≡ refused number place = record_refused s k channel _ number place (sym (row_found s k channel x part.there) ∙ q) in
          file_refused number place a t (in_group ∙ rw (e, after) (rw y))

      module _ (e : Edition) (i at : ℕ) (q : sought (of_channel s x channel (λ row. granted row)) ≡ At e i at) where
        there : sought (channel_found s k channel) ≡ At e i at
        there = sym (row_found s k channel x part.there) ∙ q

        pub row_sum : tag + 8 + at + size e ≤ length file
        row_sum = omega (arith, inside (at + size e) (record_within s k channel e i at there))

        -- the new record's bytes stand within the body where its edition is that of the record
        fits : alike e (edition_of r) ≡ true → at + length (file_bytes r) ≤ length s
        fits t = omega (arith, record_within s k channel e i at there, file_length r, ap size (alike_is e (edition_of r) t))

        -- an edit there, put back into the file, is the edit of the file
        in_place : in_file (edited_at s e at channel r over) ≡ edited_at file e (tag + 8 + at) channel r over
        unfolding edited_at after
        in_place = rw lock (go (eqb (channel_of r) channel) (alike e (edition_of r)) (keeps over (get_or file (tag + 8 + at + 10) 0)) (ltb (first_edited r) (held (edition_of r))) refl)
          where
            lock : get_or s (at + 10) 0 ≡ get_or file (tag + 8 + at + 10) 0
            lock =
                let y : tag + 8 + (at + 10) ≡ tag + 8 + at + 10 = omega arith in
                rw y at (byte_inside file (tag + 8) n s p (at + 10) (omega (arith, record_within s k channel e i at there, size_least e)))

            go : (a b c d : Bool) → alike e (edition_of r) ≡ b
                → in_file (cond (not a) (refused 16 0) (cond (not b) (refused 21 0) (cond c (refused 22 10) (cond d (refused 9 (first_edited r)) (granted (replaced s at (file_bytes r)))))))
                ≡ cond (not a) (refused 16 0) (cond (not b) (refused 21 0) (cond c (refused 22 10) (cond d (refused 9 (first_edited r)) (granted (replaced file (tag + 8 + at) (file_bytes r))))))
            go false b c d t = refl
            go true false c d t = refl
            go true true true d t = refl
            go true true false true t = let y : 0 + first_edited r ≡ first_edited r = omega arith in rw y
            go true true false false t = ap granted (replaced_inside file (tag + 8) n s p at (file_bytes r) begins (fits t))

        pub edited_there : (a : Answered) (out : List ℕ) → EditedAt file e (tag + 8 + at) channel r over a out → FileEdited file name channel r over a out
        unfolding edited edited_at
        edited_there a out w =
            let y : edited s k channel r over ≡ edited_at s e at channel r over = record_there s k channel (λ row. edited_at s row.edition row.at channel r over) e i at there in
            let z : file_edited file name channel r over ≡ edited_at file e (tag + 8 + at) channel r over = in_group ∙ (ap in_file y ∙ in_place) in
            record { answer = w.answer ∙ ap answered (sym z); file = w.body ∙ ap (value_or file) (sym z) }
