-- The chunk that has a place of an accepted body: a group's header, its Sdec, its records and its Cntts, each with its number in its group.
use Prim.Native.Nat.{ℕ, zero, suc, ◌+◌, ◌-◌, ◌*◌, ◌≤◌, ◌<◌}
use native.Mathlib.Omega.{arith}
use native.Mathlib.Numerals.{add-one}
use mathlib.Core.Path.{◌≡◌, refl, sym, ap, subst}
use mathlib.Core.List.{List}
use lib.ListN.{length, drop}
use borrow.Author.Tests.{le-ltb, lt-leb}
use Rattle.layout.specs.Bytes.{word}
use Rattle.layout.specs.Editions.{size}
use Rattle.layout.specs.declared.edition.Edition.{Edition}
use Rattle.layout.specs.Answers.{granted}
use Rattle.layout.specs.declared.answer.Standing.{Standing}
use Rattle.layout.specs.Group.{ctab_place, group_at}
use Rattle.layout.specs.Body.{group_place, body_run}
use Rattle.layout.specs.Asked.{standing_at, standing, row_of}
use Rattle.layout.specs.Chunks.{step_at, chunk_of, Site, site_no, site_of}
use Rattle.layout.specs.Scan.{Ended}
use Rattle.layout.specs.Group.{Sound}
use Rattle.layout.proofs.Ctabs.{place_before}
use Rattle.layout.proofs.Bodies.{group_there, place_next}
use Rattle.layout.proofs.Accepted.{body_accepted}
use Rattle.read_find.proofs.Sites.{step_group, on_start}
use Rattle.law_rounds.proofs.ChunksLaid.{Laid, group_laid}
use Rattle.law_rounds.proofs.ChunksWalked.{At, onto_plain, onto_group, has, to_text, to_ctab, to_cntt}

-- ---- the groups of an accepted body

site_granted : (s : List ℕ) (place : ℕ) (x : Site) → length s ≤ 32768 → place < length s → site_no s (chunk_of s place) ≡ x → site_of s place ≡ granted x
unfolding site_of
site_granted s place x h k e = rw (le-ltb 32768 (length s) h, lt-leb (length s) place k) (ap granted e)

module _ (s : List ℕ) (n : ℕ) (e : body_run s ≡ Ended n) where
  -- a group, by what stands in it
  record Own (g : ℕ) : Type 0 where
    pub edition : Edition
    pub text : ℕ
    pub ctabs : ℕ
    pub cntts : ℕ
    pub sound : group_at (drop (group_place s g) s) ≡ Sound edition text ctabs cntts
    pub laid : Laid s (group_place s g) edition text ctabs cntts
    pub next : group_place s (suc g) ≡ ctab_place edition (group_place s g + 16 + text) ctabs + 10 * cntts
    pub fits : group_place s (suc g) ≤ length s

  own : (g : ℕ) → g < n → Own g
  own g l =
      let a = body_accepted s n e in
      let m = a.each g l in
      let lies = a.within g l in
      let t = group_there s g (group_place s g) m.edition m.text m.ctabs m.cntts lies m.sound in
      let p : group_place s (suc g) ≡ group_place s g + 8 + word s (group_place s g + 4) = rw (add-one g) at (place_next s g (group_place s g) refl) in
      record {
        edition = m.edition;
        text = m.text;
        ctabs = m.ctabs;
        cntts = m.cntts;
        sound = m.sound;
        laid = group_laid s (group_place s g) m.edition m.text m.ctabs m.cntts lies m.sound;
        next = omega (arith, p, t.1.0);
        fits = omega (arith, p, t.1.1);
      }

  -- the walk begins at the first header ..
  at_first : (place : ℕ) → 0 < n → At s place (group_place s 0) (0 + 1) 0
  unfolding group_place
  at_first place l = (0, on_start s place (0 + 1) (rw (own 0 l).laid.head))

  -- .. and comes from one to the next
  at_next : (place g : ℕ) → suc g < n → group_place s (suc g) ≤ place → At s place (group_place s g) (g + 1) 0 → At s place (group_place s (suc g)) (suc g + 1) 0
  at_next place g l h on =
      let o = own g (omega arith) in
      let q = o.next in
      let b = to_cntt s place (group_place s g) o.edition o.text o.ctabs o.cntts (g + 1) o.laid on o.cntts (omega arith) (omega (arith, q)) in
      onto_group s place (group_place s (suc g)) (g + 1) (o.ctabs + o.cntts + 1) (rw q b) h (suc g + 1) (own (suc g) l).laid.head (omega arith)

  below : (g : ℕ) → suc g < n → group_place s g ≤ group_place s (suc g)
  below g l = let o = own g (omega arith) in omega (arith, o.next)

  header : (place g : ℕ) → g < n → group_place s g ≤ place → At s place (group_place s g) (g + 1) 0
  header place zero l h = at_first place l
  header place (suc g) l h = at_next place g l h (header place g (omega arith) (omega (arith, below g l)))

  -- ---- a place of one of them

  site_is : (place x g c w : ℕ) → At s place x (g + 1) c → step_at s x ≡ w → place < x + w → x + w ≤ length s → site_of s place ≡ granted (record { group = g; child = c; chunk = x })
  site_is place x g c w o e' h k =
      let z : g + 1 - 1 ≡ g = omega arith in
      site_granted s place (record { group = g; child = c; chunk = x }) (body_accepted s n e).short (omega arith) (rw z at (has s place x (g + 1) c o (omega arith)))

  module _ (g : ℕ) (l : g < n) where
    -- where it stands, by what stands in it
    abbrev place_of : ℕ
    place_of = group_place s g

    abbrev it : Own g
    it = own g l

    abbrev row : ℕ → ℕ
    row i = ctab_place it.edition (place_of + 16 + it.text) i

    stands : standing s g ≡ standing_at s place_of (Sound it.edition it.text it.ctabs it.cntts)
    unfolding standing
    stands = ap (standing_at s place_of) it.sound

    in_header : (b : ℕ) → b < 8 → site_of s (place_of + b) ≡ granted (record { group = g; child = 0; chunk = place_of })
    in_header b h =
        let o = it in
        site_is (place_of + b) place_of g 0 8 (header (place_of + b) g l (omega arith)) (step_group s place_of o.laid.head) (omega arith) (omega (arith, o.next, o.fits))

    in_text : (b : ℕ) → b < 8 + it.text → site_of s (place_of + 8 + b) ≡ granted (record { group = g; child = 1; chunk = place_of + 8 })
    in_text b h =
        let o = it in
        let p = place_of + 8 + b in
        let on =
        onto_plain s p (place_of + 8) (g + 1) 0
        (to_text s p place_of o.edition o.text o.ctabs o.cntts (g + 1) o.laid (header p g l (omega arith))) (omega arith) (8 + o.text) 1 o.laid.text refl in
        site_is p (place_of + 8) g 1 (8 + o.text) on o.laid.text.width (omega arith) (omega (arith, o.next, o.fits))

    in_ctab : (i b : ℕ) → i < it.ctabs → b < 8 + size it.edition → site_of s (row i + b) ≡ granted (record { group = g; child = i + 2; chunk = row i })
    in_ctab i b h k =
        let o = it in
        let p = row i + b in
        let on =
        onto_plain s p (row i) (g + 1) (i + 1)
        (to_ctab s p place_of o.edition o.text o.ctabs o.cntts (g + 1) o.laid (header p g l (omega arith)) i (omega arith) (omega arith)) (omega arith) (8 + size o.edition) (i + 2) (o.laid.ctab i h) (omega arith) in
        site_is p (row i) g (i + 2) (8 + size o.edition) on (o.laid.ctab i h).width (omega arith)
        (omega (arith, o.next, o.fits, place_before o.edition (place_of + 16 + o.text) i o.ctabs h))

    in_cntt : (j b : ℕ) → j < it.cntts → b < 10 → site_of s (row it.ctabs + 10 * j + b) ≡ granted (record { group = g; child = it.ctabs + j + 2; chunk = row it.ctabs + 10 * j })
    in_cntt j b h k =
        let o = it in
        let x = row o.ctabs + 10 * j in
        let p = x + b in
        let on =
        onto_plain s p x (g + 1) (o.ctabs + j + 1)
        (to_cntt s p place_of o.edition o.text o.ctabs o.cntts (g + 1) o.laid (header p g l (omega arith)) j (omega arith) (omega arith)) (omega arith) 10 (o.ctabs + j + 2) (o.laid.cntt j h) (omega arith) in
        site_is p x g (o.ctabs + j + 2) 10 on (o.laid.cntt j h).width (omega arith) (omega (arith, o.next, o.fits))

    -- ---- in the words of the calls: `find_group` tells where the group stands, `find_channel` where its record

    -- the group's header is number 0
    pub site_of_header : (b : ℕ) → b < 8 → site_of s ((standing s g).at + b) ≡ granted (record { group = g; child = 0; chunk = (standing s g).at })
    unfolding standing_at
    site_of_header = subst (λ (x : Standing). (b : ℕ) → b < 8 → site_of s (x.at + b) ≡ granted (record { group = g; child = 0; chunk = x.at })) (sym stands) in_header

    -- its Sdec is number 1
    pub site_of_text : (b : ℕ) → b < 8 + (standing s g).length → site_of s ((standing s g).at + 8 + b) ≡ granted (record { group = g; child = 1; chunk = (standing s g).at + 8 })
    unfolding standing_at
    site_of_text =
        subst (λ (x : Standing). (b : ℕ) → b < 8 + x.length → site_of s (x.at + 8 + b) ≡ granted (record { group = g; child = 1; chunk = x.at + 8 })) (sym stands) in_text

    -- its records are the numbers from 2 on
    pub site_of_ctab : (i b : ℕ) → i < (standing s g).records → b < 8 + size (standing s g).edition
        → site_of s (ctab_place (standing s g).edition (standing s g).ctabs i + b) ≡ granted (record { group = g; child = i + 2; chunk = ctab_place (standing s g).edition (standing s g).ctabs i })
    unfolding standing_at
    site_of_ctab =
        subst
        (λ (x : Standing). (i b : ℕ) → i < x.records → b < 8 + size x.edition
        → site_of s (ctab_place x.edition x.ctabs i + b) ≡ granted (record { group = g; child = i + 2; chunk = ctab_place x.edition x.ctabs i }))
        (sym stands) in_ctab

    -- its Cntts are the numbers behind them
    pub site_of_cntt : (j b : ℕ) → j < (standing s g).seconds → b < 10
        → site_of s ((standing s g).cntts + 10 * j + b) ≡ granted (record { group = g; child = (standing s g).records + j + 2; chunk = (standing s g).cntts + 10 * j })
    unfolding standing_at
    site_of_cntt =
        subst
        (λ (x : Standing). (j b : ℕ) → j < x.seconds → b < 10
        → site_of s (x.cntts + 10 * j + b) ≡ granted (record { group = g; child = x.records + j + 2; chunk = x.cntts + 10 * j }))
        (sym stands) in_cntt

    -- a byte of a record, by the place of the record's byte 0
    pub site_of_record : (i b : ℕ) → i < (standing s g).records → b < size (standing s g).edition
        → site_of s ((row_of (standing s g) i).at + b) ≡ granted (record { group = g; child = i + 2; chunk = (row_of (standing s g) i).at - 8 })
    site_of_record i b h k =
        let x = ctab_place (standing s g).edition (standing s g).ctabs i in
        let z : x + 8 + b ≡ x + (8 + b) = omega arith in
        let y : x + 8 - 8 ≡ x = omega arith in
        rw (z, y) (site_of_ctab i (8 + b) h (omega arith))
