-- The Ctabs before go on, so the run of Ctabs comes to the child that does not.
use Prim.Native.Nat.{ℕ, zero, suc, ◌+◌, ◌≤◌, ◌<◌}
use mathlib.Core.Path.{◌≡◌, refl, sym, ap, ◌∙◌}
use mathlib.Core.Bool.{true, false}
use mathlib.Core.List.{List}
use native.Mathlib.Omega.{arith}
use native.Mathlib.Decide.{dec_lt}
use lib.Dec.{eqb}
use lib.ListN.{length, get_or}
use borrow.Author.Tests.{lt-ltb, le-ltb, eq-eqb, ne_eqb}
use Rattle.layout.specs.Scan.{Refused, More, Done}
use Rattle.layout.specs.Scan.{Stopped, Ended}
use Rattle.layout.specs.Bytes.{word, tag_at, Cntt}
use Rattle.layout.specs.declared.edition.Edition.{Edition}
use Rattle.layout.specs.declared.edition.Edition.TheVariants.{First, Second}
use Rattle.layout.specs.Editions.{tag_of, size}
use Rattle.layout.specs.Ranges.{out_at, first_out}
use Rattle.layout.specs.Group.{ctabs_over, ctab_place, ctab_channel, ctab_of, ctab_at, ctab_turn, ctabs_of}
use Rattle.layout.proofs.Scans.{first_none}
use Rattle.layout.proofs.Ctabs.{over_end, over_cut, over_tag}
use Rattle.law_refusals.specs.Heads.{HeadRefused, Headed}
use Rattle.law_refusals.specs.Contents.{FirstSuch, ctab_tag, ctab_source, CtabInRange, CtabsBefore}
use Rattle.law_refusals.proofs.Reached.{run_reaches, run_comes_to, tagged_so, tagged_not, head_is, head_none, such_first}
use Rattle.layout.proofs.Seen.{ctab_seen, ctab_unseen}

-- a Ctab is no Cntt
apart_tags : (e : Edition) (t : List ℕ) → t ≡ tag_of e → t ≡ Cntt → ⊥
apart_tags First t e f = let z : ◌≡◌ {A = ℕ} 0x74 0x6E = ap (λ l. get_or l 1 0) (sym e ∙ f) in omega arith
apart_tags Second t e f = let z : ◌≡◌ {A = ℕ} 0x74 0x6E = ap (λ l. get_or l 1 0) (sym e ∙ f) in omega arith

-- they are fewer than the bytes
few : (e : Edition) (p n end : ℕ) → ctab_place e p n ≤ end → n < end + 1
few First p n end h = omega arith
few Second p n end h = omega arith

-- whether a channel stands among n Ctabs
module _ (ed : Edition) (c : List ℕ) (p n channel : ℕ) where
  pub ctab_has : (i : ℕ) → i < n → ctab_channel ed c p i ≡ channel → ctab_of ed c p n channel < n
  ctab_has i l e = go (dec_lt (ctab_of ed c p n channel) n)
    where
      go : Dec (ctab_of ed c p n channel < n) → ctab_of ed c p n channel < n
      go (yes a) = a
      go (no a) = absurd (ctab_unseen ed c p n channel (omega arith) i l e)

  pub ctab_has_not : ((i : ℕ) → i < n → ctab_channel ed c p i ≡ channel → ⊥) → n ≤ ctab_of ed c p n channel
  ctab_has_not f = go (dec_lt (ctab_of ed c p n channel) n)
    where
      go : Dec (ctab_of ed c p n channel < n) → n ≤ ctab_of ed c p n channel
      go (yes a) = absurd (f (ctab_of ed c p n channel) a (ctab_seen ed c p n channel a))
      go (no a) = omega arith

module _ (c : List ℕ) where
  -- a child that is not the end, and no Cntt
  not_over : (at : ℕ) → at < length c → (at + 8 ≤ length c → tag_at c at ≡ Cntt → ⊥) → ctabs_over c at ≡ false
  not_over at l f = go (dec_lt (length c) (at + 8))
    where
      go : Dec (length c < at + 8) → ctabs_over c at ≡ false
      go (yes a) = over_cut c at (λ e. absurd (omega arith)) a
      go (no a) = let h : at + 8 ≤ length c = omega arith in over_tag c at (λ e. absurd (omega arith)) h ∙ tagged_not c at Cntt (f h)

  -- where no Ctab follows
  over_so : (at : ℕ) → at ≤ length c → (at < length c → (at + 8 ≤ length c) × (tag_at c at ≡ Cntt)) → ctabs_over c at ≡ true
  over_so at l f = go (dec_lt at (length c))
    where
      go : Dec (at < length c) → ctabs_over c at ≡ true
      go (yes a) = let h = f a in over_tag c at (λ e. absurd (omega arith)) h.0 ∙ tagged_so c at Cntt h.1
      go (no a) = over_end c at (omega arith)

module _ (ed : Edition) (c : List ℕ) where
  ctab_not_over : (at : ℕ) → Headed c at (tag_of ed) → ctabs_over c at ≡ false
  ctab_not_over at h = let w = h.within in not_over c at (omega arith) (λ l. apart_tags ed (tag_at c at) h.tagged)

  module _ (n : ℕ) where
    abbrev at : ℕ
    at = ctab_tag ed c n

    abbrev p : ℕ
    p = 8 + word c 4

    pub turn_head : (number : ℕ) → (number ≡ 0 → ⊥) → at < length c → (at + 8 ≤ length c → tag_at c at ≡ Cntt → ⊥) → HeadRefused c at (tag_of ed) number
        → ctab_turn ed c p n ≡ Refused number at
    unfolding ctab_turn ctab_at
    turn_head number z l f h = rw (not_over c at l f, head_is c at (tag_of ed) number h, ne_eqb number 0 z)

    module _ (h : Headed c at (tag_of ed)) where
      pub turn_size : (word c (at + 4) ≡ size ed → ⊥) → ctab_turn ed c p n ≡ Refused 7 at
      unfolding ctab_turn ctab_at
      turn_size f = rw (ctab_not_over at h, head_none c at (tag_of ed) h, ne_eqb (word c (at + 4)) (size ed) f)

      pub turn_byte : (k : ℕ) → word c (at + 4) ≡ size ed → FirstSuch (out_at ed c (at + 8)) (size ed) k → ctab_turn ed c p n ≡ Refused 9 (at + 8 + k)
      unfolding ctab_turn ctab_at first_out
      turn_byte k long f =
          rw (ctab_not_over at h, head_none c at (tag_of ed) h, eq-eqb (word c (at + 4)) (size ed) long, such_first (out_at ed c (at + 8)) (size ed) k f, lt-ltb k (size ed) f.within)

    module _ (w : CtabInRange ed c n) where
      all_in : first_out ed c (at + 8) (size ed) ≡ size ed
      unfolding first_out
      all_in = first_none (out_at ed c (at + 8)) (size ed) w.inside

      sized : eqb (word c (at + 4)) (size ed) ≡ true
      sized = eq-eqb (word c (at + 4)) (size ed) w.length

      pub turn_again : (i : ℕ) → i < n → ctab_source ed c i ≡ ctab_source ed c n → ctab_turn ed c p n ≡ Refused 10 at
      unfolding ctab_turn ctab_at ctab_channel
      turn_again i l e =
          rw (ctab_not_over at w.head, head_none c at (tag_of ed) w.head, sized, all_in, le-ltb (size ed) (size ed) (omega arith), lt-ltb (ctab_of ed c p n (get_or c (at + 8) 0)) n (ctab_has ed c p n (get_or c (at + 8) 0) i l e))

      pub turn_more : ((i : ℕ) → i < n → ctab_source ed c i ≡ ctab_source ed c n → ⊥) → ctab_turn ed c p n ≡ More
      unfolding ctab_turn ctab_at ctab_channel
      turn_more f =
          rw (ctab_not_over at w.head, head_none c at (tag_of ed) w.head, sized, all_in, le-ltb (size ed) (size ed) (omega arith), le-ltb (ctab_of ed c p n (get_or c (at + 8) 0)) n (ctab_has_not ed c p n (get_or c (at + 8) 0) f))

    turn_over : at ≤ length c → (at < length c → (at + 8 ≤ length c) × (tag_at c at ≡ Cntt)) → ctab_turn ed c p n ≡ Done
    unfolding ctab_turn ctab_at
    turn_over l f = rw (over_so c at l f)

  module _ (n : ℕ) (b : CtabsBefore ed c n) where
    before_more : (i : ℕ) → i < n → ctab_turn ed c (8 + word c 4) i ≡ More
    before_more i l = let h = b.ctabs i l in turn_more i h.ctab h.apart

    -- the Ctabs before stand within the contents
    pub ctabs_within : ctab_tag ed c n ≤ length c
    ctabs_within = go n refl
      where
        go : (k : ℕ) → k ≡ n → ctab_tag ed c k ≤ length c
        go zero e = omega (arith, b.sdec.within)
        go (suc k) e = let h = (b.ctabs k (omega arith)).ctab in omega (arith, h.head.within, h.length)

    pub ctabs_stop : (number place : ℕ) → ctab_turn ed c (8 + word c 4) n ≡ Refused number place → ctabs_of ed c (8 + word c 4) ≡ Stopped number place
    unfolding ctabs_of
    ctabs_stop number place t = run_reaches (ctab_turn ed c (8 + word c 4)) (length c + 1) n number place (few ed _ n _ ctabs_within) before_more t

    pub ctabs_over_lem : (ctab_tag ed c n < length c → (ctab_tag ed c n + 8 ≤ length c) × (tag_at c (ctab_tag ed c n) ≡ Cntt)) → ctabs_of ed c (8 + word c 4) ≡ Ended n
    unfolding ctabs_of
    ctabs_over_lem f = run_comes_to (ctab_turn ed c (8 + word c 4)) (length c + 1) n (few ed _ n _ ctabs_within) before_more (turn_over n ctabs_within f)
