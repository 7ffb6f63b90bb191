-- When the contents of a group are refused (document 01, "Numbers of refusal": "contents: .. per child header cut 2, tag 6, length past the group 2, own length 7, then 8; or 9, 10; or 9, 10, 11").
-- Places are those of the contents c, the bytes after a group's header.
use Rattle.std.specs.Prelude.{ℕ, ◌+◌, ◌<◌, ◌≤◌, ◌≡◌, Bool, true, false, List, length, get_or, take, drop}
use Rattle.layout.specs.Bytes.{word, tag_at, Sdec, Cntt}
use Rattle.layout.specs.Refusals.{bad_tag, bad_size, bad_text, out_of_range, channel_again, stray_cntt}
use Rattle.layout.specs.declared.edition.Edition.{Edition}
use Rattle.layout.specs.declared.edition.Edition.TheVariants.{First, Second}
use Rattle.layout.specs.Editions.{tag_of, size}
use Rattle.layout.specs.Ranges.{out_of, out_at, cntt_value}
use Rattle.layout.specs.Sdec.{sound_text}
use Rattle.layout.specs.Group.{ctab_place, ctab_channel, cntt_place, cntt_channel, edition_at}
use Rattle.law_refusals.specs.Heads.{HeadRefused, Headed}
use Rattle.law_refusals.specs.Text.{TextBroken}

-- "first one": number k of n passes a test, and none before it does
pub record FirstSuch (test : ℕ → Bool) (n k : ℕ) : Type 0 where
  pub within : k < n
  pub passes : test k ≡ true
  pub before : (i : ℕ) → i < k → test i ≡ false

-- ---- where the children stand, and whose they are

module _ (e : Edition) (c : List ℕ) where
  -- the tag of Ctab number n of an edition, after the Sdec and n Ctabs
  abbrev pub ctab_tag : ℕ → ℕ
  ctab_tag n = ctab_place e (8 + word c 4) n

  -- its source channel
  abbrev pub ctab_source : ℕ → ℕ
  ctab_source n = ctab_channel e c (8 + word c 4) n

module _ (c : List ℕ) where
  -- the tag of Cntt number j after n Ctabs; Cntts are the first edition's alone
  abbrev pub cntt_tag : ℕ → ℕ → ℕ
  cntt_tag n j = cntt_place (ctab_tag First c n) j

  -- its source channel
  abbrev pub cntt_source : ℕ → ℕ → ℕ
  cntt_source n j = cntt_channel c (ctab_tag First c n) j

-- ---- the children before

-- the records behind the Sdec are of this edition
abbrev pub OfEdition : List ℕ → Edition → Type 0
OfEdition c e = edition_at c (8 + word c 4) ≡ e

-- Ctab number n: its header, its size, its bytes in range
pub record CtabInRange (e : Edition) (c : List ℕ) (n : ℕ) : Type 0 where
  pub head : Headed c (ctab_tag e c n) (tag_of e)
  pub length : word c (ctab_tag e c n + 4) ≡ size e
  pub inside : (k : ℕ) → k < size e → out_at e c (ctab_tag e c n + 8) k ≡ false

-- .. and its source channel its own
pub record CtabStands (e : Edition) (c : List ℕ) (n : ℕ) : Type 0 where
  pub ctab : CtabInRange e c n
  pub apart : (i : ℕ) → i < n → ctab_source e c i ≡ ctab_source e c n → ⊥

-- a sound Sdec, then n Ctabs
pub record CtabsBefore (e : Edition) (c : List ℕ) (n : ℕ) : Type 0 where
  pub sdec : Headed c 0 Sdec
  pub text : sound_text (take (word c 4) (drop 8 c)) ≡ true
  pub ctabs : (i : ℕ) → i < n → CtabStands e c i

-- Cntt number j after n Ctabs: its header, its size, its two bytes in range
pub record CnttInRange (c : List ℕ) (n j : ℕ) : Type 0 where
  pub head : Headed c (cntt_tag c n j) Cntt
  pub size : word c (cntt_tag c n j + 4) ≡ 2
  pub channel : out_of First 0 0 (get_or c (cntt_tag c n j + 8) 0) ≡ false
  pub value : cntt_value (get_or c (cntt_tag c n j + 9) 0) ≡ true

-- .. and its source channel its own, and that of a Ctab
pub record CnttStands (c : List ℕ) (n j : ℕ) : Type 0 where
  pub cntt : CnttInRange c n j
  pub apart : (i : ℕ) → i < j → cntt_source c n i ≡ cntt_source c n j → ⊥
  pub home : (i : ℕ) × ((i < n) × (ctab_source First c i ≡ cntt_source c n j))

-- a sound Sdec, then n Ctabs and no more, then j Cntts
pub record CnttsBefore (c : List ℕ) (n j : ℕ) : Type 0 where
  pub first : OfEdition c First
  pub ctabs : CtabsBefore First c n
  pub over : ctab_tag First c n < length c → (ctab_tag First c n + 8 ≤ length c) × (tag_at c (ctab_tag First c n) ≡ Cntt)
  pub cntts : (i : ℕ) → i < j → CnttStands c n i

-- ---- the refusals of the contents: number and place

-- those of the Ctabs of an edition
pub data CtabRefused (e : Edition) (c : List ℕ) : ℕ → ℕ → Type 0 where
  -- 2, 6, 2: a child's header after n Ctabs, at its tag; it is no Cntt
  ctab_head : (n number : ℕ) → CtabsBefore e c n → ctab_tag e c n < length c → (ctab_tag e c n + 8 ≤ length c → tag_at c (ctab_tag e c n) ≡ Cntt → ⊥)
      → HeadRefused c (ctab_tag e c n) (tag_of e) number → CtabRefused e c number (ctab_tag e c n)
  -- 7: "Ctab not 27"; "7 when not 47" (document 02, §4), at its tag
  ctab_size : (n : ℕ) → CtabsBefore e c n → Headed c (ctab_tag e c n) (tag_of e) → (word c (ctab_tag e c n + 4) ≡ size e → ⊥) → CtabRefused e c bad_size (ctab_tag e c n)
  -- 9: "byte out of range, first one", at the byte
  ctab_byte : (n k : ℕ) → CtabsBefore e c n → Headed c (ctab_tag e c n) (tag_of e) → word c (ctab_tag e c n + 4) ≡ size e
      → FirstSuch (out_at e c (ctab_tag e c n + 8)) (size e) k → CtabRefused e c out_of_range (ctab_tag e c n + 8 + k)
  -- 10: "second Ctab .. of a channel", at the later tag
  ctab_again : (i n : ℕ) → CtabsBefore e c n → CtabInRange e c n → i < n → ctab_source e c i ≡ ctab_source e c n → CtabRefused e c channel_again (ctab_tag e c n)

pub data ContentsRefused (c : List ℕ) : ℕ → ℕ → Type 0 where
  -- 2, 6, 2: the Sdec's header, at its tag
  sdec_head : (number : ℕ) → HeadRefused c 0 Sdec number → ContentsRefused c number 0
  -- 8: "a rule on one Sdec's length, bytes or names broken", at the Sdec tag
  sdec_text : Headed c 0 Sdec → TextBroken (take (word c 4) (drop 8 c)) → ContentsRefused c bad_text 0
  -- a refusal of a Ctab
  of_ctab : (e : Edition) (number place : ℕ) → OfEdition c e → CtabRefused e c number place → ContentsRefused c number place
  -- 6: "6 for a Ctb2 beside a .. Cntt in a group" (document 02, §4): a Cntt after n Ctb2s, at its tag
  ctb2_cntt : (n : ℕ) → OfEdition c Second → CtabsBefore Second c n → ctab_tag Second c n + 8 ≤ length c → tag_at c (ctab_tag Second c n) ≡ Cntt
      → ContentsRefused c bad_tag (ctab_tag Second c n)
  -- 2, 6, 2: a child's header after n Ctabs and j Cntts, at its tag
  cntt_head : (n j number : ℕ) → CnttsBefore c n j → cntt_tag c n j < length c → HeadRefused c (cntt_tag c n j) Cntt number → ContentsRefused c number (cntt_tag c n j)
  -- 7: "Cntt not 2", at its tag
  cntt_size : (n j : ℕ) → CnttsBefore c n j → Headed c (cntt_tag c n j) Cntt → (word c (cntt_tag c n j + 4) ≡ 2 → ⊥) → ContentsRefused c bad_size (cntt_tag c n j)
  -- 9: "byte out of range, first one", at the byte: the source channel ..
  cntt_channel_given : (n j : ℕ) → CnttsBefore c n j → Headed c (cntt_tag c n j) Cntt → word c (cntt_tag c n j + 4) ≡ 2
      → out_of First 0 0 (get_or c (cntt_tag c n j + 8) 0) ≡ true → ContentsRefused c out_of_range (cntt_tag c n j + 8)
  -- .. or, where that is in range, the table value
  cntt_value_given : (n j : ℕ) → CnttsBefore c n j → Headed c (cntt_tag c n j) Cntt → word c (cntt_tag c n j + 4) ≡ 2
      → out_of First 0 0 (get_or c (cntt_tag c n j + 8) 0) ≡ false → cntt_value (get_or c (cntt_tag c n j + 9) 0) ≡ false → ContentsRefused c out_of_range (cntt_tag c n j + 9)
  -- 10: "second .. Cntt of a channel", at the later tag
  cntt_again : (i n j : ℕ) → CnttsBefore c n j → CnttInRange c n j → i < j → cntt_source c n i ≡ cntt_source c n j → ContentsRefused c channel_again (cntt_tag c n j)
  -- 11: "no Ctab" (document 02, §1), at its tag
  cntt_stray : (n j : ℕ) → CnttsBefore c n j → CnttInRange c n j → ((i : ℕ) → i < j → cntt_source c n i ≡ cntt_source c n j → ⊥)
      → ((i : ℕ) → i < n → ctab_source First c i ≡ cntt_source c n j → ⊥)
      → ContentsRefused c stray_cntt (cntt_tag c n j)
