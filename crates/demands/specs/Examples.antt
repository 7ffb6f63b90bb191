-- The fifteen marked examples of document 01, 14 and 15 as document 02 (§3) has them, and document 01's example for `list`: a table each, and a theorem that every row of it holds of the definitions, by computation.
use Rattle.std.specs.Prelude.{ℕ, ◌≡◌, Bool, true, false, List, [], ◌∷◌, ◌++◌, take, set, replicate}
use Rattle.layout.specs.Bytes.{MThd, MTrk, CASM, CSEG, four, chunk}
use Rattle.layout.specs.declared.record.Record.{Record}
use Rattle.layout.specs.declared.record.Form.TheVariants.{One}
use Rattle.layout.specs.Records.{Absent}
use Rattle.layout.specs.declared.answer.Counted.{Counted}
use Rattle.layout.specs.declared.answer.Placed.{Placed}
use Rattle.layout.specs.Salvage.{Entry, salvage}
use Rattle.layout.specs.Listing.{list_text}
use Rattle.layout.specs.Plays.{plays_under}
use Rattle.layout.specs.Promises.{BodyRead, TextShown, NotePlaced}

-- "M is the 22 bytes .."
abbrev pub M : List ℕ
M = 0x43 ∷ 0x53 ∷ 0x45 ∷ 0x47 ∷ 0x00 ∷ 0x00 ∷ 0x00 ∷ 0x0E ∷ 0x53 ∷ 0x64 ∷ 0x65 ∷ 0x63 ∷ 0x00 ∷ 0x00 ∷ 0x00 ∷ 0x06 ∷ 0x4D ∷ 0x61 ∷ 0x69 ∷ 0x6E ∷ 0x20 ∷ 0x41 ∷ []

-- "N is M ending in 42"
abbrev pub N : List ℕ
N = set M 21 0x42

-- "Main A"
abbrev pub MainA : List ℕ
MainA = 0x4D ∷ 0x61 ∷ 0x69 ∷ 0x6E ∷ 0x20 ∷ 0x41 ∷ []

-- a record with this root mask, high key, and low and high limit: rule 0, no Cntt, source root 0, table 01, under every chord type
abbrev pub sample : List ℕ → ℕ → ℕ → ℕ → Record
sample mask key low high =
    record {
      source = record { 0 = 0 };
      voice = replicate 8 0x20;
      destination = record { 0 = 0x08 };
      locked = 0;
      roots = mask;
      chords = 0x07 ∷ replicate 4 0xFF;
      root = 0;
      chord = 0;
      form = One (record { set = record { rule = 0; table = 0x01; key = key; low = low; high = high; retrigger = 0 }; second = Absent; position = 0 });
    }

-- the record that a note is placed by: high key 5 and these limits
abbrev pub limited : ℕ → ℕ → Record
limited low high = sample (0x0F ∷ 0xFF ∷ []) 5 low high

-- ---- a row of the table: what is asked, and the answer

pub data Row : Type 0 where
  -- a body read strictly
  reads : List ℕ → Counted → Row
  -- the text of a group of a body
  shows : List ℕ → ℕ → List ℕ → Row
  -- a body's salvage list
  lists : List ℕ → List Entry → Row
  -- whether a record with this root mask plays for a root
  plays : List ℕ → ℕ → Bool → Row
  -- a note placed by a record under a chord root
  places : Record → ℕ → ℕ → Placed → Row
  -- the text that `list` prints of a file
  prints : List ℕ → List ℕ → Row

abbrev pub Holds : Row → Type 0
Holds (reads body answer) = BodyRead body answer
Holds (shows body group part) = TextShown body group part
Holds (lists body entries) = salvage body ≡ entries
Holds (plays mask root answer) = plays_under root 0 (sample mask 0 0 127) ≡ answer
Holds (places r root note answer) = NotePlaced r root note answer
Holds (prints file text) = list_text file ≡ text

-- every row holds
abbrev pub Hold : List Row → Type 0
Hold [] = Unit {0}
Hold (row ∷ rows) = Holds row × Hold rows

-- ---- the answers

abbrev pub groups : ℕ → Counted
groups n = record { number = 0; place = 0; count = n }

abbrev pub refused : ℕ → ℕ → Counted
refused number place = record { number = number; place = place; count = 0 }

abbrev pub entry : ℕ → ℕ → ℕ → Entry
entry place size kind = record { place = place; size = size; kind = kind }

abbrev pub gives : ℕ → Placed
gives n = record { number = 0; place = 0; note = n }

-- ---- the table; where an example names a value, the chord root is 0, so that the value is the note

abbrev pub examples : List Row
examples =
    -- 1
    reads [] (groups 0)
    -- 2
    ∷ reads M (groups 1)
    ∷ shows M 0 MainA
    -- 3
    ∷ reads (take 7 M) (refused 2 0)
    -- 4
    ∷ reads (CSEG ++ four 0) (refused 6 0)
    -- 5
    ∷ reads (set M 15 0x07) (refused 2 8)
    -- 6
    ∷ reads (set M 21 0x2C) (refused 8 8)
    -- 7
    ∷ reads (M ++ M) (refused 13 22)
    -- 8
    ∷ reads (M ++ 0x00 ∷ []) (refused 2 22)
    ∷ lists (M ++ 0x00 ∷ []) (entry 0 22 0 ∷ entry 22 1 6 ∷ [])
    -- 9
    ∷ lists (M ++ (set M 0 0x44 ++ N)) (entry 0 22 0 ∷ entry 22 22 6 ∷ entry 44 22 0 ∷ [])
    -- 10
    ∷ reads (set M 7 0x0F ++ N) (refused 2 22)
    ∷ lists (set M 7 0x0F ++ N) (entry 0 22 2 ∷ entry 22 22 0 ∷ [])
    -- 11
    ∷ plays (0x0E ∷ 0xA3 ∷ []) 0 true
    ∷ plays (0x0E ∷ 0xA3 ∷ []) 1 true
    ∷ plays (0x0E ∷ 0xA3 ∷ []) 2 false
    ∷ plays (0x0E ∷ 0xA3 ∷ []) 3 false
    ∷ plays (0x0E ∷ 0xA3 ∷ []) 4 false
    ∷ plays (0x0E ∷ 0xA3 ∷ []) 5 true
    ∷ plays (0x0E ∷ 0xA3 ∷ []) 6 false
    ∷ plays (0x0E ∷ 0xA3 ∷ []) 7 true
    ∷ plays (0x0E ∷ 0xA3 ∷ []) 8 false
    ∷ plays (0x0E ∷ 0xA3 ∷ []) 9 true
    ∷ plays (0x0E ∷ 0xA3 ∷ []) 10 true
    ∷ plays (0x0E ∷ 0xA3 ∷ []) 11 true
    -- 12
    ∷ places (limited 0 127) 5 60 (gives 65)
    ∷ places (limited 0 127) 6 60 (gives 54)
    -- 13
    ∷ places (limited 60 74) 0 54 (gives 66)
    ∷ places (limited 60 74) 0 84 (gives 72)
    -- 14
    ∷ places (limited 60 65) 0 53 (gives 65)
    ∷ places (limited 60 65) 0 54 (gives 54)
    -- 15
    ∷ places (limited 127 127) 0 7 (gives 127)
    ∷ places (limited 127 127) 0 8 (gives 116)
    ∷ []

-- ---- the example of the program `list`: "MThd, 6, 00 00 00 01 00 60, MTrk, 4, 00 FF 2F 00, then CASM, 23 and example 8"

abbrev pub file : List ℕ
file =
    chunk MThd (0x00 ∷ 0x00 ∷ 0x00 ∷ 0x01 ∷ 0x00 ∷ 0x60 ∷ [])
    ++ (chunk MTrk (0x00 ∷ 0xFF ∷ 0x2F ∷ 0x00 ∷ []) ++ chunk CASM (M ++ 0x00 ∷ []))

-- what it prints:
-- casm 26 23
-- 0 22 0
-- 22 1 6
-- end 2
abbrev pub four_lines : List ℕ
four_lines =
    (0x63 ∷ 0x61 ∷ 0x73 ∷ 0x6D ∷ 0x20 ∷ 0x32 ∷ 0x36 ∷ 0x20 ∷ 0x32 ∷ 0x33 ∷ 0x0A ∷ [])
    ++ ((0x30 ∷ 0x20 ∷ 0x32 ∷ 0x32 ∷ 0x20 ∷ 0x30 ∷ 0x0A ∷ [])
    ++ ((0x32 ∷ 0x32 ∷ 0x20 ∷ 0x31 ∷ 0x20 ∷ 0x36 ∷ 0x0A ∷ [])
    ++ (0x65 ∷ 0x6E ∷ 0x64 ∷ 0x20 ∷ 0x32 ∷ 0x0A ∷ [])))

abbrev pub list_example : List Row
list_example = prints file four_lines ∷ []
