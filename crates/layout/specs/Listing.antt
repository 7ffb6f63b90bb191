-- What the program `list` prints of a file (document 01, "Marked examples": the program `list`).
use Rattle.std.specs.Prelude.{ℕ, zero, suc, ◌+◌, ◌*◌, ◌/◌, ◌%◌, ◌^◌, cond, ◌≡◌, ltb, length, take, drop}
use mathlib.Core.List.{List, [], ◌∷◌, ◌++◌, flat_map}
use Rattle.layout.specs.Scan.{first}
use Rattle.layout.specs.Refusals.{over_limit}
use Rattle.layout.specs.Answers.{Answer, refused, granted, Span}
use Rattle.layout.specs.Style.{casm_found}
use Rattle.layout.specs.Salvage.{Entry, salvaged}

-- "a file of at most 65,536 bytes"
abbrev pub list_limit : ℕ
list_limit = 65536

-- "with room for 8,192 entries", three numbers each
abbrev pub list_room : ℕ
list_room = 3 * 8192

-- ---- numbers in decimal

-- the last k digits of a number, the highest first
unfoldable pub numeral : ℕ → ℕ → List ℕ
numeral zero n = []
numeral (suc k) n = numeral k (n / 10) ++ ((0x30 + n % 10) ∷ [])

-- the fewest digits that hold a number; there is one at least
unfoldable pub places : ℕ → ℕ
places n = first (λ k. ltb n (10 ^ k)) 1 (n + 1)

-- a number in decimal
unfoldable pub decimal : ℕ → List ℕ
decimal n = numeral (places n) n

-- a space and a number
unfoldable pub spaced : ℕ → List ℕ
spaced n = 0x20 ∷ decimal n

-- ---- the lines

-- the end of a line
abbrev pub newline : List ℕ
newline = 0x0A ∷ []

-- `A refusal prints "refused", number, place`
unfoldable pub refused_line : ℕ → ℕ → List ℕ
refused_line number place = 0x72 ∷ 0x65 ∷ 0x66 ∷ 0x75 ∷ 0x73 ∷ 0x65 ∷ 0x64 ∷ spaced number ++ (spaced place ++ newline)

-- "CASM tag place and body length", behind the word `casm`
unfoldable pub casm_line : Span → List ℕ
casm_line s = 0x63 ∷ 0x61 ∷ 0x73 ∷ 0x6D ∷ spaced s.start ++ (spaced s.size ++ newline)

-- "per entry place, length, kind"
unfoldable pub entry_line : Entry → List ℕ
entry_line e = decimal e.place ++ (spaced e.size ++ (spaced e.kind ++ newline))

-- "the entry count", behind the word `end`
unfoldable pub end_line : ℕ → List ℕ
end_line n = 0x65 ∷ 0x6E ∷ 0x64 ∷ spaced n ++ newline

-- ---- the text

-- of a body that was found at a span of the file, and listed
unfoldable pub text_listed : Span → Answer (List Entry) → List ℕ
text_listed s (refused number place) = refused_line number place
text_listed s (granted es) = casm_line s ++ (flat_map entry_line es ++ end_line (length es))

-- the body of a section: what stands 8 bytes behind its tag's place
unfoldable pub body_in : List ℕ → Span → List ℕ
body_in file s = take s.size (drop (s.start + 8) file)

-- .. of a file whose CASM section was looked for
unfoldable pub text_found : List ℕ → Answer Span → List ℕ
text_found file (refused number place) = refused_line number place
text_found file (granted s) = text_listed s (salvaged (body_in file s) list_room)

-- `finds and salvages the CASM body of a file of at most 65,536 bytes (more: "refused 3 0")`
unfoldable pub list_text : List ℕ → List ℕ
list_text file = cond (ltb list_limit (length file)) (refused_line over_limit 0) (text_found file (casm_found file))

-- the text stands at the start of a lent buffer, of which so much is used; later bytes are kept
pub record FileListed (file before : List ℕ) (used : ℕ) (after : List ℕ) : Type 0 where
  pub measure : used ≡ length (list_text file)
  pub text : after ≡ list_text file ++ drop used before
