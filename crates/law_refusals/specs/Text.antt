-- When the text of an Sdec is refused (document 01, row 8: "a rule on one Sdec's length, bytes or names broken").
use Rattle.std.specs.Prelude.{ℕ, ◌<◌, ◌≡◌, ◌⊎◌, List, [], length, get_or}
use Rattle.layout.specs.Sdec.{names}

-- the rule that a text breaks; bytes and names are numbered from 0
pub data TextBroken (t : List ℕ) : Type 0 where
  -- "1 to 255 bytes"
  text_size : (length t < 1) ⊎ (255 < length t) → TextBroken t
  -- "each 20H to 7EH"
  text_byte : (i : ℕ) → i < length t → (get_or t i 0 < 0x20) ⊎ (0x7E < get_or t i 0) → TextBroken t
  -- "cut at commas into names of 1 to 16 bytes"
  name_size : (i : ℕ) → i < length (names t) → (length (get_or (names t) i []) < 1) ⊎ (16 < length (get_or (names t) i [])) → TextBroken t
  -- "no name twice"
  name_twice : (i j : ℕ) → i < j → j < length (names t) → get_or (names t) i [] ≡ get_or (names t) j [] → TextBroken t
