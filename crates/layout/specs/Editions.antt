-- The editions of the layout, and what they differ in besides their ranges (document 01, "The CASM body"; document 02, §4; 001, 1.1 and 1.2).
use Rattle.std.specs.Prelude.{ℕ, Bool, true, false, List, [], ◌∷◌}
use Rattle.layout.specs.Bytes.{Ctab, Ctb2}
pub use Rattle.layout.specs.declared.edition.Edition.{Edition}
pub use Rattle.layout.specs.declared.edition.Edition.TheVariants.{First, Second}

-- the tag of a record's chunk
abbrev pub tag_of : Edition → List ℕ
tag_of First = Ctab
tag_of Second = Ctb2

-- the bytes of a record in the file: "a record is 001's 27 bytes"; "Ctb2 .., 47 bytes"
abbrev pub size : Edition → ℕ
size First = 27
size Second = 47

-- of them those held in memory: "a record in memory holds bytes 0-25"; of the second edition all
abbrev pub held : Edition → ℕ
held First = 26
held Second = 47

-- behind them "byte 26 is always written as 00"; of the second edition nothing
abbrev pub closing : Edition → List ℕ
closing First = 0 ∷ []
closing Second = []

-- of the 47 bytes that a record of either edition may hold, those that this one does not
abbrev pub spare : Edition → ℕ
spare First = 21
spare Second = 0

-- two editions are the same
unfoldable pub alike : Edition → Edition → Bool
alike First First = true
alike First Second = false
alike Second First = false
alike Second Second = true
