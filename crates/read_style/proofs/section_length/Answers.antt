-- The header, then the body that it states, one law for each way out.
use mathlib.Core.Path.{sym}
use native.Mathlib.Omega.{arith}
use Rattle.read_style.specs.Walk.{told}
use Rattle.read_style.proofs.SectionRead.{header_cut, section_cut, section_whole}
use Rattle.read_style.proofs.section_length.Goals.{then-file-lt8-via-then-file-lt8, then-file-lt8-via-else-file-lt8+then-file-tag}
use Rattle.read_style.proofs.section_length.Goals as goal

pub returns-then-file-lt8 : goal.returns-then-file-lt8
unfolding told
returns-then-file-lt8 c =
    sym (header_cut _ _ (elim c.then-file-lt8.branch [ then-file-lt8-via-then-file-lt8 w ↦ omega arith | then-file-lt8-via-else-file-lt8+then-file-tag w ↦ omega arith ]))

pub returns-then-file-tag-2 : goal.returns-then-file-tag-2
unfolding told
returns-then-file-tag-2 c = sym (section_cut _ _ _ c.word_at-length.ensures.0 (omega arith) (omega arith))

pub returns : goal.returns
unfolding told
returns c = sym (section_whole _ _ _ c.word_at-length.ensures.0 (omega arith))
