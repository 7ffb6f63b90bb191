-- No header, or one with the tag of a Ctb2, or any other.
use mathlib.Core.Path.{sym, ◌∙◌}
use native.Mathlib.Omega.{arith}
use Rattle.layout.proofs.Groups.{ctb2_tag, edition_cut, edition_tagged}
use Rattle.read_group.proofs.edition_at.Goals as goal

pub returns-then-c-p-lt8 : goal.returns-then-c-p-lt8
returns-then-c-p-lt8 c = sym (edition_cut _ _ (omega arith))

pub returns-then-is_tagged : goal.returns-then-is_tagged
returns-then-is_tagged c = sym (edition_tagged _ _ _ (omega arith) (rw ctb2_tag at (sym c.if-is_tagged.true ∙ c.is_tagged.ensures)))

pub returns : goal.returns
returns c = sym (edition_tagged _ _ _ (omega arith) (rw ctb2_tag at (sym c.if-is_tagged.false ∙ c.is_tagged.ensures)))
