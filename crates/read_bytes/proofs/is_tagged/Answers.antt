-- The tag at a place is the bytes of the number that stands there.
use mathlib.Core.Path.{sym}
use Rattle.layout.proofs.Numbers.{tagged_is}
use borrow.Author.Rules.{rules}
use Rattle.read_bytes.proofs.is_tagged.Goals as goal

pub returns : goal.returns
returns c = sym (tagged_is _ _ _ _ c.word_at.ensures.1.0 c.word_at.ensures.1.1 (search rules))
