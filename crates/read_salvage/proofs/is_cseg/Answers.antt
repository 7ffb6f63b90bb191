use mathlib.Core.Path.{◌∙◌}
use Rattle.read_salvage.proofs.Letters.{cseg_tagged}
use Rattle.read_salvage.proofs.is_cseg.Goals as goal

pub returns : goal.returns
returns c = c.is_tagged.ensures ∙ cseg_tagged _ _
