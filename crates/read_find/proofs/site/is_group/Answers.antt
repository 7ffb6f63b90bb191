-- Fewer than four bytes are no tag; else the tag is looked at.
use mathlib.Core.Path.{sym, ap, ◌∙◌}
use native.Mathlib.Omega.{arith}
use mathlib.Core.List.{List}
use Prim.Native.Nat.{ℕ}
use Rattle.layout.specs.Bytes.{tagged}
use Rattle.layout.proofs.Groups.{cseg_tag}
use Rattle.read_find.proofs.Sites.{tagged_short}
use Rattle.read_find.proofs.site.is_group.Goals as goal

pub returns-then-s-at-lt4 : goal.returns-then-s-at-lt4
returns-then-s-at-lt4 c = sym (tagged_short _ _ (omega arith) (omega arith))

pub returns : goal.returns
returns c =
    let a = c.args in
    c.is_tagged.ensures ∙ ap (λ (tag : List ℕ). tagged a.s.now a.at tag) cseg_tag
