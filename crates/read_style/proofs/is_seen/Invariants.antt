use mathlib.Core.Path.{◌≡◌}
use Rattle.layout.specs.Scan.{first}
use Rattle.layout.specs.Bytes.{four}
use Rattle.layout.specs.Style.{section_place, section_tagged}
use Rattle.read_style.proofs.SectionLaws.{has_tag}
use Rattle.read_style.proofs.is_seen.Given as goal

abbrev pub invariant-loop : goal.invariant-loop
invariant-loop l =
    (l.place ≡ section_place l.file l.counter) × (section_tagged l.file l.n (four l.tag) ≡ first (has_tag l.file (four l.tag)) l.counter l.n)
