use Prim.Native.Nat.{◌-◌}
use mathlib.Core.Path.{◌≡◌}
use lib.ListN.{length}
use Rattle.layout.specs.Scan.{run}
use Rattle.layout.specs.Style.{section_turn, sections_run}
use Rattle.read_style.specs.Walk.{Walked, CasmAt}
use Rattle.read_style.proofs.read_sections.Given as goal

abbrev pub invariant-loop-casm : goal.invariant-loop-casm
invariant-loop-casm l = Walked l.file l.n l.at × (CasmAt l.file l.n l.casm × (sections_run l.file ≡ run (section_turn l.file) l.n (length l.file)))

abbrev pub decreases-loop-casm : goal.decreases-loop-casm
decreases-loop-casm l = length l.file - l.n
