-- Strict reading: what is sound depends on its own bytes, what is accepted is covered, and a refusal points into what was lent.
use Prim.Native.Nat.{ℕ, ◌+◌, ◌≤◌, ◌<◌}
use mathlib.Core.Path.{◌≡◌, refl}
use mathlib.Core.Bool.{false}
use mathlib.Core.List.{List, ◌++◌}
use lib.ListN.{length, take}
use Rattle.layout.specs.declared.edition.Edition.{Edition}
use Rattle.layout.specs.Group.{group_size, group_at}
use Rattle.layout.specs.Body.{group_place, body_run}
use Rattle.layout.specs.Answers.{refused, granted, Span}
use Rattle.layout.specs.Bytes.{word}
use Rattle.layout.specs.Style.{no_style, section_place, sections_run, casm_found, section_read}
use Rattle.layout.specs.Scan.{Stopped, Ended}
use Rattle.layout.specs.Group.{Sound}
use Rattle.layout.proofs.Accepted.{body_accepted, body_place}
use Rattle.read_salvage.proofs.Verdicts.{sound_own}
use Rattle.read_style.proofs.PlaceLaws.{sections_fit, casm_refuses, casm_stands}
use Rattle.read_style.proofs.SectionRead.{section_whole}

-- a sound group is the same group by its own bytes, whatever follows them
pub sound_by_its_own_bytes : (p x : List ℕ) (edition : Edition) (text ctabs cntts : ℕ) → group_at p ≡ Sound edition text ctabs cntts → group_at (take (group_size p) p ++ x) ≡ Sound edition text ctabs cntts
sound_by_its_own_bytes p x edition text ctabs cntts e = sound_own p x edition text ctabs cntts e

-- the groups of an accepted body cover it: each begins where the one before ends, and the last ends with the body
pub accepted_is_covered : (s : List ℕ) (n : ℕ) → body_run s ≡ Ended n → group_place s n ≡ length s
accepted_is_covered s n e = (body_accepted s n e).cover

-- there are at most 32 of them, in at most 32,768 bytes
pub accepted_is_limited : (s : List ℕ) (n : ℕ) → body_run s ≡ Ended n → (n ≤ 32) × (length s ≤ 32768)
accepted_is_limited s n e = let a = body_accepted s n e in (a.few, a.short)

-- a refused body is refused at one of its bytes, or at its end
pub body_refused_within : (s : List ℕ) (number place : ℕ) → body_run s ≡ Stopped number place → place ≤ length s
body_refused_within s number place e = body_place s number place e

-- a refused file is refused at one of its bytes, or at its length
pub file_refused_within : (s : List ℕ) (number place : ℕ) → casm_found s ≡ refused number place → place ≤ length s
file_refused_within s number place e = (casm_refuses s number place e).1.1

-- a CASM section that is found ends within the file, its header of eight bytes and its body
pub found_within : (s : List ℕ) (x : Span) → casm_found s ≡ granted x → x.start + 8 + x.size ≤ length s
found_within s x e = (casm_stands s x e).0

-- every section of a file that is walked to its end is read where it stands, with the length that it states
pub sections_read : (s : List ℕ) (n k : ℕ) → sections_run s ≡ Ended n → no_style s ≡ false → k < n → section_read s (section_place s k) ≡ granted (word s (section_place s k + 4))
sections_read s n k e style l = section_whole s (section_place s k) (word s (section_place s k + 4)) refl ((sections_fit s style n e).fits k l)
