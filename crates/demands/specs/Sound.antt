-- Demand 1, continued: the conditions of Refusals rest on words of the definitions for what is sound (`sound_text`, `GroupStands`). Here those words are tied to the refusals themselves: what is sound is what no rule refuses.
use Rattle.std.specs.Prelude.{ℕ, ◌≡◌, ◌↔◌, true, List}
use Rattle.layout.specs.Lists.{All}
use Rattle.layout.specs.Sdec.{sound_text}
use Rattle.layout.specs.Salvage.{Entry, salvage}
use Rattle.law_salvage.specs.Salvage.{entry_bytes}
use Rattle.law_refusals.specs.Text.{TextBroken}
use Rattle.law_refusals.specs.Body.{GroupRefused, GroupStands}
use Rattle.law_refusals.specs.Salvage.{EntryRefused}

-- a text is sound exactly where it breaks no rule of row 8
abbrev pub SoundTextExactly : Type 0
SoundTextExactly = (text : List ℕ) → (sound_text text ≡ true) ↔ (TextBroken text → ⊥)

-- a group stands exactly where no refusal of a group is given for it
abbrev pub GroupStandsExactly : Type 0
GroupStandsExactly = (p : List ℕ) → GroupStands p ↔ ((number place : ℕ) → GroupRefused p number place → ⊥)

-- an entry of a salvage list whose bytes meet a refusal's condition has that kind
abbrev pub RefusalsAreKinds : Type 0
RefusalsAreKinds = (body : List ℕ) → All (λ (e : Entry). (number : ℕ) → EntryRefused (entry_bytes body e) number → e.kind ≡ number) (salvage body)
