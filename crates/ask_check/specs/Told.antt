-- Answers as the code carries them from call to call.
use Rattle.std.specs.Prelude.{ℕ, Bool}
use Rattle.layout.specs.declared.answer.Checked.{Checked}
use Rattle.layout.specs.declared.answer.Which.TheVariants.{Neither}
use Rattle.layout.specs.Answers.{Span}

-- an answer that accepts
abbrev pub told : Bool → ℕ → Checked
told b unlike = record { number = 0; place = 0; which = Neither; yes = b; unlike = unlike }

-- the section whose tag stands at a place, with so many bytes behind its header
abbrev pub section : ℕ → ℕ → Span
section tag n = record { start = tag; size = n }
