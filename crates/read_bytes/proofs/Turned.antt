-- What a turn says where its Result has been taken apart.
use mathlib.Core.Path.{◌≡◌, ap, sym, ◌∙◌, refl}
use Rattle.std.specs.Prelude.{Ok, Err}
use Rattle.layout.specs.Scan.{Turn, Refused, More, Done}
use Rattle.layout.specs.declared.turn.Refusal.{Refusal}
use Rattle.layout.specs.declared.turn.Met.{Met}
use Rattle.layout.specs.declared.turn.Met.TheVariants.{Chunk, End}

-- it goes on
pub turn_goes_on : (t : Turn) (m : Met) → Ok m ≡ t → m ≡ Chunk → t ≡ More
turn_goes_on t m e h = sym e ∙ ap Ok h

ends : (m : Met) → (m ≡ Chunk → ⊥) → m ≡ End
ends Chunk h = absurd (h refl)
ends End h = refl

-- it is the end
pub turn_ends : (t : Turn) (m : Met) → Ok m ≡ t → (m ≡ Chunk → ⊥) → t ≡ Done
turn_ends t m e h = sym e ∙ ap Ok (ends m h)

-- it is refused
pub turn_stops : (t : Turn) (why : Refusal) → Err why ≡ t → t ≡ Refused why.number why.place
turn_stops t why e = sym e
