-- What the plan writes without the records: the Cntts that it has laid down (document 01, "Writing and editing").
use Rattle.std.specs.Prelude.{ℕ, ◌+◌, ◌*◌, get_or, Ok, Err}
use mathlib.Core.List.{List, [], ◌∷◌, flat_map}
use Rattle.layout.specs.Bytes.{Cntt, chunk}
use Rattle.layout.specs.Edit.{replaced}
use Rattle.layout.specs.Group.{ctab_place}
use Rattle.layout.specs.Lists.{rows}
use Rattle.write_plan.specs.Checking.{Plans, start_place, start_bytes}

-- Cntt number k of those laid down
unfoldable pub cntt_down : List ℕ → ℕ → List ℕ
cntt_down cntts k = chunk Cntt (get_or cntts (2 * k) 0 ∷ get_or cntts (2 * k + 1) 0 ∷ [])

-- the first n of them, one after the other
unfoldable pub cntts_down : List ℕ → ℕ → List ℕ
cntts_down cntts n = flat_map (cntt_down cntts) (rows (λ k. k) 0 n)

-- a buffer with the group's start and, behind the room of its Ctabs, its Cntts; nothing on refusal
unfoldable pub framed : List ℕ → Plans → List ℕ → List ℕ
framed text (Ok p) out =
    replaced (replaced out 0 (start_bytes text (Ok p))) (ctab_place p.edition (start_place text (Ok p)) p.records) (cntts_down p.cntts p.seconds)
framed text (Err why) out = out
