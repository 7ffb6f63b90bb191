-- The entries that a lent list holds, three numbers each.
use Rattle.std.specs.Prelude.{ℕ, ◌+◌, ◌*◌, List, get_or}
use Rattle.layout.specs.Lists.{rows}
use Rattle.layout.specs.Salvage.{Entry}

-- entry number k: "place, length, kind"
abbrev pub entry_at : List ℕ → ℕ → Entry
entry_at list k = record { place = get_or list (3 * k) 0; size = get_or list (3 * k + 1) 0; kind = get_or list (3 * k + 2) 0 }

-- the first n entries
abbrev pub entries_in : List ℕ → ℕ → List Entry
entries_in list n = rows (entry_at list) 0 n
