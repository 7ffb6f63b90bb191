-- The name of the file that is written first. Assumes nothing.
use Rattle.std.specs.Prelude.{◌≡◌, List, ◌++◌, [], ◌∷◌, ℕ, ◌≤◌, take}

-- where the r first bytes of `new` are within a name, they are the `at` first bytes of `old` and then `text`
abbrev pub Appended : List ℕ → ℕ → List ℕ → ℕ → List ℕ → Type 0
Appended old at text r new = r ≤ 4096 → (at ≤ r) × (take r new ≡ take at old ++ text)

-- where it fits, the name is the target's with `.casm-XXXXXX` behind it: the new file stands in the target's folder
abbrev pub Beside : List ℕ → ℕ → List ℕ → Type 0
Beside target r name = r ≤ 4096 → take r name ≡ target ++ (46 ∷ 99 ∷ 97 ∷ 115 ∷ 109 ∷ 45 ∷ 88 ∷ 88 ∷ 88 ∷ 88 ∷ 88 ∷ 88 ∷ [])
