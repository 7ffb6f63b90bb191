-- A byte judged by the columns of a table of ranges: lowest, highest, and whether by the rule before it, too.
use Rattle.std.specs.Prelude.{ℕ, ◌+◌, Bool, false, not, ◌&&◌, ◌||◌, List, ltb, get_or}
use Rattle.layout.specs.Ranges.{sound_table, rule_at}

-- the value v is out of the range of byte k, which stands behind the byte `rule`
unfoldable pub out_by : List ℕ → List ℕ → List Bool → ℕ → ℕ → ℕ → Bool
out_by low high ruled k rule v = ltb v (get_or low k 0) || (ltb (get_or high k 0) v || (get_or ruled k false && not (sound_table rule v)))

-- byte k of the record at place `at` is
unfoldable pub out_standing : List ℕ → List ℕ → List Bool → List ℕ → ℕ → ℕ → Bool
out_standing low high ruled s at k = out_by low high ruled k (rule_at s at k) (get_or s (at + k) 0)
