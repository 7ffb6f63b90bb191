-- What stands at a place of a body, or of an entry of its salvage list: the chunk there, found by the lengths that stand before it.
use Rattle.std.specs.Prelude.{ℕ, zero, suc, ◌+◌, ◌-◌, cond, List, ltb, leb, length}
use Rattle.layout.specs.Scan.{first}
use Rattle.layout.specs.Bytes.{word, tagged, CSEG}
use Rattle.layout.specs.Refusals.{over_limit, bad_number}
use Rattle.layout.specs.Answers.{Answer, refused, granted, number_of, place_of, value_or, Sited}
use Rattle.layout.specs.Body.{body_limit}

-- a group's header leads to its chunks; any other chunk is passed over whole
unfoldable pub step_at : List ℕ → ℕ → ℕ
step_at s at = cond (tagged s at CSEG) 8 (8 + word s (at + 4))

-- where chunk number k stands, the header of a group counted as one
unfoldable pub chunk_place : List ℕ → ℕ → ℕ
chunk_place s zero = 0
chunk_place s (suc k) = chunk_place s k + step_at s (chunk_place s k)

-- the number of the chunk that has a place: the first behind which the place does not lie. No chunk has fewer than 8 bytes, so it is at most that place
unfoldable pub chunk_of : List ℕ → ℕ → ℕ
chunk_of s place = first (λ k. ltb place (chunk_place s (suc k))) 0 place

-- how many groups begin among the first n chunks
unfoldable pub groups_among : List ℕ → ℕ → ℕ
groups_among s zero = 0
groups_among s (suc k) = groups_among s k + cond (tagged s (chunk_place s k) CSEG) 1 0

-- the number of chunk k in its group, whose header is number 0
unfoldable pub child_no : List ℕ → ℕ → ℕ
child_no s zero = 0
child_no s (suc k) = cond (tagged s (chunk_place s (suc k)) CSEG) 0 (child_no s k + 1)

-- a chunk: the number of its group, its own in the group, and the place of its tag
pub record Site : Type 0 where
  pub group : ℕ
  pub child : ℕ
  pub chunk : ℕ

-- chunk number k
abbrev pub site_no : List ℕ → ℕ → Site
site_no s k = record { group = groups_among s (suc k) - 1; child = child_no s k; chunk = chunk_place s k }

-- the chunk that has a place: 3, then 16 for a place that is not there
unfoldable pub site_of : List ℕ → ℕ → Answer Site
site_of s place =
    cond (ltb body_limit (length s)) (refused over_limit 0)
    (cond (leb (length s) place) (refused bad_number 0)
    (granted (site_no s (chunk_of s place))))

-- no chunk
abbrev pub no_site : Site
no_site = record { group = 0; child = 0; chunk = 0 }

-- the answer of the call
unfoldable pub sited : Answer Site → Sited
sited a = record { number = number_of a; place = place_of a; group = (value_or no_site a).group; child = (value_or no_site a).child; chunk = (value_or no_site a).chunk }
