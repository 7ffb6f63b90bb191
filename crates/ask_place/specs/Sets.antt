-- What a set and its effective table answer, of whichever edition: the part of placing that the editions share.
use Rattle.std.specs.Prelude.{ℕ, cond, pos, ◌+ℤ◌}
use Rattle.layout.specs.declared.record.Set.{Set}
use Rattle.layout.specs.Answers.{Answer, refused, granted}
use Rattle.layout.specs.Refusals.{root_fixed}
use Rattle.layout.specs.Place.{fixed, shift, heard}

-- 17, or the note that is heard
unfoldable pub by_set : Set → ℕ → ℕ → ℕ → ℕ → Answer ℕ
by_set set table from root note =
    cond (fixed set.rule table) (refused root_fixed 0)
    (granted (heard (pos note +ℤ shift table set.key from root) set.low set.high))
