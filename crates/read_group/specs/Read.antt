-- What reading the Ctabs of a group gives.
use Rattle.std.specs.Prelude.{ℕ, Result, Ok, Err, IfOk, ◌≤◌, ◌≡◌, List, length}
use Rattle.layout.specs.Scan.{Run}
use Rattle.layout.specs.declared.turn.Refusal.{Refusal}
use Rattle.layout.specs.declared.edition.Edition.{Edition}
use Rattle.layout.specs.Group.{ctab_place, ctab_channel, ctabs_of}
use Rattle.read_group.specs.Seen.{Seen}
use Rattle.read_group.specs.declared.ctabs.Ctabs.{Ctabs}

-- the run of the Ctabs, by what was read of them
unfoldable pub run_of : Result Ctabs Refusal → Run
run_of (Err why) = Err why
run_of (Ok x) = Ok x.count

-- what is read of the Ctabs of an edition from p on: the run, and where it ended which channels its Ctabs have
pub record CtabsRead (e : Edition) (c : List ℕ) (p : ℕ) (r : Result Ctabs Refusal) : Type 0 where
  pub run : run_of r ≡ ctabs_of e c p
  pub seen : IfOk r (λ x. (ctab_place e p x.count ≤ length c) × Seen (ctab_channel e c p) x.count x.seen)
