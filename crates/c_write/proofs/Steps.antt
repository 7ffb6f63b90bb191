-- The steps of the writer over a flat table: each has its room, and together they leave what the definition writes.
use Prim.Native.Nat.{ℕ, ◌≤◌}
use mathlib.Core.Path.{◌≡◌, refl, sym, ◌∙◌}
use mathlib.Core.List.{List, flat_map}
use native.Mathlib.Omega.{arith}
use lib.ListN.{length, take}
use Rattle.layout.specs.Edit.{replaced}
use Rattle.layout.specs.Group.{ctab_place}
use Rattle.layout.specs.Promises.{GroupWritten}
use Rattle.layout.specs.Write.{ctab_bytes}
use Rattle.std.specs.Prelude.{Ok, Err}
use Rattle.layout.specs.declared.turn.Refusal.{Refusal}
use Rattle.write_plan.specs.declared.Plan.{Plan}
use Rattle.write_plan.specs.Checking.{Plans, plan_of, measured_by, start_place}
use Rattle.write_plan.specs.Chunks.{framed}
use Rattle.write_chunks.proofs.Written.{PlanFits, plan_fits, plan_written, Left}
use Rattle.c_row.specs.Flat.{lent_rows, table_of}
use Rattle.c_write.proofs.Taking.{table_length}

module _ (text flat out : List ℕ) (count : ℕ) (plan : Plans) (e : plan ≡ plan_of text (table_of flat) count (length out)) where
  pub none_written : (why : Refusal) → plan ≡ Err why → GroupWritten text (table_of flat) count out (measured_by (Err why)) out
  unfolding Left
  none_written why is = plan_written text (table_of flat) count out out (Err why) (sym is ∙ e) refl

  module _ (p : Plan) (is : plan ≡ Ok p) where
    pub fits : PlanFits text (table_of flat) (length out) p
    fits = plan_fits text (table_of flat) count (length out) plan e p is

    pub lent : p.records ≤ lent_rows (length flat)
    lent = omega (arith, fits.within, table_length flat)

    module _ (one : List ℕ) (at : ℕ) (a : at ≡ start_place text (Ok p)) where
      pub ctabs_fit : length one ≡ length out → ctab_place p.edition at p.records ≤ length one
      ctabs_fit l = omega (arith, a, l, fits.chunks)

      pub all_written : one ≡ framed text (Ok p) out → (two : List ℕ) → two ≡ replaced one at (flat_map ctab_bytes (take p.records (table_of flat))) → GroupWritten text (table_of flat) count out (measured_by (Ok p)) two
      unfolding Left
      all_written o two t = plan_written text (table_of flat) count out two (Ok p) (sym is ∙ e) (rw (t, o, a) refl)
