-- (vi) Supply groups: the copies of a task are in different ones; and with all nodes on one supply no plan passes, and none is made.
use Prim.Native.Nat.{ℕ, ◌<◌}
use native.Mathlib.Omega.{arith}
use mathlib.Core.Path.{◌≡◌, sym, ◌∙◌, ap}
use borrow.Author.Tests.{eq-eqb}
use Rattle.reader.specs.declared.job.Job.{Job}
use Rattle.reader.specs.declared.plan.Plan.{Plan}
use Rattle.std.specs.Prelude.{Ok}
use Rattle.reader.specs.Entries.{nodes, tasks}
use Rattle.reader.specs.Sound.{Sound, PlanSound}
use Rattle.reader.proofs.TestLaws.{clash, not_e}
use Rattle.rules.specs.Copies.{copy, domain}
use Rattle.rules.specs.Rules.{rows, rule_a}
use Rattle.rules.specs.Judge.{judge}
use Rattle.rules.specs.Attempts.{placed}
use Rattle.rules.specs.Planner.{planner}
use Rattle.rules.proofs.FaultSetLaws.{row_primary, row_backup}
use Rattle.rules.proofs.JudgeLaws.{judge_done}
use Rattle.rules.proofs.PlannedPasses.{planned_sound, planned_passes}

-- of a plan that passes
pub groups_apart : (job : Job) (plan : Plan) → judge job plan ≡ Ok tt → (j : ℕ) → j < tasks job
    → domain job (rows job plan j).primary.node ≡ domain job (rows job plan j).backup.node → ⊥
unfolding rule_a
groups_apart job plan passed j low e = clash _ (eq-eqb _ _ e) (not_e _ (((judge_done job plan).0 passed).a j low))

module _ (job : Job) (sound : Sound job) (q : ℕ) (one : (n : ℕ) → n < nodes job → domain job n ≡ q) where
  pub one_supply_fails : (plan : Plan) → PlanSound job plan → judge job plan ≡ Ok tt → ⊥
  unfolding copy
  one_supply_fails plan reads passed =
      let low : 0 < tasks job = omega (arith, sound.tasks_least) in
      let primary = ap (λ c. domain job c.node) (row_primary job plan (tasks job) 0 low) ∙ one _ (reads.primary_node 0 low) in
      let backup = ap (λ c. domain job c.node) (row_backup job plan (tasks job) 0 low) ∙ one _ (reads.backup_node 0 low) in
      groups_apart job plan passed 0 low (primary ∙ sym backup)

  pub one_supply_unplanned : (plan : Plan) → planner job ≡ placed plan → ⊥
  one_supply_unplanned plan h = one_supply_fails plan (planned_sound job sound plan h) (planned_passes job sound plan h)
