-- (ii) 'A primary starts no sooner, in judge, planner and replay.' And in version 1, which has no ready times, this says nothing.
use Prim.Native.Nat.{ℕ, ◌≤◌, ◌<◌}
use mathlib.Core.Path.{◌≡◌}
use mathlib.Core.Bool.{true}
use borrow.Author.Tests.{leb-true, le-leb}
use native.Mathlib.Omega.{arith}
use Rattle.reader.specs.declared.job.Job.{Job}
use Rattle.reader.specs.declared.plan.Plan.{Plan}
use Rattle.std.specs.Prelude.{Ok}
use Rattle.reader.specs.Tests.{◌and◌}
use Rattle.reader.specs.Limits.{ready_since}
use Rattle.reader.specs.Entries.{tasks, ready, place}
use Rattle.reader.specs.Sound.{Sound}
use Rattle.reader.proofs.TestLaws.{split}
use Rattle.rules.specs.declared.Copy.{Copy}
use Rattle.rules.specs.declared.Loss.{Loss}
use Rattle.rules.specs.Copies.{copy}
use Rattle.rules.specs.Rules.{rows, rule_ready}
use Rattle.rules.specs.Judge.{judge}
use Rattle.rules.specs.Attempts.{placed}
use Rattle.rules.specs.Planner.{planner}
use Rattle.rules.specs.Replay.{not_started, attempt, run_primary, run_task, replay}
use Rattle.rules.proofs.FaultSetLaws.{runs_own, row_primary}
use Rattle.rules.proofs.JudgeLaws.{judge_done}
use Rattle.rules.proofs.PlannedPasses.{planned_passes}

module _ (job : Job) (plan : Plan) (j : ℕ) (below : j < tasks job) where
  ready_place : rule_ready job j (rows job plan j).primary ≡ true → ready job j ≤ (place plan j).primary_start
  unfolding rule_ready copy
  ready_place h = leb-true _ _ (rw (row_primary job plan (tasks job) j below) at h)

  pub passed_ready : judge job plan ≡ Ok tt → ready job j ≤ (place plan j).primary_start
  passed_ready passed = ready_place (((judge_done job plan).0 passed).ready j below)

  pub planned_ready : Sound job → planner job ≡ placed plan → ready job j ≤ (place plan j).primary_start
  planned_ready sound h = passed_ready (planned_passes job sound plan h)

  -- passed or not
  pub replayed_ready : Sound job → (loss : Loss) → ((replay job plan loss j).primary ≡ not_started → ⊥)
      → ready job j ≤ (place plan j).primary_start
  unfolding replay run_task run_primary attempt ◌and◌
  replayed_ready sound loss started =
      split (rule_ready job j (rows job plan j).primary) ready_place
      (λ e. absurd (started (rw (runs_own job sound (rows job plan) (rows job plan) loss j below, e))))

-- every primary keeps what its version lacks
pub lacks_ready : (job : Job) → Sound job → job.version < ready_since → (j : ℕ) → j < tasks job → (p : Copy) → rule_ready job j p ≡ true
unfolding rule_ready
lacks_ready job sound h j below p = le-leb (ready job j) p.start (omega (arith, sound.ready_lacks j below h))
