-- Ask for a place, then take it: document 02 (iii), over a job, a plan that passed and a description that reads well and has room.
use Rattle.std.specs.Prelude.{ℕ, Bool}
use Rattle.std.proofs.Math.Option.{Option, none, some}
use Rattle.reader.specs.declared.job.Job.{Job}
use Rattle.reader.specs.declared.plan.Place.{Place}
use Rattle.reader.specs.declared.plan.Plan.{Plan}
use Rattle.rules.specs.declared.Description.{Description}
use Rattle.reader.specs.declared.refusal.Refusal.{Refusal}
use Rattle.reader.specs.declared.refusal.Refusal.TheVariants.{Stale}
use Rattle.reader.specs.Tests.{◌and◌}
use Rattle.reader.specs.Entries.{tasks}
use Rattle.rules.specs.Copies.{copy}
use Rattle.rules.specs.Rules.{Row, row, rows, rule_c}
use Rattle.rules.specs.Judge.{breach}
use Rattle.rules.specs.Attempts.{Attempt, refused, placed, ◌>>=◌}
use Rattle.rules.specs.Planner.{primary_keeps, backup_keeps, place_task, place_of, anywhere}
use Rattle.rules.specs.Longer.{longer_job, longer_plan}

-- 'returns the planner's two places without booking anything': task N of the longer job beside the rows of the plan
unfoldable pub ask : Job → Plan → Description → Attempt Place
ask job plan d = do
  r ← place_task (longer_job job d) (anywhere (tasks job)) (tasks job) (rows job plan) (tasks job)
  placed (place_of r)

-- 'A commit hands back the longer job and plan as values'
pub record Booked : Type 0 where
  pub job : Job
  pub plan : Plan

unfoldable pub longer : Job → Plan → Description → Place → Booked
longer job plan d x = record { job = longer_job job d; plan = longer_plan job plan x }

-- '21, stale, exactly if a proposed copy now breaks a rule, task / task'
unfoldable pub unless_stale : {A : Type 0} → Option Refusal → ℕ → A → Attempt A
unless_stale none j a = placed a
unless_stale (some r) j a = refused (Stale j)

-- the row of a place beside the rows before task j
unfoldable pub row_of : Job → (ℕ → Row) → ℕ → Place → Row
row_of job before j x =
    row job before j (copy job j x.primary_node x.primary_start) (copy job j x.backup_node x.backup_start)

-- the copies of row r keep all rules beside the rows before task j
unfoldable pub keeps_rules : Job → (ℕ → Row) → ℕ → Row → Bool
keeps_rules job before j r = primary_keeps job j before j r.primary and backup_keeps job j before j r and rule_c job j r

-- 'Committing books those places under the next task number if they still keep all rules.'
unfoldable pub commit : Job → Plan → Description → Place → Attempt Booked
commit job plan d x =
    let big = longer_job job d in
    unless_stale (breach big (rows big (longer_plan job plan x))) (tasks job) (longer job plan d x)
