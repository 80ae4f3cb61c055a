-- A third task after job J and its plan of sample 1, for the samples of request (iii); and a wrong rule for 21.
use Rattle.std.specs.Prelude.{ℕ, Bool, [], ◌∷◌, eqb}
use Rattle.reader.specs.declared.job.Job.{Job}
use Rattle.reader.specs.declared.plan.Place.{Place}
use Rattle.reader.specs.declared.plan.Plan.{Plan}
use Rattle.reader.specs.declared.refusal.Refusal.TheVariants.{Stale}
use Rattle.reader.specs.Tests.{◌and◌}
use Rattle.reader.specs.First.{unless}
use Rattle.reader.specs.Limits.{max_links}
use Rattle.reader.specs.Entries.{tasks, no_link}
use Rattle.reader.specs.Samples.{array, task_of, job_of, link_of, at, plan_with}
use Rattle.rules.specs.declared.Description.{Description}
use Rattle.rules.specs.Attempts.{Attempt, ◌>>=◌}
use Rattle.rules.specs.Asking.{ask, Booked, longer, unless_stale}

-- a task of run 2 on each node, fed by both others; with no deadline to speak of, and with one of 12
abbrev pub third : ℕ → Description
third deadline = record { task = task_of deadline 2; link_count = 2; links = array max_links no_link (link_of 0 2 1 ∷ link_of 1 2 3 ∷ []) }

abbrev pub long_j : Job
long_j = job_of (task_of 30 4 ∷ task_of 30 3 ∷ task_of 30 2 ∷ []) (link_of 0 1 2 ∷ link_of 0 2 1 ∷ link_of 1 2 3 ∷ [])

-- the plan of sample 1 with the copies of task 1 a tick later
abbrev pub plan_later : Plan
plan_later = plan_with (at 0 0 1 5 ∷ at 0 5 1 10 ∷ [])

-- J and sample 1's plan with the third task at x
abbrev pub with_third : Place → Booked
with_third x = record { job = long_j; plan = plan_with (at 0 0 1 5 ∷ at 0 4 1 9 ∷ x ∷ []) }

-- a wrong rule: 21 unless asking anew gives the place that is proposed
abbrev pub is_same_place : Place → Place → Bool
is_same_place x y =
    eqb x.primary_node y.primary_node
    and eqb x.primary_start y.primary_start
    and eqb x.backup_node y.backup_node
    and eqb x.backup_start y.backup_start

abbrev pub commit_if_asked : Job → Plan → Description → Place → Attempt Booked
commit_if_asked job plan d x = do
  y ← ask job plan d
  unless_stale (unless (is_same_place x y) (Stale (tasks job))) (tasks job) (longer job plan d x)
