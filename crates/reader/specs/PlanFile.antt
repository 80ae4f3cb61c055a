-- A plan file after its job: its first fault in file order, and the plan, each number where it stands.
use Rattle.std.specs.Prelude.{ℕ, ◌+◌, ◌-◌, ◌*◌, List, ◌≡◌, ltb, get_or, replicate, Result, Ok}
use Rattle.std.proofs.Math.Option.{Option, none}
use Rattle.reader.specs.declared.job.Job.{Job}
use Rattle.reader.specs.declared.plan.Place.{Place}
use Rattle.reader.specs.declared.plan.Plan.{Plan}
use Rattle.reader.specs.declared.refusal.Refusal.{Refusal}
use Rattle.reader.specs.declared.refusal.Refusal.TheVariants.{Unable}
use Rattle.reader.specs.First.{◌or_else◌, first, unless, fill}
use Rattle.reader.specs.Limits.{plan_version, max_tasks, max_start}
use Rattle.reader.specs.Entries.{nodes, tasks, task, no_place}
use Rattle.reader.specs.Number.{number_at, version_fault, count_fault, value_fault}
use Rattle.reader.specs.Refusals.{resulted}
use Rattle.reader.specs.Sound.{PlanSound}
use Rattle.reader.specs.JobFile.{tail_fault}

-- 'Nodes are below P'; 7, 'run time 0 on a planned node', for a task of these run times
unfoldable pub node_fault : List ℕ → ℕ → ℕ → List ℕ → Option Refusal
node_fault s at p run = value_fault s at 0 (p - 1) or_else unless (ltb 0 (get_or run (number_at s at) 0)) (Unable at)

-- 'per task primary node, primary start, backup node, backup start. .. starts at most 1,000,000'
unfoldable pub place_fault : List ℕ → ℕ → ℕ → List ℕ → Option Refusal
place_fault s at p run =
    node_fault s at p run
    or_else value_fault s (at + 4) 0 max_start
    or_else node_fault s (at + 8) p run
    or_else value_fault s (at + 12) 0 max_start

unfoldable pub place_at : List ℕ → ℕ → Place
place_at s at =
    record {
      primary_node = number_at s at;
      primary_start = number_at s (at + 4);
      backup_node = number_at s (at + 8);
      backup_start = number_at s (at + 12);
    }

unfoldable pub places_fault : List ℕ → Job → ℕ → Option Refusal
places_fault s job n = first n (λ j. place_fault s (8 + 16 * j) (nodes job) (task job j).run)

unfoldable pub places_at : List ℕ → ℕ → List Place
places_at s n = fill n (λ j. place_at s (8 + 16 * j)) (replicate max_tasks no_place)

-- 'The file has 8 + 16 × N bytes'
abbrev pub plan_length : ℕ → ℕ
plan_length n = 8 + 16 * n

-- 'version (1); task count, equal to N; per task ..'
unfoldable pub plan_fault : List ℕ → Job → Option Refusal
plan_fault s job =
    version_fault plan_version s
    or_else count_fault s 4 (tasks job) (tasks job)
    or_else places_fault s job (tasks job)
    or_else tail_fault s (plan_length (tasks job))

unfoldable pub plan_at : List ℕ → ℕ → Plan
plan_at s n = record { version = number_at s 0; task_count = number_at s 4; places = places_at s n }

-- what reading a plan file gives: the plan, or the first fault
unfoldable pub read_plan : List ℕ → Job → Result Plan Refusal
read_plan s job = resulted (plan_fault s job) (plan_at s (tasks job))

-- of a plan file that is read after its job: the same
pub record PlanDone (s : List ℕ) (job : Job) : Type 0 where
  pub fault : plan_fault s job ≡ none
  pub plan : read_plan s job ≡ Ok (plan_at s (tasks job))
  pub sound : PlanSound job (plan_at s (tasks job))
