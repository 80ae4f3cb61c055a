-- One task on its own: its copies, its run and the numbers of that run.
use Rattle.std.specs.Prelude.{ℕ, ◌+◌, ◌≤◌, ◌<◌, Bool, false, not, cond, ◌≡◌, leb, get_or, Option, Some, None}
use Rattle.reader.specs.declared.job.Job.{Job}
use Rattle.reader.specs.declared.job.Node.{Node}
use Rattle.reader.specs.declared.job.Task.{Task}
use Rattle.reader.specs.declared.plan.Place.{Place}
use Rattle.reader.specs.Tests.{◌and◌}
use Rattle.reader.specs.Limits.{max_nodes, max_detect, max_time, max_start}
use Rattle.rules.specs.declared.Copy.{Copy}
use Rattle.rules.specs.declared.Loss.{Loss}
use Rattle.rules.specs.declared.Took.{Took}
use Rattle.rules.specs.Copies.{domain}
use Rattle.rules.specs.Rules.{Row}
use Rattle.rules.specs.Replay as rules
use Rattle.rules.specs.Replay.{TaskRun, not_started, cut, finished, is_finished, attempt}
use Rattle.replay.specs.declared.states.Pair.{Pair}
use Rattle.replay.specs.declared.states.State.{State}
use Rattle.replay.specs.declared.states.State.TheVariants.{NotStarted, Cut, Finished}
use Rattle.replay.specs.declared.states.Outcome.{Outcome}

-- numbers within their limits, so that no sum of them wraps
pub record PairFits (t : Task) (x : Place) (took : Took) (detect : ℕ) : Type 0 where
  pub primary_node : x.primary_node < max_nodes
  pub backup_node : x.backup_node < max_nodes
  pub primary_start : x.primary_start ≤ max_start
  pub backup_start : x.backup_start ≤ max_start
  pub primary_run : get_or t.run x.primary_node 0 ≤ max_time
  pub primary_took : took.primary ≤ max_time
  pub backup_took : took.backup ≤ max_time
  pub detect_most : detect ≤ max_detect

-- what becomes of a copy, in the code's words
abbrev pub state : rules.State → State
state not_started = NotStarted
state cut = Cut
state finished = Finished

-- '0 not started, 1 cut, 2 finished'
abbrev pub number_of : State → ℕ
number_of NotStarted = 0
number_of Cut = 1
number_of Finished = 2

abbrev pub copy_at : ℕ → ℕ → ℕ → Copy
copy_at n s ticks = record { node = n; start = s; finish = s + ticks }

-- the copies of a task at its place, on these nodes, as they end, and whether rule B holds for them as listed
abbrev pub pair_at : Task → Place → Took → Node → Node → Pair
pair_at t x took own other =
    record {
      primary = copy_at x.primary_node x.primary_start took.primary;
      backup = copy_at x.backup_node x.backup_start took.backup;
      primary_group = own.group;
      backup_group = other.group;
      detected = leb (x.primary_start + get_or t.run x.primary_node 0 + own.detect) x.backup_start;
    }

-- the groups are those of the copies' nodes
abbrev pub InGroups : Job → Pair → Type 0
InGroups job x = (domain job x.primary.node ≡ x.primary_group) × (domain job x.backup.node ≡ x.backup_group)

-- the run of a task of whose copies it is known whether all that they wait for is there, and from when it is
unfoldable pub run_fed : Job → Loss → Bool → Bool → Pair → TaskRun
run_fed job loss fed fed_backup x =
    let p = attempt job loss fed x.primary in
    record { primary = p; backup = attempt job loss (not (is_finished p) and x.detected and fed_backup) x.backup }

abbrev pub run_from : Job → Loss → ℕ → ℕ → Pair → TaskRun
run_from job loss ready ready_backup x = run_fed job loss (leb ready x.primary.start) (leb ready_backup x.backup.start) x

-- the finish of the finished copy, if there is one
abbrev pub finish_in : Row → TaskRun → Option ℕ
finish_in r x = cond (is_finished x.primary) (Some r.primary.finish) (cond (is_finished x.backup) (Some r.backup.finish) None)

-- 'Per task replay writes three numbers: primary and backup (0 not started, 1 cut, 2 finished), and the finish of the finished copy (0 if none).'
unfoldable pub outcome : Row → TaskRun → Outcome
outcome r x = record { primary = state x.primary; backup = state x.backup; finish = finish_in r x }

-- the row of two copies; replay asks nothing of its fault set
abbrev pub pair_row : Pair → Row
pair_row x = record { primary = x.primary; backup = x.backup; faults = λ q. false }
