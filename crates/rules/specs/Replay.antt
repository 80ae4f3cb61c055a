-- Replay of a plan that reads well, passed or not, with no loss or with a group lost at a moment.
use Rattle.std.specs.Prelude.{ℕ, Bool, true, false, not, cond, leb, ltb, eqb}
use Rattle.reader.specs.declared.job.Job.{Job}
use Rattle.reader.specs.declared.job.Link.{Link}
use Rattle.reader.specs.declared.plan.Plan.{Plan}
use Rattle.reader.specs.Tests.{◌and◌, ◌or◌, ◌implies◌}
use Rattle.reader.specs.First.{every}
use Rattle.reader.specs.Entries.{tasks, links, link}
use Rattle.rules.specs.declared.Copy.{Copy}
use Rattle.rules.specs.declared.Loss.{Loss}
use Rattle.rules.specs.declared.Loss.TheVariants.{NoLoss, Lost}
use Rattle.rules.specs.declared.Times.{Times}
use Rattle.rules.specs.Tables.{grow}
use Rattle.rules.specs.Copies.{in_time, domain}
use Rattle.rules.specs.Rules.{Row, rule_ready, rule_b, rows}
use Rattle.rules.specs.Times.{ended_rows}

-- what becomes of a copy
pub data State : Type 0 where
  not_started cut finished : State

-- '0 not started, 1 cut, 2 finished'
abbrev pub state_number : State → ℕ
state_number not_started = 0
state_number cut = 1
state_number finished = 2

abbrev pub is_finished : State → Bool
is_finished not_started = false
is_finished cut = false
is_finished finished = true

-- 'On q a copy also needs a start below f; it is finished if its finish is at most f, else cut.' Elsewhere a started copy finishes. (vi) 'Replay
-- names a group': on q is on any node of group q
unfoldable pub started : Job → Loss → Copy → State
started job NoLoss c = finished
started job (Lost q f) c =
    cond (eqb (domain job c.node) q) (cond (ltb c.start f) (cond (leb c.finish f) finished cut) not_started) finished

-- a copy that may start, or may not
unfoldable pub attempt : Job → Loss → Bool → Copy → State
attempt job loss true c = started job loss c
attempt job loss false c = not_started

-- a task's two copies in a run
pub record TaskRun : Type 0 where
  pub primary : State
  pub backup : State

-- 'An input is there if a finished copy's result arrives at or before the start.' Of link l's task, of row r and run x, at copy c
unfoldable pub arrived : Job → Link → Row → TaskRun → Copy → Bool
arrived job l r x c =
    is_finished x.primary and in_time job l r.primary c
    or is_finished x.backup and in_time job l r.backup c

-- all inputs of task j are there at the start of its copy c
unfoldable pub fed : Job → (ℕ → Row) → (ℕ → TaskRun) → ℕ → Copy → Bool
fed job t before j c =
    every (links job) λ k. let l = link job k in eqb l.to j implies arrived job l (t l.from) (before l.from) c

-- 'A primary starts if its inputs are there', (ii) and no sooner than its ready time.
unfoldable pub run_primary : Job → (ℕ → Row) → Loss → (ℕ → TaskRun) → ℕ → State
run_primary job t loss before j = attempt job loss (rule_ready job j (t j).primary and fed job t before j (t j).primary) (t j).primary

-- 'A backup is called on if its primary did not finish; it then starts if B holds for it and its inputs are there.' (viii) 'Rule B is still tested
-- there with the listed run time': with the rows `listed`, as planned; t has each copy as it ends
unfoldable pub run_backup : Job → (ℕ → Row) → (ℕ → Row) → Loss → (ℕ → TaskRun) → ℕ → State → State
run_backup job listed t loss before j p =
    attempt job loss (not (is_finished p) and rule_b job (listed j) and fed job t before j (t j).backup) (t j).backup

unfoldable pub run_task : Job → (ℕ → Row) → (ℕ → Row) → Loss → (ℕ → TaskRun) → ℕ → TaskRun
run_task job listed t loss before j =
    let p = run_primary job t loss before j in
    record { primary = p; backup = run_backup job listed t loss before j p }

-- 'Tasks go by number.' The runs of the first n tasks of table t
abbrev pub runs_to : Job → (ℕ → Row) → (ℕ → Row) → Loss → ℕ → ℕ → TaskRun
runs_to job listed t loss = grow (record { primary = not_started; backup = not_started }) (run_task job listed t loss)

unfoldable pub replay : Job → Plan → Loss → ℕ → TaskRun
replay job plan loss = runs_to job (rows job plan) (rows job plan) loss (tasks job)

-- (viii) 'Replay takes a list of actual times'
unfoldable pub replay_times : Job → Plan → Times → Loss → ℕ → TaskRun
replay_times job plan times loss = runs_to job (rows job plan) (ended_rows job plan times) loss (tasks job)

-- 'the finish of the finished copy (0 if none)'
unfoldable pub finish_of : Row → TaskRun → ℕ
finish_of r x = cond (is_finished x.primary) r.primary.finish (cond (is_finished x.backup) r.backup.finish 0)
