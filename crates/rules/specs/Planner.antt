-- The planner: each copy at the first place, by finish and then by node, that keeps the rules against the copies already placed.
use Rattle.std.specs.Prelude.{ℕ, zero, suc, ◌-◌, Bool, true, leb, ltb, eqb, replicate}
use Rattle.std.proofs.Math.Option.{Option}
use Rattle.reader.specs.declared.job.Job.{Job}
use Rattle.reader.specs.declared.plan.Place.{Place}
use Rattle.reader.specs.declared.plan.Plan.{Plan}
use Rattle.reader.specs.declared.refusal.Refusal.TheVariants.{NoPrimary, NoBackup}
use Rattle.reader.specs.Tests.{◌and◌, ◌implies◌}
use Rattle.reader.specs.First.{first, when, every, fill}
use Rattle.reader.specs.Limits.{max_tasks}
use Rattle.reader.specs.Entries.{nodes, tasks, links, deadline, run, link, no_place}
use Rattle.rules.specs.declared.Copy.{Copy}
use Rattle.rules.specs.Tables.{put}
use Rattle.rules.specs.Copies.{copy}
use Rattle.rules.specs.Rules.{Row, row, blank_row, rule_a, rule_ready, rule_b, rule_d, rule_e, rule_f, rule_g_primary, rule_g_backup}
use Rattle.rules.specs.Attempts.{Attempt, placed, ◌>>=◌, ◌or_refuse◌}

-- 'of all nodes and starts keeping [the rules], and finishing by the deadline, the earliest finish, then the lowest node.
-- A node with run time 0 never counts.'
unfoldable pub earliest : Job → ℕ → (Copy → Bool) → Option Copy
earliest job j keeps =
    first (suc (deadline job j)) λ t. first (nodes job) λ n.
    let c = copy job j n (t - run job j n) in
    when (ltb 0 (run job j n) and leb (run job j n) t and keeps c) c

-- the primary p of task j keeps its ready time, and 'D and G against copies already placed': those of the first m rows, of which rows not
-- placed yet are blank and hold no tick
unfoldable pub primary_keeps : Job → ℕ → (ℕ → Row) → ℕ → Copy → Bool
primary_keeps job m before j p =
    rule_ready job j p
    and every (links job) (λ k. let l = link job k in eqb l.to j implies rule_d job l (before l.from) p)
    and every m (λ i. rule_g_primary (before i) p)

-- and passes a test of its own beside the rules
abbrev pub primary_may : Job → (Copy → Bool) → ℕ → (ℕ → Row) → ℕ → Copy → Bool
primary_may job may m before j p = may p and primary_keeps job m before j p

-- 'Then the backup, likewise under A to G': the row s of task j keeps them (C is the deadline of `earliest`)
unfoldable pub backup_keeps : Job → ℕ → (ℕ → Row) → ℕ → Row → Bool
backup_keeps job m before j s =
    rule_a job s
    and rule_b job s
    and every (links job) (λ k. let l = link job k in eqb l.to j implies rule_e job l (before l.from) s)
    and rule_f job s
    and every m (λ i. rule_g_backup job (before i) s)

-- 'First the primary'; 15 or 16 where there is no place
unfoldable pub place_task : Job → (Copy → Bool) → ℕ → (ℕ → Row) → ℕ → Attempt Row
place_task job may m before j = do
  p ← earliest job j (primary_may job may m before j) or_refuse NoPrimary j
  b ← earliest job j (λ b. backup_keeps job m before j (row job before j p b)) or_refuse NoBackup j
  placed (row job before j p b)

-- 'Tasks go by number', each under its own test of its primary
unfoldable pub place_tasks : Job → (ℕ → Copy → Bool) → ℕ → Attempt (ℕ → Row)
place_tasks job may zero = placed (λ i. blank_row)
place_tasks job may (suc j) = do
  before ← place_tasks job may j
  r ← place_task job (may j) j before j
  placed (put before j r)

-- the plan that has these rows
unfoldable pub place_of : Row → Place
place_of r =
    record {
      primary_node = r.primary.node;
      primary_start = r.primary.start;
      backup_node = r.backup.node;
      backup_start = r.backup.start;
    }

unfoldable pub plan_of : Job → (ℕ → Row) → Plan
plan_of job t =
    record {
      version = 1;
      task_count = tasks job;
      places = fill (tasks job) (λ j. place_of (t j)) (replicate max_tasks no_place);
    }

-- the plan in which each primary passes its test, and all else is by rule
unfoldable pub planner_with : (ℕ → Copy → Bool) → Job → Attempt Plan
planner_with may job = do
  t ← place_tasks job may (tasks job)
  placed (plan_of job t)

-- any place, where nothing is forced
abbrev pub anywhere : ℕ → Copy → Bool
anywhere j p = true

unfoldable pub planner : Job → Attempt Plan
planner = planner_with anywhere
