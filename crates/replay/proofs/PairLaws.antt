-- The copies of a task: those of the plan's row, within their limits; and its run.
use Prim.Native.Nat.{ℕ, ◌+◌, ◌≤◌, ◌<◌}
use mathlib.Core.Bool.{Bool, true, false}
use Rattle.std.specs.Prelude.{Option, Some, None}
use mathlib.Core.Path.{◌≡◌, refl, sym, ap, ◌∙◌}
use native.Mathlib.Omega.{arith}
use Rattle.reader.specs.declared.job.Job.{Job}
use Rattle.reader.specs.declared.plan.Place.{Place}
use Rattle.reader.specs.declared.plan.Plan.{Plan}
use Rattle.reader.specs.Tests.{◌and◌}
use Rattle.reader.specs.Limits.{max_nodes, max_time, max_start}
use Rattle.reader.specs.Entries.{tasks, node, task, place, detect}
use Rattle.reader.specs.Sound.{Sound, PlanSound}
use Rattle.reader.proofs.TestLaws.{split}
use Rattle.rules.specs.declared.Loss.{Loss}
use Rattle.rules.specs.declared.Took.{Took}
use Rattle.rules.specs.declared.Times.{Times}
use Rattle.rules.specs.Copies.{copy, domain}
use Rattle.rules.specs.Rules.{Row, rows, rule_ready, rule_b}
use Rattle.rules.specs.Times.{took, listed_at, listed_of, TimesSound, ended, ended_row, ended_rows}
use Rattle.rules.specs.Replay.{TaskRun, is_finished, attempt, fed, run_primary, run_backup, run_task, finish_of}
use Rattle.rules.proofs.FaultSetLaws.{row_primary, row_backup}
use Rattle.rules.proofs.TimesLaws.{listed_took}
use Rattle.replay.specs.declared.states.Pair.{Pair}
use Rattle.replay.specs.TimesFile.{chosen, took_by}
use Rattle.replay.specs.States.{PairFits, pair_at, InGroups, pair_row, run_fed, outcome}

-- a backup whose primary finished is not activated
pub once_finished : (job : Job) (listed t : ℕ → Row) (loss : Loss) (before : ℕ → TaskRun) (j : ℕ) (x : TaskRun)
    → x ≡ run_task job listed t loss before j → is_finished x.primary ≡ true → is_finished x.backup ≡ false
unfolding run_task run_backup attempt ◌and◌
once_finished job listed t loss before j x e h = rw e (rw (rw e at h))

-- the run of a task whose copies are x
pub run_pair : (job : Job) (listed t : ℕ → Row) (loss : Loss) (before : ℕ → TaskRun) (j : ℕ) (x : Pair) (f g : Bool)
    → (t j).primary ≡ x.primary → (t j).backup ≡ x.backup → rule_b job (listed j) ≡ x.detected
    → f ≡ (rule_ready job j (t j).primary and fed job t before j (t j).primary) → g ≡ fed job t before j (t j).backup
    → outcome (pair_row x) (run_fed job loss f g x) ≡ outcome (t j) (run_task job listed t loss before j)
unfolding run_task run_primary run_backup run_fed outcome
run_pair job listed t loss before j x f g p b d fp fb = rw (← fp, ← fb, d, p, b)

-- the nodes of a place are among those of a task's run times
pub on_nodes : (job : Job) (plan : Plan) → Sound job × PlanSound job plan → (j : ℕ) → j < tasks job
    → ((place plan j).primary_node < max_nodes) × ((place plan j).backup_node < max_nodes)
on_nodes job plan both j p =
    let most = both.0.nodes_most in
    (omega (arith, both.1.primary_node j p, most), omega (arith, both.1.backup_node j p, most))

-- the copies of task j
module _ (job : Job) (plan : Plan) (times : Times) (all : Sound job × PlanSound job plan × TimesSound job plan times) where
  abbrev pub pair : ℕ → Pair
  pair j = let x = place plan j in pair_at (task job j) x (took times j) (node job x.primary_node) (node job x.backup_node)

  pub pair_groups : (j : ℕ) (x : Pair) → x ≡ pair j → InGroups job x
  unfolding domain
  pair_groups j x e = rw e (refl, refl)

  module _ (j : ℕ) (below : j < tasks job) where
    pub fits : PairFits (task job j) (place plan j) (took times j) (detect job (place plan j).primary_node)
    unfolding listed_at
    fits =
        let p = all.1.primary_node j below in
        let b = all.1.backup_node j below in
        let on = on_nodes job plan (all.0, all.1) j below in
        record {
          primary_node = on.0;
          backup_node = on.1;
          primary_start = all.1.primary_start j below;
          backup_start = all.1.backup_start j below;
          primary_run = all.0.run_most j _ below p;
          primary_took = omega (arith, (all.2.within j below).primary_most, all.0.run_most j _ below p);
          backup_took = omega (arith, (all.2.within j below).backup_most, all.0.run_most j _ below b);
          detect_most = all.0.detect_most _ p;
        }

    pub primary_is : (ended_rows job plan times j).primary ≡ (pair j).primary
    unfolding copy ended_row ended
    primary_is = ap (λ c. ended c (took times j).primary) (row_primary job plan (tasks job) j below)

    pub backup_is : (ended_rows job plan times j).backup ≡ (pair j).backup
    unfolding copy ended_row ended
    backup_is = ap (λ c. ended c (took times j).backup) (row_backup job plan (tasks job) j below)

    pub detected_is : rule_b job (rows job plan j) ≡ (pair j).detected
    unfolding rule_b copy
    detected_is = rw (row_primary job plan (tasks job) j below, row_backup job plan (tasks job) j below)

    pub primary_ends_lem : (0 < (ended_rows job plan times j).primary.finish) × ((ended_rows job plan times j).primary.finish ≤ max_start + max_time)
    primary_ends_lem = rw primary_is (omega (arith, (all.2.within j below).primary_least), omega (arith, fits))

    pub backup_ends_lem : (0 < (ended_rows job plan times j).backup.finish) × ((ended_rows job plan times j).backup.finish ≤ max_start + max_time)
    backup_ends_lem = rw backup_is (omega (arith, (all.2.within j below).backup_least), omega (arith, fits))

    pub finish_most : (x : TaskRun) → finish_of (ended_rows job plan times j) x ≤ max_start + max_time
    unfolding finish_of
    finish_most x =
        split (is_finished x.primary)
        (λ e. rw e primary_ends_lem.1)
        (λ e. split (is_finished x.backup) (λ f. rw (e, f) backup_ends_lem.1) (λ f. rw (e, f) (omega arith)))

-- task j where times are given or not
module _ (job : Job) (plan : Plan) (given : Option Times)
    (all : Sound job × PlanSound job plan × TimesSound job plan (chosen given job plan)) (j : ℕ) (below : j < tasks job) where
  abbrev x : Place
  x = place plan j

  abbrev ticks : Took
  ticks = took_by given j (listed_of job plan j)

  ticks_are : (given : Option Times) → took_by given j (listed_of job plan j) ≡ took (chosen given job plan) j
  unfolding chosen took_by
  ticks_are (Some times) = refl
  ticks_are None = sym (listed_took job all.0 plan j below)

  pub ticks_fit : PairFits (task job j) x ticks (detect job x.primary_node)
  ticks_fit = rw (ticks_are given) (fits job plan (chosen given job plan) all j below)

  pub ticks_pair : (y : Pair) → y ≡ pair_at (task job j) x ticks (node job x.primary_node) (node job x.backup_node)
      → y ≡ pair job plan (chosen given job plan) all j
  ticks_pair y e = e ∙ ap (λ t. pair_at (task job j) x t (node job x.primary_node) (node job x.backup_node)) (ticks_are given)
