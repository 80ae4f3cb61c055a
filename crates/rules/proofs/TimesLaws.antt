-- Replay without a list is replay with the listed times.
use Prim.Native.Nat.{ℕ, zero, suc, ◌≤◌, ◌<◌}
use mathlib.Core.Path.{◌≡◌, refl}
use lib.Dec.{eqb}
use lib.ListN.{replicate, length-replicate}
use native.Mathlib.Omega.{arith}
use Rattle.reader.specs.declared.job.Job.{Job}
use Rattle.reader.specs.declared.plan.Plan.{Plan}
use Rattle.reader.specs.Tests.{◌implies◌}
use Rattle.reader.specs.Limits.{max_tasks}
use Rattle.reader.specs.Entries.{tasks, links, link}
use Rattle.reader.specs.Sound.{Sound, PlanSound}
use Rattle.reader.proofs.TestLaws.{split}
use Rattle.reader.proofs.FirstLaws.{every_same}
use Rattle.reader.proofs.FillLaws.{fill_get}
use Rattle.rules.specs.declared.Copy.{Copy}
use Rattle.rules.specs.declared.Loss.{Loss}
use Rattle.rules.specs.declared.Times.{Times}
use Rattle.rules.specs.Tables.{grow}
use Rattle.rules.specs.Copies.{copy}
use Rattle.rules.specs.Rules.{Row, rows}
use Rattle.rules.specs.Times.{no_took, took, listed_at, listed_of, listed_times, TimesSound, ended, ended_row, ended_rows}
use Rattle.rules.specs.Replay.{TaskRun, fed, run_primary, run_backup, run_task, runs_to, replay, replay_times}
use Rattle.rules.proofs.FaultSetLaws.{from_below, row_primary, row_backup}

module _ (job : Job) (sound : Sound job) where
  -- the run of task j looks at the rows up to j only
  fed_rows : (t u : ℕ → Row) (before : ℕ → TaskRun) (j : ℕ) (c : Copy) → ((i : ℕ) → i < j → t i ≡ u i)
      → fed job t before j c ≡ fed job u before j c
  unfolding fed ◌implies◌
  fed_rows t u before j c h =
      every_same (links job) _ _ λ k pk.
      split (eqb (link job k).to j) (λ e. rw (h (link job k).from (from_below job sound j k pk e))) (λ e. rw e)

  run_rows : (listed t u : ℕ → Row) (loss : Loss) (before : ℕ → TaskRun) (j : ℕ) → ((i : ℕ) → i ≤ j → t i ≡ u i)
      → run_task job listed t loss before j ≡ run_task job listed u loss before j
  unfolding run_task run_primary run_backup
  run_rows listed t u loss before j h =
      rw (
        fed_rows t u before j (t j).primary (λ i p. h i (omega arith)),
        fed_rows t u before j (t j).backup (λ i p. h i (omega arith)),
        h j (omega arith),
      )

  runs_rows : (listed t u : ℕ → Row) (loss : Loss) (n : ℕ) → ((i : ℕ) → i < n → t i ≡ u i)
      → runs_to job listed t loss n ≡ runs_to job listed u loss n
  unfolding grow
  runs_rows listed t u loss zero h = refl
  runs_rows listed t u loss (suc n) h =
      rw (
        runs_rows listed t u loss n (λ i p. h i (omega arith)),
        run_rows listed t u loss (runs_to job listed u loss n) n (λ i p. h i (omega arith)),
      )

  module _ (plan : Plan) where
    pub listed_took : (j : ℕ) → j < tasks job → took (listed_times job plan) j ≡ listed_of job plan j
    unfolding listed_times
    listed_took j p =
        fill_get (listed_of job plan) (replicate max_tasks no_took) no_took (tasks job) j p
        (omega (arith, sound.tasks_most, length-replicate max_tasks no_took))

    -- the listed times are such a list, if the plan reads well
    pub listed_sound : PlanSound job plan → TimesSound job plan (listed_times job plan)
    unfolding listed_at
    listed_sound s = record {
      within = λ j p.
          rw (listed_took j p)
          (record { primary_least = s.primary_able j p; primary_most = omega arith; backup_least = s.backup_able j p; backup_most = omega arith });
    }

    -- copies that take their listed times end as planned
    pub ended_listed : (j : ℕ) → j < tasks job → ended_rows job plan (listed_times job plan) j ≡ rows job plan j
    unfolding listed_at ended_row ended copy
    ended_listed j p = rw (listed_took j p, row_primary job plan (tasks job) j p, row_backup job plan (tasks job) j p)

    -- so replay with them is replay without a list, and with any times by which copies end as planned
    pub replay_as_planned : (times : Times) → ((j : ℕ) → j < tasks job → ended_rows job plan times j ≡ rows job plan j)
        → (loss : Loss) → replay_times job plan times loss ≡ replay job plan loss
    unfolding replay_times replay
    replay_as_planned times same loss = runs_rows (rows job plan) _ _ loss (tasks job) same

    pub replay_listed : (loss : Loss) → replay_times job plan (listed_times job plan) loss ≡ replay job plan loss
    replay_listed = replay_as_planned (listed_times job plan) ended_listed
