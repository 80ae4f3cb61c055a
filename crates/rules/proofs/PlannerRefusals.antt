-- When the planner refuses: exactly if a task cannot be placed after those before it were.
use Prim.Native.Nat.{ℕ, zero, suc, ◌<◌}
use mathlib.Core.Bool.{Bool}
use mathlib.Core.Path.{◌≡◌, ◌∙◌}
use mathlib.Core.Logic.{◌↔◌}
use native.Mathlib.Nat.{not-suc-le-zero}
use native.Mathlib.Omega.{arith}
use Rattle.reader.specs.declared.job.Job.{Job}
use Rattle.reader.specs.declared.refusal.Refusal.{Refusal}
use Rattle.reader.specs.Entries.{tasks}
use Rattle.reader.proofs.TestLaws.{never, below_suc}
use Rattle.rules.specs.declared.Copy.{Copy}
use Rattle.rules.specs.Rules.{Row}
use Rattle.rules.specs.Attempts.{refused, placed}
use Rattle.rules.specs.Planner.{place_task, place_tasks, planner_with, anywhere, planner}
use Rattle.rules.specs.Choice.{StopsBelow}
use Rattle.rules.proofs.AttemptLaws.{bind_refused, bind_stop, bind_go}

-- the planner's refusal is that of the first task that could not be placed after those before it
module _ (job : Job) (may : ℕ → Copy → Bool) (r : Refusal) where
  pub tasks_stop : (n : ℕ) → place_tasks job may n ≡ refused r → StopsBelow job may r n
  unfolding place_tasks
  tasks_stop zero h = never (cc)
  tasks_stop (suc n) h =
      bind_refused _ _ r h
      (λ stop. let w = tasks_stop n stop in (w.0, w.1, omega arith, w.3, w.4))
      (λ before hb h2. bind_refused _ _ r h2 (λ stop. (n, before, omega arith, hb, stop)) (λ x hx e. never (cc)))

  stop_tasks : (n j : ℕ) (before : ℕ → Row) → j < n → place_tasks job may j ≡ placed before → place_task job (may j) j before j ≡ refused r
      → place_tasks job may n ≡ refused r
  unfolding place_tasks
  stop_tasks zero j before p hb h = absurd (not-suc-le-zero p)
  stop_tasks (suc n) j before p hb h =
      below_suc j n p
      (λ l. bind_stop _ _ r (stop_tasks n j before l hb h))
      (λ e. bind_go _ _ before (rw e at hb) ∙ bind_stop _ _ r (rw e at h))

  pub with_refused : (planner_with may job ≡ refused r) ↔ StopsBelow job may r (tasks job)
  unfolding planner_with
  with_refused = (
    λ h. bind_refused _ _ r h (tasks_stop (tasks job)) (λ t ht e. never (cc)),
    λ w. bind_stop _ _ r (stop_tasks (tasks job) w.0 w.1 w.2 w.3 w.4),
  )

pub planner_refused : (job : Job) (r : Refusal) → (planner job ≡ refused r) ↔ StopsBelow job anywhere r (tasks job)
unfolding planner
planner_refused job r = with_refused job anywhere r
