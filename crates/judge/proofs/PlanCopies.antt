-- The judge's layout is that of the plan: of each plan that reads well, passed or not.
use Prim.Native.Nat.{ℕ, ◌*◌, ◌<◌}
use mathlib.Core.List.{List}
use mathlib.Core.Path.{◌≡◌, ◌∙◌}
use Rattle.reader.specs.declared.job.Job.{Job}
use Rattle.reader.specs.declared.plan.Plan.{Plan}
use Rattle.reader.specs.Limits.{max_nodes}
use Rattle.reader.specs.Entries.{tasks}
use Rattle.rules.proofs.FaultSetLaws.{row_primary, row_backup}
use Rattle.copies.specs.declared.table.Copies.{Copies}
use Rattle.copies.specs.Table.{entry}
use Rattle.copies.specs.Layout.{copies_on, spots_of, Laid}
use Rattle.copies.proofs.PlanLayout.{laid_copies}
use Rattle.judge.specs.Tasks.{Copied}

pub judged_copies : (job : Job) (plan : Plan) (cs : Copies) (order count : List ℕ) → Copied job plan (tasks job) (entry cs)
    → Laid cs.node cs.start (2 * tasks job) order count
    → (n : ℕ) → n < max_nodes → spots_of order count n ≡ copies_on plan (tasks job) n
judged_copies job plan cs order count copied laid n rack =
    laid_copies plan (tasks job) n job cs order count
    (λ j p. copied.primary j p ∙ row_primary job plan (tasks job) j p) (λ j p. copied.backup j p ∙ row_backup job plan (tasks job) j p)
    laid rack
