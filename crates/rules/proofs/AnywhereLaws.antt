-- With nothing forced the tests are the rules alone: 15 and 16 as document 01 has them.
use Prim.Native.Nat.{ℕ}
use mathlib.Core.Path.{◌≡◌}
use mathlib.Core.Logic.{◌↔◌}
use Rattle.reader.specs.declared.job.Job.{Job}
use Rattle.reader.specs.declared.refusal.Refusal.TheVariants.{NoPrimary, NoBackup}
use Rattle.reader.specs.Tests.{◌and◌}
use Rattle.rules.specs.declared.Copy.{Copy}
use Rattle.rules.specs.Rules.{Row}
use Rattle.rules.specs.Attempts.{refused}
use Rattle.rules.specs.Planner.{primary_keeps, anywhere, place_task}
use Rattle.rules.specs.Choice.{Best, NoPlace, backup_keeps_beside}
use Rattle.rules.proofs.PlaceTaskLaws.{no_primary, no_backup}

module _ (job : Job) (m : ℕ) (before : ℕ → Row) (j : ℕ) where
  pub free_no_primary : (place_task job (anywhere j) m before j ≡ refused (NoPrimary j)) ↔ NoPlace job j (primary_keeps job m before j)
  unfolding ◌and◌
  free_no_primary = no_primary job (anywhere j) m before j

  pub free_no_backup : (place_task job (anywhere j) m before j ≡ refused (NoBackup j))
      ↔ ((p : Copy) × Best job j (primary_keeps job m before j) p × NoPlace job j (backup_keeps_beside job m before j p))
  unfolding ◌and◌
  free_no_backup = no_backup job (anywhere j) m before j
