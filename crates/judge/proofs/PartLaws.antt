-- The judge is its four parts, and each part reads no more of a table than it names.
use Prim.Native.Nat.{ℕ, ◌<◌}
use mathlib.Core.Path.{◌≡◌, ap₂}
use Rattle.reader.specs.declared.job.Job.{Job}
use Rattle.reader.specs.First.{◌or_else◌}
use Rattle.reader.specs.Entries.{tasks, links}
use Rattle.reader.specs.Sound.{Sound}
use Rattle.reader.proofs.FirstLaws.{first_same}
use Rattle.rules.specs.Rules.{Row, rule_d}
use Rattle.rules.specs.Judge.{first_task, first_link, first_pair, breach}
use Rattle.rules.proofs.FaultSetLaws.{from_low}
use Rattle.reader.proofs.FirstLaws.{or_else_join}
use Rattle.judge.specs.Parts.{by_tasks, by_links, by_backups, by_faults}

pub breach_parts : (job : Job) (t : ℕ → Row)
    → (by_tasks job t or_else by_links job t or_else by_backups job t or_else by_faults job t) ≡ breach job t
unfolding breach by_tasks by_links by_backups by_faults
breach_parts job t = simp or_else_join

module _ (job : Job) (sound : Sound job) (f g : ℕ → Row) where
  -- tables with the same primaries
  pub links_same : ((j : ℕ) → j < tasks job → (f j).primary ≡ (g j).primary) → by_links job f ≡ by_links job g
  unfolding by_links first_link rule_d
  links_same primary = first_same (links job) _ _ λ k p. rw (primary _ (from_low job sound k p), primary _ (sound.into k p))

  -- tables with the same rows
  pub backups_same : ((j : ℕ) → j < tasks job → f j ≡ g j) → by_backups job f ≡ by_backups job g
  unfolding by_backups first_link
  backups_same same = first_same (links job) _ _ λ k p. rw (same _ (from_low job sound k p), same _ (sound.into k p))

  pub faults_same : ((j : ℕ) → j < tasks job → f j ≡ g j) → by_faults job f ≡ by_faults job g
  unfolding by_faults first_task first_pair
  faults_same same =
      ap₂ ◌or_else◌
      (first_same (tasks job) _ _ λ j p. rw (same j p))
      (first_same (tasks job) _ _ λ i p. first_same (tasks job) _ _ λ j q. rw (same i p, same j q))
