-- Demand 3 on the bytes that replay writes.
use Rattle.std.specs.Prelude.{ℕ, ◌+◌, ◌*◌, ◌≤◌, ◌<◌, List, ◌⊎◌, ◌≡◌}
use Rattle.reader.specs.declared.job.Job.{Job}
use Rattle.reader.specs.Entries.{tasks, deadline}
use Rattle.reader.specs.Number.{number_at}
use Rattle.rules.specs.Rules.{Row}
use Rattle.rules.specs.Replay.{state_number, TaskRun, finish_of}

-- 'Per task replay writes three numbers: primary and backup .., and the finish of the finished copy': s tells the run x of the rows t
pub record BytesTell (job : Job) (t : ℕ → Row) (x : ℕ → TaskRun) (s : List ℕ) : Type 0 where
  pub primary : (j : ℕ) → j < tasks job → number_at s (12 * j) ≡ state_number (x j).primary
  pub backup : (j : ℕ) → j < tasks job → number_at s (12 * j + 4) ≡ state_number (x j).backup
  pub finish : (j : ℕ) → j < tasks job → number_at s (12 * j + 8) ≡ finish_of (t j) (x j)

-- '2 for exactly one of primary and backup'
abbrev pub OneFinished : ℕ → ℕ → Type 0
OneFinished a b = ((a ≡ 2) × (b ≡ 2 → ⊥)) ⊎ ((a ≡ 2 → ⊥) × (b ≡ 2))

-- 'it writes for every task 2 for exactly one of primary and backup, and a finish from 1 to the deadline'
pub record BytesSurvive (job : Job) (s : List ℕ) : Type 0 where
  pub one_finished : (j : ℕ) → j < tasks job → OneFinished (number_at s (12 * j)) (number_at s (12 * j + 4))
  pub finish_least : (j : ℕ) → j < tasks job → 1 ≤ number_at s (12 * j + 8)
  pub finish_most : (j : ℕ) → j < tasks job → number_at s (12 * j + 8) ≤ deadline job j
