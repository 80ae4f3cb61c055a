-- What it is for a plan to survive a loss: document 01, 'The words of demand 3'.
use Rattle.std.specs.Prelude.{ℕ, ◌≤◌, ◌<◌, true, false, not, ◌≡◌}
use Rattle.reader.specs.declared.job.Job.{Job}
use Rattle.reader.specs.Entries.{tasks, links, deadline, link}
use Rattle.rules.specs.declared.Copy.{Copy}
use Rattle.rules.specs.declared.Loss.{Loss}
use Rattle.rules.specs.declared.Loss.TheVariants.{NoLoss, Lost}
use Rattle.rules.specs.Copies.{has_node}
use Rattle.rules.specs.Rules.{Row}
use Rattle.rules.specs.Replay.{State, not_started, cut, finished, is_finished, TaskRun, arrived, finish_of}

-- 'with no loss, or with any node q of the job lost at any tick f from 0 on', (vi) and 'what was true of any one lost node is now wanted for any
-- one lost group': q is a group of the job
abbrev pub LossOf : Job → Loss → Type 0
LossOf job NoLoss = Unit {0}
LossOf job (Lost q f) = has_node job q ≡ true

-- a loss at moment t or later
abbrev pub LossFrom : ℕ → Loss → Type 0
LossFrom t NoLoss = Unit {0}
LossFrom t (Lost q f) = t ≤ f

-- which of a task's two copies
pub data Role : Type 0 where
  primary backup : Role

abbrev pub copy_of : Role → Row → Copy
copy_of primary r = r.primary
copy_of backup r = r.backup

abbrev pub state_of : Role → TaskRun → State
state_of primary x = x.primary
state_of backup x = x.backup

-- 'it holds its node from its start up to, but not including, its finish, or f if cut': the tick up to which it holds. No copy is cut
-- under no loss; it would hold to its finish
abbrev pub held_until : Loss → Copy → State → ℕ
held_until loss c not_started = c.start
held_until NoLoss c cut = c.finish
held_until (Lost q f) c cut = f
held_until loss c finished = c.finish

abbrev pub Holds : Loss → Copy → State → ℕ → Type 0
Holds loss c s tick = (c.start ≤ tick) × (tick < held_until loss c s)

-- two started copies that hold one node at one tick are one copy: of the run x of the rows t under a loss
abbrev pub Apart : Job → (ℕ → Row) → Loss → (ℕ → TaskRun) → Type 0
Apart job t loss x = (i j : ℕ) (a b : Role) → i < tasks job → j < tasks job → (copy_of a (t i)).node ≡ (copy_of b (t j)).node
    → (tick : ℕ) → Holds loss (copy_of a (t i)) (state_of a (x i)) tick → Holds loss (copy_of b (t j)) (state_of b (x j)) tick
    → (i ≡ j) × (a ≡ b)

-- the run x of the rows t under a loss
pub record Survives (job : Job) (t : ℕ → Row) (loss : Loss) (x : ℕ → TaskRun) : Type 0 where
  -- exactly one copy of each task is finished, and its finish is from 1 to the deadline
  pub one_finished : (j : ℕ) → j < tasks job → is_finished (x j).backup ≡ not (is_finished (x j).primary)
  pub finish_least : (j : ℕ) → j < tasks job → 1 ≤ finish_of (t j) (x j)
  pub finish_most : (j : ℕ) → j < tasks job → finish_of (t j) (x j) ≤ deadline job j
  pub apart : Apart job t loss x
  -- a backup that is called on lacks no input
  pub backup_fed : (j : ℕ) → j < tasks job → is_finished (x j).primary ≡ false
      → (k : ℕ) → k < links job → (link job k).to ≡ j
      → arrived job (link job k) (t (link job k).from) (x (link job k).from) (t j).backup ≡ true
