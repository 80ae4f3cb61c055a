-- What the planner's choice means: which places are open, which of them is best, and when there is none.
use Rattle.std.specs.Prelude.{ℕ, ◌+◌, ◌≤◌, ◌<◌, Bool, true, ◌≡◌}
use Rattle.reader.specs.declared.job.Job.{Job}
use Rattle.reader.specs.declared.refusal.Refusal.{Refusal}
use Rattle.reader.specs.Entries.{nodes, deadline, run}
use Rattle.rules.specs.declared.Copy.{Copy}
use Rattle.rules.specs.Copies.{copy}
use Rattle.rules.specs.Rules.{Row, row}
use Rattle.rules.specs.Attempts.{refused, placed}
use Rattle.rules.specs.Planner.{backup_keeps, place_task, place_tasks}

-- node n can run task j from s on, and in time. 'A node with run time 0 never counts.'
pub record Able (job : Job) (j n s : ℕ) : Type 0 where
  pub node : n < nodes job
  pub runs : 0 < run job j n
  pub ends_in_time : s + run job j n ≤ deadline job j

-- of the nodes and starts that the planner may choose from: those that keep the rules, too
pub record Open (job : Job) (j : ℕ) (keeps : Copy → Bool) (n s : ℕ) : Type 0 where
  pub able : Able job j n s
  pub keeps_rules_lem : keeps (copy job j n s) ≡ true

-- 'the earliest finish, then the lowest node'
pub record Best (job : Job) (j : ℕ) (keeps : Copy → Bool) (c : Copy) : Type 0 where
  pub is : copy job j c.node c.start ≡ c
  pub place : Open job j keeps c.node c.start
  pub earliest_finish : (n s : ℕ) → Open job j keeps n s → c.finish ≤ s + run job j n
  pub lowest_node : (n s : ℕ) → Open job j keeps n s → s + run job j n ≡ c.finish → c.node ≤ n

-- no node and start keeps the rules
abbrev pub NoPlace : Job → ℕ → (Copy → Bool) → Type 0
NoPlace job j keeps = (n s : ℕ) → Open job j keeps n s → ⊥

-- the backup b of task j keeps the rules beside its primary p
abbrev pub backup_keeps_beside : Job → ℕ → (ℕ → Row) → ℕ → Copy → Copy → Bool
backup_keeps_beside job m before j p b = backup_keeps job m before j (row job before j p b)

-- r is the refusal of a task below n that could not be placed after those before it, each primary under its own test
abbrev pub StopsBelow : Job → (ℕ → Copy → Bool) → Refusal → ℕ → Type 0
StopsBelow job may r n =
    (j : ℕ) × (before : ℕ → Row) × (j < n) × (place_tasks job may j ≡ placed before) × (place_task job (may j) j before j ≡ refused r)
