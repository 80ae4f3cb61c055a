-- Fault sets as bits, from the own groups to those of the rules, and F over them.
use Rattle.std.specs.Prelude.{ℕ, ◌+◌, ◌*◌, ◌≤◌, ◌<◌, Bool, not, List, ◌≡◌, get_or}
use Rattle.std.proofs.Math.Option.{Option}
use Rattle.reader.specs.declared.job.Job.{Job}
use Rattle.reader.specs.declared.job.Node.{Node}
use Rattle.reader.specs.declared.plan.Plan.{Plan}
use Rattle.reader.specs.declared.refusal.Refusal.{Refusal}
use Rattle.reader.specs.declared.refusal.Refusal.TheVariants.{CommonLoss}
use Rattle.reader.specs.First.{first, unless}
use Rattle.reader.specs.Limits.{max_nodes, max_group, max_tasks}
use Rattle.reader.specs.Entries.{tasks, no_node}
use Rattle.reader.specs.Sound.{Sound}
use Rattle.copies.specs.Sets.{has}
use Rattle.copies.specs.Gathered.{ArrivesFrom, SetsTo}

-- a job that reads well, of n tasks, and a plan: from these tasks weak links arrive at each
pub record Receiving (job : Job) (plan : Plan) (into : List ℕ) (n : ℕ) : Type 0 where
  pub sound : Sound job
  pub count : tasks job ≡ n
  pub arrives : (j : ℕ) → j < n → ArrivesFrom job plan j (get_or into j 0)

-- for every one of them the sets go from the state before any gathering to that after the last
abbrev pub GathersAll : List ℕ → ℕ → List ℕ → List ℕ → Type 0
GathersAll into n sets sets' = (job : Job) (plan : Plan) → Receiving job plan into n → SetsTo job plan 0 sets → SetsTo job plan n sets'

-- what F and G rest on
pub record Low (node : List ℕ) (n : ℕ) : Type 0 where
  pub few : n ≤ max_tasks
  pub on : (k : ℕ) → k < 2 * n → get_or node k 0 < max_nodes

-- and F beside: the nodes of these entries are in groups
abbrev pub Grouped : List Node → List ℕ → ℕ → Type 0
Grouped nodes node n = (k : ℕ) → k < 2 * n → (get_or nodes (get_or node k 0) no_node).group ≤ max_group

-- the group of task j's backup is not in its fault set
abbrev pub outside : List Node → List ℕ → List ℕ → ℕ → Bool
outside nodes node sets j = let k = 2 * j + 1 in not (has (get_or sets k 0) (get_or nodes (get_or node k 0) no_node).group)

-- F over the first n tasks
unfoldable pub loss_breach : List Node → List ℕ → List ℕ → ℕ → Option Refusal
loss_breach nodes node sets n = first n λ j. unless (outside nodes node sets j) (CommonLoss j)
