-- A pass over 32 runs: their losses, and whether all of them are good.
use Rattle.std.specs.Prelude.{ℕ, ◌+◌, ◌-◌, ◌*◌, ◌≤◌, ◌<◌, Bool, true, cond, List, ◌≡◌, leb, ltb, eqb, get_or}
use Rattle.reader.specs.declared.job.Job.{Job}
use Rattle.reader.specs.declared.job.Node.{Node}
use Rattle.reader.specs.declared.job.Task.{Task}
use Rattle.reader.specs.declared.plan.Plan.{Plan}
use Rattle.reader.specs.Limits.{max_nodes, max_tasks}
use Rattle.reader.specs.Entries.{tasks, no_node, no_task}
use Rattle.rules.specs.declared.Loss.{Loss}
use Rattle.rules.specs.declared.Loss.TheVariants.{NoLoss, Lost}
use Rattle.rules.specs.Rules.{rows}
use Rattle.rules.specs.Replay.{is_finished, replay}
use Rattle.rules.specs.Trial.{good_under, loss_before}
use Rattle.copies.specs.Sets.{every_group}
use Rattle.trial.specs.declared.words.Losses.{Losses}
use Rattle.trial.specs.Words.{run_count, without_of, either_of}
use Rattle.trial.specs.Runs.{loss_at}

-- no run is missing from a word
abbrev pub is_full : ℕ → Bool
is_full w = eqb (without_of every_group w) 0

-- task j is done by its deadline in every run; and its primary ends in every run
unfoldable pub done_in : List Task → List ℕ → List ℕ → ℕ → Bool
done_in list finish ended j =
    let by = (get_or list j no_task).deadline in
    is_full (either_of (leb (get_or finish (2 * j) 0) by) (get_or ended (2 * j) 0) (leb (get_or finish (2 * j + 1) 0) by) (get_or ended (2 * j + 1) 0))

unfoldable pub ends_in : List ℕ → ℕ → Bool
ends_in ended j = is_full (get_or ended (2 * j) 0)

-- the losses of the runs of a pass: those of the primaries from `first` on, and none behind the last of n
abbrev pub group_at : List Node → List ℕ → ℕ → ℕ
group_at nodes node j = (get_or nodes (get_or node (2 * j) 0) no_node).group

unfoldable pub loss_in : List Node → List ℕ → List ℕ → ℕ → ℕ → ℕ → Loss
loss_in nodes node finish first n r =
    let j = first + r in cond (ltb j n) (Lost (group_at nodes node j) (get_or finish (2 * j) 0 - 1)) NoLoss

abbrev pub LossesFrom : List Node → List ℕ → List ℕ → ℕ → ℕ → Losses → Type 0
LossesFrom nodes node finish first n x = (r : ℕ) → r < run_count → loss_at x r ≡ loss_in nodes node finish first n r

-- what noting them rests on
pub record Losable (nodes : List Node) (node finish : List ℕ) (n : ℕ) : Type 0 where
  pub few : n ≤ max_tasks
  pub on : (j : ℕ) → j < n → get_or node (2 * j) 0 < max_nodes
  pub runs : (j : ℕ) → j < n → 1 ≤ get_or finish (2 * j) 0
  pub low : (j : ℕ) → j < n → group_at nodes node j < 16

-- of a plan
unfoldable pub loss_from : Job → Plan → ℕ → ℕ → Loss
loss_from job plan first r = let j = first + r in cond (ltb j (tasks job)) (loss_before job (rows job plan j).primary) NoLoss

-- every run of a pass is good, and, if that is asked, every primary ends in it
abbrev pub Passes : Job → Plan → ℕ → Bool → Type 0
Passes job plan first strict = (r : ℕ) → r < run_count → let loss = loss_from job plan first r in
    (strict ≡ true → (j : ℕ) → j < tasks job → is_finished (replay job plan loss j).primary ≡ true) × (good_under job plan loss ≡ true)
