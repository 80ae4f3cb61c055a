-- All runs of a plan at once: a word of runs for each entry of the table of copies, link by link and task by task.
use Rattle.std.specs.Prelude.{ℕ, ◌+◌, ◌*◌, ◌≤◌, ◌<◌, Bool, cond, List, ◌≡◌, leb, eqb, get_or, set, length}
use Rattle.std.specs.Int.Bits.{bit_and}
use Rattle.reader.specs.declared.job.Job.{Job}
use Rattle.reader.specs.declared.job.Link.{Link}
use Rattle.reader.specs.declared.job.Node.{Node}
use Rattle.reader.specs.declared.plan.Plan.{Plan}
use Rattle.reader.specs.Limits.{max_nodes, max_tasks, max_start}
use Rattle.reader.specs.Tests.{◌implies◌}
use Rattle.reader.specs.First.{every}
use Rattle.reader.specs.Entries.{tasks, links, ready, link, no_node}
use Rattle.reader.specs.Sound.{Sound, PlanSound}
use Rattle.rules.specs.declared.Copy.{Copy}
use Rattle.rules.specs.declared.Loss.{Loss}
use Rattle.rules.specs.declared.Loss.TheVariants.{NoLoss, Lost}
use Rattle.rules.specs.Rules.{rows}
use Rattle.rules.specs.Replay.{is_finished, arrived, replay}
use Rattle.rules.specs.Survival.{Role, primary, backup, copy_of, state_of}
use Rattle.rules.specs.Trial.{is_started}
use Rattle.copies.specs.declared.table.Copies.{Copies}
use Rattle.copies.specs.declared.arrival.Outgoing.{Outgoing}
use Rattle.copies.specs.Arrival.{comes, result_at, SumFits, Leaving}
use Rattle.copies.specs.Table.{copy_count, entry}
use Rattle.judge.specs.Tasks.{Copied}
use Rattle.trial.specs.declared.runs.Outcomes.{Outcomes}
use Rattle.trial.specs.declared.words.Losses.{Losses}
use Rattle.trial.specs.Words.{run_count, Tells, Narrow, without_of, either_of, spared_in}

-- the runs in which a copy c has one of the results p and b, sent in the runs x and y
abbrev pub fed_of : Outgoing → Outgoing → ℕ → ℕ → Copy → ℕ
fed_of p b x y c = either_of (comes p c) x (comes b c) y

-- of a table, with when its results leave: the runs in which c has an input, by link l, from the copies that end in these runs
abbrev pub fed_by : Copies → List ℕ → Link → List ℕ → Copy → ℕ
fed_by cs leave l ended c =
    let result : ℕ → Outgoing = result_at cs.node cs.finish leave l.delay in
    fed_of (result (2 * l.from)) (result (2 * l.from + 1)) (get_or ended (2 * l.from) 0) (get_or ended (2 * l.from + 1) 0) c

-- the runs in which copies have their inputs, with those of one link more
abbrev pub fed_one : Copies → List ℕ → Link → List ℕ → ℕ → List ℕ → List ℕ
fed_one cs leave l ended k fed = set fed k (bit_and (get_or fed k 0) (fed_by cs leave l ended (entry cs k)))

unfoldable pub fed_with : Copies → List ℕ → Link → List ℕ → List ℕ → List ℕ
fed_with cs leave l ended fed = fed_one cs leave l ended (2 * l.to + 1) (fed_one cs leave l ended (2 * l.to) fed)

-- both numbers of the link are those of tasks, and its delay can be added to when results leave
pub record Sendable (leave : List ℕ) (l : Link) : Type 0 where
  pub from : l.from < max_tasks
  pub to : l.to < max_tasks
  pub primary : SumFits (get_or leave (2 * l.from) 0) l.delay
  pub backup : SumFits (get_or leave (2 * l.from + 1) 0) l.delay

-- a task whose primary is c and whose backup is d, and that have their inputs in the runs x and y: in which runs each ends, and starts
abbrev pub node_of : Job → Copy → Node
node_of job c = get_or job.nodes c.node no_node

module _ (job : Job) (losses : Losses) (ready : ℕ) (c d : Copy) (x y : ℕ) where
  abbrev pub may : ℕ
  may = cond (leb ready c.start) x 0

  abbrev pub primary_ends : ℕ
  primary_ends = bit_and may (spared_in losses (node_of job c).group c.finish run_count)

  abbrev pub primary_starts : ℕ
  primary_starts = bit_and may (spared_in losses (node_of job c).group (c.start + 1) run_count)

  abbrev pub called : ℕ
  called = without_of (cond (leb (c.finish + (node_of job c).detect) d.start) y 0) primary_ends

  abbrev pub backup_ends : ℕ
  backup_ends = bit_and called (spared_in losses (node_of job d).group d.finish run_count)

  abbrev pub backup_starts : ℕ
  backup_starts = bit_and called (spared_in losses (node_of job d).group (d.start + 1) run_count)

-- its nodes are of a rack, and its sums fit
pub record Settleable (job : Job) (cs : Copies) (j : ℕ) : Type 0 where
  pub low : j < max_tasks
  pub primary_node : (entry cs (2 * j)).node < max_nodes
  pub backup_node : (entry cs (2 * j + 1)).node < max_nodes
  pub primary_start : (entry cs (2 * j)).start ≤ max_start
  pub backup_start : (entry cs (2 * j + 1)).start ≤ max_start
  pub detected : SumFits (entry cs (2 * j)).finish (node_of job (entry cs (2 * j))).detect

-- what f says of the copies of task j, and of the runs in which they have their inputs
abbrev pub of_task : (Copy → Copy → ℕ → ℕ → ℕ) → Copies → List ℕ → ℕ → ℕ
of_task f cs fed j = f (entry cs (2 * j)) (entry cs (2 * j + 1)) (get_or fed (2 * j) 0) (get_or fed (2 * j + 1) 0)

-- task j is settled
pub record Settled (job : Job) (cs : Copies) (fed : List ℕ) (losses : Losses) (j : ℕ) (x x' : Outcomes) : Type 0 where
  pub ends : x'.ended ≡ set (set x.ended (2 * j) (of_task (primary_ends job losses (ready job j)) cs fed j)) (2 * j + 1)
      (of_task (backup_ends job losses (ready job j)) cs fed j)
  pub starts : x'.started ≡ set (set x.started (2 * j) (of_task (primary_starts job losses (ready job j)) cs fed j)) (2 * j + 1)
      (of_task (backup_starts job losses (ready job j)) cs fed j)

-- the loss of run r; number 16 is no group's
abbrev pub no_group : ℕ
no_group = 16

unfoldable pub loss_at : Losses → ℕ → Loss
loss_at x r = cond (eqb (get_or x.lost r 0) no_group) NoLoss (Lost (get_or x.lost r 0) (get_or x.moment r 0))

-- the table has the copies of a plan that reads well, and when their results leave
pub record Placed (job : Job) (cs : Copies) (leave : List ℕ) : Type 0 where
  pub plan : Plan
  pub sound : Sound job
  pub reads : PlanSound job plan
  pub copied : Copied job plan (tasks job) (entry cs)
  pub leaving : Leaving job (2 * tasks job) cs leave

-- the entry of a copy
abbrev pub at : ℕ → Role → ℕ
at j primary = 2 * j
at j backup = 2 * j + 1

-- of the first n tasks the words tell in which runs each copy ends, and in which it starts
pub record Told (job : Job) (plan : Plan) (losses : Losses) (n : ℕ) (x : Outcomes) : Type 0 where
  pub ended_size : length x.ended ≡ copy_count
  pub started_size : length x.started ≡ copy_count
  pub ends : (j : ℕ) (a : Role) → j < n → Tells (get_or x.ended (at j a) 0) (λ r. is_finished (state_of a (replay job plan (loss_at losses r) j)))
  pub starts : (j : ℕ) (a : Role) → j < n → Tells (get_or x.started (at j a) 0) (λ r. is_started (state_of a (replay job plan (loss_at losses r) j)))
  pub narrow : (j : ℕ) (a : Role) → j < n → Narrow (get_or x.started (at j a) 0)

-- link m brings its input to copy a of task i in run r, if it leads there
abbrev pub brings : Job → Plan → Losses → ℕ → Role → ℕ → ℕ → Bool
brings job plan losses i a r m =
    let l = link job m in
    eqb l.to i implies arrived job l (rows job plan l.from) (replay job plan (loss_at losses r) l.from) (copy_of a (rows job plan i))

-- what is known after j tasks and k links
pub record Upto (job : Job) (plan : Plan) (losses : Losses) (j k : ℕ) (feds : List ℕ) (x : Outcomes) : Type 0 where
  pub within : j ≤ tasks job
  pub links_within : k ≤ links job
  pub size : length feds ≡ copy_count
  pub told : Told job plan losses j x
  pub inputs : (i : ℕ) (a : Role) → i < tasks job → Tells (get_or feds (at i a) 0) (λ r. every k (brings job plan losses i a r))
