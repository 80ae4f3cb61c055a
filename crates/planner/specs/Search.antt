-- The search for a copy's place: on one node, and on all.
use Rattle.std.specs.Prelude.{ℕ, ◌+◌, ◌-◌, ◌≤◌, ◌<◌, max, Bool, true, not, cond, ◌≡◌, List, [], ◌∷◌, leb, ltb, get_or}
use Rattle.std.specs.Prelude.{Option as Maybe, Some, None}
use Rattle.std.proofs.Math.Option.{Option, none, some}
use Rattle.reader.specs.declared.job.Task.{Task}
use Rattle.reader.specs.Tests.{◌and◌}
use Rattle.reader.specs.First.{first, when}
use Rattle.reader.specs.Limits.{max_nodes, max_start, max_time}
use Rattle.rules.specs.declared.Copy.{Copy}
use Rattle.copies.specs.declared.table.Copies.{Copies}
use Rattle.copies.specs.Sets.{has, meets, every_group}
use Rattle.copies.specs.Table.{start_at, set_at}
use Rattle.copies.specs.Layout.{all_pairs, base_of, spots_of}
use Rattle.copies.specs.Laying.{Filled}
use Rattle.copies.specs.Clash.{free_of}
use Rattle.planner.specs.declared.board.Board.{Board}
use Rattle.planner.specs.declared.inputs.Ready.{Ready}
use Rattle.planner.specs.declared.search.Ask.{Ask}
use Rattle.planner.specs.declared.search.Search.{Search}
use Rattle.planner.specs.Senders.{latest_input}
use Rattle.planner.specs.Inputs.{ready_on}

-- what a search hands back
abbrev pub found_copy : Maybe Copy → Option Copy
found_copy (Some c) = some c
found_copy None = none

-- the copy on node n that starts at s and runs so long
abbrev pub spot : ℕ → ℕ → ℕ → Copy
spot n s run = record { node = n; start = s; finish = s + run }

-- the copy on node n that finishes at t, where it counts and passes the test
unfoldable pub try_at : ℕ → ℕ → (Copy → Bool) → ℕ → Option Copy
try_at n run ok t =
    let c = spot n (t - run) run in
    when (ltb 0 run and leb run t and ok c) c

-- the earliest on node n that finishes below a bound
unfoldable pub on_node : ℕ → ℕ → ℕ → (Copy → Bool) → Option Copy
on_node n run bound ok = first bound (try_at n run ok)

-- the earliest on the first k nodes, then the lowest node, where a task has these run times
unfoldable pub best_of : List ℕ → ℕ → (Copy → Bool) → ℕ → Option Copy
best_of runs bound ok k = first bound λ t. first k λ n. try_at n (get_or runs n 0) ok t

-- the finish that a better one must stay below
abbrev pub finish_below : Option Copy → ℕ → ℕ
finish_below none deadline = deadline + 1
finish_below (some c) deadline = c.finish

-- the copy that starts at s, where it finishes below a bound
unfoldable pub started_at : ℕ → ℕ → ℕ → ℕ → Option Copy
started_at n run bound s = when (ltb (s + run) bound) (spot n s run)

-- the best so far, which counts where it finishes by the deadline; at first none does
abbrev pub no_place : ℕ → Copy
no_place deadline = record { node = 0; start = 0; finish = deadline + 1 }

unfoldable pub place_by : Copy → ℕ → Option Copy
place_by best deadline = when (leb best.finish deadline) best

unfoldable pub sooner_of : Copy → ℕ → ℕ → ℕ → Copy
sooner_of best n s run = cond (ltb (s + run) best.finish) (spot n s run) best

-- c starts from `from` on and clashes with none of these entries on its node
unfoldable pub free_from : Copies → ℕ → List ℕ → ℕ → Copy → Bool
free_from cs m l from c = leb from c.start and free_of cs m c l

-- and its node is not barred
unfoldable pub node_ok : Copies → ℕ → List ℕ → ℕ → ℕ → Copy → Bool
node_ok cs m l from barred c = not (has barred c.node) and free_from cs m l from c

-- what a search asks of a copy, where the entries of each node stand in its spots
unfoldable pub fits : Board → Search → Copy → Bool
fits board search c =
    node_ok board.copies search.set (spots_of board.layout.order board.layout.count c.node) (max (ready_on search.ready c.node) search.least) search.barred c

-- the earliest start from s on of a copy of set m that runs so long: a sweep over entries in order of start, each of which, where the sets meet, is
-- leapt over, up to the first that starts behind the copy's finish
unfoldable pub sweep : Copies → ℕ → ℕ → List ℕ → ℕ → ℕ
sweep cs m run [] s = s
sweep cs m run (i ∷ rest) s =
    cond (leb (s + run) (get_or cs.start i 0)) s (sweep cs m run rest (max s (cond (meets (set_at cs i) m) (get_or cs.finish i 0) 0)))

-- the searches for a task's primary, which keeps the ready time, and for its backup
abbrev pub primary_search : Task → ℕ → Ready → ℕ → ℕ → Search
primary_search task nodes ready least shut =
    record { task = task; nodes = nodes; ready = ready; least = max least task.ready; set = every_group; barred = shut }

abbrev pub backup_search : Task → ℕ → Ready → ℕ → ℕ → ℕ → Search
backup_search task nodes ready least set barred =
    record { task = task; nodes = nodes; ready = ready; least = least; set = set; barred = barred }

-- no entry ends later
abbrev pub EndsSoon : List ℕ → Type 0
EndsSoon finish = (k : ℕ) → get_or finish k 0 ≤ max_start + max_time

-- the starts of these entries do not fall
abbrev pub Rising : Copies → List ℕ → Type 0
Rising cs l = all_pairs (λ a b. leb (start_at cs.start a) (start_at cs.start b)) l ≡ true

-- what a search on a node rests on
pub record Asked (board : Board) (ask : Ask) (from : ℕ) : Type 0 where
  pub node : ask.node < max_nodes
  pub filled : Filled board.layout.order (base_of ask.node) (base_of ask.node + ask.count)
  pub run : ask.run ≤ max_time
  pub soon : from ≤ latest_input
  pub ends : EndsSoon board.copies.finish

-- and one on all nodes
pub record Searched (board : Board) (search : Search) : Type 0 where
  pub nodes_most : search.nodes ≤ max_nodes
  pub run : (n : ℕ) → n < search.nodes → get_or search.task.run n 0 ≤ max_time
  pub deadline : search.task.deadline ≤ max_time
  pub filled : (n : ℕ) → n < max_nodes → Filled board.layout.order (base_of n) (base_of n + get_or board.layout.count n 0)
  pub rising : (n : ℕ) → n < max_nodes → Rising board.copies (spots_of board.layout.order board.layout.count n)
  pub ends : EndsSoon board.copies.finish
  pub least : search.least ≤ latest_input
  pub ready : (n : ℕ) → ready_on search.ready n ≤ latest_input
