-- Task by task: what is wanted, where it is placed and how it is stored; the table after the first tasks, and the plan of all.
use Rattle.std.specs.Prelude.{ℕ, ◌+◌, ◌*◌, ◌≤◌, ◌<◌, Bool, not, List, ◌≡◌, leb, get_or, set, replicate, Result, Ok, Err}
use Rattle.reader.specs.declared.job.Job.{Job}
use Rattle.reader.specs.declared.job.Node.{Node}
use Rattle.reader.specs.declared.job.Task.{Task}
use Rattle.reader.specs.declared.plan.Place.{Place}
use Rattle.reader.specs.declared.plan.Plan.{Plan}
use Rattle.reader.specs.declared.refusal.Refusal.{Refusal}
use Rattle.reader.specs.Tests.{◌and◌}
use Rattle.reader.specs.First.{fill}
use Rattle.reader.specs.Limits.{max_nodes, max_tasks, max_start, max_time}
use Rattle.reader.specs.Entries.{nodes, tasks, links, task, link, no_place}
use Rattle.reader.specs.Sound.{Sound}
use Rattle.rules.specs.declared.Copy.{Copy}
use Rattle.rules.specs.Rules.{Row}
use Rattle.rules.specs.Attempts.{Attempt, refused, placed}
use Rattle.rules.specs.Planner.{place_tasks, anywhere}
use Rattle.copies.specs.declared.table.Copies.{Copies}
use Rattle.copies.specs.Arrival.{leave_by, Leaving}
use Rattle.copies.specs.Sets.{has, every_group}
use Rattle.copies.specs.Table.{copy_count, node_at, entry, set_at, row_of, empty_copies, Whole, Held}
use Rattle.copies.specs.Layout.{Laid}
use Rattle.planner.specs.declared.task.Want.{Want}
use Rattle.planner.specs.declared.board.Board.{Board}
use Rattle.planner.specs.declared.board.Pair.{Pair}
use Rattle.planner.specs.declared.senders.Incoming.{Incoming}
use Rattle.planner.specs.Senders.{Sent, Into, latest_input}
use Rattle.planner.specs.Faults.{Peers}

-- the primary's own test: it is on no node of the set `shut`, and starts no sooner than `least`
unfoldable pub primary_from : ℕ → ℕ → Copy → Bool
primary_from least shut p = not (has shut p.node) and leb least p.start

-- the first k entries stand in order of time
abbrev pub LaidTo : ℕ → Board → Type 0
LaidTo k board = Laid board.copies.node board.copies.start k board.layout.order board.layout.count

-- nothing is booked
pub record Blank (board : Board) : Type 0 where
  pub copies : board.copies ≡ empty_copies
  pub leave : board.leave ≡ replicate copy_count 0
  pub laid : (node start : List ℕ) → Laid node start 0 board.layout.order board.layout.count

-- what is placed: the copies of the first m tasks, those of each node in order of time; no result leaves before its copy ends
pub record Beside (job : Job) (m : ℕ) (board : Board) : Type 0 where
  pub few : m ≤ max_tasks
  pub held : Held job m board.copies
  pub whole : Whole board.copies
  pub soon : (k : ℕ) → get_or board.copies.finish k 0 ≤ max_start + max_time
  pub laid : LaidTo (2 * m) board
  pub leaving : Leaving job (2 * m) board.copies board.leave
  pub after : (k : ℕ) → get_or board.copies.finish k 0 ≤ get_or board.leave k 0

-- what is wanted with the primary anywhere
abbrev pub want_of : ℕ → Task → List Node → ℕ → ℕ → Want
want_of j task nodes count into = record { number = j; task = task; nodes = nodes; count = count; into = into; least = 0; shut = 0 }

-- what is wanted is a task of some job, whose links stand so by receiver and whose nodes by group, beside the first `rows` tasks; its senders are
-- among them
pub record Wanted (net : Incoming) (board : Board) (peers : List ℕ) (want : Want) : Type 0 where
  pub job : Job
  pub rows : ℕ
  pub sound : Sound job
  pub task_of_lem : want.number < tasks job
  pub task_is : want.task ≡ task job want.number
  pub nodes_are : want.nodes ≡ job.nodes
  pub count_is : want.count ≡ nodes job
  pub into : Into job net want.number want.into
  pub fed : (k : ℕ) → k < links job → (link job k).to ≡ want.number → (link job k).from < rows
  pub least_most : want.least ≤ latest_input
  pub peers_are : Peers want.nodes want.count peers
  pub beside : Beside job rows board

-- both copies as a row, or the refusal
abbrev pub pair_row : Pair → Row
pair_row x = record { primary = x.primary; backup = x.backup; faults = has x.set }

unfoldable pub attempted : Result Pair Refusal → Attempt Row
attempted (Ok x) = placed (pair_row x)
attempted (Err r) = refused r

-- there is room for the pair as task j, and it is on nodes of a rack
pub record OnRack (j : ℕ) (x : Pair) : Type 0 where
  pub room : 2 * j + 1 < copy_count
  pub primary : x.primary.node < max_nodes
  pub backup : x.backup.node < max_nodes

-- the entries of task j can be laid out behind those before it
pub record Next (node start : List ℕ) (j : ℕ) (order count : List ℕ) : Type 0 where
  pub room : 2 * j + 1 < copy_count
  pub primary : node_at node (2 * j) < max_nodes
  pub backup : node_at node (2 * j + 1) < max_nodes
  pub laid : Laid node start (2 * j) order count

-- when the results of both leave, on these nodes, can be noted, and is
pub record Departing (nodes : List Node) (j : ℕ) (x : Pair) : Type 0 where
  pub on_rack : OnRack j x
  pub primary_fits : leave_by nodes x.primary < 4_294_967_296
  pub backup_fits : leave_by nodes x.backup < 4_294_967_296

-- and the pair booked behind the tasks before it
pub record Bookable (nodes : List Node) (j : ℕ) (x : Pair) (board : Board) : Type 0 where
  pub whole : Whole board.copies
  pub departing : Departing nodes j x
  pub laid : LaidTo (2 * j) board

abbrev pub departed : List Node → ℕ → Pair → List ℕ → List ℕ
departed nodes j x leave = set (set leave (2 * j) (leave_by nodes x.primary)) (2 * j + 1) (leave_by nodes x.backup)

-- r is the table with it
pub record Booked (j : ℕ) (x : Pair) (cs r : Copies) : Type 0 where
  pub whole : Whole r
  pub primary : entry r (2 * j) ≡ x.primary
  pub primary_set : set_at r (2 * j) ≡ every_group
  pub backup : entry r (2 * j + 1) ≡ x.backup
  pub backup_set : set_at r (2 * j + 1) ≡ x.set
  pub other : (k : ℕ) → (k ≡ 2 * j → ⊥) → (k ≡ 2 * j + 1 → ⊥) → entry r k ≡ entry cs k
  pub other_set : (k : ℕ) → (k ≡ 2 * j → ⊥) → (k ≡ 2 * j + 1 → ⊥) → set_at r k ≡ set_at cs k

-- after the first j tasks, with the job's links by receiver
pub record Planning (job : Job) (net : Incoming) (j : ℕ) (board : Board) : Type 0 where
  pub sound : Sound job
  pub sent : Sent job.links (links job) net
  pub within : j ≤ tasks job
  pub is : place_tasks job anywhere j ≡ placed (row_of board.copies)
  pub beside : Beside job j board

-- where two copies are
abbrev pub place_with : Copy → Copy → Place
place_with p b = record { primary_node = p.node; primary_start = p.start; backup_node = b.node; backup_start = b.start }

-- the places of the first n tasks, whose copies have these nodes and starts, and the plan that has them
abbrev pub place_at : List ℕ → List ℕ → ℕ → Place
place_at node start j =
    record {
      primary_node = get_or node (2 * j) 0;
      primary_start = get_or start (2 * j) 0;
      backup_node = get_or node (2 * j + 1) 0;
      backup_start = get_or start (2 * j + 1) 0;
    }

unfoldable pub places_to : List ℕ → List ℕ → ℕ → List Place
places_to node start n = fill n (λ j. place_at node start j) (replicate max_tasks no_place)

abbrev pub listed : ℕ → List Place → Plan
listed n places = record { version = 1; task_count = n; places = places }

-- the planner's answer: its plan, or the refusal
unfoldable pub planned : Attempt Plan → Result Plan Refusal
planned (placed plan) = Ok plan
planned (refused r) = Err r
