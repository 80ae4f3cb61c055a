-- The jobs and plans of document 01's samples, and of those of requests (ii), (iv) and (vi).
use Rattle.std.specs.Prelude.{ℕ, List, [], ◌∷◌, length, get_or, replicate}
use Rattle.reader.specs.declared.job.Job.{Job}
use Rattle.reader.specs.declared.job.Node.{Node}
use Rattle.reader.specs.declared.job.Task.{Task}
use Rattle.reader.specs.declared.job.Link.{Link}
use Rattle.reader.specs.declared.plan.Place.{Place}
use Rattle.reader.specs.declared.plan.Plan.{Plan}
use Rattle.reader.specs.First.{fill}
use Rattle.reader.specs.Limits.{max_nodes, max_tasks, max_links}
use Rattle.reader.specs.Entries.{no_node, no_link, no_place, blank_task}

-- an array of length n that begins with these entries
abbrev pub array : {A : Type 0} → ℕ → A → List A → List A
array n blank l = fill (length l) (λ i. get_or l i blank) (replicate n blank)

-- a task of this ready time and this deadline, with the run time on each of three nodes
abbrev pub ready_task : ℕ → ℕ → ℕ → Task
ready_task ready deadline run = record { ready = ready; deadline = deadline; run = array max_nodes 0 (run ∷ run ∷ run ∷ []) }

abbrev pub task_of : ℕ → ℕ → Task
task_of = ready_task 0

-- a node with detect 1, this send time and this group
abbrev pub node_of : ℕ → ℕ → Node
node_of send group = record { detect = 1; send = send; group = group }

-- these nodes, these tasks and these links, in this version
abbrev pub rack_in : ℕ → List Node → List Task → List Link → Job
rack_in version ns ts ls =
    record {
      version = version;
      node_count = length ns;
      nodes = array max_nodes no_node ns;
      task_count = length ts;
      tasks = array max_tasks blank_task ts;
      link_count = length ls;
      links = array max_links no_link ls;
    }

-- 3 nodes with detect 1 and these send times, each its own group
abbrev pub sending_in : ℕ → ℕ → ℕ → ℕ → List Task → List Link → Job
sending_in version a b c = rack_in version (node_of a 0 ∷ node_of b 1 ∷ node_of c 2 ∷ [])

abbrev pub job_in : ℕ → List Task → List Link → Job
job_in version = sending_in version 0 0 0

abbrev pub job_of : List Task → List Link → Job
job_of = job_in 1

abbrev pub link_of : ℕ → ℕ → ℕ → Link
link_of from to delay = record { from = from; to = to; delay = delay }

-- primary node, start; backup node, start
abbrev pub at : ℕ → ℕ → ℕ → ℕ → Place
at a b c d = record { primary_node = a; primary_start = b; backup_node = c; backup_start = d }

abbrev pub plan_with : List Place → Plan
plan_with l = record { version = 1; task_count = length l; places = array max_tasks no_place l }

-- task 0 run 4 on each node and deadline 30, task 1 run 3 and this deadline
abbrev pub two_tasks : ℕ → List Link → Job
two_tasks deadline = job_of (task_of 30 4 ∷ task_of deadline 3 ∷ [])

-- 'J: 3 nodes with detect 1; task 0 run 4 on each node, task 1 run 3, both deadlines 30; link 0 to 1, delay 2'
abbrev pub J : Job
J = two_tasks 30 (link_of 0 1 2 ∷ [])

-- the same in another version, with these ready times; and in version 2
abbrev pub JIn : ℕ → ℕ → ℕ → Job
JIn version a b = job_in version (ready_task a 30 4 ∷ ready_task b 30 3 ∷ []) (link_of 0 1 2 ∷ [])

abbrev pub JReady : ℕ → ℕ → Job
JReady = JIn 2

abbrev tasks_of_j : List Task
tasks_of_j = task_of 30 4 ∷ task_of 30 3 ∷ []

-- J in another version, with these send times; and in version 3
abbrev pub JSendingIn : ℕ → ℕ → ℕ → ℕ → Job
JSendingIn version a b c = sending_in version a b c tasks_of_j (link_of 0 1 2 ∷ [])

abbrev pub JSending : ℕ → ℕ → ℕ → Job
JSending = JSendingIn 3

-- J in another version, with these groups; and in version 4, also without its link
abbrev grouped_in : ℕ → List Link → ℕ → ℕ → ℕ → Job
grouped_in version ls a b c = rack_in version (node_of 0 a ∷ node_of 0 b ∷ node_of 0 c ∷ []) tasks_of_j ls

abbrev pub JGroupedIn : ℕ → ℕ → ℕ → ℕ → Job
JGroupedIn version = grouped_in version (link_of 0 1 2 ∷ [])

abbrev pub JGrouped : ℕ → ℕ → ℕ → Job
JGrouped = JGroupedIn 4

abbrev pub JGroupedWithoutLink : ℕ → ℕ → ℕ → Job
JGroupedWithoutLink = grouped_in 4 []

abbrev pub JWithoutLink : Job
JWithoutLink = two_tasks 30 []

abbrev pub JWithDelay : ℕ → Job
JWithDelay d = two_tasks 30 (link_of 0 1 d ∷ [])

abbrev pub JWithDeadline : ℕ → Job
JWithDeadline d = two_tasks d (link_of 0 1 2 ∷ [])

abbrev pub ◌beside◌ : Place → Place → Plan
◌beside◌ x y = plan_with (x ∷ y ∷ [])

infix 10 ◌beside◌
abbrev pub plan1 : Plan
plan1 = at 0 0 1 5 beside at 0 4 1 9
