-- A job file: its first fault in file order, and the job, each number where it stands.
use Rattle.std.specs.Prelude.{ℕ, zero, suc, ◌+◌, ◌-◌, ◌*◌, Bool, List, ◌≡◌, leb, ltb, length, replicate, Result, Ok}
use Rattle.std.proofs.Math.Option.{Option, none}
use Rattle.reader.specs.declared.job.Node.{Node}
use Rattle.reader.specs.declared.job.Task.{Task}
use Rattle.reader.specs.declared.job.Link.{Link}
use Rattle.reader.specs.declared.job.Job.{Job}
use Rattle.reader.specs.declared.refusal.Refusal.{Refusal}
use Rattle.reader.specs.declared.refusal.Refusal.TheVariants.{LinkOrder, Tail}
use Rattle.reader.specs.Tests.{◌and◌}
use Rattle.reader.specs.First.{◌or_else◌, first, unless, fill}
use Rattle.reader.specs.Limits.{newest_version, min_nodes, max_nodes, min_tasks, max_tasks, max_links, max_time}
use Rattle.reader.specs.Entries.{no_node, blank_task, no_link}
use Rattle.reader.specs.Number.{number_at, version_fault, count_fault, value_fault}
use Rattle.reader.specs.Fields.{node_fields, task_fields, node_from, task_from, width, fields_fault, fields_at}
use Rattle.reader.specs.Refusals.{resulted}
use Rattle.reader.specs.Sound.{below, Sound}

-- the version; and the bytes of an entry in version v, of a node, whichever it is, and of a task with p run times
abbrev pub job_version : List ℕ → ℕ
job_version s = number_at s 0

unfoldable pub node_width : ℕ → ℕ
node_width v = width v (node_fields 0)

unfoldable pub task_width : ℕ → ℕ → ℕ
task_width v p = width v task_fields + 4 * p

-- where the sections begin, each with its count: behind the version, p nodes, n tasks, m links
abbrev pub node_section : ℕ
node_section = 4

abbrev pub task_section : ℕ → ℕ → ℕ
task_section v p = 8 + p * node_width v

abbrev pub link_section : ℕ → ℕ → ℕ → ℕ
link_section v p n = task_section v p + 4 + n * task_width v p

abbrev pub job_length : ℕ → ℕ → ℕ → ℕ → ℕ
job_length v p n m = link_section v p n + 4 + 12 * m

-- the bytes of the longest job of version v
abbrev pub longest_job : ℕ → ℕ
longest_job v = job_length v max_nodes max_tasks max_links

-- 'node count P (2 to 16), then per node ..'
unfoldable pub nodes_fault : ℕ → List ℕ → Option Refusal
nodes_fault v s =
    count_fault s node_section min_nodes max_nodes or_else first (number_at s node_section) (λ i. fields_fault v s (8 + i * node_width v) (node_fields i))

-- node i at an offset
unfoldable pub node_at : ℕ → List ℕ → ℕ → ℕ → Node
node_at v s i at = node_from (fields_at v s at (node_fields i))

unfoldable pub nodes_at : ℕ → List ℕ → ℕ → List Node
nodes_at v s p = fill p (λ i. node_at v s i (8 + i * node_width v)) (replicate max_nodes no_node)

-- 'P run times, one for each node (0 to 1,000,000)', from an offset
unfoldable pub run_fault : List ℕ → ℕ → ℕ → Option Refusal
run_fault s at p = first p (λ i. value_fault s (at + 4 * i) 0 max_time)

unfoldable pub run_at : List ℕ → ℕ → ℕ → List ℕ
run_at s at p = fill p (λ i. number_at s (at + 4 * i)) (replicate max_nodes 0)

-- a task of version v: its fields, and P run times
unfoldable pub task_fault : ℕ → List ℕ → ℕ → ℕ → Option Refusal
task_fault v s at p = fields_fault v s at task_fields or_else run_fault s (at + width v task_fields) p

unfoldable pub task_at : ℕ → List ℕ → ℕ → ℕ → Task
task_at v s at p = task_from (fields_at v s at task_fields) (run_at s (at + width v task_fields) p)

-- 'task count N (1 to 64), then per task ..': the section at an offset
unfoldable pub tasks_fault : ℕ → List ℕ → ℕ → ℕ → Option Refusal
tasks_fault v s at p =
    count_fault s at min_tasks max_tasks or_else first (number_at s at) (λ i. task_fault v s (at + 4 + i * task_width v p) p)

unfoldable pub tasks_at : ℕ → List ℕ → ℕ → ℕ → ℕ → List Task
tasks_at v s at p n = fill n (λ i. task_at v s (at + 4 + i * task_width v p) p) (replicate max_tasks blank_task)

-- 'per link from, to, delay (0 to 1,000,000). .. From and to are below N; a to not above its from is refused 4 too, at to'; then 5
unfoldable pub link_at : List ℕ → ℕ → Link
link_at s at = record { from = number_at s at; to = number_at s (at + 4); delay = number_at s (at + 8) }

unfoldable pub link_fault : List ℕ → ℕ → ℕ → Link → Option Refusal
link_fault s at n before =
    value_fault s at 0 (n - 1)
    or_else value_fault s (at + 4) (number_at s at + 1) (n - 1)
    or_else value_fault s (at + 8) 0 max_time
    or_else unless (below before (link_at s at)) (LinkOrder at)

-- the link before link k of those from an offset; before the first 0 to 0, which is below every link since a to is above its from
unfoldable pub link_before : List ℕ → ℕ → ℕ → Link
link_before s at zero = no_link
link_before s at (suc k) = link_at s (at + 12 * k)

-- 'link count (0 to 512), then per link ..': the section at an offset
unfoldable pub links_fault : List ℕ → ℕ → ℕ → Option Refusal
links_fault s at n =
    count_fault s at 0 max_links or_else first (number_at s at) (λ k. link_fault s (at + 4 + 12 * k) n (link_before s (at + 4) k))

unfoldable pub links_at : List ℕ → ℕ → ℕ → List Link
links_at s at m = fill m (λ k. link_at s (at + 4 + 12 * k)) (replicate max_links no_link)

-- 6, 'bytes after the end'
unfoldable pub tail_fault : List ℕ → ℕ → Option Refusal
tail_fault s end = unless (leb (length s) end) (Tail end)

-- the counts, where they stand
abbrev pub node_count : List ℕ → ℕ
node_count s = number_at s node_section

abbrev pub task_count : List ℕ → ℕ
task_count s = number_at s (task_section (job_version s) (node_count s))

abbrev pub link_count : List ℕ → ℕ
link_count s = number_at s (link_section (job_version s) (node_count s) (task_count s))

-- the faults behind the version
abbrev pub sections_fault : List ℕ → Option Refusal
sections_fault s =
    nodes_fault (job_version s) s
    or_else tasks_fault (job_version s) s (task_section (job_version s) (node_count s)) (node_count s)
    or_else links_fault s (link_section (job_version s) (node_count s) (task_count s)) (task_count s)
    or_else tail_fault s (job_length (job_version s) (node_count s) (task_count s) (link_count s))

-- 'A file is read number by number and the first fault is given': by a reader that knows the versions up to a newest one
abbrev pub job_fault_up_to : ℕ → List ℕ → Option Refusal
job_fault_up_to newest s = version_fault newest s or_else sections_fault s

unfoldable pub job_fault : List ℕ → Option Refusal
job_fault s = job_fault_up_to newest_version s

unfoldable pub job_at : List ℕ → Job
job_at s = record {
  version = job_version s;
  node_count = node_count s;
  nodes = nodes_at (job_version s) s (node_count s);
  task_count = task_count s;
  tasks = tasks_at (job_version s) s (task_section (job_version s) (node_count s)) (node_count s) (task_count s);
  link_count = link_count s;
  links = links_at s (link_section (job_version s) (node_count s) (task_count s)) (link_count s);
}

-- what reading a job file gives: the job, or the first fault
abbrev pub read_job_up_to : ℕ → List ℕ → Result Job Refusal
read_job_up_to newest s = resulted (job_fault_up_to newest s) (job_at s)

unfoldable pub read_job : List ℕ → Result Job Refusal
read_job s = resulted (job_fault s) (job_at s)

-- a file of a version that such a reader does not know yet
unfoldable pub is_later : ℕ → List ℕ → Bool
is_later newest s = leb 4 (length s) and ltb newest (job_version s)

-- of a job file that is read: no fault, the job in it, and what reading promises
pub record JobDone (s : List ℕ) : Type 0 where
  pub fault : job_fault s ≡ none
  pub job : read_job s ≡ Ok (job_at s)
  pub sound : Sound (job_at s)
