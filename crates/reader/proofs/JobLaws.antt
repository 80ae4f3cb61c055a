-- Laws of reading a whole job file: each section behind those that passed.
use Prim.Native.Nat.{ℕ, ◌+◌, ◌-◌, ◌*◌, ◌≤◌, ◌<◌}
use mathlib.Core.Path.{◌≡◌, sym, ap, ap₂, ◌∙◌, subst}
use mathlib.Core.List.{List}
use mathlib.Core.Option.{none, some}
use lib.ListN.{length, take, drop, length-drop}
use lib.Seq.{take_all}
use native.Mathlib.Omega.{arith}
use borrow.Author.Tests.{lt-leb}
use Rattle.std.specs.Prelude.{Result, Ok, Err}
use Rattle.reader.specs.declared.job.Job.{Job}
use Rattle.reader.specs.declared.job.Node.{Node}
use Rattle.reader.specs.declared.job.Task.{Task}
use Rattle.reader.specs.declared.job.Link.{Link}
use Rattle.reader.specs.declared.refusal.Refusal.{Refusal}
use Rattle.reader.specs.declared.refusal.Refusal.TheVariants.{Tail}
use Rattle.reader.specs.First.{unless}
use Rattle.reader.specs.Limits.{newest_version, min_tasks}
use Rattle.reader.specs.Number.{number_at, version_fault}
use Rattle.reader.specs.JobFile.{job_version, task_width, node_section, task_section, link_section, job_length, node_count, task_count, link_count, nodes_fault}
use Rattle.reader.specs.JobFile.{nodes_at, tasks_fault, tasks_at, links_fault, links_at, tail_fault, job_fault, job_at, read_job}
use Rattle.reader.specs.Refusals.{Answer, resulted, answered}
use Rattle.reader.specs.Reads.{Reads}
use Rattle.reader.proofs.NumberLaws.{is_none, is_value, is_fault}
use Rattle.reader.proofs.Chain.{pass, stop, refused, given, reads_none, reads_value}
use Rattle.reader.proofs.Accepted.{nodes_good, tasks_good}
use Rattle.reader.proofs.Faultless.{good_tail}

-- the part of a list from an offset on, as the code makes it
pub rest_part : (s : List ℕ) (a : ℕ) → drop a s ≡ take (length s - a) (drop a s)
rest_part s a =
    let h : length (drop a s) ≤ length s - a = omega (arith, length-drop a s) in
    sym (take_all _ _ h)

pub tail_some : (s : List ℕ) (e : ℕ) → e < length s → tail_fault s e ≡ some (Tail e)
unfolding tail_fault unless
tail_some s e h = rw (lt-leb (length s) e h)

-- a section: how many entries, they themselves, and the offset behind them
pub record Section (A : Type 0) : Type 0 where
  pub count : ℕ
  pub list : List A
  pub end : ℕ

abbrev pub section : {A : Type 0} → ℕ × ℕ → List A → Section A
section read list = record { count = read.0; list = list; end = read.1 }

-- what is read so far, each part behind the one before it: the version x, the nodes, the tasks, the links
pub record VersionRead (s : List ℕ) (x : ℕ) : Type 0 where
  pub fine : version_fault newest_version s ≡ none
  pub is : x ≡ job_version s

pub record NodesRead (s : List ℕ) (x : ℕ) (ns : Section Node) : Type 0 where
  pub version : VersionRead s x
  pub fine : nodes_fault x s ≡ none
  pub count : ns.count ≡ node_count s
  pub list : ns.list ≡ nodes_at x s ns.count
  pub ends : ns.end ≡ task_section x ns.count

pub record TasksRead (s : List ℕ) (x : ℕ) (ns : Section Node) (ts : Section Task) : Type 0 where
  pub nodes : NodesRead s x ns
  pub fine : tasks_fault x s ns.end ns.count ≡ none
  pub count : ts.count ≡ number_at s ns.end
  pub list : ts.list ≡ tasks_at x s ns.end ns.count ts.count
  pub ends : ts.end ≡ ns.end + 4 + ts.count * task_width x ns.count

pub record LinksRead (s : List ℕ) (x : ℕ) (ns : Section Node) (ts : Section Task) (ls : Section Link) : Type 0 where
  pub tasks : TasksRead s x ns ts
  pub fine : links_fault s ts.end ts.count ≡ none
  pub count : ls.count ≡ number_at s ts.end
  pub list : ls.list ≡ links_at s ts.end ls.count
  pub ends : ls.end ≡ ts.end + 4 + 12 * ls.count

-- so each part is read where its reader gives it
pub version_read : {s : List ℕ} {r : Result ℕ Refusal} {x : ℕ} → r ≡ resulted (version_fault newest_version s) (number_at s 0) → r ≡ Ok x
    → VersionRead s x
version_read is q = record { fine = is_none _ _ _ is q; is = is_value _ _ _ is q }

pub nodes_read : {s : List ℕ} {x : ℕ} {list : List Node} {r : Result (ℕ × ℕ) Refusal} {read : ℕ × ℕ} → VersionRead s x
    → Reads (nodes_fault x s) r (λ read. (read.0 ≡ number_at s node_section) × (list ≡ nodes_at x s read.0)
    × (read.1 ≡ task_section x read.0)) → r ≡ Ok read → NodesRead s x (section read list)
nodes_read v reads q =
    let value = reads_value reads q in
    record { version = v; fine = reads_none reads q; count = value.0; list = value.1; ends = value.2 }

-- the tasks from the part of the file behind the nodes
pub tasks_read : {s : List ℕ} {x : ℕ} {ns : Section Node} {list : List Task} {r : Result (ℕ × ℕ) Refusal} {read : ℕ × ℕ} → NodesRead s x ns
    → Reads (tasks_fault x s ns.end ns.count) r (λ read. (read.0 ≡ number_at s ns.end) × (list ≡ tasks_at x s ns.end ns.count read.0)
    × (read.1 ≡ ns.end + 4 + read.0 * task_width x ns.count)) → r ≡ Ok read → TasksRead s x ns (section read list)
tasks_read a reads q =
    let value = reads_value reads q in
    record { nodes = a; fine = reads_none reads q; count = value.0; list = value.1; ends = value.2 }

pub links_read : {s : List ℕ} {x : ℕ} {ns : Section Node} {ts : Section Task} {list : List Link} {r : Result (ℕ × ℕ) Refusal}
    {read : ℕ × ℕ} → TasksRead s x ns ts → Reads (links_fault s ts.end ts.count) r (λ read. (read.0 ≡ number_at s ts.end)
    × (list ≡ links_at s ts.end read.0) × (read.1 ≡ ts.end + 4 + 12 * read.0)) → r ≡ Ok read → LinksRead s x ns ts (section read list)
links_read b reads q =
    let value = reads_value reads q in
    record { tasks = b; fine = reads_none reads q; count = value.0; list = value.1; ends = value.2 }

-- the first fault is that of the part that is read next
pub bad_version : (s : List ℕ) {r : Refusal} → version_fault newest_version s ≡ some r → job_fault s ≡ some r
unfolding job_fault
bad_version s q = stop _ q

pub bad_nodes : {s : List ℕ} {x : ℕ} {r : Refusal} → VersionRead s x → nodes_fault x s ≡ some r → job_fault s ≡ some r
unfolding job_fault
bad_nodes {s} {x} {r} v q = pass _ v.fine ∙ stop _ (subst (λ x. nodes_fault x s ≡ some r) v.is q)

module _ {s : List ℕ} {x : ℕ} {ns : Section Node} (a : NodesRead s x ns) where
  nodes_fine : nodes_fault (job_version s) s ≡ none
  nodes_fine = subst (λ x. nodes_fault x s ≡ none) a.version.is a.fine

  start_is : ns.end ≡ task_section (job_version s) (node_count s)
  start_is = a.ends ∙ ap₂ task_section a.version.is a.count

  pub node_room : ns.end ≤ length s
  node_room = omega (arith, (nodes_good (job_version s) s nodes_fine).room, start_is)

  -- the faults of the tasks as the code has them are those of the file
  tasks_same : tasks_fault x s ns.end ns.count ≡ tasks_fault (job_version s) s (task_section (job_version s) (node_count s)) (node_count s)
  tasks_same = cc (start_is)

  pub bad_tasks : {r : Refusal} → tasks_fault x s ns.end ns.count ≡ some r → job_fault s ≡ some r
  unfolding job_fault
  bad_tasks q = pass _ a.version.fine ∙ pass _ nodes_fine ∙ stop _ (sym tasks_same ∙ q)

module _ {s : List ℕ} {x : ℕ} {ns : Section Node} {ts : Section Task} (b : TasksRead s x ns ts) where
  n_is : ts.count ≡ task_count s
  n_is = b.count ∙ ap (number_at s) (start_is b.nodes)

  behind_is : ts.end ≡ link_section (job_version s) (node_count s) (task_count s)
  behind_is =
      let version = b.nodes.version.is in
      let nodes = b.nodes.count in
      b.ends ∙ cc (start_is b.nodes, n_is)

  tasks_fine : tasks_fault (job_version s) s (task_section (job_version s) (node_count s)) (node_count s) ≡ none
  tasks_fine = sym (tasks_same b.nodes) ∙ b.fine

  pub task_least : min_tasks ≤ ts.count
  task_least = omega (arith, (tasks_good (job_version s) s _ _ tasks_fine).count.least, n_is)

  links_same : links_fault s ts.end ts.count ≡ links_fault s (link_section (job_version s) (node_count s) (task_count s)) (task_count s)
  links_same = ap₂ (links_fault s) behind_is n_is

  pub bad_links : {r : Refusal} → links_fault s ts.end ts.count ≡ some r → job_fault s ≡ some r
  unfolding job_fault
  bad_links q = pass _ b.nodes.version.fine ∙ pass _ (nodes_fine b.nodes) ∙ pass _ tasks_fine ∙ stop _ (sym links_same ∙ q)

module _ {s : List ℕ} {x : ℕ} {ns : Section Node} {ts : Section Task} {ls : Section Link} (d : LinksRead s x ns ts ls) where
  m_is : ls.count ≡ link_count s
  m_is = d.count ∙ ap (number_at s) (behind_is d.tasks)

  to_tail : job_fault s ≡ tail_fault s ls.end
  unfolding job_fault
  to_tail =
      let e : ls.end ≡ job_length (job_version s) (node_count s) (task_count s) (link_count s) =
      d.ends ∙ ap₂ (λ b m. b + 4 + 12 * m) (behind_is d.tasks) m_is in
      let nodes = d.tasks.nodes in
      pass _ nodes.version.fine
      ∙ pass _ (nodes_fine nodes)
      ∙ pass _ (tasks_fine d.tasks)
      ∙ pass _ (sym (links_same d.tasks) ∙ d.fine)
      ∙ ap (tail_fault s) (sym e)

  pub bad_tail : ls.end < length s → job_fault s ≡ some (Tail ls.end)
  bad_tail h = to_tail ∙ tail_some s _ h

  pub no_fault : length s ≤ ls.end → job_fault s ≡ none
  no_fault h = to_tail ∙ good_tail s _ h

  pub job_is : ◌≡◌ {A = Job} (record {
    version = x;
    node_count = ns.count;
    nodes = ns.list;
    task_count = ts.count;
    tasks = ts.list;
    link_count = ls.count;
    links = ls.list;
  }) (job_at s)
  unfolding job_at
  job_is =
      let et = n_is d.tasks in
      let ea = start_is d.tasks.nodes in
      let eb = behind_is d.tasks in
      let em = m_is in
      cc

-- reading into a lent job, as reading gives a job
module _ (s : List ℕ) {r : Answer} (answer : r ≡ answered (job_fault s)) where
  pub filled : {job : Job} → r ≡ Ok tt → job ≡ job_at s → read_job s ≡ Ok job
  unfolding read_job
  filled q e = sym (given _ (is_none _ _ _ answer q) e)

  pub unfilled : {e : Refusal} → r ≡ Err e → read_job s ≡ Err e
  unfolding read_job
  unfilled q = sym (refused _ (is_fault _ _ _ answer q))
