-- What the pass over the links gives: the weak links, the answer of D, and what it leaves of E.
use Rattle.std.specs.Prelude.{ℕ, ◌+◌, ◌*◌, ◌≤◌, ◌<◌, Bool, true, false, List, ◌≡◌, get_or, length}
use Rattle.reader.specs.declared.job.Job.{Job}
use Rattle.reader.specs.declared.job.Link.{Link}
use Rattle.reader.specs.First.{any}
use Rattle.reader.specs.Limits.{max_tasks, max_links}
use Rattle.reader.specs.Entries.{nodes, tasks, links, link}
use Rattle.reader.specs.Refusals.{Answer, answered}
use Rattle.rules.specs.Rules.{Row}
use Rattle.rules.specs.Waits.{waits_for_both}
use Rattle.copies.specs.declared.table.Copies.{Copies}
use Rattle.copies.specs.Sets.{has}
use Rattle.copies.specs.Arrival.{result_of, result_at, SumFits}
use Rattle.copies.specs.Table.{entry, row_of}
use Rattle.copies.specs.Gathered.{weak_link}
use Rattle.judge.specs.Parts.{by_links}

-- a job with the first n of these links
abbrev pub linked : Job → List Link → ℕ → Job
linked job ls n =
    record {
      version = job.version;
      node_count = nodes job;
      nodes = job.nodes;
      task_count = tasks job;
      tasks = job.tasks;
      link_count = n;
      links = ls;
    }

-- what the pass over a job's links rests on: each leads from task to task, its delay can be added to when the sender's results leave, and these are
-- then the job's
pub record Timed (job : Job) (cs : Copies) (leave : List ℕ) : Type 0 where
  pub few : links job ≤ max_links
  pub from : (k : ℕ) → k < links job → (link job k).from < max_tasks
  pub to : (k : ℕ) → k < links job → (link job k).to < max_tasks
  pub primary_fits : (k : ℕ) → k < links job → SumFits (get_or leave (2 * (link job k).from) 0) (link job k).delay
  pub backup_fits : (k : ℕ) → k < links job → SumFits (get_or leave (2 * (link job k).from + 1) 0) (link job k).delay
  pub primary : (k : ℕ) → k < links job → let l = link job k in
      result_at cs.node cs.finish leave l.delay (2 * l.from) ≡ result_of job l (entry cs (2 * l.from))
  pub backup : (k : ℕ) → k < links job → let l = link job k in
      result_at cs.node cs.finish leave l.delay (2 * l.from + 1) ≡ result_of job l (entry cs (2 * l.from + 1))

-- the members of set j are the tasks from which one of the first k links leads to j and is weak
abbrev pub WeakTo : Job → (ℕ → Row) → ℕ → List ℕ → Type 0
WeakTo job t k into = (j i : ℕ) → j < max_tasks → has (get_or into j 0) i ≡ any k (weak_link job t i j)

-- by link k the results of both copies are in time for the backup, so that it keeps E whatever the fault sets are
abbrev pub sure : Job → (ℕ → Row) → ℕ → Bool
sure job t k = let l = link job k in waits_for_both job l (t l.from) (t l.to)

-- each of the first k links that is not sure comes from a sender in the set
abbrev pub SureBut : Job → (ℕ → Row) → ℕ → ℕ → Type 0
SureBut job t k unsure = (m : ℕ) → m < k → sure job t m ≡ false → has unsure (link job m).from ≡ true

-- the weak links of all, the answer of D, and beside it, whatever it is, the senders of links that are not sure
pub record LinksJudged (job : Job) (cs : Copies) (into : List ℕ) (r : ℕ × Answer) : Type 0 where
  pub size : length into ≡ max_tasks
  pub weak : WeakTo job (row_of cs) (links job) into
  pub answer : r.1 ≡ answered (by_links job (row_of cs))
  pub unsure : SureBut job (row_of cs) (links job) r.0
