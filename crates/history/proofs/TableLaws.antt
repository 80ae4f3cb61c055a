-- Laws of a job's run times: in one row, in a job that has others, and as the bytes of a table.
use Prim.Native.Nat.{ℕ, zero, suc, ◌+◌, ◌*◌, ◌≤◌, ◌<◌}
use mathlib.Core.List.{List, [], ◌∷◌}
use mathlib.Core.Path.{◌≡◌, refl, ap, ◌∙◌, subst}
use lib.ListN.{get_or, set, length, replicate, take}
use Rattle.std.proofs.lemmas.List.{get_or-take}
use native.Mathlib.Nat.{mul-suc}
use native.Mathlib.Numerals.{add-one}
use native.Mathlib.Omega.{arith}
use Rattle.reader.specs.declared.job.Job.{Job}
use Rattle.reader.specs.declared.job.Task.{Task}
use Rattle.reader.specs.First.{fill}
use Rattle.reader.specs.Limits.{max_nodes, max_tasks}
use Rattle.reader.specs.Entries.{nodes, tasks, links, run, no_task, blank_task}
use Rattle.reader.proofs.FillLaws.{filled_more}
use Rattle.writer.specs.Write.{flat}
use Rattle.writer.specs.Puts.{Puts, Rows}
use Rattle.writer.proofs.PutLaws.{puts_then, rows_none}
use Rattle.replay.proofs.PackLaws.{length_flat}
use Rattle.history.specs.Times.{or_else_run, table_numbers, table_length, renewed_task, renewed}
use Rattle.history.specs.Window.{cell_count, cell_of}
use Rattle.history.specs.Promise.{row_time, table_time, new_task}

-- `time_of`
pub time_none : (seen run : ℕ) → seen ≡ 0 → run ≡ or_else_run seen run
unfolding or_else_run
time_none seen run e = rw e

pub time_seen : (seen run : ℕ) → (seen ≡ 0 → ⊥) → seen ≡ or_else_run seen run
unfolding or_else_run
time_seen zero run h = absurd (h refl)
time_seen (suc t) run h = refl

-- `RunTimes::of`: a list has the run times of the first j tasks
pub record RunsTo (job : Job) (j : ℕ) (runs : List ℕ) : Type 0 where
  pub size : length runs ≡ cell_count
  pub is : (i n : ℕ) → i < j → n < max_nodes → get_or runs (cell_of i n) 0 ≡ run job i n

-- `new_task`
pub row_done : (p n : ℕ) (time : ℕ → ℕ) (t : Task) (run : List ℕ) → n ≡ p → run ≡ fill n time (replicate max_nodes 0)
    → ◌≡◌ {A = Task} (record { ready = t.ready; deadline = t.deadline; run = run }) (renewed_task p time t)
unfolding renewed_task
row_done p n time t run e is =
    ap (λ l. record { ready = t.ready; deadline = t.deadline; run = l }) (is ∙ ap (λ m. fill m time (replicate max_nodes 0)) e)

-- `new_tasks` and `with_times`
module _ (seen : List ℕ) (p : ℕ) (list : List Task) where
  pub tasks_more : (d : List Task) (j : ℕ) (t : Task) → d ≡ fill j (new_task seen p list) (replicate max_tasks blank_task)
      → t ≡ renewed_task p (row_time seen (get_or list j no_task).run j) (get_or list j no_task)
      → set d j t ≡ fill (j + 1) (new_task seen p list) (replicate max_tasks blank_task)
  unfolding new_task
  tasks_more d j t e h = filled_more (new_task seen p list) (replicate max_tasks blank_task) d j t e h

pub job_renewed : (job : Job) (seen : List ℕ) (list : List Task)
    → list ≡ fill (tasks job) (new_task seen (nodes job) job.tasks) (replicate max_tasks blank_task)
    → ◌≡◌ {A = Job}
    (record {
      version = job.version;
      node_count = nodes job;
      nodes = job.nodes;
      task_count = tasks job;
      tasks = list;
      link_count = links job;
      links = job.links;
    })
    (renewed job (table_time seen job))
unfolding renewed new_task table_time
job_renewed job seen list e = rw e

-- `put_table`: the run times of the first j tasks
pub length_row : (n : ℕ) (f : ℕ → ℕ) → length (flat n (λ i. f i ∷ [])) ≡ n
length_row n f = omega (arith, length_flat 1 (λ i. f i ∷ []) (λ i. refl) n)

abbrev row_of : Job → ℕ → List ℕ
row_of job j = flat (nodes job) (λ n. run job j n ∷ [])

pub record TableTo (job : Job) (before : List ℕ) (j : ℕ) (out : List ℕ) (at : ℕ) : Type 0 where
  pub within : j ≤ tasks job
  pub at_is : at ≡ 4 * (nodes job * j)
  pub puts : Puts before 0 (flat j (row_of job)) out at

pub table_start : (job : Job) (out : List ℕ) → TableTo job out 0 out 0
table_start job out = record { within = omega arith; at_is = omega arith; puts = (rows_none {w = 0} out 0).puts }

module _ (job : Job) (before : List ℕ) (j : ℕ) (out : List ℕ) (at : ℕ) (inv : TableTo job before j out at) where
  pub table_more : (d : List ℕ) (end : ℕ) → j < tasks job
      → Rows (λ n. get_or (get_or (take (tasks job) job.tasks) j no_task).run n 0 ∷ []) 4 out at (nodes job) d end → TableTo job before (j + 1) d end
  unfolding flat
  table_more d end h taken =
      let same = get_or-take (tasks job) job.tasks j no_task h in
      let rows : Rows (λ n. run job j n ∷ []) 4 out at (nodes job) d end =
      subst (λ t. Rows (λ n. get_or t.run n 0 ∷ []) 4 out at (nodes job) d end) same taken in
      record {
        within = omega arith;
        at_is =
            let row : nodes job * (j + 1) ≡ nodes job * suc j = ap (λ m. nodes job * m) (add-one j) in
            omega (arith, row, mul-suc (nodes job) j, inv.at_is, rows.puts.behind, length_row (nodes job) (run job j));
        puts = rw add-one (puts_then inv.puts rows.puts);
      }

  pub table_done : tasks job ≤ j → Puts before 0 (table_numbers job (run job)) out (table_length job)
  unfolding table_numbers
  table_done h =
      let e : j ≡ tasks job = omega (arith, inv.within) in
      subst (λ m. Puts before 0 (flat m (row_of job)) out (4 * (nodes job * m))) e
      (subst (λ a. Puts before 0 (flat j (row_of job)) out a) inv.at_is inv.puts)
