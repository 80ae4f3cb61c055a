-- Laws of the job with other run times: what it has, that it is sound, and that a log gives such times.
use Prim.Native.Nat.{ℕ, zero, suc, ◌+◌, ◌-◌, ◌≤◌, ◌<◌}
use mathlib.Core.Bool.{Bool, true, false, cond}
use mathlib.Core.List.{List}
use mathlib.Core.Option.{none}
use mathlib.Core.Path.{◌≡◌, refl, sym, ap, ◌∙◌, subst}
use lib.Dec.{eqb}
use lib.ListN.{get_or, replicate}
use native.Mathlib.Omega.{arith}
use Rattle.reader.specs.declared.job.Job.{Job}
use Rattle.std.specs.Prelude.{Result, Ok}
use Rattle.reader.specs.declared.refusal.Refusal.{Refusal}
use Rattle.reader.specs.Tests.{◌and◌}
use Rattle.reader.specs.Limits.{max_nodes, max_tasks, max_time}
use Rattle.reader.specs.Entries.{nodes, tasks, task, run, no_task, blank_task}
use Rattle.reader.specs.Reads.{Reads}
use Rattle.reader.specs.Sound.{Sound}
use Rattle.reader.proofs.Chain.{finished, reads_none, reads_value}
use Rattle.reader.proofs.FillLaws.{fill_same, filled_at}
use Rattle.writer.proofs.FilledJob.{RunFilled, Filled}
use Rattle.history.specs.declared.window.Timing.{Timing}
use Rattle.history.specs.declared.window.Window.{Window}
use Rattle.history.specs.Log.{records, record_at, log_fault}
use Rattle.history.specs.Times.{ticks_on, or_else_run, afresh, window_size, kept, log_time, renewed_task, renewed}
use Rattle.history.specs.Window.{cell_of, Seen}
use Rattle.history.specs.Ring.{Formed, Holding}
use Rattle.history.specs.Promise.{table_time}
use Rattle.history.proofs.GoodLogs.{good_timing}
use Rattle.history.proofs.MostLaws.{most_within}
use Rattle.history.proofs.WindowLaws.{table_afresh}

-- times that are the same give the same job
pub renewed_same : (job : Job) (time other : ℕ → ℕ → ℕ) → ((j n : ℕ) → j < tasks job → n < nodes job → time j n ≡ other j n)
    → renewed job time ≡ renewed job other
unfolding renewed renewed_task
renewed_same job time other same =
    let row : (j : ℕ) → j < tasks job → renewed_task (nodes job) (time j) (task job j) ≡ renewed_task (nodes job) (other j) (task job j) =
    λ j p. ap (λ l. record { ready = (task job j).ready; deadline = (task job j).deadline; run = l })
    (fill_same (time j) (other j) (replicate max_nodes 0) (nodes job) (λ n q. same j n p q)) in
    let list = fill_same _ _ (replicate max_tasks blank_task) (tasks job) row in
    rw list

module _ (job : Job) (time : ℕ → ℕ → ℕ) (sound : Sound job) where
  pub task_renewed : (j : ℕ) → j < tasks job → task (renewed job time) j ≡ renewed_task (nodes job) (time j) (task job j)
  unfolding renewed
  task_renewed j p = filled_at _ max_tasks blank_task _ (tasks job) j no_task refl p sound.tasks_most

  pub run_renewed : (j n : ℕ) → j < tasks job → n < nodes job → run (renewed job time) j n ≡ time j n
  unfolding renewed_task
  run_renewed j n p q =
      ap (λ t. get_or t.run n 0) (task_renewed j p) ∙ filled_at (time j) max_nodes 0 _ (nodes job) n 0 refl q sound.nodes_most

  pub renewed_sound : ((j n : ℕ) → j < tasks job → n < nodes job → time j n ≤ max_time) → Sound (renewed job time)
  unfolding renewed renewed_task
  renewed_sound within = record {
    version_least = sound.version_least;
    version_most = sound.version_most;
    nodes_least = sound.nodes_least;
    nodes_most = sound.nodes_most;
    detect_most = sound.detect_most;
    send_most = sound.send_most;
    send_lacks = sound.send_lacks;
    group_most = sound.group_most;
    group_lacks = sound.group_lacks;
    tasks_least = sound.tasks_least;
    tasks_most = sound.tasks_most;
    ready_most = λ j p. subst (λ t. t.ready ≤ max_time) (sym (task_renewed j p)) (sound.ready_most j p);
    ready_lacks = λ j p v. ap (λ t. t.ready) (task_renewed j p) ∙ sound.ready_lacks j p v;
    deadline_least = λ j p. subst (λ t. 1 ≤ t.deadline) (sym (task_renewed j p)) (sound.deadline_least j p);
    deadline_most = λ j p. subst (λ t. t.deadline ≤ max_time) (sym (task_renewed j p)) (sound.deadline_most j p);
    run_most = λ j n p q. subst (λ v. v ≤ max_time) (sym (run_renewed j n p q)) (within j n p q);
    links_most = sound.links_most;
    rise = sound.rise;
    into = sound.into;
    delay_most = sound.delay_most;
    order = sound.order;
  }

  -- nothing stands behind its entries
  pub renewed_filled : Filled job → Filled (renewed job time)
  unfolding renewed renewed_task
  renewed_filled filled = record {
    nodes_filled = filled.nodes_filled;
    tasks_filled = fill_same _ _ (replicate max_tasks blank_task) (tasks job) (λ j p. sym (task_renewed j p));
    runs_filled = λ j p.
        subst (RunFilled (nodes job)) (sym (task_renewed j p))
        (fill_same _ _ (replicate max_nodes 0) (nodes job) (λ n q. sym (filled_at (time j) max_nodes 0 _ (nodes job) n 0 refl q sound.nodes_most)));
    links_filled = filled.links_filled;
  }

-- the times of a log that is not at fault
ticks_within : (j n b : ℕ) (x : Timing) → x.ticks ≤ b → ticks_on j n x ≤ b
unfolding ticks_on
ticks_within j n b x h = go (eqb x.task j and eqb x.node n)
  where
    go : (c : Bool) → cond c x.ticks 0 ≤ b
    go true = h
    go false = omega arith

or_within : (t run b : ℕ) → t ≤ b → run ≤ b → or_else_run t run ≤ b
unfolding or_else_run
or_within zero run b p q = q
or_within (suc t) run b p q = p

module _ (log : List ℕ) (job : Job) (sound : Sound job) (fine : log_fault log job ≡ none) where
  -- the record i of the newest is one of the log
  among : (i : ℕ) → i < kept (records log) → records log - window_size + i < records log
  among i p = omega arith

  nodes_low : (k : ℕ) → k < records log → (record_at log k).node < max_nodes
  nodes_low k p = omega (arith, (good_timing log job fine k p).node, sound.nodes_least, sound.nodes_most)

  pub time_within : (j n : ℕ) → j < tasks job → n < nodes job → log_time job log j n ≤ max_time
  unfolding afresh
  time_within j n p q =
      or_within _ _ max_time
      (most_within (kept (records log)) _ max_time (λ i h. ticks_within j n max_time _ (good_timing log job fine _ (among i h)).ticks_most))
      (sound.run_most j n p q)

  -- `renew`: the window's table gives these times
  module _ (w : Window) (holds : Holding (record_at log) (records log) w) (seen : List ℕ) (has : Seen w seen) where
    renewed_by : renewed job (table_time seen job) ≡ renewed job (log_time job log)
    unfolding table_time
    renewed_by =
        renewed_same job _ _
        (λ j n p q.
        ap (λ t. or_else_run t (run job j n)) (has.is (cell_of j n))
        ∙ table_afresh (record_at log) (records log) w holds nodes_low job j n (omega (arith, sound.nodes_most)))

-- and the job with them
pub renew_done : (log : List ℕ) (job : Job) (read : Result Window Refusal) {w : Window}
    → Reads (log_fault log job) read (λ w. Formed w × Holding (record_at log) (records log) w) → read ≡ Ok w → Sound job
    → (seen : List ℕ) → Seen w seen → (new : Job) → new ≡ renewed job (table_time seen job)
    → Reads (log_fault log job) (Ok new) (λ x. x ≡ renewed job (log_time job log))
renew_done log job read {w} reads q sound seen has new e =
    let fine = reads_none reads q in
    finished fine (e ∙ renewed_by log job sound fine w (reads_value reads q).1 seen has)
