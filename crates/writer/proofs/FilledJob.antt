-- A job in whose arrays nothing stands behind the counted entries, as the reader fills them, is the job in its own bytes.
use Prim.Native.Nat.{ℕ, ◌≤◌, ◌<◌}
use native.Mathlib.Omega.{arith}
use mathlib.Core.Path.{◌≡◌, sym, ap, ap₂, ◌∙◌, subst}
use mathlib.Core.List.{List}
use mathlib.Core.Option.{none}
use lib.ListN.{get_or, replicate}
use Rattle.reader.specs.declared.job.Node.{Node}
use Rattle.reader.specs.declared.job.Task.{Task}
use Rattle.reader.specs.declared.job.Link.{Link}
use Rattle.reader.specs.declared.job.Job.{Job}
use Rattle.reader.specs.First.{fill}
use Rattle.reader.specs.Limits.{max_nodes, max_tasks, max_links}
use Rattle.reader.specs.Entries.{nodes, tasks, links, node, task, run, link, no_node, blank_task, no_link}
use Rattle.reader.specs.Fields.{node_from, task_from}
use Rattle.reader.specs.Sound.{Sound}
use Rattle.reader.specs.JobFile.{node_count, task_count, link_count, nodes_at, run_at, task_at, tasks_at, links_at, job_fault, job_at}
use Rattle.reader.proofs.FillLaws.{fill_same}
use Rattle.reader.proofs.EntryLaws.{node_at_lem, run_at_lem, task_at_lem, link_at_lem}
use Rattle.reader.proofs.Promise.{job_sound}
use Rattle.writer.specs.Write.{job_bytes}
use Rattle.writer.specs.Equality.{SameJob}
use Rattle.writer.proofs.RoundTrip.{job_read_back}
use Rattle.writer.proofs.WordLaws.{job_words}
use Rattle.writer.proofs.SoundReads.{sound_job_reads}
use Rattle.writer.proofs.SameFields.{same_run, all_of_node, all_of_task}

-- p run times, and nothing behind them
abbrev pub RunFilled : ℕ → Task → Type 0
RunFilled p t = t.run ≡ fill p (λ n. get_or t.run n 0) (replicate max_nodes 0)

pub record Filled (job : Job) : Type 0 where
  pub nodes_filled : job.nodes ≡ fill (nodes job) (node job) (replicate max_nodes no_node)
  pub tasks_filled : job.tasks ≡ fill (tasks job) (task job) (replicate max_tasks blank_task)
  pub runs_filled : (j : ℕ) → j < tasks job → RunFilled (nodes job) (task job j)
  pub links_filled : job.links ≡ fill (links job) (link job) (replicate max_links no_link)

-- the reader's jobs are such
pub task_filled : (v : ℕ) (s : List ℕ) (at p : ℕ) → p ≤ max_nodes → RunFilled p (task_at v s at p)
unfolding task_at run_at
task_filled v s at p m = fill_same _ _ (replicate max_nodes 0) p (λ n l. sym (run_at_lem s _ p n m l))

pub read_filled : (s : List ℕ) → job_fault s ≡ none → Filled (job_at s)
unfolding job_at nodes_at tasks_at links_at
read_filled s e =
    let h = job_sound s e in
    record {
      nodes_filled = fill_same _ _ (replicate max_nodes no_node) (node_count s) (λ i p. sym (node_at_lem s i h.nodes_most p));
      tasks_filled = fill_same _ _ (replicate max_tasks blank_task) (task_count s) (λ j p. sym (task_at_lem s j h.tasks_most p));
      runs_filled = λ j p. subst (RunFilled (node_count s)) (sym (task_at_lem s j h.tasks_most p)) (task_filled _ s _ _ h.nodes_most);
      links_filled = fill_same _ _ (replicate max_links no_link) (link_count s) (λ k p. sym (link_at_lem s k h.links_most p));
    }

-- two such jobs that are equal are one value
abbrev job_with : ℕ → ℕ → List Node → ℕ → List Task → ℕ → List Link → Job
job_with v p ns n ts m ls =
    record { version = v; node_count = p; nodes = ns; task_count = n; tasks = ts; link_count = m; links = ls }

module _ (a b : Job) (e : SameJob a b) (ha : Sound a) (hb : Sound b) (fa : Filled a) (fb : Filled b) where
  same_node : (n : ℕ) → n < nodes a → node a n ≡ node b n
  same_node n p = ap node_from (all_of_node a b e ha hb n p)

  same_task : (j : ℕ) → j < tasks a → task a j ≡ task b j
  same_task j p =
      let runs : (task a j).run ≡ (task b j).run =
      fa.runs_filled j p
      ∙ fill_same _ _ (replicate max_nodes 0) (nodes a) (λ n q. same_run a b e j n p q)
      ∙ ap (λ m. fill m (run b j) (replicate max_nodes 0)) e.node_count_is
      ∙ sym (fb.runs_filled j (omega (arith, e.task_count_is))) in
      ap₂ task_from (all_of_task a b e ha hb j p) runs

  filled_as : {A : Type 0} (f g : ℕ → A) (l : List A) (m n : ℕ) → m ≡ n → ((i : ℕ) → i < m → f i ≡ g i) → fill m f l ≡ fill n g l
  filled_as f g l m n c h = fill_same f g l m h ∙ ap (λ k. fill k g l) c

  pub filled_same : a ≡ b
  filled_same =
      let ns = fa.nodes_filled ∙ filled_as _ _ _ _ _ e.node_count_is same_node ∙ sym fb.nodes_filled in
      let ts = fa.tasks_filled ∙ filled_as _ _ _ _ _ e.task_count_is same_task ∙ sym fb.tasks_filled in
      let ls = fa.links_filled ∙ filled_as _ _ _ _ _ e.link_count_is e.same_link ∙ sym fb.links_filled in
      ap₂ (λ v p. job_with v p a.nodes (tasks a) a.tasks (links a) a.links) e.version e.node_count_is
      ∙ ap₂ (λ x n. job_with b.version (nodes b) x n a.tasks (links a) a.links) ns e.task_count_is
      ∙ ap₂ (λ x m. job_with b.version (nodes b) b.nodes (tasks b) x m a.links) ts e.link_count_is
      ∙ ap (λ x. job_with b.version (nodes b) b.nodes (tasks b) b.tasks (links b) x) ls

-- what is read back is the job itself
pub filled_job_reread : (job : Job) → Sound job → Filled job → job_at (job_bytes job) ≡ job
filled_job_reread job h f =
    let e = sound_job_reads job h in
    filled_same _ job (job_read_back job (job_words job h) e) (job_sound (job_bytes job) e) h (read_filled (job_bytes job) e) f
