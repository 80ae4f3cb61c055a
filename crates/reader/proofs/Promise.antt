-- What reading promises: the job in a file without fault is sound, and so is a plan after its job.
use Prim.Native.Nat.{ℕ, suc, ◌+◌, ◌*◌, ◌≤◌, ◌<◌}
use native.Mathlib.Omega.{arith}
use mathlib.Core.Path.{◌≡◌, refl, sym, subst, ap}
use mathlib.Core.Bool.{true}
use mathlib.Core.List.{List}
use mathlib.Core.Option.{none}
use lib.ListN.{get_or}
use Rattle.reader.specs.declared.job.Task.{Task}
use Rattle.reader.specs.declared.job.Link.{Link}
use Rattle.reader.specs.declared.job.Job.{Job}
use Rattle.reader.specs.declared.plan.Plan.{Plan}
use Rattle.std.specs.Prelude.{Ok}
use Rattle.reader.specs.Refusals.{resulted, answer_of}
use Rattle.reader.specs.Limits.{plan_version, min_tasks, max_nodes, max_time}
use Rattle.reader.specs.Entries.{nodes, tasks, node, task, link, place}
use Rattle.reader.specs.Sound.{below, Sound, SoundPlace, PlanSound}
use Rattle.reader.specs.JobFile.{job_version, node_count, task_count, link_count, node_at, task_at, link_at, link_before, job_fault, job_at}
use Rattle.reader.specs.JobFile.{read_job, JobDone}
use Rattle.reader.specs.Fields.{node_fields, task_fields, node_values, task_values, reaches, width, fields_at}
use Rattle.reader.specs.PlanFile.{place_at, plan_fault, plan_at, read_plan, PlanDone}
use Rattle.reader.proofs.RefusalLaws.{done_none}
use Rattle.reader.proofs.VersionLaws.{GoodFields, AllWithin, fields_within, within_most, within_lacks}
use Rattle.reader.proofs.Accepted.{GoodTask, GoodLink, GoodJob, GoodPlace, GoodPlan, job_good, plan_good}
use Rattle.reader.proofs.EntryLaws.{node_at_lem, run_at_lem, task_at_lem, link_at_lem, place_at_lem}

-- what is promised of one node in version v, of one task, of one link between n tasks, and of one place
node_sound : (v : ℕ) (s : List ℕ) (i at : ℕ) → GoodFields v s at (node_fields i) → AllWithin v (node_fields i) (node_values (node_at v s i at))
unfolding node_at fields_at node_fields
node_sound v s i at = fields_within v s at (node_fields i)

pub record SoundTask (v p : ℕ) (t : Task) : Type 0 where
  pub fields : AllWithin v task_fields (task_values t)
  pub run : (i : ℕ) → i < p → get_or t.run i 0 ≤ max_time

pub task_sound : (v : ℕ) (s : List ℕ) (at p : ℕ) → p ≤ max_nodes → GoodTask v s at p → SoundTask v p (task_at v s at p)
unfolding task_at fields_at task_fields
task_sound v s at p m g = record {
  fields = fields_within v s at task_fields g.fields;
  run = λ i l. omega (arith, run_at_lem s (at + width v task_fields) p i m l, (g.run i l).most);
}

pub record SoundLink (n : ℕ) (l : Link) : Type 0 where
  pub rise : l.from < l.to
  pub into : l.to < n
  pub delay : l.delay ≤ max_time

link_sound : (s : List ℕ) (at n : ℕ) (before : Link) → min_tasks ≤ n → GoodLink s at n before → SoundLink n (link_at s at)
unfolding link_at
link_sound s at n before m g = record { rise = omega (arith, g.to); into = omega (arith, g.to); delay = g.delay.most }

pub place_sound : (s : List ℕ) (at p : ℕ) (run : List ℕ) → 0 < p → GoodPlace s at p run → SoundPlace p run (place_at s at)
unfolding place_at
place_sound s at p run m g = record {
  primary_node = omega (arith, g.primary_node.number);
  primary_able = g.primary_node.able;
  primary_start = g.primary_start.most;
  backup_node = omega (arith, g.backup_node.number);
  backup_able = g.backup_node.able;
  backup_start = g.backup_start.most;
}

module _ (s : List ℕ) (g : GoodJob s) where
  nodes_sound : (i : ℕ) → i < node_count s → AllWithin (job_version s) (node_fields i) (node_values (node (job_at s) i))
  nodes_sound i p =
      subst (λ x. AllWithin (job_version s) (node_fields i) (node_values x)) (sym (node_at_lem s i g.nodes.count.most p))
      (node_sound (job_version s) s i _ (g.nodes.entry i p))

  tasks_sound : (j : ℕ) → j < task_count s → SoundTask (job_version s) (node_count s) (task (job_at s) j)
  tasks_sound j p =
      subst (λ t. SoundTask (job_version s) (node_count s) t) (sym (task_at_lem s j g.tasks.count.most p))
      (task_sound (job_version s) s _ (node_count s) g.nodes.count.most (g.tasks.task j p))

  links_sound : (k : ℕ) → k < link_count s → SoundLink (task_count s) (link (job_at s) k)
  links_sound k p =
      subst (λ l. SoundLink (task_count s) l) (sym (link_at_lem s k g.links.count.most p))
      (link_sound s _ (task_count s) _ g.tasks.count.least (g.links.link k p))

  links_order : (k : ℕ) → suc k < link_count s → below (link (job_at s) k) (link (job_at s) (suc k)) ≡ true
  unfolding link_before
  links_order k p =
      rw (link_at_lem s k g.links.count.most (omega arith), link_at_lem s (suc k) g.links.count.most p)
      (g.links.link (suc k) p).order

pub job_sound : (s : List ℕ) → job_fault s ≡ none → Sound (job_at s)
unfolding job_at AllWithin node_fields task_fields reaches
job_sound s e =
    let g = job_good s e in
    let node = nodes_sound s g in
    let task = tasks_sound s g in
    record {
      version_least = g.version.least;
      version_most = g.version.most;
      nodes_least = g.nodes.count.least;
      nodes_most = g.nodes.count.most;
      detect_most = λ i p. (node i p).0.most refl;
      send_most = λ i p. within_most _ _ _ (node i p).1.0 (omega arith);
      send_lacks = λ i p. within_lacks _ _ _ (node i p).1.0;
      group_most = λ i p. within_most _ _ _ (node i p).1.1.0 (omega (arith, g.nodes.count.most));
      group_lacks = λ i p. within_lacks _ _ _ (node i p).1.1.0;
      tasks_least = g.tasks.count.least;
      tasks_most = g.tasks.count.most;
      ready_most = λ j p. within_most _ _ _ (task j p).fields.0 (omega arith);
      ready_lacks = λ j p. within_lacks _ _ _ (task j p).fields.0;
      deadline_least = λ j p. (task j p).fields.1.0.least refl;
      deadline_most = λ j p. (task j p).fields.1.0.most refl;
      run_most = λ j i p l. (task j p).run i l;
      links_most = g.links.count.most;
      rise = λ k p. (links_sound s g k p).rise;
      into = λ k p. (links_sound s g k p).into;
      delay_most = λ k p. (links_sound s g k p).delay;
      order = links_order s g;
    }

places_sound : (s : List ℕ) (job : Job) → Sound job → GoodPlan s job → (j : ℕ) → j < tasks job →
    SoundPlace (nodes job) (task job j).run (place (plan_at s (tasks job)) j)
places_sound s job h g j p =
    subst (λ x. SoundPlace (nodes job) (task job j).run x) (sym (place_at_lem s (tasks job) j h.tasks_most p))
    (place_sound s (8 + 16 * j) (nodes job) (task job j).run (omega (arith, h.nodes_least)) (g.place j p))

-- a sound plan has sound places, and the other way round
module _ (job : Job) (plan : Plan) where
  pub place_of : PlanSound job plan → (j : ℕ) → j < tasks job → SoundPlace (nodes job) (task job j).run (place plan j)
  place_of g j p = record {
    primary_node = g.primary_node j p;
    primary_able = g.primary_able j p;
    primary_start = g.primary_start j p;
    backup_node = g.backup_node j p;
    backup_able = g.backup_able j p;
    backup_start = g.backup_start j p;
  }

  pub of_places : plan.version ≡ plan_version → plan.task_count ≡ tasks job
      → ((j : ℕ) → j < tasks job → SoundPlace (nodes job) (task job j).run (place plan j)) → PlanSound job plan
  of_places v c g = record {
    version = v;
    count = c;
    primary_node = λ j p. (g j p).primary_node;
    primary_able = λ j p. (g j p).primary_able;
    primary_start = λ j p. (g j p).primary_start;
    backup_node = λ j p. (g j p).backup_node;
    backup_able = λ j p. (g j p).backup_able;
    backup_start = λ j p. (g j p).backup_start;
  }

pub plan_sound : (s : List ℕ) (job : Job) → Sound job → plan_fault s job ≡ none → PlanSound job (plan_at s (tasks job))
unfolding plan_at
plan_sound s job h e =
    let g = plan_good s job e in
    of_places job _ (omega (arith, g.version)) (omega (arith, g.count)) (places_sound s job h g)

-- the same of what the functions give
pub job_done : (s : List ℕ) → answer_of (read_job s) ≡ Ok tt → JobDone s
unfolding read_job
job_done s d =
    let e = done_none _ (job_fault s) d in
    record { fault = e; job = ap (λ o. resulted o (job_at s)) e; sound = job_sound s e }

pub plan_done : (s : List ℕ) (job : Job) → Sound job → answer_of (read_plan s job) ≡ Ok tt → PlanDone s job
unfolding read_plan
plan_done s job h d =
    let e = done_none _ (plan_fault s job) d in
    record { fault = e; plan = ap (λ o. resulted o (plan_at s (tasks job))) e; sound = plan_sound s job h e }
