-- How long a file without fault is, and how long it is at most.
use Prim.Native.Nat.{ℕ, ◌≤◌}
use native.Mathlib.Nat.{mul-le-mul_right}
use native.Mathlib.Omega.{arith}
use mathlib.Core.Path.{◌≡◌, refl}
use mathlib.Core.List.{List}
use mathlib.Core.Option.{none}
use lib.ListN.{length}
use Rattle.reader.specs.declared.job.Job.{Job}
use Rattle.reader.specs.Limits.{newest_version, max_nodes, max_tasks, max_links, max_job_length, max_plan_length}
use Rattle.reader.specs.Entries.{tasks}
use Rattle.reader.specs.Sound.{Sound}
use Rattle.reader.specs.JobFile.{job_version, node_width, task_width, task_section, link_section, job_length, longest_job, node_count, task_count, link_count}
use Rattle.reader.specs.JobFile.{job_fault}
use Rattle.reader.specs.PlanFile.{plan_length, plan_fault}
use Rattle.reader.specs.Fields.{node_fields, task_fields, reaches, width_if, width}
use Rattle.reader.proofs.VersionLaws.{width_most}
use Rattle.reader.proofs.Accepted.{GoodJob, GoodPlan, job_good, plan_good}

-- 'the longest job has 10,576 bytes', 10,832 in version 2, 10,896 in version 3, and 10,960 in version 4, the newest
pub longest_is : (longest_job 1 ≡ 10_576) × (longest_job 2 ≡ 10_832) × (longest_job 3 ≡ 10_896) × (longest_job newest_version ≡ max_job_length)
unfolding node_width task_width width node_fields task_fields reaches width_if
longest_is = (refl, refl, refl, refl)

-- entries have few fields
pub fields_wide : ((n : ℕ) → length (node_fields n) ≤ 8) × (length task_fields ≤ 8)
unfolding node_fields task_fields
fields_wide = (λ n. omega arith, omega arith)

longest_most : (v : ℕ) → longest_job v ≤ max_job_length
unfolding node_width task_width node_fields task_fields
longest_most v = omega (arith, width_most v (node_fields 0), width_most v task_fields)

pub node_width_most : (v : ℕ) → node_width v ≤ 32
unfolding node_width
node_width_most v = omega (arith, width_most v (node_fields 0), fields_wide.0 0)

pub task_width_most : (v p : ℕ) → p ≤ max_nodes → task_width v p ≤ 96
unfolding task_width
task_width_most v p h = omega (arith, width_most v task_fields, fields_wide.1)

task_width_rise : (v p q : ℕ) → p ≤ q → task_width v p ≤ task_width v q
unfolding task_width
task_width_rise v p q h = omega arith

module _ (v p : ℕ) (hp : p ≤ max_nodes) where
  pub task_section_most : task_section v p ≤ 1_024
  task_section_most = omega (arith, mul-le-mul_right (node_width v) hp, node_width_most v)

  module _ (n : ℕ) (hn : n ≤ max_tasks) where
    pub link_section_most : link_section v p n ≤ 8_192
    link_section_most = omega (arith, mul-le-mul_right (task_width v p) hn, task_width_most v p hp, task_section_most)

    pub length_longest : (m : ℕ) → m ≤ max_links → job_length v p n m ≤ longest_job v
    length_longest m hm =
        omega (arith, mul-le-mul_right (node_width v) hp, mul-le-mul_right (task_width v p) hn, task_width_rise v p max_nodes hp)

    pub job_length_most : (m : ℕ) → m ≤ max_links → job_length v p n m ≤ max_job_length
    job_length_most m hm = omega (arith, length_longest m hm, longest_most v)

pub job_length_lem : (s : List ℕ) → GoodJob s → job_length (job_version s) (node_count s) (task_count s) (link_count s) ≡ length s
job_length_lem s g = omega (arith, g.links.room, g.most)

pub plan_length_lem : (s : List ℕ) (job : Job) → GoodPlan s job → plan_length (tasks job) ≡ length s
plan_length_lem s job g = omega (arith, g.room, g.most)

pub job_longest : (s : List ℕ) → job_fault s ≡ none → length s ≤ longest_job (job_version s)
job_longest s e =
    let g = job_good s e in
    let few_nodes = g.nodes.count.most in
    let few_tasks = g.tasks.count.most in
    let few_links = g.links.count.most in
    let most = length_longest (job_version s) (node_count s) few_nodes (task_count s) few_tasks (link_count s) few_links in
    omega (arith, job_length_lem s g, most)

-- the longest job of any version
pub job_most : (s : List ℕ) → job_fault s ≡ none → length s ≤ max_job_length
job_most s e = omega (arith, job_longest s e, longest_most (job_version s))

pub plan_most : (s : List ℕ) (job : Job) → Sound job → plan_fault s job ≡ none → length s ≤ max_plan_length
plan_most s job h e = omega (arith, plan_length_lem s job (plan_good s job e), h.tasks_most)
