-- The numbers of the job, and of the plan, in a file without fault are the numbers of the file.
use Prim.Native.Nat.{ℕ, ◌+◌, ◌*◌, ◌≤◌, min}
use native.Mathlib.Nat.{min-eq_left}
use native.Mathlib.Omega.{arith}
use mathlib.Core.Path.{◌≡◌, refl, ap}
use mathlib.Core.List.{List, [], ◌∷◌}
use lib.ListN.{length, get_or}
use Rattle.reader.specs.declared.job.Job.{Job}
use Rattle.reader.specs.Limits.{max_nodes, max_tasks, max_links}
use Rattle.reader.specs.Entries.{nodes, tasks, links, node, link, task, place}
use Rattle.reader.specs.Sound.{Sound}
use Rattle.reader.specs.Number.{number_at}
use Rattle.reader.specs.JobFile.{job_version, node_width, task_width, task_section, link_section, job_length, node_count, task_count, link_count}
use Rattle.reader.specs.JobFile.{node_at, run_at, task_at, link_at, job_at}
use Rattle.reader.specs.Fields.{node_fields, task_fields, width, fields_at, held}
use Rattle.reader.specs.PlanFile.{place_at, plan_at, plan_length}
use Rattle.writer.specs.Write.{flat, node_numbers, task_numbers, link_numbers, place_numbers, numbers_of, job_numbers, plan_numbers}
use Rattle.reader.proofs.Accepted.{GoodJob, GoodPlan}
use Rattle.reader.proofs.LengthLaws.{job_length_lem, plan_length_lem}
use Rattle.reader.proofs.EntryLaws.{node_at_lem, run_at_lem, task_at_lem, link_at_lem, place_at_lem}
use Rattle.writer.proofs.Segments.{Stands, stands_one, stands_two, stands_last, stands_append, stands_flat}
use Rattle.writer.proofs.HeldLaws.{fields_stand}

-- the numbers of one entry, from the offset where it stands
node_stands : (v : ℕ) (s : List ℕ) (i at : ℕ) → Stands s at (node_numbers v (node_at v s i at)) (at + node_width v)
unfolding node_numbers node_at node_width node_fields width held fields_at
node_stands v s i at = fields_stand v (node_fields i) s at

task_stands : (v : ℕ) (s : List ℕ) (at p : ℕ) → p ≤ max_nodes → Stands s at (task_numbers v p (task_at v s at p)) (at + task_width v p)
unfolding task_numbers task_at task_width task_fields fields_at
task_stands v s at p m =
    let behind = at + width v task_fields in
    let z : behind + 4 * p ≡ at + (width v task_fields + 4 * p) = omega arith in
    let runs = stands_flat s (λ i. behind + 4 * i) 4 (λ i. get_or (run_at s behind p) i 0 ∷ []) p behind (omega arith) (λ i. omega arith)
    (λ i l. stands_last s _ _ (run_at_lem s behind p i m l)) in
    stands_append s _ _ at behind _ (fields_stand v task_fields s at) (rw z at runs)

further : (s : List ℕ) (a b : ℕ) → a ≡ b → number_at s a ≡ number_at s b
further s a b e = ap (λ k. number_at s k) e

pub link_stands : (s : List ℕ) (at : ℕ) → Stands s at (link_numbers (link_at s at)) (at + 12)
unfolding link_numbers link_at Stands
link_stands s at = (refl, (refl, (further s (at + 8) (at + 4 + 4) (omega arith), omega arith)))

pub place_stands : (s : List ℕ) (at : ℕ) → Stands s at (place_numbers (place_at s at)) (at + 16)
unfolding place_numbers place_at Stands
place_stands s at =
    (refl, (refl, (further s (at + 8) (at + 4 + 4) (omega arith), (further s (at + 12) (at + 4 + 4 + 4) (omega arith), omega arith))))

-- counts within their limits clip nothing
pub job_numbers_lem : (job : Job) → nodes job ≤ max_nodes → tasks job ≤ max_tasks → links job ≤ max_links →
    job_numbers job ≡ numbers_of job (nodes job) (tasks job) (links job)
unfolding job_numbers
job_numbers_lem job p n m = rw (min-eq_left p, min-eq_left n, min-eq_left m)

module _ (s : List ℕ) (g : GoodJob s) where
  abbrev v : ℕ
  v = job_version s

  abbrev p : ℕ
  p = node_count s

  abbrev n : ℕ
  n = task_count s

  nodes_stand : Stands s 8 (flat p (λ i. node_numbers v (node (job_at s) i))) (task_section v p)
  nodes_stand =
      stands_flat s (λ i. 8 + i * node_width v) (node_width v) (λ i. node_numbers v (node (job_at s) i)) p 8 (omega arith) (λ i. omega arith)
      (λ i l. rw (node_at_lem s i g.nodes.count.most l) (node_stands v s i _))

  tasks_stand : Stands s (task_section v p + 4) (flat n (λ j. task_numbers v p (task (job_at s) j))) (link_section v p n)
  tasks_stand =
      stands_flat s (λ j. task_section v p + 4 + j * task_width v p) (task_width v p) (λ j. task_numbers v p (task (job_at s) j)) n
      (task_section v p + 4) (omega arith) (λ j. omega arith)
      (λ j l. rw (task_at_lem s j g.tasks.count.most l) (task_stands v s _ p g.nodes.count.most))

  links_stand : Stands s (link_section v p n + 4) (flat (link_count s) (λ k. link_numbers (link (job_at s) k))) (job_length v p n (link_count s))
  links_stand =
      stands_flat s (λ k. link_section v p n + 4 + 12 * k) 12 (λ k. link_numbers (link (job_at s) k)) (link_count s)
      (link_section v p n + 4) (omega arith) (λ k. omega arith)
      (λ k l. rw (link_at_lem s k g.links.count.most l) (link_stands s _))

  numbers_stand : Stands s 0 (numbers_of (job_at s) p n (link_count s)) (job_length v p n (link_count s))
  unfolding numbers_of job_at
  numbers_stand =
      stands_append s _ _ _ _ _ (stands_two s 0)
      (stands_append s _ _ _ _ _ nodes_stand
      (stands_append s _ _ _ _ _ (stands_one s (task_section v p))
      (stands_append s _ _ _ _ _ tasks_stand
      (stands_append s _ _ _ _ _ (stands_one s (link_section v p n)) links_stand))))

  pub job_stands : Stands s 0 (job_numbers (job_at s)) (length s)
  unfolding job_at
  job_stands =
      rw (job_numbers_lem (job_at s) g.nodes.count.most g.tasks.count.most g.links.count.most, ← job_length_lem s g) numbers_stand

module _ (s : List ℕ) (job : Job) (h : Sound job) (g : GoodPlan s job) where
  places_stand : Stands s 8 (flat (tasks job) (λ j. place_numbers (place (plan_at s (tasks job)) j))) (plan_length (tasks job))
  places_stand =
      stands_flat s (λ j. 8 + 16 * j) 16 (λ j. place_numbers (place (plan_at s (tasks job)) j)) (tasks job) 8 refl (λ j. omega arith)
      (λ j p. rw (place_at_lem s (tasks job) j h.tasks_most p) (place_stands s _))

  pub plan_stands : Stands s 0 (plan_numbers (plan_at s (tasks job))) (length s)
  unfolding plan_numbers plan_at
  plan_stands =
      let n : min (number_at s 4) max_tasks ≡ tasks job = omega (arith, g.count, h.tasks_most) in
      rw (n, ← plan_length_lem s job g) (stands_append s _ _ _ _ _ (stands_two s 0) places_stand)
