-- The entries of the job and of the plan in a file: each is what stands at its offset.
use Prim.Native.Nat.{ℕ, ◌+◌, ◌*◌, ◌≤◌, ◌<◌}
use mathlib.Core.Path.{◌≡◌}
use mathlib.Core.List.{List}
use lib.ListN.{get_or, replicate}
use Rattle.reader.specs.Limits.{max_nodes, max_tasks, max_links}
use Rattle.reader.specs.Entries.{no_node, no_task, blank_task, no_link, no_place, node, task, link, place}
use Rattle.reader.specs.Number.{number_at}
use Rattle.reader.specs.JobFile.{job_version, node_width, task_width, task_section, link_section, node_count, task_count, link_count, node_at, nodes_at, run_at}
use Rattle.reader.specs.JobFile.{task_at, tasks_at, link_at, links_at, job_at}
use Rattle.reader.specs.PlanFile.{place_at, places_at, plan_at}
use Rattle.reader.proofs.FillLaws.{fill_get}

module _ (s : List ℕ) where
  pub node_at_lem : (i : ℕ) → node_count s ≤ max_nodes → i < node_count s →
      node (job_at s) i ≡ node_at (job_version s) s i (8 + i * node_width (job_version s))
  unfolding job_at nodes_at
  node_at_lem i m p = fill_get _ (replicate max_nodes no_node) no_node (node_count s) i p m

  pub run_at_lem : (at p i : ℕ) → p ≤ max_nodes → i < p → get_or (run_at s at p) i 0 ≡ number_at s (at + 4 * i)
  unfolding run_at
  run_at_lem at p i m l = fill_get (λ i. number_at s (at + 4 * i)) (replicate max_nodes 0) 0 p i l m

  pub task_at_lem : (j : ℕ) → task_count s ≤ max_tasks → j < task_count s →
      task (job_at s) j
      ≡ task_at (job_version s) s (task_section (job_version s) (node_count s) + 4 + j * task_width (job_version s) (node_count s)) (node_count s)
  unfolding job_at tasks_at
  task_at_lem j m p = fill_get _ (replicate max_tasks blank_task) no_task (task_count s) j p m

  pub link_at_lem : (k : ℕ) → link_count s ≤ max_links → k < link_count s →
      link (job_at s) k ≡ link_at s (link_section (job_version s) (node_count s) (task_count s) + 4 + 12 * k)
  unfolding job_at links_at
  link_at_lem k m p = fill_get _ (replicate max_links no_link) no_link (link_count s) k p m

  pub place_at_lem : (n j : ℕ) → n ≤ max_tasks → j < n → place (plan_at s n) j ≡ place_at s (8 + 16 * j)
  unfolding plan_at places_at
  place_at_lem n j m p = fill_get _ (replicate max_tasks no_place) no_place n j p m
