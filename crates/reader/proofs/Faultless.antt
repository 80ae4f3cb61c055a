-- A section whose numbers are within their limits, and which lies within the file, is not at fault.
use Prim.Native.Nat.{ℕ, ◌-◌, ◌≤◌}
use native.Mathlib.Omega.{arith}
use mathlib.Core.Path.{◌≡◌}
use mathlib.Core.List.{List}
use mathlib.Core.Option.{none}
use lib.ListN.{length, get_or}
use borrow.Author.Tests.{le-leb, lt-ltb}
use Rattle.reader.specs.declared.job.Link.{Link}
use Rattle.reader.specs.declared.job.Job.{Job}
use Rattle.reader.specs.Number.{number_at}
use Rattle.reader.specs.JobFile.{nodes_fault, run_fault, task_fault, tasks_fault, link_fault, links_fault, tail_fault, job_fault}
use Rattle.reader.specs.PlanFile.{node_fault, place_fault, places_fault, plan_fault}
use Rattle.reader.proofs.FirstLaws.{or_else_i, none_unless, first_none}
use Rattle.reader.proofs.FieldLaws.{Good, good_field}
use Rattle.reader.proofs.VersionLaws.{good_fields}
use Rattle.reader.proofs.Accepted.{GoodNodes, GoodTask, GoodTasks, GoodLink, GoodLinks, GoodJob, GoodNode, GoodPlace, GoodPlan}

module _ (s : List ℕ) where
  good_nodes : (v : ℕ) → GoodNodes v s → nodes_fault v s ≡ none
  unfolding nodes_fault
  good_nodes v g = or_else_i _ _ (good_field s _ _ _ _ g.count) (first_none _ _ (λ i p. good_fields v s _ _ (g.entry i p)))

  good_task : (v at p : ℕ) → GoodTask v s at p → task_fault v s at p ≡ none
  unfolding task_fault run_fault
  good_task v at p g = or_else_i _ _ (good_fields v s _ _ g.fields) (first_none _ _ (λ i l. good_field s _ _ _ _ (g.run i l)))

  good_tasks : (v at p : ℕ) → GoodTasks v s at p → tasks_fault v s at p ≡ none
  unfolding tasks_fault
  good_tasks v at p g = or_else_i _ _ (good_field s _ _ _ _ g.count) (first_none _ _ (λ j l. good_task v _ p (g.task j l)))

  good_link : (at n : ℕ) (before : Link) → GoodLink s at n before → link_fault s at n before ≡ none
  unfolding link_fault
  good_link at n before g =
      let from : Good s at 0 (n - 1) = omega (arith, g.to) in
      or_else_i _ _ (good_field s _ _ _ _ from)
      (or_else_i _ _ (good_field s _ _ _ _ g.to) (or_else_i _ _ (good_field s _ _ _ _ g.delay) (none_unless _ _ g.order)))

  good_links : (at n : ℕ) → GoodLinks s at n → links_fault s at n ≡ none
  unfolding links_fault
  good_links at n g = or_else_i _ _ (good_field s _ _ _ _ g.count) (first_none _ _ (λ k l. good_link _ n _ (g.link k l)))

  pub good_tail : (end : ℕ) → length s ≤ end → tail_fault s end ≡ none
  unfolding tail_fault
  good_tail end h = none_unless _ _ (le-leb (length s) end h)

  pub good_job : GoodJob s → job_fault s ≡ none
  unfolding job_fault
  good_job g =
      or_else_i _ _ (good_field s _ _ _ _ g.version)
      (or_else_i _ _ (good_nodes _ g.nodes)
      (or_else_i _ _ (good_tasks _ _ _ g.tasks) (or_else_i _ _ (good_links _ _ g.links) (good_tail _ g.most))))

  pub good_node : (at p : ℕ) (run : List ℕ) → GoodNode s at p run → node_fault s at p run ≡ none
  unfolding node_fault
  good_node at p run g = or_else_i _ _ (good_field s _ _ _ _ g.number) (none_unless _ _ (lt-ltb 0 (get_or run (number_at s at) 0) g.able))

  pub good_place : (at p : ℕ) (run : List ℕ) → GoodPlace s at p run → place_fault s at p run ≡ none
  unfolding place_fault
  good_place at p run g =
      or_else_i _ _ (good_node _ _ _ g.primary_node)
      (or_else_i _ _ (good_field s _ _ _ _ g.primary_start)
      (or_else_i _ _ (good_node _ _ _ g.backup_node) (good_field s _ _ _ _ g.backup_start)))

  pub good_plan : (job : Job) → GoodPlan s job → plan_fault s job ≡ none
  unfolding plan_fault places_fault
  good_plan job g =
      or_else_i _ _ (good_field s _ _ _ _ g.version)
      (or_else_i _ _ (good_field s _ _ _ _ g.count)
      (or_else_i _ _ (first_none _ _ (λ j p. good_place _ _ _ (g.place j p))) (good_tail _ g.most)))
