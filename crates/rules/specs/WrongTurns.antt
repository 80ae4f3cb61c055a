-- Wrong rules that document 01 warns of, and jobs and plans that tell them from the rules.
use Rattle.std.specs.Prelude.{ℕ, Bool, not, List, [], ◌∷◌, eqb}
use Rattle.reader.specs.declared.job.Job.{Job}
use Rattle.reader.specs.declared.job.Link.{Link}
use Rattle.reader.specs.declared.plan.Plan.{Plan}
use Rattle.reader.specs.Tests.{◌and◌, ◌or◌}
use Rattle.reader.specs.First.{any}
use Rattle.reader.specs.Entries.{tasks, links, link}
use Rattle.reader.specs.Samples.{job_of, task_of, link_of, at, plan_with}
use Rattle.rules.specs.declared.Loss.{Loss}
use Rattle.rules.specs.declared.Times.{Times}
use Rattle.rules.specs.Copies.{overlap, domain}
use Rattle.rules.specs.Rules.{Row, strong, rule_g_primary}
use Rattle.rules.specs.Times.{ended_rows}
use Rattle.rules.specs.Replay.{TaskRun, runs_to}

-- three tasks of run 4 on three nodes
abbrev pub three_tasks : List Link → Job
three_tasks = job_of (task_of 30 4 ∷ task_of 30 4 ∷ task_of 30 4 ∷ [])

-- 'Testing only direct predecessors for F': fault sets without the longer paths
unfoldable pub direct_faults : Job → (ℕ → Row) → ℕ → ℕ → Bool
direct_faults job t j q =
    eqb (domain job (t j).primary.node) q
    or any (links job) λ k.
    let l = link job k in
    eqb l.to j and not (strong job l (t l.from) (t j).primary) and eqb (domain job (t l.from).primary.node) q

unfoldable pub with_direct_faults : Job → (ℕ → Row) → ℕ → Row
with_direct_faults job t j = record { primary = (t j).primary; backup = (t j).backup; faults = direct_faults job t j }

-- a chain of weak links, the last backup on the first primary's node
abbrev pub chain : Job
chain = three_tasks (link_of 0 1 2 ∷ link_of 1 2 2 ∷ [])

abbrev pub chain_plan : Plan
chain_plan = plan_with (at 0 0 1 5 ∷ at 2 6 1 11 ∷ at 2 10 0 17 ∷ [])

-- 'Sharing backup time whenever two primaries are on different nodes'
unfoldable pub free_g : Row → Row → Bool
free_g r s =
    rule_g_primary r s.primary
    and not (overlap r.primary s.backup)
    and not (overlap r.backup s.backup and eqb r.primary.node s.primary.node)

-- one weak link, and its receiver's backup shares time with that of a task beside the link's sender
abbrev pub linked : Job
linked = three_tasks (link_of 0 1 2 ∷ [])

abbrev pub linked_plan : Plan
linked_plan = plan_with (at 0 0 1 5 ∷ at 2 6 1 11 ∷ at 0 4 1 11 ∷ [])

-- (viii) rule B tested with the actual end
abbrev pub actual_b : Job → Plan → Times → Loss → ℕ → TaskRun
actual_b job plan times loss = runs_to job (ended_rows job plan times) (ended_rows job plan times) loss (tasks job)
