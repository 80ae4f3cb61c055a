-- Other orders of gathering fault sets, which document 02 (v) turns down, and a job and plan that tell one of them from the order by receiving task.
use Rattle.std.specs.Prelude.{ℕ, Bool, [], ◌∷◌, eqb}
use Rattle.reader.specs.declared.job.Job.{Job}
use Rattle.reader.specs.declared.plan.Plan.{Plan}
use Rattle.reader.specs.Tests.{◌and◌, ◌or◌}
use Rattle.reader.specs.First.{any}
use Rattle.reader.specs.Entries.{links, link}
use Rattle.reader.specs.Samples.{link_of, at, plan_with}
use Rattle.rules.specs.Tables.{put}
use Rattle.rules.specs.Rules.{Row, carries}
use Rattle.rules.specs.Gathering.{with_sets}
use Rattle.rules.specs.WrongTurns.{three_tasks}

-- by sender: task j's set goes out by its weak links into the sets of later tasks
unfoldable pub send_task : Job → (ℕ → Row) → (ℕ → ℕ → Bool) → ℕ → ℕ → ℕ → Bool
send_task job t sets j i q =
    sets i q
    or any (links job) λ k. eqb (link job k).from j and carries job (with_sets t sets) i (t i).primary q k

-- link by link in file order: what link k carries joins its receiver's set at once
unfoldable pub pass_link : Job → (ℕ → Row) → (ℕ → ℕ → Bool) → ℕ → ℕ → ℕ → Bool
pass_link job t sets k =
    let j = (link job k).to in
    put sets j λ q. sets j q or carries job (with_sets t sets) j (t j).primary q k

-- two weak links meet at the last of three tasks, from primaries on different nodes
abbrev pub meeting : Job
meeting = three_tasks (link_of 0 2 2 ∷ link_of 1 2 2 ∷ [])

abbrev pub meeting_plan : Plan
meeting_plan = plan_with (at 0 0 1 5 ∷ at 1 0 2 5 ∷ at 2 6 0 17 ∷ [])
