-- What the loop of `reader::job_file::read_tasks` keeps.
use Prim.Native.Nat.{ℕ, ◌+◌, ◌*◌, ◌≤◌}
use mathlib.Core.Path.{◌≡◌}
use mathlib.Core.List.{List}
use lib.ListN.{drop, replicate}
use Rattle.reader.specs.declared.job.Task.{Task}
use Rattle.reader.specs.Limits.{min_tasks, max_tasks}
use Rattle.reader.specs.Entries.{blank_task}
use Rattle.reader.specs.Number.{number_at, count_fault}
use Rattle.reader.specs.JobFile.{task_width, task_fault, task_at}
use Rattle.reader.proofs.ReadLoop.{RowsTo}
use Rattle.reader.proofs.job_file.read_tasks.Given as goal

abbrev pub Tasks : ℕ → List ℕ → ℕ → ℕ → ℕ → ℕ → ℕ → List Task → Type 0
Tasks v file base p =
    RowsTo (count_fault file base min_tasks max_tasks) (number_at file base) (λ i at. task_fault v file at p) (λ i at. task_at v file at p)
    (replicate max_tasks blank_task) (base + 4) (task_width v p)

abbrev pub invariant-loop-i : goal.invariant-loop-i
invariant-loop-i l =
    (l.count ≤ max_tasks)
    × (l.base ≤ l.end)
    × (l.end ≤ l.base + 4 + 96 * l.i)
    × ((file : List ℕ) → drop l.base file ≡ l.part → Tasks l.version file l.base l.nodes l.count l.i l.end l.list)
