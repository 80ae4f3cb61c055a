-- What the loop of `reader::plan_file::read_places` keeps.
use Prim.Native.Nat.{ℕ, ◌+◌, ◌*◌}
use mathlib.Core.List.{List}
use mathlib.Core.Option.{none}
use lib.ListN.{get_or, replicate}
use Rattle.reader.specs.declared.job.Task.{Task}
use Rattle.reader.specs.declared.plan.Place.{Place}
use Rattle.reader.specs.Limits.{max_tasks}
use Rattle.reader.specs.Entries.{no_task, no_place}
use Rattle.reader.specs.PlanFile.{place_fault, place_at}
use Rattle.reader.proofs.ReadLoop.{ReadTo}
use Rattle.reader.proofs.plan_file.read_places.Given as goal

abbrev pub Places : List ℕ → List Task → ℕ → ℕ → ℕ → List Place → Type 0
Places file list nodes count =
    ReadTo none count (λ j. place_fault file (8 + 16 * j) nodes (get_or list j no_task).run) (λ j. place_at file (8 + 16 * j))
    (replicate max_tasks no_place) count

abbrev pub invariant-loop-j : goal.invariant-loop-j
invariant-loop-j l = Places l.file l.tasks l.nodes l.count l.j l.list
