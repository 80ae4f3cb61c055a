-- What the loop of `reader::job_file::read_nodes` keeps.
use Prim.Native.Nat.{ℕ, ◌+◌, ◌*◌, ◌≤◌}
use mathlib.Core.List.{List}
use lib.ListN.{replicate}
use Rattle.reader.specs.declared.job.Node.{Node}
use Rattle.reader.specs.Limits.{min_nodes, max_nodes}
use Rattle.reader.specs.Entries.{no_node}
use Rattle.reader.specs.Number.{number_at, count_fault}
use Rattle.reader.specs.Fields.{node_fields, fields_fault}
use Rattle.reader.specs.JobFile.{node_width, node_section, node_at}
use Rattle.reader.proofs.ReadLoop.{RowsTo}
use Rattle.reader.proofs.job_file.read_nodes.Given as goal

abbrev pub Nodes : ℕ → List ℕ → ℕ → ℕ → ℕ → List Node → Type 0
Nodes v file =
    RowsTo (count_fault file node_section min_nodes max_nodes) (number_at file node_section) (λ i at. fields_fault v file at (node_fields i)) (node_at v file)
    (replicate max_nodes no_node) 8 (node_width v)

abbrev pub invariant-loop-i : goal.invariant-loop-i
invariant-loop-i l =
    (l.count ≤ max_nodes) × (l.end ≤ 8 + 32 * l.i) × Nodes l.version l.file l.count l.i l.end l.list
