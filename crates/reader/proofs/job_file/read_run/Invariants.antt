-- What the loop of `reader::job_file::read_run` keeps.
use Prim.Native.Nat.{ℕ, ◌+◌, ◌*◌}
use mathlib.Core.Path.{◌≡◌}
use mathlib.Core.List.{List}
use mathlib.Core.Option.{none}
use lib.ListN.{drop, replicate}
use Rattle.reader.specs.Limits.{max_nodes, max_time}
use Rattle.reader.specs.Number.{number_at, value_fault}
use Rattle.reader.proofs.ReadLoop.{ReadTo}
use Rattle.reader.proofs.job_file.read_run.Given as goal

abbrev pub Times : List ℕ → ℕ → ℕ → ℕ → List ℕ → Type 0
Times file at p = ReadTo none p (λ i. value_fault file (at + 4 * i) 0 max_time) (λ i. number_at file (at + 4 * i)) (replicate max_nodes 0) p

abbrev pub invariant-loop-i : goal.invariant-loop-i
invariant-loop-i l = (file : List ℕ) → drop l.base file ≡ l.part → Times file l.at l.nodes l.i l.times
