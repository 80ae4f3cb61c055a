-- What the loop of `seqopchi::put_sets` keeps.
use Prim.Native.Nat.{◌+◌, ◌*◌, ◌≤◌}
use mathlib.Core.List.{[], ◌∷◌}
use lib.ListN.{get_or}
use Rattle.writer.specs.Puts.{Rows}
use Rattle.seqopchi.proofs.put_sets.Given as goal

abbrev pub invariant-loop-j : goal.invariant-loop-j
invariant-loop-j l = (l.j ≤ l.n) × Rows (λ j. get_or l.sets (2 * j + 1) 0 ∷ []) 4 l.initial.out 0 l.j l.out (4 * l.j)
