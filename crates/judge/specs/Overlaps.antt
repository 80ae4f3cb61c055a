-- G over the entries of the table, and the sweep over each node's entries in order of time that finds the first pair which breaks it.
use Rattle.std.specs.Prelude.{ℕ, zero, suc, ◌+◌, ◌*◌, ◌/◌, ◌%◌, ◌<◌, min, max, Bool, not, cond, List, [], ◌∷◌, leb, ltb}
use Rattle.std.specs.Prelude.{eqb, get_or}
use Rattle.std.proofs.Math.Option.{Option}
use Rattle.reader.specs.declared.job.Node.{Node}
use Rattle.reader.specs.declared.refusal.Refusal.{Refusal}
use Rattle.reader.specs.declared.refusal.Refusal.TheVariants.{Overlap}
use Rattle.reader.specs.Limits.{max_nodes, max_tasks}
use Rattle.reader.specs.Tests.{◌and◌, ◌implies◌}
use Rattle.reader.specs.First.{◌or_else◌, first, unless}
use Rattle.copies.specs.declared.table.Copies.{Copies}
use Rattle.copies.specs.Sets.{meets}
use Rattle.copies.specs.Table.{entry, set_at}
use Rattle.copies.specs.Layout.{base_of, spots_of}
use Rattle.copies.specs.Laying.{Filled}
use Rattle.copies.specs.Clash.{clashes}
use Rattle.judge.specs.Faults.{loss_breach}

module _ (cs : Copies) where
  -- neither copy of task i clashes with entry k
  unfoldable pub apart : ℕ → ℕ → Bool
  apart i k =
      not (clashes (set_at cs k) (entry cs k) (entry cs (2 * i)) (set_at cs (2 * i)))
      and not (clashes (set_at cs k) (entry cs k) (entry cs (2 * i + 1)) (set_at cs (2 * i + 1)))

  -- nor with either copy of task j
  unfoldable pub pair_apart : ℕ → ℕ → Bool
  pair_apart i j = apart i (2 * j) and apart i (2 * j + 1)

  -- the first of n tasks above i of which a copy clashes
  unfoldable pub pair_breach : ℕ → ℕ → Option Refusal
  pair_breach n i = first n λ j. unless (ltb i j implies pair_apart i j) (Overlap i j)

  -- F, then G, over the first n tasks
  unfoldable pub fault_breach : List Node → ℕ → Option Refusal
  fault_breach nodes n = loss_breach nodes cs.node cs.set n or_else first n (pair_breach n)

-- the tasks of two entries as one number, which rises with the lower task, then with the higher; above all of them that of no pair
unfoldable pub pair_of : ℕ → ℕ → ℕ
pair_of a b = max_tasks * min (a / 2) (b / 2) + max (a / 2) (b / 2)

abbrev pub no_pair : ℕ
no_pair = max_tasks * max_tasks

-- the refusal of a pair
unfoldable pub pair_told : ℕ → Option Refusal
pair_told x = unless (eqb x no_pair) (Overlap (x / max_tasks) (x % max_tasks))

module _ (cs : Copies) where
  -- a and b, which stand on one node and are of two tasks, clash, where b starts before a's finish
  unfoldable pub meeting : ℕ → ℕ → Bool
  meeting a b = (meets (set_at cs b) (set_at cs a) and ltb (entry cs a).start (entry cs b).finish) and not (eqb (a / 2) (b / 2))

  -- the lesser of a pair and those of a with each behind it, up to the first that starts behind a's finish
  unfoldable pub pair_behind : ℕ → List ℕ → ℕ → ℕ
  pair_behind a [] noted = noted
  pair_behind a (b ∷ rest) noted =
      cond (leb (entry cs a).finish (entry cs b).start) noted (pair_behind a rest (cond (meeting a b) (min noted (pair_of a b)) noted))

  -- and those of each of a list with those behind it
  unfoldable pub pair_within : List ℕ → ℕ → ℕ
  pair_within [] noted = noted
  pair_within (a ∷ rest) noted = pair_within rest (pair_behind a rest noted)

  -- the least pair on the first m nodes
  unfoldable pub pair_on : List ℕ → List ℕ → ℕ → ℕ
  pair_on order count zero = no_pair
  pair_on order count (suc m) = pair_within (spots_of order count m) (pair_on order count m)

-- the spots of each node hold entries
abbrev pub AllFilled : List ℕ → List ℕ → Type 0
AllFilled order count = (m : ℕ) → m < max_nodes → Filled order (base_of m) (base_of m + get_or count m 0)
