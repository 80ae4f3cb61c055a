-- What a node entry and a task entry of a job file hold, by version: reading, writing, offsets and faults are made of the two tables here.
use Rattle.std.specs.Prelude.{ℕ, zero, suc, ◌+◌, Bool, true, false, List, [], ◌∷◌, leb, get_or}
use Rattle.std.proofs.Math.Option.{Option, none}
use Rattle.reader.specs.declared.job.Node.{Node}
use Rattle.reader.specs.declared.job.Task.{Task}
use Rattle.reader.specs.declared.refusal.Refusal.{Refusal}
use Rattle.reader.specs.First.{◌or_else◌}
use Rattle.reader.specs.Limits.{ready_since, send_since, group_since, max_detect, max_send, max_group, min_deadline, max_time}
use Rattle.reader.specs.Number.{number_at, value_fault}

-- a number of an entry: the first version that has it (0: every version has it), its limits, and what it counts as where the version lacks it
pub record Field : Type 0 where
  pub since : ℕ
  pub low : ℕ
  pub high : ℕ
  pub lacking : ℕ

-- one of every version
abbrev pub always : ℕ → ℕ → Field
always low high = record { since = 0; low = low; high = high; lacking = 0 }

-- of node n: 'per node its detect time (0 to 1,000)'; (iv) 'Job version 3 adds to each node a send time (0 to 1,000), after its detect time. ..
-- Versions 1 and 2 read as send 0'; (vi) 'Job version 4 gives each node, after its send time, a supply group (0 to 15); in older versions each
-- node is its own group'
unfoldable pub node_fields : ℕ → List Field
node_fields n =
    always 0 max_detect
    ∷ record { since = send_since; low = 0; high = max_send; lacking = 0 }
    ∷ record { since = group_since; low = 0; high = max_group; lacking = n }
    ∷ []

-- (ii) 'a ready time (0 to 1,000,000), written before its deadline in job version 2. .. Version 1 jobs read as ready 0'; 'its deadline
-- (1 to 1,000,000)'; behind them stand the run times
unfoldable pub task_fields : List Field
task_fields = record { since = ready_since; low = 0; high = max_time; lacking = 0 } ∷ always min_deadline max_time ∷ []

-- the values of an entry, one for each field; and the entry of such values
abbrev pub node_values : Node → List ℕ
node_values x = x.detect ∷ x.send ∷ x.group ∷ []

abbrev pub node_from : List ℕ → Node
node_from xs = record { detect = get_or xs 0 0; send = get_or xs 1 0; group = get_or xs 2 0 }

abbrev pub task_values : Task → List ℕ
task_values x = x.ready ∷ x.deadline ∷ []

abbrev pub task_from : List ℕ → List ℕ → Task
task_from xs run = record { ready = get_or xs 0 0; deadline = get_or xs 1 0; run = run }

-- of a field that the version has, or lacks: its bytes, its fault, its value, and its value before those of the fields behind it
unfoldable pub width_if : Bool → ℕ
width_if true = 4
width_if false = 0

unfoldable pub fault_if : Bool → Option Refusal → Option Refusal
fault_if true o = o
fault_if false o = none

unfoldable pub value_if : Bool → ℕ → ℕ → ℕ
value_if true x lacking = x
value_if false x lacking = lacking

unfoldable pub held_if : Bool → ℕ → List ℕ → List ℕ
held_if true x xs = x ∷ xs
held_if false x xs = xs

-- whether version v is k or later; by clauses, so that of a field of every version it computes
unfoldable pub reaches : ℕ → ℕ → Bool
reaches v zero = true
reaches v (suc k) = leb (suc k) v

module _ (v : ℕ) where
  -- whether version v has the field
  abbrev pub has : Field → Bool
  has f = reaches v f.since

  -- the bytes of these fields
  unfoldable pub width : List Field → ℕ
  width [] = 0
  width (f ∷ fs) = width_if (has f) + width fs

  -- their first fault, and their values, from an offset
  unfoldable pub fields_fault : List ℕ → ℕ → List Field → Option Refusal
  fields_fault s at [] = none
  fields_fault s at (f ∷ fs) = fault_if (has f) (value_fault s at f.low f.high) or_else fields_fault s (at + width_if (has f)) fs

  unfoldable pub fields_at : List ℕ → ℕ → List Field → List ℕ
  fields_at s at [] = []
  fields_at s at (f ∷ fs) = value_if (has f) (number_at s at) f.lacking ∷ fields_at s (at + width_if (has f)) fs

  -- 'A field that a job's version lacks is no part of the job': of these values those whose fields version v has
  unfoldable pub held : List Field → List ℕ → List ℕ
  held [] xs = []
  held (f ∷ fs) [] = []
  held (f ∷ fs) (x ∷ xs) = held_if (has f) x (held fs xs)
