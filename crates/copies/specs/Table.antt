-- The flat table of copies, and the rows of the rules that it holds.
use Rattle.std.specs.Prelude.{ℕ, ◌+◌, ◌*◌, ◌≤◌, ◌<◌, true, List, ◌≡◌, get_or, length, replicate}
use Rattle.reader.specs.declared.job.Job.{Job}
use Rattle.reader.specs.Limits.{max_tasks, max_start, max_time}
use Rattle.reader.specs.Entries.{nodes}
use Rattle.rules.specs.declared.Copy.{Copy}
use Rattle.rules.specs.Copies.{domain, domains}
use Rattle.rules.specs.Rules.{Row}
use Rattle.copies.specs.declared.table.Copies.{Copies}
use Rattle.copies.specs.Sets.{has, every_group}

-- how many entries the table has
abbrev pub copy_count : ℕ
copy_count = 2 * max_tasks

abbrev pub table : List ℕ → List ℕ → List ℕ → List ℕ → Copies
table node start finish sets = record { node = node; start = start; finish = finish; set = sets }

-- the node of entry k, and its start
abbrev pub node_at : List ℕ → ℕ → ℕ
node_at node k = get_or node k 0

abbrev pub start_at : List ℕ → ℕ → ℕ
start_at start k = get_or start k 0

-- entry k, and its set
abbrev pub entry : Copies → ℕ → Copy
entry cs k = record { node = get_or cs.node k 0; start = get_or cs.start k 0; finish = get_or cs.finish k 0 }

abbrev pub set_at : Copies → ℕ → ℕ
set_at cs k = get_or cs.set k 0

-- task j's row: 2j is its primary, 2j + 1 its backup, whose set is the fault set
unfoldable pub row_of : Copies → ℕ → Row
row_of cs j = record { primary = entry cs (2 * j); backup = entry cs (2 * j + 1); faults = has (set_at cs (2 * j + 1)) }

abbrev pub empty_copies : Copies
empty_copies = let zeros : List ℕ = replicate copy_count 0 in table zeros zeros zeros zeros

-- the lists are as long as the table
pub record Whole (cs : Copies) : Type 0 where
  pub node : length cs.node ≡ copy_count
  pub start : length cs.start ≡ copy_count
  pub finish : length cs.finish ≡ copy_count
  pub set : length cs.set ≡ copy_count

-- r is the table with c, of set z, as entry k
pub record Stored (cs : Copies) (k : ℕ) (c : Copy) (z : ℕ) (r : Copies) : Type 0 where
  pub here : entry r k ≡ c
  pub here_set : set_at r k ≡ z
  pub other : (i : ℕ) → (i ≡ k → ⊥) → entry r i ≡ entry cs i
  pub other_set : (i : ℕ) → (i ≡ k → ⊥) → set_at r i ≡ set_at cs i

-- what holds of a table of j tasks
pub record Held (job : Job) (j : ℕ) (cs : Copies) : Type 0 where
  pub node : (k : ℕ) → k < 2 * j → (entry cs k).node < nodes job
  pub lasts : (k : ℕ) → k < 2 * j → (entry cs k).start < (entry cs k).finish
  pub ends : (k : ℕ) → k < 2 * j → (entry cs k).finish ≤ max_start + max_time
  -- a primary's set is every group; a fault set has the group of the primary's node, and groups only
  pub primary_set : (i : ℕ) → i < j → set_at cs (2 * i) ≡ every_group
  pub own : (i : ℕ) → i < j → has (set_at cs (2 * i + 1)) (domain job (entry cs (2 * i)).node) ≡ true
  pub within : (i q : ℕ) → i < j → has (set_at cs (2 * i + 1)) q ≡ true → q < domains job
