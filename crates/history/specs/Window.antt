-- The window of the newest records, as a value of the code, and its table.
use Rattle.std.specs.Prelude.{ℕ, ◌+◌, ◌*◌, ◌<◌, cond, List, ◌≡◌, eqb, get_or, replicate}
use Rattle.reader.specs.declared.job.Job.{Job}
use Rattle.reader.specs.Limits.{max_nodes, max_tasks}
use Rattle.reader.specs.Entries.{run}
use Rattle.history.specs.declared.window.Timing.{Timing}
use Rattle.history.specs.declared.window.Window.{Window}
use Rattle.history.specs.Times.{most, or_else_run, window_size, time_after}

-- a cell for each task and node
abbrev pub cell_count : ℕ
cell_count = max_tasks * max_nodes

abbrev pub cell_of : ℕ → ℕ → ℕ
cell_of j n = max_nodes * j + n

abbrev pub window : List ℕ → List ℕ → ℕ → Window
window cell ticks at = record { cell = cell; ticks = ticks; at = at }

-- before the first record: ticks of 0, which no record has
abbrev pub empty_window : Window
empty_window = window (replicate window_size 0) (replicate window_size 0) 0

-- what slot i of a window counts for cell p
abbrev pub counts : Window → ℕ → ℕ → ℕ
counts w p i = cond (eqb (get_or w.cell i 0) p) (get_or w.ticks i 0) 0

-- the largest ticks of a cell in a window
unfoldable pub seen_in : Window → ℕ → ℕ
seen_in w p = most window_size (counts w p)

-- a window's table for a job
abbrev pub time_in : Window → Job → ℕ → ℕ → ℕ
time_in w job j n = or_else_run (seen_in w (cell_of j n)) (run job j n)

-- a list has the largest ticks of each cell in a window
pub record Seen (w : Window) (seen : List ℕ) : Type 0 where
  pub is : (p : ℕ) → get_or seen p 0 ≡ seen_in w p

-- 'after every record the table equals one worked out afresh from those records', for every job
abbrev pub TableAfter : (ℕ → Timing) → ℕ → Window → Type 0
TableAfter all c w = (job : Job) (j n : ℕ) → n < max_nodes → time_in w job j n ≡ time_after job all c j n
