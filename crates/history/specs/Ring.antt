-- How the window holds the newest records: a ring, in which each takes the slot of the one that leaves.
use Rattle.std.specs.Prelude.{ℕ, ◌+◌, ◌%◌, ◌≤◌, ◌<◌, ◌≡◌, get_or, length}
use Rattle.reader.specs.Limits.{max_nodes}
use Rattle.history.specs.declared.window.Timing.{Timing}
use Rattle.history.specs.declared.window.Window.{Window}
use Rattle.history.specs.Times.{window_size}
use Rattle.history.specs.Window.{cell_count, cell_of, TableAfter}

-- the lists are as long as they should be, and each slot's cell is one
pub record Formed (w : Window) : Type 0 where
  pub at_most : w.at < window_size
  pub cell_size : length w.cell ≡ window_size
  pub ticks_size : length w.ticks ≡ window_size
  pub cells : (i : ℕ) → get_or w.cell i 0 < cell_count

-- slot i has a record
pub record InSlot (w : Window) (i : ℕ) (x : Timing) : Type 0 where
  pub cell : get_or w.cell i 0 ≡ cell_of x.task x.node
  pub ticks : get_or w.ticks i 0 ≡ x.ticks

-- the window after the first c of a row of records: each of the newest in its slot, and no ticks in a slot that was not reached
pub record Holding (all : ℕ → Timing) (c : ℕ) (w : Window) : Type 0 where
  pub at_is : w.at ≡ c % window_size
  pub slot : (k : ℕ) → k < c → c ≤ k + window_size → InSlot w (k % window_size) (all k)
  pub blank : (i : ℕ) → c ≤ i → get_or w.ticks i 0 ≡ 0

-- v is window w after record x came in: if w is the window of the first c of any records, and x is the next, v is that of c + 1, and has their table
pub record Takes (w : Window) (x : Timing) (v : Window) : Type 0 where
  pub formed : Formed v
  pub holds : (all : ℕ → Timing) (c : ℕ) → all c ≡ x → Holding all c w → Holding all (c + 1) v
  pub table : (all : ℕ → Timing) (c : ℕ) → all c ≡ x → Holding all c w → ((k : ℕ) → k < c + 1 → (all k).node < max_nodes)
      → TableAfter all (c + 1) v
