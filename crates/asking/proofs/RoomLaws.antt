-- Whether there is room for one task more: the tests of `full`, one after the other.
use Prim.Native.Nat.{ℕ, suc, ◌+◌, ◌≤◌, ◌<◌}
use native.Mathlib.Omega.{arith}
use mathlib.Core.Path.{◌≡◌}
use borrow.Author.Tests.{le-leb, lt-leb}
use Rattle.reader.specs.declared.job.Job.{Job}
use Rattle.reader.specs.declared.refusal.Refusal.TheVariants.{Full}
use Rattle.std.specs.Prelude.{Ok, Err}
use Rattle.reader.specs.Tests.{◌and◌}
use Rattle.reader.specs.First.{unless}
use Rattle.reader.specs.Limits.{max_tasks, max_links}
use Rattle.reader.specs.Entries.{tasks, links}
use Rattle.reader.specs.Refusals.{answered}
use Rattle.rules.specs.declared.Description.{Description}
use Rattle.rules.specs.Description.{new_links, full_fault}

module _ (job : Job) (d : Description) (n l m : ℕ) (en : tasks job ≡ n) (el : links job ≡ l) (em : new_links d ≡ m) where
  pub no_task_lem : max_tasks ≤ n → Err (Full n) ≡ answered (full_fault job d)
  unfolding full_fault unless ◌and◌
  no_task_lem h = rw (en, lt-leb (suc n) max_tasks (omega arith))

  module _ (left : n < max_tasks) where
    pub no_link_lem : max_links < l + m → Err (Full n) ≡ answered (full_fault job d)
    unfolding full_fault unless ◌and◌
    no_link_lem h = rw (en, el, em, le-leb (suc n) max_tasks (omega arith), lt-leb (l + m) max_links h)

    pub room_left : l + m ≤ max_links → (Ok tt) ≡ answered (full_fault job d)
    unfolding full_fault unless ◌and◌
    room_left h = rw (en, el, em, le-leb (suc n) max_tasks (omega arith), le-leb (l + m) max_links h)
