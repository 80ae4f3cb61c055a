-- Whether a job has room for one task more and its links: 20 is given exactly where it has not.
use Prim.Native.Nat.{suc, ◌+◌}
use mathlib.Core.Path.{◌≡◌}
use mathlib.Core.Logic.{◌↔◌}
use mathlib.Core.Option.{none}
use borrow.Author.Tests.{leb-true, le-leb}
use Rattle.reader.specs.declared.job.Job.{Job}
use Rattle.reader.specs.Limits.{max_tasks, max_links}
use Rattle.reader.specs.Entries.{tasks, links}
use Rattle.reader.proofs.TestLaws.{and_l, and_r, and_i}
use Rattle.reader.proofs.FirstLaws.{unless_none, none_unless}
use Rattle.rules.specs.declared.Description.{Description}
use Rattle.rules.specs.Description.{new_links, Room, full_fault}

-- '20, full, at the 65th task or 513th link'
pub full_room : (job : Job) (d : Description) → (full_fault job d ≡ none) ↔ Room job d
unfolding full_fault
full_room job d = (
  λ h.
      let fits = unless_none _ _ h in
      record {
        tasks_fit = leb-true (suc (tasks job)) max_tasks (and_l _ _ fits);
        links_fit = leb-true (links job + new_links d) max_links (and_r _ _ fits);
      },
  λ room. none_unless _ _
      (and_i _ _ (le-leb (suc (tasks job)) max_tasks room.tasks_fit) (le-leb (links job + new_links d) max_links room.links_fit)),
)
