-- The plan is read off the table task by task.
use Prim.Native.Nat.{ℕ, ◌+◌}
use mathlib.Core.List.{List}
use mathlib.Core.Path.{◌≡◌}
use lib.ListN.{set}
use native.Mathlib.Numerals.{add-one}
use Rattle.reader.specs.declared.plan.Plan.{Plan}
use Rattle.reader.specs.First.{fill}
use Rattle.reader.specs.Entries.{empty_plan}
use Rattle.planner.specs.Tasks.{place_at, places_to, listed}

module _ (node start : List ℕ) (plan : Plan) where
  pub list_start : plan ≡ empty_plan → plan ≡ listed 0 (places_to node start 0)
  unfolding empty_plan places_to fill
  list_start h = h

  pub list_more : (j : ℕ) → plan ≡ listed 0 (places_to node start j)
      → ◌≡◌ {A = Plan} (record {
        version = plan.version;
        task_count = plan.task_count;
        places =
            set plan.places j (place_at node start j);
      }) (listed 0 (places_to node start (j + 1)))
  unfolding places_to fill
  list_more j h = rw (h, add-one j)
