-- The planner's fault sets between its tasks: those gathered of the plan that it will give, and none for a task that has no primary yet.
use Prim.Native.Nat.{ℕ, ◌+◌, ◌*◌, ◌≤◌, ◌<◌}
use mathlib.Core.Bool.{false}
use mathlib.Core.Path.{◌≡◌, ap}
use Rattle.reader.specs.declared.job.Job.{Job}
use Rattle.reader.specs.declared.plan.Plan.{Plan}
use Rattle.rules.specs.Attempts.{placed}
use Rattle.rules.specs.Planner.{anywhere, planner}
use Rattle.rules.specs.Gathering.{gathered_to}
use Rattle.rules.proofs.PlannerGathers.{later_empty, placed_gathered}
use Rattle.copies.specs.Sets.{has}
use Rattle.copies.specs.Table.{set_at, row_of}
use Rattle.planner.specs.declared.board.Board.{Board}
use Rattle.planner.specs.declared.senders.Incoming.{Incoming}
use Rattle.planner.specs.Tasks.{Planning}

module _ (job : Job) (net : Incoming) (j : ℕ) (board : Board) (so_far : Planning job net j board) where
  pub sets_placed : (plan : Plan) → planner job ≡ placed plan → (i q : ℕ) → i < j
      → has (set_at board.copies (2 * i + 1)) q ≡ gathered_to job plan j i q
  unfolding planner row_of
  sets_placed plan h i q p =
      ap (λ f. f q) (placed_gathered job anywhere so_far.sound plan h j (row_of board.copies) so_far.within so_far.is i p)

  pub sets_later : (i q : ℕ) → j ≤ i → has (set_at board.copies (2 * i + 1)) q ≡ false
  unfolding row_of
  sets_later i q p = later_empty job anywhere j (row_of board.copies) so_far.is i q p
