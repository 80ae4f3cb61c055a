-- Other orders of gathering, each beside an example that tells it from the order by receiving task.
use Prim.Native.Nat.{ℕ}
use mathlib.Core.Bool.{Bool, true, false}
use mathlib.Core.Path.{◌≡◌, refl}
use Rattle.rules.specs.Rules.{Row, rows}
use Rattle.rules.specs.Gathering.{own_group, gathered_to, with_sets, gather_task, set_number, fault_number}
use Rattle.rules.specs.WrongTurns.{chain, chain_plan}
use Rattle.rules.specs.WrongOrders.{send_task, pass_link, meeting, meeting_plan}
use Rattle.rules.proofs.Samples.{computed}

abbrev t : ℕ → Row
t = rows chain chain_plan

abbrev own : ℕ → ℕ → Bool
own = own_group chain t

-- the sets of both examples as numbers: primaries on nodes 0, 2, 2 in a chain of weak links, and on 0, 1, 2 with two that meet
pub sets_computed :
    (fault_number chain chain_plan 0 ≡ 1) × (fault_number chain chain_plan 1 ≡ 5) × (fault_number chain chain_plan 2 ≡ 5)
    × (fault_number meeting meeting_plan 0 ≡ 1) × (fault_number meeting meeting_plan 1 ≡ 2) × (fault_number meeting meeting_plan 2 ≡ 7)
unfolding computed fault_number set_number
sets_computed = (refl, refl, refl, refl, refl, refl)

-- by sender: after task 0 the set of task 1, whose primary is on node 2, holds node 0 already. At the end the sets are those of the rules all
-- the same, so that no promise about the end tells the two orders apart
pub by_sender :
    (send_task chain t own 0 1 0 ≡ true)
    × (gathered_to chain chain_plan 1 1 0 ≡ false)
    × (send_task chain t (send_task chain t own 0) 1 2 0 ≡ gathered_to chain chain_plan 3 2 0)
unfolding computed own_group gathered_to with_sets send_task
by_sender = (refl, refl, refl)

-- link by link: after the first of two links that meet at task 2 its set has node 0 and lacks node 1, as it does in no state
pub half_made :
    (pass_link meeting (rows meeting meeting_plan) (own_group meeting (rows meeting meeting_plan)) 0 2 0 ≡ true)
    × (pass_link meeting (rows meeting meeting_plan) (own_group meeting (rows meeting meeting_plan)) 0 2 1 ≡ false)
    × (gathered_to meeting meeting_plan 2 2 0 ≡ false)
    × (gathered_to meeting meeting_plan 3 2 1 ≡ true)
unfolding computed own_group gathered_to with_sets pass_link
half_made = (refl, refl, refl, refl)

-- a task before its senders: task 2 before task 1 misses what task 1 has not gathered yet
pub too_early :
    (gather_task chain t (gather_task chain t own 2) 1 2 0 ≡ false)
    × (gathered_to chain chain_plan 3 2 0 ≡ true)
unfolding computed own_group gathered_to with_sets gather_task
too_early = (refl, refl)
