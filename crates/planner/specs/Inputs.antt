-- When the inputs of a task are on each node.
use Rattle.std.specs.Prelude.{ℕ, ◌≤◌, Bool, true, cond, ◌≡◌, leb, ltb, eqb}
use Rattle.reader.specs.Tests.{◌implies◌}
use Rattle.reader.specs.First.{every}
use Rattle.rules.specs.declared.Copy.{Copy}
use Rattle.copies.specs.Arrival.{fed_of}
use Rattle.copies.specs.Chain.{Chain}
use Rattle.planner.specs.declared.board.Board.{Board}
use Rattle.planner.specs.declared.senders.Incoming.{Incoming}
use Rattle.planner.specs.declared.senders.Sender.{Sender}
use Rattle.planner.specs.declared.inputs.Reach.{Reach}
use Rattle.planner.specs.declared.inputs.Ready.{Ready}
use Rattle.planner.specs.Senders.{latest_input, sender_at}

-- from when all is on node n
unfoldable pub ready_on : Ready → ℕ → ℕ
ready_on r n = cond (eqb n r.node) r.own r.all

unfoldable pub farther_of : Reach → ℕ → ℕ → Reach
farther_of r from at = cond (ltb r.at at) (record { at = at; from = from }) r

-- what a copy d of this set needs of a sender is there in time
abbrev pub fed_by : ℕ → Copy → Sender → Bool
fed_by set d x = fed_of x.primary x.backup x.set d set

-- the latest arrival of what a copy needs
pub record Farthest (fed : Copy → Bool) (r : Reach) : Type 0 where
  pub covers : (d : Copy) → r.at ≤ d.start → fed d ≡ true
  pub reached : (d : Copy) → (d.node ≡ r.from → ⊥) → fed d ≡ true → r.at ≤ d.start

-- from when it is on node q, and on every node
abbrev pub OwnTime : (Copy → Bool) → ℕ → ℕ → Type 0
OwnTime fed q own = (d : Copy) → d.node ≡ q → leb own d.start ≡ fed d

abbrev pub ReadyTime : (Copy → Bool) → Ready → Type 0
ReadyTime fed r = (d : Copy) → leb (ready_on r d.node) d.start ≡ fed d

-- for a copy of a set, along the chain of links that begins at `last`, whatever task it leads to
module _ (net : Incoming) (board : Board) (last set : ℕ) where
  -- by those of the first n links that lead to j
  abbrev pub all_fed : (ℕ → ℕ) → ℕ → ℕ → Copy → Bool
  all_fed key j n d = every n (λ m. eqb (key m) j implies fed_by set d (sender_at net board m))

  pub record Reached (r : Reach) : Type 0 where
    pub most : r.at ≤ latest_input
    pub far : (key : ℕ → ℕ) (j : ℕ) → Chain key net.next j last → Farthest (all_fed key j last) r

  pub record Owned (q r : ℕ) : Type 0 where
    pub most : r ≤ latest_input
    pub own : (key : ℕ → ℕ) (j : ℕ) → Chain key net.next j last → OwnTime (all_fed key j last) q r

  pub record Given (r : Ready) : Type 0 where
    pub most : (n : ℕ) → ready_on r n ≤ latest_input
    pub ready : (key : ℕ → ℕ) (j : ℕ) → Chain key net.next j last → ReadyTime (all_fed key j last) r
