-- The fault set of a task as bits, and the nodes of each group.
use Rattle.std.specs.Prelude.{ℕ, ◌+◌, ◌*◌, ◌≤◌, ◌<◌, Bool, not, List, ◌≡◌, ltb, eqb, get_or, length}
use Rattle.reader.specs.declared.job.Node.{Node}
use Rattle.reader.specs.Tests.{◌and◌, ◌or◌}
use Rattle.reader.specs.First.{any}
use Rattle.reader.specs.Limits.{max_nodes, max_group, max_tasks}
use Rattle.reader.specs.Entries.{no_node}
use Rattle.rules.specs.declared.Copy.{Copy}
use Rattle.copies.specs.Sets.{has}
use Rattle.copies.specs.Arrival.{comes}
use Rattle.copies.specs.Chain.{Chain}
use Rattle.copies.specs.Table.{copy_count}
use Rattle.planner.specs.declared.board.Board.{Board}
use Rattle.planner.specs.declared.senders.Incoming.{Incoming}
use Rattle.planner.specs.declared.senders.Sender.{Sender}
use Rattle.planner.specs.Senders.{sender_at}

-- the link is weak, and q is in its sender's fault set
abbrev pub carries_from : Copy → ℕ → Sender → Bool
carries_from p q x = not (comes x.backup p) and has x.set q

module _ (net : Incoming) (board : Board) (last : ℕ) (p : Copy) where
  -- by one of the first n links that lead to j
  abbrev pub carried_to : (ℕ → ℕ) → ℕ → ℕ → ℕ → Bool
  carried_to key j n q = any n (λ m. eqb (key m) j and carries_from p q (sender_at net board m))

  -- along the chain of links that begins at `last`, whatever task it leads to, and from the primary's group
  abbrev pub Faulted : ℕ → ℕ → Type 0
  Faulted group set = (key : ℕ → ℕ) (j : ℕ) → Chain key net.next j last → (q : ℕ) → has set q ≡ (eqb group q or carried_to key j last q)

-- the first n nodes are in groups
pub record Groups (nodes : List Node) (n : ℕ) : Type 0 where
  pub few : n ≤ max_nodes
  pub most : (i : ℕ) → i < n → (get_or nodes i no_node).group ≤ max_group

-- entry 2q + 1 has those of the first n nodes that are in group q
pub record Peers (nodes : List Node) (n : ℕ) (peers : List ℕ) : Type 0 where
  pub size : length peers ≡ copy_count
  pub is : (q i : ℕ) → q < max_tasks → has (get_or peers (2 * q + 1) 0) i ≡ (ltb i n and eqb (get_or nodes i no_node).group q)
