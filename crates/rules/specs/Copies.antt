-- Copies of tasks: their times, when two of them overlap, and when a result arrives.
use Rattle.std.specs.Prelude.{ℕ, suc, ◌+◌, ◌≤◌, ◌<◌, max, min, Bool, cond, leb, ltb, eqb}
use Rattle.reader.specs.declared.job.Job.{Job}
use Rattle.reader.specs.declared.job.Link.{Link}
use Rattle.reader.specs.Tests.{◌and◌}
use Rattle.reader.specs.First.{any}
use Rattle.reader.specs.Limits.{max_group}
use Rattle.reader.specs.Entries.{nodes, send, group, run}
use Rattle.rules.specs.declared.Copy.{Copy}

-- 'A copy of task j on node n takes the listed run time and finishes at start plus run time.'
unfoldable pub copy : Job → ℕ → ℕ → ℕ → Copy
copy job j n s = record { node = n; start = s; finish = s + run job j n }

-- 'It holds its node from its start up to, but not including, its finish.'
abbrev pub HeldBy : Copy → ℕ → Type 0
HeldBy c tick = (c.start ≤ tick) × (tick < c.finish)

-- 'Two copies overlap if some tick is held by both.'
unfoldable pub overlap : Copy → Copy → Bool
overlap c d = eqb c.node d.node and ltb (max c.start d.start) (min c.finish d.finish)

-- 'The delay from a copy of i to a copy of j is 0 on one node, else the link's delay'; (iv) 'link delay plus the sender's send time'
unfoldable pub delay : Job → Link → Copy → Copy → ℕ
delay job l c d = cond (eqb c.node d.node) 0 (l.delay + send job c.node)

-- c's finish plus the delay is at most d's start
unfoldable pub in_time : Job → Link → Copy → Copy → Bool
in_time job l c d = leb (c.finish + delay job l c d) d.start

-- (vi) 'One loss now takes every node of one group': the failure domain of node n, of so many
unfoldable pub domain : Job → ℕ → ℕ
domain job n = group job n

abbrev pub domains : Job → ℕ
domains job = suc max_group

-- some node of the job is in domain q
unfoldable pub has_node : Job → ℕ → Bool
has_node job q = any (nodes job) λ n. eqb (domain job n) q
