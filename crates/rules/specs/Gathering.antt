-- Fault sets by receiving task, document 02 (v): the state of all sets once so many tasks are gathered, and what gathers one task more.
use Rattle.std.specs.Prelude.{ℕ, zero, suc, ◌+◌, ◌*◌, Bool, cond, ltb, eqb}
use Rattle.reader.specs.declared.job.Job.{Job}
use Rattle.reader.specs.declared.plan.Plan.{Plan}
use Rattle.reader.specs.Tests.{◌or◌}
use Rattle.reader.specs.First.{any}
use Rattle.reader.specs.Entries.{links}
use Rattle.rules.specs.Tables.{put}
use Rattle.rules.specs.Copies.{domain, domains}
use Rattle.rules.specs.Rules.{Row, carries, rows}

-- a task's set before its turn: 'its own primary's node', (vi) that node's group, no other
unfoldable pub own_group : Job → (ℕ → Row) → ℕ → ℕ → Bool
own_group job t i q = eqb (domain job (t i).primary.node) q

-- the set of each task i once tasks 0 to j - 1 are gathered: 'the perils of tasks 0 to j are those of the rules and change no more, and no
-- later peril yet holds more than its own primary's node'
unfoldable pub gathered_to : Job → Plan → ℕ → ℕ → ℕ → Bool
gathered_to job plan j i = let t = rows job plan in cond (ltb i j) (t i).faults (own_group job t i)

-- the rows of a table with these sets
unfoldable pub with_sets : (ℕ → Row) → (ℕ → ℕ → Bool) → ℕ → Row
with_sets t sets i = record { primary = (t i).primary; backup = (t i).backup; faults = sets i }

-- 'gathering all links that arrive at one task before the next': task j's set is joined with what they carry to it, and no other set changes
unfoldable pub gather_task : Job → (ℕ → Row) → (ℕ → ℕ → Bool) → ℕ → ℕ → ℕ → Bool
gather_task job t sets j = put sets j λ q. sets j q or any (links job) (carries job (with_sets t sets) j (t j).primary q)

-- a set of numbers below n as one number, bit q for q
unfoldable pub set_number : ℕ → (ℕ → Bool) → ℕ
set_number zero set = 0
set_number (suc n) set = cond (set 0) 1 0 + 2 * set_number n (λ q. set (suc q))

-- task j's fault set
unfoldable pub fault_number : Job → Plan → ℕ → ℕ
fault_number job plan j = set_number (domains job) (rows job plan j).faults
