-- The rules of a plan, A to G and the ready time, over the rows of a table: judge and planner share them.
use Rattle.std.specs.Prelude.{ℕ, ◌+◌, Bool, false, not, leb, eqb}
use Rattle.reader.specs.declared.job.Job.{Job}
use Rattle.reader.specs.declared.job.Link.{Link}
use Rattle.reader.specs.declared.plan.Plan.{Plan}
use Rattle.reader.specs.Tests.{◌and◌, ◌or◌, ◌implies◌}
use Rattle.reader.specs.First.{any}
use Rattle.reader.specs.Entries.{tasks, links, detect, ready, deadline, link, place}
use Rattle.rules.specs.declared.Copy.{Copy}
use Rattle.rules.specs.Tables.{grow}
use Rattle.rules.specs.Copies.{copy, overlap, in_time, domain, domains}

-- what the rules speak of, for one task: both copies, and whether a failure domain is in its fault set (document 01: its peril)
pub record Row : Type 0 where
  pub primary : Copy
  pub backup : Copy
  pub faults : ℕ → Bool

-- 'A link i to j is strong if backup i's finish plus its delay to primary j is at most primary j's start; otherwise it is weak.'
unfoldable pub strong : Job → Link → Row → Copy → Bool
strong job l r p = in_time job l r.backup p

-- link k is a weak link to j, whose primary is p, from a task with q in its fault set
unfoldable pub carries : Job → (ℕ → Row) → ℕ → Copy → ℕ → ℕ → Bool
carries job before j p q k =
    let l = link job k in
    eqb l.to j and not (strong job l (before l.from) p) and (before l.from).faults q

-- 'The peril of j is the set of nodes holding j's primary, or the primary of any task from which a path of weak links leads to j.' (vi) 'Perils hold
-- groups.'
unfoldable pub fault_set : Job → (ℕ → Row) → ℕ → Copy → ℕ → Bool
fault_set job before j p q = eqb (domain job p.node) q or any (links job) (carries job before j p q)

-- task j with primary p and backup b
unfoldable pub row : Job → (ℕ → Row) → ℕ → Copy → Copy → Row
row job before j p b = record { primary = p; backup = b; faults = fault_set job before j p }

unfoldable pub blank_row : Row
blank_row =
    let c : Copy = record { node = 0; start = 0; finish = 0 } in
    record { primary = c; backup = c; faults = λ q. false }

-- the rows of a plan: of task j, and of the first n tasks
unfoldable pub planned_row : Job → Plan → (ℕ → Row) → ℕ → Row
planned_row job plan before j =
    let x = place plan j in
    row job before j (copy job j x.primary_node x.primary_start) (copy job j x.backup_node x.backup_start)

abbrev pub rows_to : Job → Plan → ℕ → ℕ → Row
rows_to job plan = grow blank_row (planned_row job plan)

abbrev pub rows : Job → Plan → ℕ → Row
rows job plan = rows_to job plan (tasks job)

-- the fault sets of r and s have a common member
unfoldable pub share_fault : Job → Row → Row → Bool
share_fault job r s = any (domains job) λ q. r.faults q and s.faults q

-- 'A. Primary and backup are on different nodes.' (vi) 'Rule A wants copies in different groups'
unfoldable pub rule_a : Job → Row → Bool
rule_a job r = not (eqb (domain job r.primary.node) (domain job r.backup.node))

-- (ii) 'A primary starts no sooner' than its task's ready time: p is primary j
unfoldable pub rule_ready : Job → ℕ → Copy → Bool
rule_ready job j p = leb (ready job j) p.start

-- 'B. A backup starts no sooner than its primary's finish plus the detect time of the primary's node.'
unfoldable pub rule_b : Job → Row → Bool
rule_b job r = leb (r.primary.finish + detect job r.primary.node) r.backup.start

-- 'C. The backup finishes at or before the deadline.'
unfoldable pub rule_c : Job → ℕ → Row → Bool
rule_c job j r = leb r.backup.finish (deadline job j)

-- 'D. For each link, primary i's finish plus delay is at most primary j's start.' Here r is i's row, p primary j
unfoldable pub rule_d : Job → Link → Row → Copy → Bool
rule_d job l r p = in_time job l r.primary p

-- 'E. For each link, the finishes of primary i and of backup i, each plus delay, are at most backup j's start.' r is i's row, s is j's
-- (i) 'It keeps its second half, about backup i, only where the perils of i and j share a node.' (vi) 'E and G look for a group common to both perils'
unfoldable pub rule_e : Job → Link → Row → Row → Bool
rule_e job l r s = in_time job l r.primary s.backup and (share_fault job r s implies in_time job l r.backup s.backup)

-- 'F. Backup j's node is not in j's peril.' (vi) 'F wants backup j's group outside j's peril'
unfoldable pub rule_f : Job → Row → Bool
rule_f job r = not (r.faults (domain job r.backup.node))

-- 'G. On one node copies do not overlap, except two backups whose perils have no common node.' (vi) 'Overlap itself is still judged on each single
-- node.'
-- Between the copies of row r and the primary p of another task
unfoldable pub rule_g_primary : Row → Copy → Bool
rule_g_primary r p = not (overlap r.primary p) and not (overlap r.backup p)

-- and between those of r and the backup of s
unfoldable pub rule_g_backup : Job → Row → Row → Bool
rule_g_backup job r s = not (overlap r.primary s.backup) and not (overlap r.backup s.backup and share_fault job r s)

unfoldable pub rule_g : Job → Row → Row → Bool
rule_g job r s = rule_g_primary r s.primary and rule_g_backup job r s
