-- Request (i), backups that never wait for each other: rule E as it was, rules that ask too little, and what tells them from rule E.
use Rattle.std.specs.Prelude.{ℕ, Bool, not, cond, [], ◌∷◌, eqb}
use Rattle.reader.specs.declared.job.Job.{Job}
use Rattle.reader.specs.declared.job.Link.{Link}
use Rattle.reader.specs.declared.plan.Plan.{Plan}
use Rattle.reader.specs.declared.refusal.Refusal.TheVariants.{BackupUnfed}
use Rattle.reader.specs.Refusals.{Answer}
use Rattle.reader.specs.Tests.{◌and◌, ◌implies◌}
use Rattle.reader.specs.First.{first, any}
use Rattle.reader.specs.Refusals.{answered}
use Rattle.reader.specs.Samples.{job_of, task_of, link_of, at, ◌beside◌, plan_with}
use Rattle.rules.specs.Copies.{in_time, domain, domains}
use Rattle.rules.specs.Rules.{Row, rows}
use Rattle.rules.specs.Breach.{Check, on_links, found, check}

-- 'E. For each link, the finishes of primary i and of backup i, each plus delay, are at most backup j's start', whatever the fault sets
unfoldable pub waits_for_both : Job → Link → Row → Row → Bool
waits_for_both job l r s = in_time job l r.primary s.backup and in_time job l r.backup s.backup

-- check n of the judge with this rule in E's place, which is 5, and the judge
abbrev pub check_by : (Job → Link → Row → Row → Bool) → Job → (ℕ → Row) → ℕ → Check
check_by rule job t n = cond (eqb n 5) (on_links BackupUnfed (λ l. rule job l (t l.from) (t l.to))) (check job t n)

unfoldable pub judge_by : (Job → Link → Row → Row → Bool) → Job → Plan → Answer
judge_by rule job plan = answered (first 8 λ n. found job (check_by rule job (rows job plan) n))

-- E with its second half never asked
unfoldable pub never_waits : Job → Link → Row → Row → Bool
never_waits job l r s = in_time job l r.primary s.backup

-- asked only where the primaries are lost together
unfoldable pub waits_by_primaries : Job → Link → Row → Row → Bool
waits_by_primaries job l r s =
    never_waits job l r s
    and (eqb (domain job r.primary.node) (domain job s.primary.node) implies in_time job l r.backup s.backup)

-- asked by the faults that tasks before i hand on to it: its own primary's group is left out
unfoldable pub waits_by_earlier : Job → Link → Row → Row → Bool
waits_by_earlier job l r s =
    let common : ℕ → Bool = λ q. r.faults q and s.faults q and not (eqb (domain job r.primary.node) q) in
    never_waits job l r s and (any (domains job) common implies in_time job l r.backup s.backup)

-- of J: a weak link between primaries on different nodes, and backup 1 does not wait for backup 0
abbrev pub weak_plan : Plan
weak_plan = at 0 0 2 9 beside at 2 6 1 10

-- slow links from two tasks, each with its backup beside the other's primary, to a third
abbrev pub slow_links : Job
slow_links = job_of (task_of 30 2 ∷ task_of 30 2 ∷ task_of 30 1 ∷ []) (link_of 0 2 6 ∷ link_of 1 2 6 ∷ [])

-- the third task's backup at this tick
abbrev pub slow_plan : ℕ → Plan
slow_plan tick = plan_with (at 0 0 1 3 ∷ at 1 0 0 3 ∷ at 0 8 1 tick ∷ [])

-- and a fourth task, with room for its backup up to tick 11 on the node of the third's
abbrev pub crowded : Job
crowded =
    job_of (task_of 30 2 ∷ task_of 30 2 ∷ task_of 30 1 ∷ task_of 12 4 ∷ []) (link_of 0 2 6 ∷ link_of 0 3 0 ∷ link_of 1 2 6 ∷ [])

abbrev pub crowded_plan : Plan
crowded_plan = plan_with (at 0 0 1 3 ∷ at 1 0 0 3 ∷ at 0 8 1 11 ∷ at 2 2 1 7 ∷ [])

-- of slow_links: all primaries on node 0, the third backup at this tick
abbrev pub one_plan : ℕ → Plan
one_plan tick = plan_with (at 0 0 1 3 ∷ at 0 2 1 5 ∷ at 0 4 2 tick ∷ [])

-- of J: a weak link, and backup 1 at this tick on the node of primary 0
abbrev pub lost_plan : ℕ → Plan
lost_plan tick = at 0 0 1 5 beside at 2 6 0 tick
