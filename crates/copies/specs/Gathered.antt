-- Fault sets as bits, by receiving task: what one task gathers, and the states of all sets between the tasks.
use Rattle.std.specs.Prelude.{ℕ, ◌+◌, ◌*◌, ◌<◌, Bool, not, List, ◌≡◌, eqb, get_or, set, length}
use Rattle.reader.specs.declared.job.Job.{Job}
use Rattle.reader.specs.declared.plan.Plan.{Plan}
use Rattle.reader.specs.Tests.{◌and◌, ◌or◌}
use Rattle.reader.specs.First.{any}
use Rattle.reader.specs.Limits.{max_tasks}
use Rattle.reader.specs.Entries.{tasks, links, link}
use Rattle.reader.specs.Sound.{Sound}
use Rattle.rules.specs.Rules.{Row, strong, rows}
use Rattle.rules.specs.Gathering.{gathered_to}
use Rattle.copies.specs.Sets.{has, every_group}
use Rattle.copies.specs.Table.{copy_count}

-- q is in the set x, or in the fault set of a member of weak
unfoldable pub joined : ℕ → ℕ → List ℕ → ℕ → Bool
joined x weak sets q = has x q or any max_tasks λ i. has weak i and has (get_or sets (2 * i + 1) 0) q

-- link k is a weak link to j, from i
unfoldable pub weak_link : Job → (ℕ → Row) → ℕ → ℕ → ℕ → Bool
weak_link job t i j k =
    let l = link job k in
    eqb l.to j and eqb l.from i and not (strong job l (t l.from) (t l.to).primary)

-- the members of weak are the tasks from which weak links arrive at task j
abbrev pub ArrivesFrom : Job → Plan → ℕ → ℕ → Type 0
ArrivesFrom job plan j weak = (i : ℕ) → has weak i ≡ any (links job) (weak_link job (rows job plan) i j)

-- the table's sets once tasks 0 to j - 1 are gathered; a primary's is every group
pub record SetsTo (job : Job) (plan : Plan) (j : ℕ) (sets : List ℕ) : Type 0 where
  pub size : length sets ≡ copy_count
  pub primary : (i : ℕ) → i < tasks job → get_or sets (2 * i) 0 ≡ every_group
  pub faults : (i q : ℕ) → i < tasks job → has (get_or sets (2 * i + 1) 0) q ≡ gathered_to job plan j i q

-- r gathers task j, whose set so far is x, of every job and plan that read well: before it the sets are those gathered to j, and with r as
-- task j's they are those gathered to j + 1
abbrev pub Gathers : List ℕ → ℕ → ℕ → ℕ → Type 0
Gathers sets x weak r =
    (job : Job) (plan : Plan) (j : ℕ) → Sound job → j < tasks job → ArrivesFrom job plan j weak → x ≡ get_or sets (2 * j + 1) 0
    → SetsTo job plan j sets → SetsTo job plan (j + 1) (set sets (2 * j + 1) r)
