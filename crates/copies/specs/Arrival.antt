-- Arrival on numbers: what `delay`, `in_time` and `rule_e` of the rules say of a link and its copies.
use Rattle.std.specs.Prelude.{ℕ, ◌+◌, ◌≤◌, ◌<◌, Bool, cond, List, ◌≡◌, leb, eqb, get_or, length}
use Rattle.reader.specs.declared.job.Job.{Job}
use Rattle.reader.specs.declared.job.Link.{Link}
use Rattle.reader.specs.declared.job.Node.{Node}
use Rattle.reader.specs.Limits.{max_send, max_time, max_start}
use Rattle.reader.specs.Entries.{no_node}
use Rattle.reader.specs.Tests.{◌and◌, ◌implies◌}
use Rattle.rules.specs.declared.Copy.{Copy}
use Rattle.copies.specs.declared.arrival.Outgoing.{Outgoing}
use Rattle.copies.specs.declared.table.Copies.{Copies}
use Rattle.copies.specs.Sets.{meets}
use Rattle.copies.specs.Table.{copy_count, entry}

-- from when a result is on node n
unfoldable pub arrival_of : Outgoing → ℕ → ℕ
arrival_of r n = cond (eqb r.node n) r.here r.away

-- it comes in time for copy d
abbrev pub comes : Outgoing → Copy → Bool
comes r d = leb (arrival_of r d.node) d.start

-- in time for d, of set m, come the result p of a primary, and where the two sets meet the result b of its backup, of set z
abbrev pub fed_of : Outgoing → Outgoing → ℕ → Copy → ℕ → Bool
fed_of p b z d m = comes p d and (meets z m implies comes b d)

-- when the result of copy c has left its node, one of these; of a job's; and the result as it goes out by link l
abbrev pub leave_by : List Node → Copy → ℕ
leave_by nodes c = c.finish + (get_or nodes c.node no_node).send

abbrev pub leave_of : Job → Copy → ℕ
leave_of job = leave_by job.nodes

abbrev pub result_of : Job → Link → Copy → Outgoing
result_of job l c = record { node = c.node; here = c.finish; away = leave_of job c + l.delay }

-- the same of entry k, with a column that has when each result leaves
abbrev pub result_at : List ℕ → List ℕ → List ℕ → ℕ → ℕ → Outgoing
result_at node finish leave delay k = record { node = get_or node k 0; here = get_or finish k 0; away = get_or leave k 0 + delay }

-- the column has it for the first n entries, and a delay can be added to each
pub record Leaving (job : Job) (n : ℕ) (cs : Copies) (leave : List ℕ) : Type 0 where
  pub size : length leave ≡ copy_count
  pub soon : (k : ℕ) → get_or leave k 0 ≤ max_start + max_time + max_send
  pub is : (k : ℕ) → k < n → get_or leave k 0 ≡ leave_of job (entry cs k)

-- the sum is a number of 4 bytes
abbrev pub SumFits : ℕ → ℕ → Type 0
SumFits finish delay = finish + delay < 4_294_967_296
