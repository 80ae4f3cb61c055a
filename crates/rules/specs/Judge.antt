-- The judge: 'tries 8 to 14 in turn, each over all tasks (links, pairs) in rising order'; (ii) 19 'tried after 8 and before 9'.
use Rattle.std.specs.Prelude.{ℕ, Bool, ltb}
use Rattle.std.proofs.Math.Option.{Option}
use Rattle.reader.specs.declared.job.Job.{Job}
use Rattle.reader.specs.declared.job.Link.{Link}
use Rattle.reader.specs.declared.plan.Plan.{Plan}
use Rattle.reader.specs.declared.refusal.Refusal.{Refusal}
use Rattle.reader.specs.declared.refusal.Refusal.TheVariants.{SameNode, TooSoon, Early, Late, PrimaryUnfed, BackupUnfed, CommonLoss, Overlap}
use Rattle.reader.specs.Refusals.{Answer}
use Rattle.reader.specs.Tests.{◌implies◌}
use Rattle.reader.specs.First.{◌or_else◌, first, unless}
use Rattle.reader.specs.Refusals.{answered}
use Rattle.reader.specs.Entries.{tasks, links, link}
use Rattle.rules.specs.Rules.{Row, rows, rule_a, rule_ready, rule_b, rule_c, rule_d, rule_e, rule_f, rule_g}

-- the first task, link or pair that breaks a rule, as a refusal
unfoldable pub first_task : Job → (ℕ → Refusal) → (ℕ → Bool) → Option Refusal
first_task job refusal rule = first (tasks job) λ j. unless (rule j) (refusal j)

unfoldable pub first_link : Job → (ℕ → ℕ → Refusal) → (Link → Bool) → Option Refusal
first_link job refusal rule = first (links job) λ k. let l = link job k in unless (rule l) (refusal l.from l.to)

unfoldable pub first_pair : Job → (ℕ → ℕ → Refusal) → (ℕ → ℕ → Bool) → Option Refusal
first_pair job refusal rule = first (tasks job) λ i. first (tasks job) λ j. unless (ltb i j implies rule i j) (refusal i j)

-- the first breach in the table t; nothing: passed
unfoldable pub breach : Job → (ℕ → Row) → Option Refusal
breach job t =
    first_task job SameNode (λ j. rule_a job (t j))
    or_else first_task job TooSoon (λ j. rule_ready job j (t j).primary)
    or_else first_task job Early (λ j. rule_b job (t j))
    or_else first_task job Late (λ j. rule_c job j (t j))
    or_else first_link job PrimaryUnfed (λ l. rule_d job l (t l.from) (t l.to).primary)
    or_else first_link job BackupUnfed (λ l. rule_e job l (t l.from) (t l.to))
    or_else first_task job CommonLoss (λ j. rule_f job (t j))
    or_else first_pair job Overlap (λ i j. rule_g job (t i) (t j))

unfoldable pub judge : Job → Plan → Answer
judge job plan = answered (breach job (rows job plan))
