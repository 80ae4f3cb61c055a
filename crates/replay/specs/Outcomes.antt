-- What replay tells of a job and a plan: three numbers for each task, and their bytes.
use Rattle.std.specs.Prelude.{ℕ, List, [], ◌∷◌, get_or, replicate, None, unwrap_or}
use Rattle.reader.specs.declared.job.Job.{Job}
use Rattle.reader.specs.declared.plan.Plan.{Plan}
use Rattle.reader.specs.First.{fill}
use Rattle.reader.specs.Limits.{max_tasks}
use Rattle.reader.specs.Entries.{tasks}
use Rattle.writer.specs.Write.{pack, flat}
use Rattle.rules.specs.declared.Loss.{Loss}
use Rattle.rules.specs.declared.Times.{Times}
use Rattle.rules.specs.Rules.{Row}
use Rattle.rules.specs.Times.{ended_rows}
use Rattle.rules.specs.Replay.{TaskRun, replay_times}
use Rattle.replay.specs.declared.Outcomes.{Outcomes}
use Rattle.replay.specs.declared.states.Outcome.{Outcome}
use Rattle.replay.specs.declared.states.State.TheVariants.{NotStarted}
use Rattle.replay.specs.States.{number_of, outcome}

-- the numbers of task j, its copies taking these times
abbrev pub replayed : Job → Plan → Times → Loss → ℕ → Outcome
replayed job plan times loss j = outcome (ended_rows job plan times j) (replay_times job plan times loss j)

abbrev pub no_outcome : Outcome
no_outcome = record { primary = NotStarted; backup = NotStarted; finish = None }

-- those of every task of the job
unfoldable pub outcomes : Job → Plan → Times → Loss → Outcomes
outcomes job plan times loss = record { of = fill (tasks job) (replayed job plan times loss) (replicate max_tasks no_outcome) }

abbrev pub numbers : Outcome → List ℕ
numbers o = number_of o.primary ∷ number_of o.backup ∷ unwrap_or o.finish 0 ∷ []

-- the bytes of the first n of them
unfoldable pub outcome_bytes : Outcomes → ℕ → List ℕ
outcome_bytes o n = pack (flat n (λ j. numbers (get_or o.of j no_outcome)))

-- the bytes that replay writes of a run x of the rows t
unfoldable pub run_bytes : Job → (ℕ → Row) → (ℕ → TaskRun) → List ℕ
run_bytes job t x = pack (flat (tasks job) (λ j. numbers (outcome (t j) (x j))))

-- with copies that take these times
abbrev pub replay_bytes : Job → Plan → Times → Loss → List ℕ
replay_bytes job plan times loss = run_bytes job (ended_rows job plan times) (replay_times job plan times loss)
