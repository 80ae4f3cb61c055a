-- Laws of the bytes that replay writes.
use Prim.Native.Nat.{ℕ, ◌*◌, ◌≤◌, ◌<◌}
use mathlib.Core.Path.{◌≡◌, refl, ap, ap₂, ◌∙◌}
use mathlib.Core.List.{List, ◌++◌}
use lib.ListN.{length, get_or, drop}
use native.Mathlib.Omega.{arith}
use Rattle.reader.specs.declared.job.Job.{Job}
use Rattle.reader.specs.declared.plan.Plan.{Plan}
use Rattle.reader.specs.Limits.{max_tasks}
use Rattle.reader.specs.Entries.{tasks}
use Rattle.writer.specs.Puts.{Rows}
use Rattle.writer.specs.Write.{pack}
use Rattle.rules.specs.declared.Loss.{Loss}
use Rattle.rules.specs.declared.Times.{Times}
use Rattle.rules.specs.Rules.{Row}
use Rattle.rules.specs.Replay.{TaskRun}
use Rattle.replay.specs.declared.Outcomes.{Outcomes}
use Rattle.replay.specs.States.{outcome}
use Rattle.replay.specs.Outcomes.{no_outcome, outcomes, numbers, outcome_bytes, run_bytes, replay_bytes}
use Rattle.reader.proofs.FillLaws.{filled_at}
use Rattle.writer.proofs.PutLaws.{splice_front}
use Rattle.replay.proofs.PackLaws.{length_rows}
use Rattle.writer.proofs.SameNumbers.{flat_same}

-- `write_outcomes`
length_outcomes : (o : Outcomes) (n : ℕ) → length (outcome_bytes o n) ≡ 12 * n
unfolding outcome_bytes
length_outcomes o n = length_rows 3 (λ j. numbers (get_or o.of j no_outcome)) (λ i. refl) n ∙ omega arith

pub outcomes_put : (o : Outcomes) (n : ℕ) {out d : List ℕ} {end : ℕ} → Rows (λ j. numbers (get_or o.of j no_outcome)) 12 out 0 n d end
    → d ≡ outcome_bytes o n ++ drop (12 * n) out
unfolding outcome_bytes
outcomes_put o n {out} put = put.puts.buffer ∙ splice_front out (outcome_bytes o n) (12 * n) (length_outcomes o n)

pub length_run : (job : Job) (t : ℕ → Row) (x : ℕ → TaskRun) → length (run_bytes job t x) ≡ 12 * tasks job
unfolding run_bytes
length_run job t x = length_rows 3 (λ j. numbers (outcome (t j) (x j))) (λ i. refl) (tasks job) ∙ omega arith

-- the rows of the job's tasks and the run are all that the bytes are made of
pub run_bytes_same : (job : Job) (t u : ℕ → Row) (x y : ℕ → TaskRun) → ((j : ℕ) → j < tasks job → t j ≡ u j) → x ≡ y
    → run_bytes job t x ≡ run_bytes job u y
unfolding run_bytes
run_bytes_same job t u x y same e =
    ap pack (flat_same (tasks job) _ _ λ j p. ap₂ (λ r x. numbers (outcome r (x j))) (same j p) e)

-- `replay_into`
pub replay_written : (job : Job) (plan : Plan) (times : Times) (loss : Loss) (o : Outcomes) (d out : List ℕ)
    → tasks job ≤ max_tasks → o ≡ outcomes job plan times loss → d ≡ outcome_bytes o (tasks job) ++ drop (12 * tasks job) out
    → d ≡ replay_bytes job plan times loss ++ drop (12 * tasks job) out
unfolding outcome_bytes run_bytes outcomes
replay_written job plan times loss o d out most told e =
    e
    ∙ ap (λ l. pack l ++ drop (12 * tasks job) out)
    (flat_same (tasks job) _ _ (λ j p. ap numbers (filled_at _ max_tasks no_outcome o.of (tasks job) j no_outcome (ap (λ o. o.of) told) p most)))
