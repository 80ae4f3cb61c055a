-- What a call leaves of the buffer: all of it where it refuses, and the bytes beyond the output where it succeeds.
use Prim.Native.Nat.{ℕ, ◌*◌}
use mathlib.Core.Path.{◌≡◌, refl, ◌∙◌, ap}
use mathlib.Core.List.{List}
use mathlib.Core.Option.{Option, none, some}
use lib.ListN.{length, drop}
use lib.Seq.{drop_at}
use Rattle.reader.specs.declared.refusal.Refusal.{Refusal}
use Rattle.reader.specs.Entries.{tasks}
use Rattle.reader.specs.Refusals.{result_number}
use Rattle.reader.specs.JobFile.{job_at}
use Rattle.reader.specs.PlanFile.{plan_length}
use Rattle.reader.proofs.RefusalLaws.{answered_done}
use Rattle.reader.proofs.PackingLaws.{result_done}
use Rattle.writer.specs.Write.{plan_bytes, writes}
use Rattle.rules.specs.declared.Loss.{Loss}
use Rattle.rules.specs.Planner.{planner}
use Rattle.replay.specs.Outcomes.{run_bytes}
use Rattle.replay.proofs.WriteLaws.{length_run}
use Rattle.seqopchi.specs.Files.{plan_in, plan_or, plan_file_fault, plan_file, replay_fault, rows_in, run_in, replay_files, fault_bytes, sets_fault, sets_files}
use Rattle.seqopchi.proofs.PlannedFiles.{planned_length}
use Rattle.seqopchi.proofs.SetsLaws.{length_faults}

-- of anything that is written
pub refused_kept : (fault : Option Refusal) (s out : List ℕ) → (result_number (writes fault s out).answer ≡ 0 → ⊥)
    → (writes fault s out).buffer ≡ out
refused_kept none s out h = absurd (h refl)
refused_kept (some r) s out h = refl

pub done_beyond : (fault : Option Refusal) (s out : List ℕ) (n : ℕ) → length s ≡ n → result_number (writes fault s out).answer ≡ 0
    → drop n (writes fault s out).buffer ≡ drop n out
done_beyond fault s out n e h =
    ap (λ o. drop n (writes o s out).buffer) ((answered_done fault).0 (result_done _ h)) ∙ drop_at s _ n e ∙ ap (λ m. drop m out) e

module _ (job out : List ℕ) where
  abbrev plan : List ℕ
  plan = plan_bytes (plan_or (planner (job_at job)))

  pub plan_refused_keeps : (result_number (plan_file job out).answer ≡ 0 → ⊥) → (plan_file job out).buffer ≡ out
  unfolding plan_file
  plan_refused_keeps = refused_kept (plan_file_fault job out) plan out

  pub plan_keeps_beyond : let need = plan_length (tasks (job_at job)) in
      result_number (plan_file job out).answer ≡ 0 → drop need (plan_file job out).buffer ≡ drop need out
  unfolding plan_file
  plan_keeps_beyond h = done_beyond (plan_file_fault job out) plan out _ (planned_length job out (result_done _ h)) h

module _ (job plan : List ℕ) (loss : Loss) (list : Option (List ℕ)) (out : List ℕ) where
  abbrev run : List ℕ
  run = run_bytes (job_at job) (rows_in job plan list) (run_in job plan loss list)

  pub replay_refused_keeps : (result_number (replay_files job plan loss list out).answer ≡ 0 → ⊥) → (replay_files job plan loss list out).buffer ≡ out
  unfolding replay_files
  replay_refused_keeps = refused_kept (replay_fault job plan loss list out) run out

  pub replay_keeps_beyond : let need = 12 * tasks (job_at job) in
      result_number (replay_files job plan loss list out).answer ≡ 0 → drop need (replay_files job plan loss list out).buffer ≡ drop need out
  unfolding replay_files
  replay_keeps_beyond h = done_beyond (replay_fault job plan loss list out) run out _ (length_run (job_at job) _ _) h

module _ (job plan out : List ℕ) where
  abbrev sets : List ℕ
  sets = fault_bytes (job_at job) (plan_in job plan)

  pub sets_refused_keeps : (result_number (sets_files job plan out).answer ≡ 0 → ⊥) → (sets_files job plan out).buffer ≡ out
  unfolding sets_files
  sets_refused_keeps = refused_kept (sets_fault job plan out) sets out

  pub sets_keeps_beyond : let need = 4 * tasks (job_at job) in
      result_number (sets_files job plan out).answer ≡ 0 → drop need (sets_files job plan out).buffer ≡ drop need out
  unfolding sets_files
  sets_keeps_beyond h = done_beyond (sets_fault job plan out) sets out _ (length_faults (job_at job) (plan_in job plan)) h
