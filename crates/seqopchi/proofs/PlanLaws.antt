-- Laws of the planner's call: each step behind those that passed.
use Prim.Native.Nat.{ℕ, ◌≤◌, ◌<◌, min}
use mathlib.Core.Path.{◌≡◌, refl, sym, ap, ◌∙◌}
use mathlib.Core.List.{List, ◌++◌}
use mathlib.Core.Option.{none, some}
use lib.ListN.{length, drop}
use native.Mathlib.Omega.{arith}
use Rattle.std.specs.Prelude.{Result, Ok, Err}
use Rattle.reader.specs.declared.job.Job.{Job}
use Rattle.reader.specs.declared.plan.Plan.{Plan}
use Rattle.reader.specs.declared.refusal.Refusal.{Refusal}
use Rattle.reader.specs.declared.refusal.Refusal.TheVariants.{ShortBuffer}
use Rattle.reader.specs.First.{◌or_else◌}
use Rattle.reader.specs.Limits.{max_tasks}
use Rattle.reader.specs.Entries.{tasks}
use Rattle.reader.specs.JobFile.{job_at, read_job}
use Rattle.reader.specs.PlanFile.{plan_length}
use Rattle.reader.proofs.Chain.{pass, stop}
use Rattle.writer.specs.Write.{pack, plan_numbers, plan_bytes, room_fault}
use Rattle.writer.specs.Puts.{Puts}
use Rattle.writer.proofs.PutLaws.{splice_front}
use Rattle.rules.specs.Attempts.{placed}
use Rattle.rules.specs.Planner.{planner}
use Rattle.rules.proofs.PlannedPasses.{planned_sound}
use Rattle.planner.specs.Tasks.{planned}
use Rattle.planner.proofs.PlannedLaws.{attempt_refused, attempt_placed}
use Rattle.seqopchi.specs.Files.{refusal_of, plan_or, plan_file_fault, plan_file}
use Rattle.seqopchi.proofs.ReadLaws.{refuses, bad_job, job_fine, job_is, job_sound, roomy, short}

-- numbers at a buffer's front, and behind them what stood there
pub put_front : {out vs b : List ℕ} {n : ℕ} → Puts out 0 vs b n → pack vs ++ drop (length (pack vs)) out ≡ b
put_front {out} {vs} {b} {n} puts = sym (puts.buffer ∙ splice_front out (pack vs) (length (pack vs)) refl)

module _ (file out : List ℕ) {w : Result Job Refusal} (is : w ≡ read_job file) where
  pub job_refused_fault : {r : Refusal} → w ≡ Err r → plan_file_fault file out ≡ some r
  unfolding plan_file_fault
  job_refused_fault q = stop _ (bad_job file is q)

  pub job_refused : {r : Refusal} → w ≡ Err r → plan_file file out ≡ record { answer = Err r; buffer = out }
  unfolding plan_file
  job_refused q = refuses _ out (job_refused_fault q) refl

  module _ {job : Job} (done : w ≡ Ok job) where
    same : job ≡ job_at file
    same = job_is file is done

    to_room : plan_file_fault file out ≡ (room_fault out (plan_length (tasks job)) or_else refusal_of (planner job))
    unfolding plan_file_fault
    to_room = pass _ (job_fine file is done) ∙ ap (λ j. room_fault out (plan_length (tasks j)) or_else refusal_of (planner j)) (sym same)

    pub no_room_fault : {r : Refusal} → room_fault out (plan_length (tasks job)) ≡ some r → plan_file_fault file out ≡ some r
    no_room_fault q = to_room ∙ stop _ q

    pub no_room : length out < plan_length (tasks job)
        → plan_file file out ≡ record { answer = Err (ShortBuffer (plan_length (tasks job))); buffer = out }
    unfolding plan_file
    no_room h = refuses _ out (no_room_fault (short out _ h)) refl

    module _ (room : room_fault out (plan_length (tasks job)) ≡ none) {p : Result Plan Refusal} (ep : p ≡ planned (planner job)) where
      to_planner : plan_file_fault file out ≡ refusal_of (planner job)
      to_planner = to_room ∙ pass _ room

      pub no_place_fault : {r : Refusal} → p ≡ Err r → plan_file_fault file out ≡ some r
      no_place_fault q = to_planner ∙ ap refusal_of (attempt_refused (planner job) p ep q)

      pub no_place_lem : {r : Refusal} → p ≡ Err r → plan_file file out ≡ record { answer = Err r; buffer = out }
      unfolding plan_file
      no_place_lem q = refuses _ out (no_place_fault q) refl

      module _ {plan : Plan} (q : p ≡ Ok plan) where
        found : planner job ≡ placed plan
        found = attempt_placed (planner job) p ep q

        -- the plan's bytes fit the buffer
        pub fits : plan_length (min plan.task_count max_tasks) ≤ length out
        fits =
            let sound = job_sound file is done in
            omega (arith, (planned_sound job sound plan found).count, sound.tasks_most, roomy out _ room)

        pub plan_written : (b : List ℕ) (n : ℕ) → Puts out 0 (plan_numbers plan) b n → plan_file file out ≡ record { answer = Ok tt; buffer = b }
        unfolding plan_file plan_bytes
        plan_written b n puts =
            let none_found : plan_file_fault file out ≡ none = to_planner ∙ ap refusal_of found in
            let plan_is : plan_or (planner (job_at file)) ≡ plan = ap (λ j. plan_or (planner j)) (sym same) ∙ ap plan_or found in
            rw (none_found, plan_is) (ap (λ x. record { answer = Ok tt; buffer = x }) (put_front puts))
