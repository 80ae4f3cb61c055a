-- Where the planner's call succeeds, the judge's call passes that job and the bytes that were written.
use Prim.Native.Nat.{ℕ}
use mathlib.Core.Path.{◌≡◌, refl, sym, ap, ◌∙◌}
use mathlib.Core.List.{List, ◌++◌}
use mathlib.Core.Option.{none}
use lib.ListN.{length, take, drop}
use lib.Seq.{take_at}
use Rattle.reader.specs.declared.job.Job.{Job}
use Rattle.reader.specs.declared.plan.Plan.{Plan}
use Rattle.std.specs.Prelude.{Ok}
use Rattle.reader.specs.Entries.{tasks}
use Rattle.reader.specs.Sound.{Sound, PlanSound}
use Rattle.reader.specs.Refusals.{answered, result_number}
use Rattle.reader.specs.JobFile.{job_fault, job_at}
use Rattle.reader.specs.PlanFile.{plan_length, plan_at}
use Rattle.reader.proofs.FirstLaws.{or_else_l, or_else_r, or_else_i}
use Rattle.reader.proofs.TestLaws.{never}
use Rattle.reader.proofs.RefusalLaws.{answered_done}
use Rattle.reader.proofs.Promise.{job_sound}
use Rattle.reader.proofs.PackingLaws.{result_done}
use Rattle.writer.specs.Write.{plan_bytes}
use Rattle.writer.proofs.SoundReads.{sound_plan_reads}
use Rattle.writer.proofs.SoundWrites.{sound_plan_length, filled_plan_again}
use Rattle.rules.specs.Rules.{rows}
use Rattle.rules.specs.Judge.{breach, judge}
use Rattle.rules.specs.Attempts.{Attempt, refused, placed}
use Rattle.rules.specs.Planner.{planner}
use Rattle.rules.proofs.PlannedPasses.{planned_sound, planned_passes, planned_places}
use Rattle.seqopchi.specs.Files.{files_fault, judge_files, refusal_of, plan_or, plan_file_fault, plan_file}

-- an attempt that was not refused placed something
placed_plan : (a : Attempt Plan) → refusal_of a ≡ none → a ≡ placed (plan_or a)
placed_plan (refused r) h = never (cc)
placed_plan (placed p) h = refl

module _ (job : Job) (sound : Sound job) (plan : Plan) (h : planner job ≡ placed plan) where
  plan_sound : PlanSound job plan
  plan_sound = planned_sound job sound plan h

  -- the planner's plan reads back from its own bytes
  pub read_back : plan_at (plan_bytes plan) (tasks job) ≡ plan
  read_back = let places = planned_places job sound plan h in filled_plan_again job plan places.0 sound plan_sound places.1

  no_breach : breach job (rows job (plan_at (plan_bytes plan) (tasks job))) ≡ none
  unfolding judge
  no_breach = rw read_back ((answered_done _).0 (planned_passes job sound plan h))

module _ (file out : List ℕ) (done : (plan_file file out).answer ≡ Ok tt) where
  abbrev job : Job
  job = job_at file

  abbrev plan : Plan
  plan = plan_or (planner job)

  no_fault : plan_file_fault file out ≡ none
  unfolding plan_file
  no_fault = (answered_done _).0 done

  job_fine : job_fault file ≡ none
  unfolding plan_file_fault
  job_fine = or_else_l _ _ no_fault

  sound : Sound job
  sound = job_sound file job_fine

  pub found : planner job ≡ placed plan
  unfolding plan_file_fault
  found = placed_plan (planner job) (or_else_r _ _ (or_else_r _ _ no_fault))

  pub planned_length : length (plan_bytes plan) ≡ plan_length (tasks job)
  planned_length = sym (sound_plan_length job plan sound (plan_sound job sound plan found))

  -- the output: the plan's 8 + 16 × N bytes, and the rest as it was
  planned_buffer : (plan_file file out).buffer ≡ plan_bytes plan ++ drop (length (plan_bytes plan)) out
  unfolding plan_file
  planned_buffer = rw no_fault

  pub written : take (plan_length (tasks job)) (plan_file file out).buffer ≡ plan_bytes plan
  written = ap (take (plan_length (tasks job))) planned_buffer ∙ take_at (plan_bytes plan) _ (plan_length (tasks job)) planned_length

  pub planned_file_passes : judge_files file (take (plan_length (tasks job)) (plan_file file out).buffer) ≡ none
  unfolding judge_files files_fault
  planned_file_passes =
      rw written
      (or_else_i _ _ (or_else_i _ _ job_fine (sound_plan_reads job plan sound (plan_sound job sound plan found)))
      (no_breach job sound plan found))

-- the same on the 8-byte results
pub planned_passes_bytes : (file out : List ℕ) → result_number (plan_file file out).answer ≡ 0
    → result_number (answered (judge_files file (take (plan_length (tasks (job_at file))) (plan_file file out).buffer))) ≡ 0
planned_passes_bytes file out h = rw (planned_file_passes file out (result_done _ h))
