-- A list that is given or not: replay goes by its times, or by the listed ones, and without a list that is replay as planned.
use Prim.Native.Nat.{ℕ, ◌<◌, ◌^◌}
use mathlib.Core.Path.{◌≡◌, refl, subst}
use mathlib.Core.List.{List}
use mathlib.Core.Option.{Option, none, some}
use native.Mathlib.Omega.{arith}
use Rattle.reader.specs.declared.job.Job.{Job}
use Rattle.reader.specs.declared.plan.Plan.{Plan}
use Rattle.std.specs.Prelude.{Ok}
use Rattle.reader.specs.Entries.{tasks}
use Rattle.reader.specs.Sound.{Sound, PlanSound}
use Rattle.reader.specs.Refusals.{FaultFits}
use Rattle.reader.proofs.FitLaws.{fits_none}
use Rattle.rules.specs.declared.Loss.{Loss}
use Rattle.rules.specs.Judge.{judge}
use Rattle.rules.specs.Times.{TimesSound, ended_rows}
use Rattle.rules.specs.Replay.{TaskRun, finish_of, replay_times}
use Rattle.rules.specs.Survival.{LossOf, Survives}
use Rattle.rules.proofs.PassedSurvives.{passed_survives}
use Rattle.rules.proofs.TimesLaws.{listed_sound, ended_listed, replay_listed}
use Rattle.rules.proofs.EndedSurvives.{passed_survives_times}
use Rattle.replay.specs.Survival.{BytesTell, BytesSurvive}
use Rattle.replay.specs.Outcomes.{run_bytes, replay_bytes}
use Rattle.replay.specs.TimesFile.{times_at, list_fault, list_times, times_in, chosen, list_rows, list_run}
use Rattle.replay.proofs.PairLaws.{finish_most}
use Rattle.replay.proofs.WriteLaws.{run_bytes_same}
use Rattle.replay.proofs.TimesFileLaws.{times_fits, times_sound}
use Rattle.replay.proofs.BytesSurvive.{bytes_tell, tells_survive}

-- the times of a list, or the listed ones
pub times_chosen : (list : Option (List ℕ)) (job : Job) (plan : Plan) → chosen (times_in list job) job plan ≡ list_times list job plan
unfolding chosen times_in list_times
times_chosen none job plan = refl
times_chosen (some s) job plan = refl

module _ (job : Job) (plan : Plan) (sound : Sound job) where
  -- the rows and the run by the times that the list comes to
  list_rows_lem : (list : Option (List ℕ)) (j : ℕ) → j < tasks job → ended_rows job plan (list_times list job plan) j ≡ list_rows list job plan j
  unfolding list_times list_rows
  list_rows_lem none j p = ended_listed job sound plan j p
  list_rows_lem (some s) j p = refl

  list_run_lem : (list : Option (List ℕ)) (loss : Loss) → replay_times job plan (list_times list job plan) loss ≡ list_run list job plan loss
  unfolding list_times list_run
  list_run_lem none loss = replay_listed job sound plan loss
  list_run_lem (some s) loss = refl

  pub list_bytes : (list : Option (List ℕ)) (loss : Loss)
      → replay_bytes job plan (list_times list job plan) loss ≡ run_bytes job (list_rows list job plan) (list_run list job plan loss)
  list_bytes list loss = run_bytes_same job _ _ _ _ (list_rows_lem list) (list_run_lem list loss)

  pub list_fits : (list : Option (List ℕ)) → FaultFits (list_fault list job plan)
  unfolding list_fault
  list_fits none = fits_none
  list_fits (some s) = times_fits s job plan sound.tasks_most

  module _ (plan_sound : PlanSound job plan) where
    pub list_sound : (list : Option (List ℕ)) → list_fault list job plan ≡ none → TimesSound job plan (list_times list job plan)
    unfolding list_fault list_times
    list_sound none fine = listed_sound job sound plan plan_sound
    list_sound (some s) fine = times_sound s job plan sound fine

    -- the finishes that replay writes fit
    list_finish : (list : Option (List ℕ)) → list_fault list job plan ≡ none → (j : ℕ) → j < tasks job → (x : TaskRun)
        → finish_of (list_rows list job plan j) x < 2 ^ 32
    list_finish list fine j p x =
        let most = finish_most job plan (list_times list job plan) (sound, plan_sound, list_sound list fine) j p x in
        subst (λ r. finish_of r x < 2 ^ 32) (list_rows_lem list j p) (omega (arith, most))

    -- demand 3, for every list without fault, and for none
    pub list_survives : (list : Option (List ℕ)) → list_fault list job plan ≡ none → judge job plan ≡ Ok tt → (loss : Loss) → LossOf job loss
        → Survives job (list_rows list job plan) loss (list_run list job plan loss)
    unfolding list_fault list_rows list_run
    list_survives none fine passed = passed_survives job plan sound plan_sound passed
    list_survives (some s) fine passed =
        passed_survives_times job plan (times_at s (tasks job)) (times_sound s job plan sound fine) sound plan_sound passed

    -- what replay writes tells the run
    pub list_tells : (list : Option (List ℕ)) → list_fault list job plan ≡ none → (loss : Loss)
        → BytesTell job (list_rows list job plan) (list_run list job plan loss) (run_bytes job (list_rows list job plan) (list_run list job plan loss))
    list_tells list fine loss = bytes_tell job _ _ (λ j p. list_finish list fine j p (list_run list job plan loss j))

    -- demand 3, as replay's bytes show it
    pub bytes_survive : (list : Option (List ℕ)) → list_fault list job plan ≡ none → judge job plan ≡ Ok tt → (loss : Loss) → LossOf job loss
        → BytesSurvive job (run_bytes job (list_rows list job plan) (list_run list job plan loss))
    bytes_survive list fine passed loss of_job =
        tells_survive job _ _ _ loss (list_tells list fine loss) (list_survives list fine passed loss of_job)
