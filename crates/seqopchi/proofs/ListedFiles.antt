-- A list that holds the listed run times: its call gives what the call without a list gives, every refusal and every byte.
use Prim.Native.Nat.{ℕ, ◌*◌, ◌<◌}
use mathlib.Core.Path.{◌≡◌, refl, sym, ap, ap₂, ◌∙◌}
use mathlib.Core.List.{List}
use mathlib.Core.Option.{Option, none, some}
use Rattle.reader.specs.declared.job.Job.{Job}
use Rattle.reader.specs.declared.plan.Plan.{Plan}
use Rattle.reader.specs.declared.refusal.Refusal.{Refusal}
use Rattle.reader.specs.First.{◌or_else◌}
use Rattle.reader.specs.Entries.{tasks}
use Rattle.reader.specs.Sound.{Sound, PlanSound}
use Rattle.reader.specs.JobFile.{job_at}
use Rattle.reader.proofs.Chain.{stop}
use Rattle.writer.specs.Write.{room_fault, writes}
use Rattle.rules.specs.declared.Loss.{Loss}
use Rattle.rules.specs.Rules.{rows}
use Rattle.rules.specs.Times.{listed_times, TimesSound, ended_row, ended_rows}
use Rattle.rules.proofs.TimesLaws.{listed_sound, ended_listed, replay_as_planned}
use Rattle.replay.specs.Outcomes.{run_bytes}
use Rattle.replay.specs.TimesFile.{times_at, times_bytes, list_fault, list_rows, list_run}
use Rattle.replay.proofs.TimesFileLaws.{written_fine, written_back}
use Rattle.replay.proofs.WriteLaws.{run_bytes_same}
use Rattle.seqopchi.specs.Files.{plan_in, files_fault, loss_fault, replay_fault, replay_files}
use Rattle.seqopchi.proofs.ReadLaws.{files_sound, refuses}

module _ (file plan : List ℕ) (loss : Loss) (out : List ℕ) where
  abbrev job : Job
  job = job_at file

  abbrev places : Plan
  places = plan_in file plan

  -- the file of the listed times
  abbrev list : List ℕ
  list = times_bytes (listed_times job places) (tasks job)

  module _ (both : Sound job × PlanSound job places) where
    listed_fits : TimesSound job places (listed_times job places)
    listed_fits = listed_sound job both.0 places both.1

    same_fault : list_fault (some list) job places ≡ list_fault none job places
    unfolding list_fault
    same_fault = written_fine job places both.0 both.1 (listed_times job places) listed_fits

    same_rows : (j : ℕ) → j < tasks job → ended_rows job places (times_at list (tasks job)) j ≡ rows job places j
    same_rows j p =
        ap (ended_row (rows job places j)) (written_back job places both.0 both.1 (listed_times job places) listed_fits j p)
        ∙ ended_listed job both.0 places j p

    same_bytes : run_bytes job (list_rows (some list) job places) (list_run (some list) job places loss)
        ≡ run_bytes job (list_rows none job places) (list_run none job places loss)
    unfolding list_rows list_run
    same_bytes = run_bytes_same job _ _ _ _ same_rows (replay_as_planned job both.0 places _ same_rows loss)

    same_files : replay_files file plan loss (some list) out ≡ replay_files file plan loss none out
    unfolding replay_files replay_fault
    same_files =
        ap₂ (λ o s. writes (files_fault file plan or_else loss_fault job loss or_else o or_else room_fault out (12 * tasks job)) s out)
        same_fault same_bytes

  -- where a file is at fault, both calls say so
  same_refusal : (r : Refusal) → files_fault file plan ≡ some r → replay_files file plan loss (some list) out ≡ replay_files file plan loss none out
  unfolding replay_files replay_fault
  same_refusal r e = refuses _ out (stop _ e) refl ∙ sym (refuses _ out (stop _ e) refl)

  pub listed_file : replay_files file plan loss (some list) out ≡ replay_files file plan loss none out
  listed_file = go (files_fault file plan) refl
    where
      go : (o : Option Refusal) → files_fault file plan ≡ o → replay_files file plan loss (some list) out ≡ replay_files file plan loss none out
      go none e = same_files (files_sound file plan e)
      go (some r) e = same_refusal r e
