-- Number and both places of every refusal of the calls can be taken back out of the 8-byte result.
use Prim.Native.Nat.{ℕ, ◌<◌}
use native.Mathlib.Omega.{arith}
use mathlib.Core.Path.{◌≡◌, subst}
use mathlib.Core.List.{List}
use mathlib.Core.Logic.{⊎_elim}
use mathlib.Core.Option.{Option, some}
use Rattle.reader.specs.declared.job.Job.{Job}
use Rattle.reader.specs.declared.refusal.Refusal.{Refusal}
use Rattle.reader.specs.declared.refusal.Refusal.TheVariants.{SameNode, TooSoon, Early, Late, PrimaryUnfed, BackupUnfed, CommonLoss, Overlap}
use Rattle.reader.specs.declared.refusal.Refusal.TheVariants.{NoPrimary, NoBackup, NoSuchNode}
use Rattle.reader.specs.Entries.{tasks}
use Rattle.reader.specs.Sound.{Sound}
use Rattle.reader.specs.Refusals.{tell, answered, result_number, Fits, FaultFits}
use Rattle.reader.specs.JobFile.{job_at}
use Rattle.reader.proofs.TestLaws.{never}
use Rattle.reader.proofs.Promise.{job_sound}
use Rattle.reader.proofs.PackingLaws.{packed_number, packed_first, packed_second, tell_number}
use Rattle.reader.proofs.FitLaws.{fits_none, fits_unless, fits_or_else, fits_first, fits_at, job_fits, plan_fits}
use Rattle.writer.proofs.WriteFits.{room_fits}
use Rattle.rules.specs.declared.Loss.{Loss}
use Rattle.rules.specs.declared.Loss.TheVariants.{NoLoss, Lost}
use Rattle.rules.specs.Rules.{Row}
use Rattle.rules.specs.Judge.{first_task, first_link, first_pair, breach}
use Rattle.rules.specs.Attempts.{Attempt, refused, placed}
use Rattle.rules.specs.Planner.{planner}
use Rattle.rules.proofs.FaultSetLaws.{from_low}
use Rattle.rules.proofs.PlaceTaskLaws.{place_task_refused}
use Rattle.rules.proofs.PlannerRefusals.{planner_refused}
use Rattle.replay.proofs.ListLaws.{list_fits}
use Rattle.seqopchi.specs.Files.{files_fault, judge_files, refusal_of, plan_file_fault, plan_file, loss_fault, replay_fault, replay_files}
use Rattle.seqopchi.specs.Files.{sets_fault, sets_files}
use Rattle.seqopchi.specs.Unpacks.{Unpacks, WordLoss}
use Rattle.seqopchi.proofs.ReadLaws.{files_sound}

pub unpacks : (o : Option Refusal) → FaultFits o → (r : Refusal) → o ≡ some r → Unpacks (tell r) (result_number (answered o))
unpacks o f r e =
    let g = f r e in
    rw e (record { number = packed_number (tell r) g; first = packed_first (tell r) g; second = packed_second (tell r) g })

pub refused_with : {A : Type 0} (a : Attempt A) (r : Refusal) → refusal_of a ≡ some r → a ≡ refused r
refused_with (refused s) r e = cc
refused_with (placed x) r e = never (cc)

module _ (job : Job) (sound : Sound job) where
  -- refusals that name tasks of the job
  pub named : (r : Refusal) → (tell r).first < tasks job → (tell r).second < tasks job → Fits (tell r)
  named r a b =
      let most = sound.tasks_most in
      record { number = omega (arith, (tell_number r).most); first = omega (arith, most); second = omega (arith, most) }

  breach_fits : (t : ℕ → Row) → FaultFits (breach job t)
  unfolding breach first_task first_link first_pair
  breach_fits t =
      fits_or_else _ _ (fits_first _ _ (λ j p. fits_unless _ _ (named (SameNode j) p p))) (λ _.
      fits_or_else _ _ (fits_first _ _ (λ j p. fits_unless _ _ (named (TooSoon j) p p))) (λ _.
      fits_or_else _ _ (fits_first _ _ (λ j p. fits_unless _ _ (named (Early j) p p))) (λ _.
      fits_or_else _ _ (fits_first _ _ (λ j p. fits_unless _ _ (named (Late j) p p))) (λ _.
      fits_or_else _ _ (fits_first _ _ (λ k p. fits_unless _ _ (named (PrimaryUnfed _ _) (from_low job sound k p) (sound.into k p)))) (λ _.
      fits_or_else _ _ (fits_first _ _ (λ k p. fits_unless _ _ (named (BackupUnfed _ _) (from_low job sound k p) (sound.into k p)))) (λ _.
      fits_or_else _ _ (fits_first _ _ (λ j p. fits_unless _ _ (named (CommonLoss j) p p))) (λ _.
      fits_first _ _ (λ i p. fits_first _ _ (λ j q. fits_unless _ _ (named (Overlap i j) p q))))))))))

  planner_fits : FaultFits (refusal_of (planner job))
  planner_fits r e =
      let w = (planner_refused job r).0 (refused_with (planner job) r e) in
      ⊎_elim
      (λ v. subst (λ s. Fits (tell s)) v.1 (named (NoPrimary w.0) w.2 w.2))
      (λ v. subst (λ s. Fits (tell s)) v.3 (named (NoBackup w.0) w.2 w.2))
      ((place_task_refused _ _ _ _ _ r).0 w.4)

loss_fits : (job : Job) (loss : Loss) → WordLoss loss → FaultFits (loss_fault job loss)
unfolding loss_fault
loss_fits job NoLoss w = fits_none
loss_fits job (Lost q f) w = fits_unless _ (NoSuchNode q) (fits_at 18 q (omega arith) w)

module _ (job : List ℕ) where
  module _ (plan : List ℕ) where
    files_fit : FaultFits (files_fault job plan)
    unfolding files_fault
    files_fit = fits_or_else _ _ (job_fits job) (λ e. plan_fits plan (job_at job) (job_sound job e))

    pub judge_fits : FaultFits (judge_files job plan)
    unfolding judge_files
    judge_fits = fits_or_else _ _ files_fit (λ e. breach_fits (job_at job) (files_sound job plan e).0 _)

    pub replay_fits : (loss : Loss) → WordLoss loss → (list : Option (List ℕ)) (out : List ℕ) → FaultFits (replay_fault job plan loss list out)
    unfolding replay_fault
    replay_fits loss w list out =
        fits_or_else _ _ files_fit (λ e.
        let sound = (files_sound job plan e).0 in
        fits_or_else _ _ (loss_fits (job_at job) loss w) (λ _.
        fits_or_else _ _ (list_fits (job_at job) _ sound list) (λ _. room_fits out _ (omega (arith, sound.tasks_most)))))

    -- `seqopchi_judge`
    pub judge_unpacks : (r : Refusal) → judge_files job plan ≡ some r → Unpacks (tell r) (result_number (answered (judge_files job plan)))
    judge_unpacks = unpacks _ judge_fits

    -- `seqopchi_replay` and `seqopchi_replay_times` with no loss, which needs no more, `seqopchi_replay_loss` and `seqopchi_replay_times_loss`
    pub replay_unpacks : (loss : Loss) → WordLoss loss → (list : Option (List ℕ)) (out : List ℕ) (r : Refusal)
        → replay_fault job plan loss list out ≡ some r → Unpacks (tell r) (result_number (replay_files job plan loss list out).answer)
    unfolding replay_files
    replay_unpacks loss w list out = unpacks _ (replay_fits loss w list out)

    sets_fits : (out : List ℕ) → FaultFits (sets_fault job plan out)
    unfolding sets_fault
    sets_fits out = fits_or_else _ _ files_fit (λ e. room_fits out _ (omega (arith, (files_sound job plan e).0.tasks_most)))

    -- `seqopchi_fault_sets`
    pub sets_unpacks : (out : List ℕ) (r : Refusal) → sets_fault job plan out ≡ some r
        → Unpacks (tell r) (result_number (sets_files job plan out).answer)
    unfolding sets_files
    sets_unpacks out = unpacks _ (sets_fits out)

  pub plan_file_fits : (out : List ℕ) → FaultFits (plan_file_fault job out)
  unfolding plan_file_fault
  plan_file_fits out =
      fits_or_else _ _ (job_fits job) (λ e.
      let sound = job_sound job e in
      fits_or_else _ _ (room_fits out _ (omega (arith, sound.tasks_most))) (λ _. planner_fits (job_at job) sound))

  -- `seqopchi_plan`
  pub plan_unpacks : (out : List ℕ) (r : Refusal) → plan_file_fault job out ≡ some r → Unpacks (tell r) (result_number (plan_file job out).answer)
  unfolding plan_file
  plan_unpacks out = unpacks _ (plan_file_fits out)
