-- Number and both places of every refusal of asking and committing can be taken back out of the 8-byte result.
use Prim.Native.Nat.{ℕ}
use native.Mathlib.Omega.{arith}
use mathlib.Core.Path.{◌≡◌, refl, ap, subst}
use mathlib.Core.List.{List}
use mathlib.Core.Logic.{⊎_elim}
use mathlib.Core.Option.{Option, none, some}
use Rattle.reader.specs.declared.job.Job.{Job}
use Rattle.reader.specs.declared.plan.Plan.{Plan}
use Rattle.reader.specs.declared.refusal.Refusal.{Refusal}
use Rattle.reader.specs.declared.refusal.Refusal.TheVariants.{NoPrimary, NoBackup, Stale}
use Rattle.std.specs.Prelude.{Err}
use Rattle.reader.specs.Entries.{tasks}
use Rattle.reader.specs.Sound.{Sound}
use Rattle.reader.specs.Refusals.{tell, answered, result_number, Fits, FaultFits}
use Rattle.reader.specs.JobFile.{job_at}
use Rattle.reader.proofs.TestLaws.{never}
use Rattle.reader.proofs.FirstLaws.{or_else_l, or_else_r}
use Rattle.reader.proofs.RefusalLaws.{answered_refused}
use Rattle.reader.proofs.FitLaws.{fits_or_else}
use Rattle.reader.proofs.LengthLaws.{job_most, plan_most}
use Rattle.writer.proofs.SoundReads.{sound_job_reads, sound_plan_reads}
use Rattle.writer.proofs.WriteFits.{room_fits}
use Rattle.rules.specs.declared.Description.{Description}
use Rattle.rules.specs.Attempts.{Attempt, refused, placed}
use Rattle.rules.specs.Longer.{longer_job}
use Rattle.rules.specs.Asking.{ask, Booked}
use Rattle.rules.specs.Held.{Passed}
use Rattle.rules.proofs.AttemptLaws.{bind_refused}
use Rattle.rules.proofs.PlaceTaskLaws.{place_task_refused}
use Rattle.rules.proofs.LongerLaws.{longer_sound}
use Rattle.rules.proofs.AskLaws.{commit_stale}
use Rattle.asking.proofs.DescriptionLaws.{question_sound, booking_sound}
use Rattle.rules.proofs.RoomLaws.{full_room}
use Rattle.asking.proofs.DescriptionFits.{question_fits, booking_fits, full_fits}
use Rattle.seqopchi.specs.Files.{plan_in, judge_files, refusal_of}
use Rattle.booking.specs.Asks.{new_in, unless_refused, steps_fault, ask_files, commit_files, rooms_fault, books, commit_into}
use Rattle.seqopchi.specs.Unpacks.{Unpacks}
use Rattle.seqopchi.proofs.Unpacked.{unpacks, refused_with, named, judge_fits}
use Rattle.booking.proofs.AskedFiles.{files_passed, booked_file_passes}

-- a refusal that came before, or the step's own
fits_step : {A : Type 0} (o : Option Refusal) (a : Attempt A) → FaultFits o → (o ≡ none → FaultFits (refusal_of a))
    → FaultFits (refusal_of (unless_refused o a))
unfolding unless_refused
fits_step none a f g = g refl
fits_step (some r) a f g = f

module _ (job : Job) (d : Description) (sound : Sound (longer_job job d)) where
  last_named : (r : Refusal) → (tell r).first ≡ tasks job → (tell r).second ≡ tasks job → Fits (tell r)
  unfolding longer_job
  last_named r a b = named (longer_job job d) sound r (omega arith) (omega arith)

  ask_fits : (plan : Plan) → FaultFits (refusal_of (ask job plan d))
  unfolding ask
  ask_fits plan r e =
      bind_refused _ _ r (refused_with _ r e)
      (λ h. ⊎_elim
      (λ v. subst (λ s. Fits (tell s)) v.1 (last_named (NoPrimary (tasks job)) refl refl))
      (λ v. subst (λ s. Fits (tell s)) v.3 (last_named (NoBackup (tasks job)) refl refl))
      ((place_task_refused _ _ _ _ _ r).0 h))
      (λ row _ q. never (cc))

module _ (job plan : List ℕ) where
  module _ (task : List ℕ) where
    asked_fits : FaultFits (refusal_of (ask_files job plan task))
    unfolding ask_files steps_fault
    asked_fits =
        let sound : judge_files job plan ≡ none → Sound (job_at job) = λ e. (files_passed job plan e).sound in
        fits_step _ _
        (fits_or_else _ _ (judge_fits job plan) (λ e.
        fits_or_else _ _ (question_fits task (job_at job) (sound e)) (λ _. full_fits (job_at job) (sound e) (new_in job task))))
        (λ e.
        let s = sound (or_else_l _ _ e) in
        let new = question_sound task (job_at job) s (or_else_l _ _ (or_else_r _ _ e)) in
        let room = (full_room (job_at job) (new_in job task)).0 (or_else_r _ _ (or_else_r _ _ e)) in
        ask_fits (job_at job) (new_in job task) (longer_sound (job_at job) (new_in job task) room new s) (plan_in job plan))

    -- `seqopchi_ask`
    pub ask_unpacks : (r : Refusal) → refusal_of (ask_files job plan task) ≡ some r
        → Unpacks (tell r) (result_number (answered (refusal_of (ask_files job plan task))))
    ask_unpacks = unpacks _ asked_fits

  module _ (booking : List ℕ) where
    committed_fits : FaultFits (refusal_of (commit_files job plan booking))
    unfolding commit_files steps_fault
    committed_fits =
        let held : judge_files job plan ≡ none → Passed (record { job = job_at job; plan = plan_in job plan }) = files_passed job plan in
        fits_step _ _
        (fits_or_else _ _ (judge_fits job plan) (λ e.
        fits_or_else _ _ (booking_fits booking (job_at job) (held e).sound) (λ _. full_fits (job_at job) (held e).sound (new_in job booking))))
        (λ e r q.
        let h = held (or_else_l _ _ e) in
        let d = new_in job booking in
        let new = (booking_sound booking (job_at job) h.sound (or_else_l _ _ (or_else_r _ _ e))).0 in
        let room = (full_room (job_at job) d).0 (or_else_r _ _ (or_else_r _ _ e)) in
        let stale = ((commit_stale (job_at job) (plan_in job plan) d new room h.sound h.passed _ r).0 (refused_with _ r q)).1 in
        subst (λ s. Fits (tell s)) stale
        (last_named (job_at job) d (longer_sound (job_at job) d room new h.sound) (Stale (tasks (job_at job))) refl refl))

    -- 17, for the job and then for the plan
    rooms_fit : (b : Booked) → Passed b → (out_job out_plan : List ℕ) → FaultFits (rooms_fault b out_job out_plan)
    unfolding rooms_fault
    rooms_fit b p out_job out_plan =
        fits_or_else _ _ (room_fits out_job _ (omega (arith, job_most _ (sound_job_reads b.job p.sound)))) (λ _.
        room_fits out_plan _ (omega (arith, plan_most _ b.job p.sound (sound_plan_reads b.job b.plan p.sound p.planned))))

    answer_fits : (c : Attempt Booked) → FaultFits (refusal_of c) → ((b : Booked) → c ≡ placed b → Passed b)
        → (out_job out_plan : List ℕ) (r : Refusal) → (books c out_job out_plan).answer ≡ Err r
        → Unpacks (tell r) (result_number (books c out_job out_plan).answer)
    unfolding books
    answer_fits (refused s) f p out_job out_plan r e =
        unpacks (some s) f r (let same : s ≡ r = cc in ap some same)
    answer_fits (placed b) f p out_job out_plan r e =
        unpacks (rooms_fault b out_job out_plan) (rooms_fit b (p b refl) out_job out_plan) r ((answered_refused _ r).0 e)

    -- `seqopchi_commit`
    pub commit_unpacks : (out_job out_plan : List ℕ) (r : Refusal) → (commit_into job plan booking out_job out_plan).answer ≡ Err r
        → Unpacks (tell r) (result_number (commit_into job plan booking out_job out_plan).answer)
    unfolding commit_into
    commit_unpacks = answer_fits _ committed_fits (booked_file_passes job plan booking)
