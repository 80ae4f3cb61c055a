-- A sound job, and a sound plan after its job, are written wherever there is room, and read back.
use mathlib.Core.Path.{◌≡◌, sym, ap, ap₂, ◌∙◌}
use mathlib.Core.List.{List}
use lib.ListN.{length, get_or, replicate}
use Prim.Native.Nat.{ℕ, ◌≤◌}
use Rattle.reader.specs.declared.job.Job.{Job}
use Rattle.reader.specs.declared.plan.Place.{Place}
use Rattle.reader.specs.declared.plan.Plan.{Plan}
use Rattle.std.specs.Prelude.{Ok}
use Rattle.reader.specs.First.{◌or_else◌, fill}
use Rattle.reader.specs.Limits.{max_tasks}
use Rattle.reader.specs.Entries.{tasks, no_place}
use Rattle.reader.specs.Sound.{Sound, PlanSound}
use Rattle.reader.specs.JobFile.{job_at, read_job}
use Rattle.reader.specs.PlanFile.{plan_length, places_at, plan_at, read_plan}
use Rattle.writer.specs.Write.{job_bytes, plan_bytes, room_fault, write_job_fault, write_plan_fault}
use Rattle.writer.specs.Equality.{SamePlan, PlanIn}
use Rattle.reader.specs.Number.{Bytes}
use Rattle.reader.proofs.Accepted.{plan_good}
use Rattle.reader.proofs.FillLaws.{fill_get, fill_same}
use Rattle.reader.proofs.EntryLaws.{place_at_lem}
use Rattle.reader.proofs.LengthLaws.{plan_length_lem}
use Rattle.reader.proofs.RefusalLaws.{resulted_none, resulted_value}
use Rattle.reader.proofs.Promise.{job_sound}
use Rattle.writer.proofs.RoundTrip.{job_written_back, plan_read_back}
use Rattle.writer.proofs.WordLaws.{plan_words}
use Rattle.writer.proofs.SoundReads.{sound_job_reads, sound_plan_reads}

pub sound_job_written : (job : Job) (out : List ℕ) → Sound job → write_job_fault job out ≡ room_fault out (length (job_bytes job))
unfolding write_job_fault ◌or_else◌
sound_job_written job out h = rw (sound_job_reads job h)

-- '8 + 16 × N bytes'
pub sound_plan_length : (job : Job) (plan : Plan) → Sound job → PlanSound job plan → plan_length (tasks job) ≡ length (plan_bytes plan)
sound_plan_length job plan h g = plan_length_lem (plan_bytes plan) job (plan_good (plan_bytes plan) job (sound_plan_reads job plan h g))

-- a job that was read is the job in its own bytes
pub job_again : (f : List ℕ) (job : Job) → Bytes f → read_job f ≡ Ok job → job_at (job_bytes job) ≡ job
unfolding read_job
job_again f job b d =
    let is : job ≡ job_at f = resulted_value _ _ d in
    ap (λ x. job_at (job_bytes x)) is ∙ ap job_at (job_written_back f b (resulted_none _ _ d)) ∙ sym is

pub sound_plan_written : (f : List ℕ) (job : Job) (plan : Plan) (out : List ℕ) → Bytes f → read_job f ≡ Ok job → PlanSound job plan →
    write_plan_fault job plan out ≡ room_fault out (plan_length (tasks job))
unfolding read_job write_plan_fault ◌or_else◌
sound_plan_written f job plan out b d g =
    let h : Sound job = rw (resulted_value _ _ d) (job_sound f (resulted_none _ _ d)) in
    rw (sound_job_reads job h, job_again f job b d, sound_plan_reads job plan h g, ← sound_plan_length job plan h g)

pub sound_plan_reread : (job : Job) (plan : Plan) → Sound job → PlanSound job plan → PlanIn (plan_bytes plan) job plan
unfolding read_plan
sound_plan_reread job plan h g =
    let e = sound_plan_reads job plan h g in
    record { back = plan_at (plan_bytes plan) (tasks job); reads = rw e; same = plan_read_back plan job h (plan_words job h plan g) e }

-- where nothing stands behind the counted places, what is read back is the plan itself
filled_plan : (s : List ℕ) (plan : Plan) (n : ℕ) (f : ℕ → Place) → n ≤ max_tasks → n ≡ plan.task_count →
    plan.places ≡ fill n f (replicate max_tasks no_place) →
    SamePlan (plan_at s n) plan → plan_at s n ≡ plan
unfolding plan_at places_at
filled_plan s plan n f m c e same =
    let places : places_at s n ≡ plan.places = fill_same _ f (replicate max_tasks no_place) n (λ j p.
    sym (place_at_lem s n j m p) ∙ same.same_place j (rw (same.task_count_is, ← c) p)
    ∙ ap (λ l. get_or l j no_place) e ∙ fill_get f (replicate max_tasks no_place) no_place n j p m) ∙ sym e in
    ap₂ (λ v k. record { version = v; task_count = k; places = places_at s n }) same.version same.task_count_is
    ∙ ap (λ l. record { version = plan.version; task_count = plan.task_count; places = l }) places

module _ (job : Job) (plan : Plan) (f : ℕ → Place) (h : Sound job) (g : PlanSound job plan)
    (e : plan.places ≡ fill (tasks job) f (replicate max_tasks no_place)) where
  pub filled_plan_again : plan_at (plan_bytes plan) (tasks job) ≡ plan
  filled_plan_again =
      let ok = sound_plan_reads job plan h g in
      filled_plan (plan_bytes plan) plan (tasks job) f h.tasks_most (sym g.count) e (plan_read_back plan job h (plan_words job h plan g) ok)

  pub filled_plan_reread : read_plan (plan_bytes plan) job ≡ Ok plan
  unfolding read_plan
  filled_plan_reread = rw (sound_plan_reads job plan h g, filled_plan_again)
