-- The longer pair reads back from its own bytes, as the values that a commit hands back.
use Prim.Native.Nat.{suc, ◌+◌}
use mathlib.Core.Path.{◌≡◌, refl, sym, ap, ◌∙◌, subst}
use lib.ListN.{length, replicate}
use Rattle.reader.specs.declared.job.Job.{Job}
use Rattle.reader.specs.declared.plan.Place.{Place}
use Rattle.reader.specs.declared.plan.Plan.{Plan}
use Rattle.reader.specs.Limits.{max_tasks, max_links}
use Rattle.reader.specs.Entries.{nodes, tasks, links, task, place, blank_task, no_link}
use Rattle.reader.specs.Sound.{Sound, PlanSound}
use Rattle.reader.specs.JobFile.{job_length, job_at}
use Rattle.reader.specs.PlanFile.{plan_fault, plan_at, read_plan}
use Rattle.reader.proofs.TestLaws.{below_suc}
use Rattle.reader.proofs.FillLaws.{fill_same}
use Rattle.reader.proofs.Accepted.{job_good}
use Rattle.reader.proofs.LengthLaws.{job_length_lem}
use Rattle.reader.proofs.RefusalLaws.{resulted_value}
use Rattle.writer.specs.Write.{job_bytes, plan_bytes}
use Rattle.writer.proofs.SoundReads.{sound_job_reads}
use Rattle.writer.proofs.SoundWrites.{filled_plan_reread}
use Rattle.writer.proofs.FilledJob.{RunFilled, Filled, filled_job_reread}
use Rattle.rules.specs.declared.Description.{Description}
use Rattle.rules.specs.Description.{new_links, Room}
use Rattle.rules.specs.Tables.{put}
use Rattle.rules.specs.Longer.{longer_job, longer_plan}
use Rattle.rules.proofs.LongerLaws.{task_put, task_old, task_new, link_merged}

module _ (job : Job) (d : Description) (room : Room job d) where
  abbrev big : Job
  big = longer_job job d

  -- nothing stands behind its entries either
  longer_filled : Filled job → RunFilled (nodes job) d.task → Filled big
  unfolding longer_job
  longer_filled f new =
      record {
        nodes_filled = f.nodes_filled;
        tasks_filled = fill_same _ _ (replicate max_tasks blank_task) (suc (tasks job)) (λ j p. sym (task_put job d room j p));
        runs_filled = λ j p. below_suc j (tasks job) p
            (λ q. subst (RunFilled (nodes job)) (sym (task_old job d room j q)) (f.runs_filled j q))
            (λ q. subst (RunFilled (nodes job)) (sym (task_new job d room) ∙ ap (task big) (sym q)) new);
        links_filled = fill_same _ _ (replicate max_links no_link) (links job + new_links d) (λ k p. sym (link_merged job d room k p));
      }

  module _ (sound : Sound big) where
    pub longer_job_reread : Filled job → RunFilled (nodes job) d.task → job_at (job_bytes big) ≡ big
    longer_job_reread f new = filled_job_reread big sound (longer_filled f new)

    pub longer_plan_reread : (plan : Plan) (x : Place) → PlanSound big (longer_plan job plan x)
        → plan_at (plan_bytes (longer_plan job plan x)) (tasks big) ≡ longer_plan job plan x
    unfolding read_plan longer_plan longer_job
    longer_plan_reread plan x planned =
        sym (resulted_value _ (plan_fault (plan_bytes (longer_plan job plan x)) big)
        (filled_plan_reread big _ (put (place plan) (tasks job) x) sound planned refl))

-- the bytes of a job that reads back as itself
pub job_bytes_length : (job : Job) → Sound job → job_at (job_bytes job) ≡ job
    → job_length job.version (nodes job) (tasks job) (links job) ≡ length (job_bytes job)
unfolding job_at
job_bytes_length job sound again =
    ap (λ b. job_length b.version (nodes b) (tasks b) (links b)) (sym again)
    ∙ job_length_lem (job_bytes job) (job_good (job_bytes job) (sound_job_reads job sound))
