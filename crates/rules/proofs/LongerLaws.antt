-- The longer job and plan read well, and extend the job and the plan: the entries of all earlier tasks are as they were.
use Prim.Native.Nat.{ℕ, suc, ◌+◌, ◌<◌}
use native.Mathlib.Omega.{arith}
use mathlib.Core.Path.{◌≡◌, refl, sym, ap, ◌∙◌, subst}
use lib.ListN.{replicate, length-replicate}
use Rattle.reader.specs.declared.job.Link.{Link}
use Rattle.reader.specs.declared.job.Job.{Job}
use Rattle.reader.specs.declared.plan.Place.{Place}
use Rattle.reader.specs.declared.plan.Plan.{Plan}
use Rattle.rules.specs.declared.Description.{Description}
use Rattle.reader.specs.Limits.{max_tasks, max_links}
use Rattle.reader.specs.Entries.{nodes, tasks, links, task, link, place, blank_task, no_task, no_link, no_place}
use Rattle.reader.specs.Sound.{Sound, SoundPlace, PlanSound}
use Rattle.rules.specs.Description.{new_links, new_link, NewTask, NewSound, PlaceSound, Room}
use Rattle.reader.proofs.TestLaws.{below_suc}
use Rattle.reader.proofs.FillLaws.{fill_get}
use Rattle.reader.proofs.Promise.{SoundLink, place_of, of_places}
use Rattle.rules.specs.Tables.{put}
use Rattle.rules.specs.Longer.{merged_link, longer_job, longer_plan}
use Rattle.rules.proofs.TableLaws.{put_same, put_other}
use Rattle.rules.proofs.LinkSets.{LinkOf}
use Rattle.rules.proofs.ExtendLaws.{Extends}
use Rattle.rules.proofs.MergeLaws.{each_merged, merged_has_old, merged_order}

module _ (job : Job) (d : Description) (room : Room job d) where
  abbrev big : Job
  big = longer_job job d

  pub task_put : (j : ℕ) → j < suc (tasks job) → task big j ≡ put (task job) (tasks job) d.task j
  unfolding longer_job
  task_put j p =
      fill_get (put (task job) (tasks job) d.task) (replicate max_tasks blank_task) no_task (suc (tasks job)) j p
      (omega (arith, room.tasks_fit, length-replicate max_tasks blank_task))

  pub task_old : (j : ℕ) → j < tasks job → task big j ≡ task job j
  task_old j p = task_put j (omega arith) ∙ put_other (task job) (tasks job) d.task j (omega arith)

  pub task_new : task big (tasks job) ≡ d.task
  task_new = task_put (tasks job) (omega arith) ∙ put_same (task job) (tasks job) d.task

  pub link_merged : (k : ℕ) → k < links job + new_links d → link big k ≡ merged_link job d k
  unfolding longer_job
  link_merged k p =
      fill_get (merged_link job d) (replicate max_links no_link) no_link (links job + new_links d) k p
      (omega (arith, room.links_fit, length-replicate max_links no_link))

  -- what holds of each old link and of each new one holds of each of the longer job's
  pub each_link : (P : Link → Type 0) → ((i : ℕ) → i < links job → P (link job i)) → ((e : ℕ) → e < new_links d → P (new_link d e))
      → (k : ℕ) → k < links job + new_links d → P (link big k)
  each_link P old new k p = subst P (sym (link_merged k p)) (each_merged job d P old new k p)

  module _ (new : NewSound job d) where
    pub longer_extends : Extends job big
    unfolding longer_job
    longer_extends =
        record {
          same_nodes = record { version = refl; count = refl; list = refl };
          count = refl;
          same_task = task_old;
          keeps = λ l o.
              let w = merged_has_old job d o.at o.below in
              record { at = w.0; below = w.1; is = link_merged w.0 w.1 ∙ w.2 ∙ o.is };
          only = λ l o to_old.
              each_link (λ m. m ≡ l → LinkOf job l)
              (λ i p e. record { at = i; below = p; is = e })
              (λ e p q. absurd (let t = new.to e p in let u : (new_link d e).to ≡ l.to = ap (λ m. m.to) q in let z : ⊥ = omega arith in z))
              o.at o.below o.is;
        }

    module _ (sound : Sound job) where
      tasks_sound : (j : ℕ) → j < suc (tasks job) → NewTask job.version (nodes job) (task big j)
      tasks_sound j p =
          below_suc j (tasks job) p
          (λ q. subst (NewTask job.version (nodes job)) (sym (task_old j q))
          (record {
            ready_most = sound.ready_most j q;
            ready_lacks = sound.ready_lacks j q;
            deadline_least = sound.deadline_least j q;
            deadline_most = sound.deadline_most j q;
            run_most = λ n pn. sound.run_most j n q pn;
          }))
          (λ q. subst (NewTask job.version (nodes job)) (sym task_new ∙ ap (task big) (sym q)) new.task)

      links_sound : (k : ℕ) → k < links job + new_links d → SoundLink (suc (tasks job)) (link big k)
      links_sound =
          each_link (SoundLink (suc (tasks job)))
          (λ i p. record { rise = sound.rise i p; into = omega (arith, sound.into i p); delay = sound.delay_most i p })
          (λ e p. record { rise = omega (arith, new.from e p, new.to e p); into = omega (arith, new.to e p); delay = new.delay_most e p })

      pub longer_sound : Sound big
      unfolding longer_job
      longer_sound =
          record {
            version_least = sound.version_least;
            version_most = sound.version_most;
            nodes_least = sound.nodes_least;
            nodes_most = sound.nodes_most;
            detect_most = sound.detect_most;
            send_most = sound.send_most;
            send_lacks = sound.send_lacks;
            group_most = sound.group_most;
            group_lacks = sound.group_lacks;
            tasks_least = omega arith;
            tasks_most = room.tasks_fit;
            ready_most = λ j p. (tasks_sound j p).ready_most;
            ready_lacks = λ j p. (tasks_sound j p).ready_lacks;
            deadline_least = λ j p. (tasks_sound j p).deadline_least;
            deadline_most = λ j p. (tasks_sound j p).deadline_most;
            run_most = λ j n p q. (tasks_sound j p).run_most n q;
            links_most = room.links_fit;
            rise = λ k p. (links_sound k p).rise;
            into = λ k p. (links_sound k p).into;
            delay_most = λ k p. (links_sound k p).delay;
            order = λ k p. rw (link_merged k (omega arith), link_merged (suc k) p) (merged_order job d sound new k p);
          }

  module _ (plan : Plan) (x : Place) where
    place_put : (j : ℕ) → j < suc (tasks job) → place (longer_plan job plan x) j ≡ put (place plan) (tasks job) x j
    unfolding longer_plan
    place_put j p =
        fill_get (put (place plan) (tasks job) x) (replicate max_tasks no_place) no_place (suc (tasks job)) j p
        (omega (arith, room.tasks_fit, length-replicate max_tasks no_place))

    pub place_old : (j : ℕ) → j < tasks job → place (longer_plan job plan x) j ≡ place plan j
    place_old j p = place_put j (omega arith) ∙ put_other (place plan) (tasks job) x j (omega arith)

    pub place_new_lem : place (longer_plan job plan x) (tasks job) ≡ x
    place_new_lem = place_put (tasks job) (omega arith) ∙ put_same (place plan) (tasks job) x

    module _ (planned : PlanSound job plan) (new : PlaceSound job d x) where
      places_sound : (j : ℕ) → j < suc (tasks job) → SoundPlace (nodes job) (task big j).run (place (longer_plan job plan x) j)
      places_sound j p =
          below_suc j (tasks job) p
          (λ q. rw (task_old j q, place_old j q) (place_of job plan planned j q))
          (λ q. rw (q, task_new, place_new_lem) new)

      pub longer_planned : PlanSound big (longer_plan job plan x)
      unfolding longer_job longer_plan
      longer_planned = of_places big _ planned.version refl places_sound
