-- What reading promises of a description and of a proposed place: without a fault they are sound.
use Prim.Native.Nat.{ℕ, suc, ◌+◌, ◌*◌, ◌<◌}
use native.Mathlib.Omega.{arith}
use mathlib.Core.Path.{◌≡◌, refl}
use mathlib.Core.List.{List}
use mathlib.Core.Option.{none}
use lib.ListN.{replicate}
use Rattle.reader.specs.declared.job.Task.{Task}
use Rattle.reader.specs.declared.job.Job.{Job}
use Rattle.reader.specs.Fields.{task_fields, reaches}
use Rattle.reader.specs.Limits.{max_links}
use Rattle.reader.specs.Entries.{nodes, tasks, no_link}
use Rattle.reader.specs.Sound.{Sound}
use Rattle.rules.specs.Description.{new_links, new_link, NewTask, NewSound, PlaceSound}
use Rattle.asking.specs.DescriptionFile.{new_link_section, new_link_at, new_link_before, new_links_at, description_fault, description_at, description_length}
use Rattle.asking.specs.DescriptionFile.{question_fault, booking_fault, booked_place}
use Rattle.reader.proofs.FirstLaws.{or_else_l, or_else_r}
use Rattle.reader.proofs.FillLaws.{fill_get}
use Rattle.reader.proofs.VersionLaws.{AllWithin, within_most, within_lacks}
use Rattle.reader.proofs.Accepted.{task_good, place_good}
use Rattle.reader.proofs.Promise.{SoundTask, task_sound, place_sound}
use Rattle.asking.proofs.NewAccepted.{GoodNewLinks, new_links_good}

new_task_lem : (v p : ℕ) (t : Task) → SoundTask v p t → NewTask v p t
unfolding AllWithin task_fields reaches
new_task_lem v p t h = record {
  ready_most = within_most _ _ _ h.fields.0 (omega arith);
  ready_lacks = within_lacks _ _ _ h.fields.0;
  deadline_least = h.fields.1.0.least refl;
  deadline_most = h.fields.1.0.most refl;
  run_most = h.run;
}

module _ (s : List ℕ) (job : Job) (sound : Sound job) where
  module _ (e : description_fault s job ≡ none) where
    task_fine : NewTask job.version (nodes job) (description_at s job).task
    unfolding description_fault description_at
    task_fine = new_task_lem _ _ _ (task_sound _ s 0 _ sound.nodes_most (task_good _ s 0 _ (or_else_l _ _ e)))

    links_fine : GoodNewLinks s (new_link_section job) (tasks job)
    unfolding description_fault
    links_fine = new_links_good s _ _ (or_else_r _ _ e)

    new_link_at_lem : (k : ℕ) → k < new_links (description_at s job)
        → new_link (description_at s job) k ≡ new_link_at s (new_link_section job + 4 + 8 * k) (tasks job)
    unfolding description_at new_links_at
    new_link_at_lem k p = fill_get _ (replicate max_links no_link) no_link _ k p links_fine.count.most

    pub description_sound : NewSound job (description_at s job)
    unfolding description_at new_link_at new_link_before
    description_sound = record {
      task = task_fine;
      links_most = links_fine.count.most;
      from = λ k p. rw (new_link_at_lem k p) (omega (arith, (links_fine.link k p).from.most, sound.tasks_least));
      to = λ k p. rw (new_link_at_lem k p);
      delay_most = λ k p. rw (new_link_at_lem k p) (links_fine.link k p).delay.most;
      order = λ k p. rw (new_link_at_lem k (omega arith), new_link_at_lem (suc k) p) (links_fine.link (suc k) p).order;
    }

  pub question_sound : question_fault s job ≡ none → NewSound job (description_at s job)
  unfolding question_fault
  question_sound e = description_sound (or_else_l _ _ e)

  pub booking_sound : booking_fault s job ≡ none → NewSound job (description_at s job) × PlaceSound job (description_at s job) (booked_place s job)
  unfolding booking_fault
  booking_sound e =
      let g = place_good s (description_length s job) (nodes job) (description_at s job).task.run (or_else_l _ _ (or_else_r _ _ e)) in
      (description_sound (or_else_l _ _ e), place_sound s _ _ _ (omega (arith, sound.nodes_least)) g)
