-- The description of an extra task, document 02 (iii): what reading promises of it, and whether the job has room for it.
use Rattle.std.specs.Prelude.{ℕ, suc, ◌+◌, ◌≤◌, ◌<◌, true, ◌≡◌, leb, get_or}
use Rattle.std.proofs.Math.Option.{Option}
use Rattle.reader.specs.declared.job.Task.{Task}
use Rattle.reader.specs.declared.job.Link.{Link}
use Rattle.reader.specs.declared.job.Job.{Job}
use Rattle.reader.specs.declared.plan.Place.{Place}
use Rattle.reader.specs.declared.refusal.Refusal.{Refusal}
use Rattle.reader.specs.declared.refusal.Refusal.TheVariants.{Full}
use Rattle.reader.specs.Tests.{◌and◌}
use Rattle.reader.specs.First.{unless}
use Rattle.reader.specs.Limits.{ready_since, max_tasks, min_deadline, max_links, max_time}
use Rattle.reader.specs.Entries.{nodes, tasks, links, no_link}
use Rattle.reader.specs.Sound.{below, SoundPlace}
use Rattle.rules.specs.declared.Description.{Description}

-- its links
abbrev pub new_links : Description → ℕ
new_links d = d.link_count

abbrev pub new_link : Description → ℕ → Link
new_link d k = get_or d.links k no_link

-- 'a task entry in the job's version', with p run times
pub record NewTask (version p : ℕ) (t : Task) : Type 0 where
  pub ready_most : t.ready ≤ max_time
  pub ready_lacks : version < ready_since → t.ready ≡ 0
  pub deadline_least : min_deadline ≤ t.deadline
  pub deadline_most : t.deadline ≤ max_time
  pub run_most : (n : ℕ) → n < p → get_or t.run n 0 ≤ max_time

-- 'a link count (0 to 512) and per link from and delay, rising strictly by from'
pub record NewSound (job : Job) (d : Description) : Type 0 where
  pub task : NewTask job.version (nodes job) d.task
  pub links_most : new_links d ≤ max_links
  pub from : (k : ℕ) → k < new_links d → (new_link d k).from < tasks job
  pub to : (k : ℕ) → k < new_links d → (new_link d k).to ≡ tasks job
  pub delay_most : (k : ℕ) → k < new_links d → (new_link d k).delay ≤ max_time
  pub order : (k : ℕ) → suc k < new_links d → below (new_link d k) (new_link d (suc k)) ≡ true

-- 'a commit adds the four plan numbers'
abbrev pub PlaceSound : Job → Description → Place → Type 0
PlaceSound job d x = SoundPlace (nodes job) d.task.run x

-- there is room for one task more, and its links
pub record Room (job : Job) (d : Description) : Type 0 where
  pub tasks_fit : suc (tasks job) ≤ max_tasks
  pub links_fit : links job + new_links d ≤ max_links

-- '20, full, at the 65th task or 513th link, new task number / 0'
unfoldable pub full_fault : Job → Description → Option Refusal
full_fault job d = unless (leb (suc (tasks job)) max_tasks and leb (links job + new_links d) max_links) (Full (tasks job))
