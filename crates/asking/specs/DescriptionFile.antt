-- The description of an extra task after its job, document 02 (iii): its first fault in file order, and the value, each number where it stands.
use Rattle.std.specs.Prelude.{ℕ, zero, suc, ◌+◌, ◌-◌, ◌*◌, List, replicate}
use Rattle.std.proofs.Math.Option.{Option}
use Rattle.reader.specs.declared.job.Link.{Link}
use Rattle.reader.specs.declared.job.Job.{Job}
use Rattle.reader.specs.declared.plan.Place.{Place}
use Rattle.reader.specs.declared.refusal.Refusal.{Refusal}
use Rattle.reader.specs.declared.refusal.Refusal.TheVariants.{LinkOrder}
use Rattle.reader.specs.First.{◌or_else◌, first, unless, fill}
use Rattle.reader.specs.Limits.{max_links, max_time}
use Rattle.reader.specs.Entries.{nodes, tasks, no_link}
use Rattle.reader.specs.Number.{number_at, count_fault, value_fault}
use Rattle.reader.specs.Sound.{below}
use Rattle.reader.specs.JobFile.{task_width, task_fault, task_at, tail_fault}
use Rattle.reader.specs.PlanFile.{place_fault, place_at}
use Rattle.rules.specs.declared.Description.{Description}

-- where the links begin, with their count: behind the task's entry
abbrev pub new_link_section : Job → ℕ
new_link_section job = task_width job.version (nodes job)

-- 'per link from and delay': a link to the new task n
unfoldable pub new_link_at : List ℕ → ℕ → ℕ → Link
new_link_at s at n = record { from = number_at s at; to = n; delay = number_at s (at + 4) }

-- 'rising strictly by from': links to one task rise by from exactly if they stand in a job's order
unfoldable pub new_link_fault : List ℕ → ℕ → ℕ → Link → Option Refusal
new_link_fault s at n before =
    value_fault s at 0 (n - 1)
    or_else value_fault s (at + 4) 0 max_time
    or_else unless (below before (new_link_at s at n)) (LinkOrder at)

-- the link before link k of those from an offset; before the first 0 to 0, which is below every link to n
unfoldable pub new_link_before : List ℕ → ℕ → ℕ → ℕ → Link
new_link_before s at n zero = no_link
new_link_before s at n (suc k) = new_link_at s (at + 8 * k) n

-- 'a link count (0 to 512) and per link ..': the section at an offset
unfoldable pub new_links_fault : List ℕ → ℕ → ℕ → Option Refusal
new_links_fault s at n =
    count_fault s at 0 max_links or_else first (number_at s at) (λ k. new_link_fault s (at + 4 + 8 * k) n (new_link_before s (at + 4) n k))

unfoldable pub new_links_at : List ℕ → ℕ → ℕ → ℕ → List Link
new_links_at s at n m = fill m (λ k. new_link_at s (at + 4 + 8 * k) n) (replicate max_links no_link)

-- 'The description is a task entry in the job's version, then a link count .. and per link ..'
unfoldable pub description_fault : List ℕ → Job → Option Refusal
description_fault s job = task_fault job.version s 0 (nodes job) or_else new_links_fault s (new_link_section job) (tasks job)

unfoldable pub description_at : List ℕ → Job → Description
description_at s job =
    let at = new_link_section job in
    let m = number_at s at in
    record { task = task_at job.version s 0 (nodes job); link_count = m; links = new_links_at s at (tasks job) m }

-- where a description ends
abbrev pub description_length : List ℕ → Job → ℕ
description_length s job = new_link_section job + 4 + 8 * number_at s (new_link_section job)

-- what is asked: the description and the tail. 'a commit adds the four plan numbers'
unfoldable pub question_fault : List ℕ → Job → Option Refusal
question_fault s job = description_fault s job or_else tail_fault s (description_length s job)

unfoldable pub booking_fault : List ℕ → Job → Option Refusal
booking_fault s job =
    let at = description_length s job in
    description_fault s job
    or_else place_fault s at (nodes job) (description_at s job).task.run
    or_else tail_fault s (at + 16)

abbrev pub booked_place : List ℕ → Job → Place
booked_place s job = place_at s (description_length s job)
