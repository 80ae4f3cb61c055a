-- Laws of reading a description, a question and a booking: each section behind those that passed.
use Prim.Native.Nat.{ℕ, ◌+◌, ◌*◌, ◌≤◌, ◌<◌}
use mathlib.Core.Path.{◌≡◌, sym, ap, ap₂, ◌∙◌}
use mathlib.Core.List.{List}
use mathlib.Core.Option.{none, some}
use lib.ListN.{length}
use native.Mathlib.Omega.{arith}
use Rattle.std.specs.Prelude.{Result, Ok}
use Rattle.reader.specs.declared.job.Job.{Job}
use Rattle.reader.specs.declared.job.Link.{Link}
use Rattle.reader.specs.declared.job.Task.{Task}
use Rattle.reader.specs.declared.plan.Place.{Place}
use Rattle.reader.specs.declared.refusal.Refusal.{Refusal}
use Rattle.reader.specs.declared.refusal.Refusal.TheVariants.{Tail}
use Rattle.reader.specs.Entries.{nodes, tasks}
use Rattle.reader.specs.Number.{number_at}
use Rattle.reader.specs.Reads.{Reads}
use Rattle.reader.specs.JobFile.{task_fault, task_at, task_width, tail_fault}
use Rattle.reader.specs.PlanFile.{place_fault, place_at}
use Rattle.rules.specs.declared.Description.{Description}
use Rattle.asking.specs.DescriptionFile.{new_link_section, new_links_fault, new_links_at, description_fault, description_at, description_length}
use Rattle.asking.specs.DescriptionFile.{question_fault, booking_fault, booked_place}
use Rattle.reader.proofs.Chain.{pass, stop, finished, reads_none, reads_value}
use Rattle.reader.proofs.Faultless.{good_tail}
use Rattle.reader.proofs.JobLaws.{tail_some}

-- the task's entry is read, up to an offset
pub record TaskRead (s : List ℕ) (job : Job) (t : Task) (at : ℕ) : Type 0 where
  pub fine : task_fault job.version s 0 (nodes job) ≡ none
  pub is : t ≡ task_at job.version s 0 (nodes job)
  pub ends : at ≡ new_link_section job

pub task_read : {s : List ℕ} {job : Job} {w : Result (Task × ℕ) Refusal} {t : Task} {at : ℕ}
    → Reads (task_fault job.version s 0 (nodes job)) w
    (λ read. (read.0 ≡ task_at job.version s 0 (nodes job)) × (read.1 ≡ 0 + task_width job.version (nodes job)))
    → w ≡ Ok (t, at) → TaskRead s job t at
task_read reads q =
    let value = reads_value reads q in
    record { fine = reads_none reads q; is = value.0; ends = omega (arith, value.1) }

pub bad_task : (s : List ℕ) (job : Job) {r : Refusal} → task_fault job.version s 0 (nodes job) ≡ some r → description_fault s job ≡ some r
unfolding description_fault
bad_task s job q = stop _ q

-- then the links
module _ {s : List ℕ} {job : Job} {t : Task} {at : ℕ} (task : TaskRead s job t at) where
  links_same : new_links_fault s at (tasks job) ≡ new_links_fault s (new_link_section job) (tasks job)
  links_same = ap (λ at. new_links_fault s at (tasks job)) task.ends

  pub bad_links : {r : Refusal} → new_links_fault s at (tasks job) ≡ some r → description_fault s job ≡ some r
  unfolding description_fault
  bad_links q = pass _ task.fine ∙ sym links_same ∙ q

  module _ {w : Result (ℕ × ℕ) Refusal} {count end : ℕ} {list : List Link} (reads : Reads (new_links_fault s at (tasks job)) w
      (λ read. (read.0 ≡ number_at s at) × (list ≡ new_links_at s at (tasks job) read.0) × (read.1 ≡ at + 4 + 8 * read.0)))
      (q : w ≡ Ok (count, end)) where
    abbrev read : Description
    read = record { task = t; link_count = count; links = list }

    is : read ≡ description_at s job
    unfolding description_at
    is =
        let value = reads_value reads q in
        let ends = task.ends in
        let entry = task.is in
        let count = value.0 in
        let list = value.1 in
        cc

    ends : end ≡ description_length s job
    ends =
        let value = reads_value reads q in
        value.2 ∙ ap₂ (λ at m. at + 4 + 8 * m) task.ends (value.0 ∙ ap (number_at s) task.ends)

    pub described : Reads {A = Description × ℕ} (description_fault s job) (Ok (read, end))
        (λ x. (x.0 ≡ description_at s job) × (x.1 ≡ description_length s job))
    unfolding description_fault
    described = finished (pass _ task.fine ∙ sym links_same ∙ reads_none reads q) (is, ends)

-- a description that was read, and its end
pub record Described (s : List ℕ) (job : Job) (d : Description) (end : ℕ) : Type 0 where
  pub fine : description_fault s job ≡ none
  pub is : d ≡ description_at s job
  pub ends : end ≡ description_length s job

pub description_read : {s : List ℕ} {job : Job} {w : Result (Description × ℕ) Refusal} {d : Description} {end : ℕ}
    → Reads (description_fault s job) w (λ x. (x.0 ≡ description_at s job) × (x.1 ≡ description_length s job))
    → w ≡ Ok (d, end) → Described s job d end
description_read reads q = let value = reads_value reads q in record { fine = reads_none reads q; is = value.0; ends = value.1 }

module _ (s : List ℕ) (job : Job) {r : Refusal} (q : description_fault s job ≡ some r) where
  pub question_bad : question_fault s job ≡ some r
  unfolding question_fault
  question_bad = stop _ q

  pub booking_bad : booking_fault s job ≡ some r
  unfolding booking_fault
  booking_bad = stop _ q

module _ {s : List ℕ} {job : Job} {d : Description} {end : ℕ} (h : Described s job d end) where
  to_tail : question_fault s job ≡ tail_fault s end
  unfolding question_fault
  to_tail = pass _ h.fine ∙ ap (tail_fault s) (sym h.ends)

  pub question_tail : end < length s → question_fault s job ≡ some (Tail end)
  question_tail p = to_tail ∙ tail_some s end p

  pub question_done : length s ≤ end → question_fault s job ≡ none
  question_done p = to_tail ∙ good_tail s end p

  -- its place
  place_same : place_fault s end (nodes job) d.task.run ≡ place_fault s (description_length s job) (nodes job) (description_at s job).task.run
  place_same = ap₂ (λ at x. place_fault s at (nodes job) x.task.run) h.ends h.is

  pub bad_place : {r : Refusal} → place_fault s end (nodes job) d.task.run ≡ some r → booking_fault s job ≡ some r
  unfolding booking_fault
  bad_place q = pass _ h.fine ∙ stop _ (sym place_same ∙ q)

  module _ {w : Result Place Refusal} {x : Place} (reads : Reads (place_fault s end (nodes job) d.task.run) w (λ x. x ≡ place_at s end))
      (q : w ≡ Ok x) where
    to_booking_tail : booking_fault s job ≡ tail_fault s (end + 16)
    unfolding booking_fault
    to_booking_tail = pass _ h.fine ∙ pass _ (sym place_same ∙ reads_none reads q) ∙ ap (λ e. tail_fault s (e + 16)) (sym h.ends)

    pub booking_tail : end + 16 < length s → booking_fault s job ≡ some (Tail (end + 16))
    booking_tail p = to_booking_tail ∙ tail_some s (end + 16) p

    pub booking_done : length s ≤ end + 16
        → Reads {A = Description × Place} (booking_fault s job) (Ok (d, x)) (λ b. (b.0 ≡ description_at s job) × (b.1 ≡ booked_place s job))
    booking_done p = finished (to_booking_tail ∙ good_tail s (end + 16) p) (h.is, reads_value reads q ∙ ap (place_at s) h.ends)
