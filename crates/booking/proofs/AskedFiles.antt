-- Asking and committing on files: an asked place is always booked, and what is booked reads well and passes the judge.
use Prim.Native.Nat.{ℕ}
use mathlib.Core.Path.{◌≡◌, refl, ap, ◌∙◌}
use mathlib.Core.List.{List}
use mathlib.Core.Option.{Option, none, some}
use Rattle.reader.specs.declared.job.Job.{Job}
use Rattle.reader.specs.declared.plan.Place.{Place}
use Rattle.reader.specs.declared.plan.Plan.{Plan}
use Rattle.reader.specs.declared.refusal.Refusal.{Refusal}
use Rattle.reader.specs.JobFile.{job_at}
use Rattle.reader.proofs.TestLaws.{never}
use Rattle.reader.proofs.FirstLaws.{or_else_l, or_else_r, or_else_i}
use Rattle.reader.proofs.RefusalLaws.{answered_done}
use Rattle.rules.specs.declared.Description.{Description}
use Rattle.rules.specs.Description.{NewSound, PlaceSound, Room, full_fault}
use Rattle.rules.specs.Judge.{judge}
use Rattle.rules.specs.Attempts.{Attempt, placed}
use Rattle.rules.specs.Planner.{planner}
use Rattle.rules.specs.Longer.{longer_job, longer_plan}
use Rattle.rules.specs.Asking.{ask, Booked, longer, commit}
use Rattle.rules.specs.Held.{Passed, Let}
use Rattle.rules.proofs.AskLaws.{asked_sound, asked_booked, asked_own, booked_longer}
use Rattle.rules.proofs.HeldPasses.{booked_passes}
use Rattle.asking.specs.DescriptionFile.{question_fault, booked_place}
use Rattle.asking.proofs.DescriptionLaws.{question_sound, booking_sound}
use Rattle.rules.proofs.RoomLaws.{full_room}
use Rattle.seqopchi.specs.Files.{plan_in, judge_files}
use Rattle.booking.specs.Asks.{new_in, unless_refused, steps_fault, ask_fault, ask_files, commit_fault, commit_files, booking_of}
use Rattle.seqopchi.proofs.ReadLaws.{files_sound}
use Rattle.booking.proofs.BookingLaws.{same_description, same_place, booking_reads}

pub not_refused : {A : Type 0} (o : Option Refusal) (a : Attempt A) (b : A) → unless_refused o a ≡ placed b → (o ≡ none) × (a ≡ placed b)
unfolding unless_refused
not_refused none a b h = (refl, h)
not_refused (some r) a b h = never (cc)

pub go_on : {A : Type 0} (o : Option Refusal) (a : Attempt A) → o ≡ none → unless_refused o a ≡ a
unfolding unless_refused
go_on o a h = rw h

module _ (file plan : List ℕ) where
  -- the pair in two files
  abbrev pub pair_in : Booked
  pair_in = record { job = job_at file; plan = plan_in file plan }

  pub files_passed : judge_files file plan ≡ none → Passed pair_in
  unfolding judge_files judge
  files_passed h =
      let both = files_sound file plan (or_else_l _ _ h) in
      record { sound = both.0; planned = both.1; passed = (answered_done _).1 (or_else_r _ _ h) }

  -- what asking found: nothing was refused before
  module _ (task : List ℕ) (x : Place) (h : ask_files file plan task ≡ placed x) where
    abbrev job : Job
    job = job_at file

    abbrev places : Plan
    places = plan_in file plan

    abbrev d : Description
    d = new_in file task

    no_fault : ask_fault file plan task ≡ none
    unfolding ask_files
    no_fault = (not_refused _ _ x h).0

    answer : ask job places d ≡ placed x
    unfolding ask_files
    answer = (not_refused _ _ x h).1

    pub judged : judge_files file plan ≡ none
    unfolding steps_fault
    judged = or_else_l _ _ no_fault

    question : question_fault task job ≡ none
    unfolding steps_fault
    question = or_else_l _ _ (or_else_r _ _ no_fault)

    not_full : full_fault job d ≡ none
    unfolding steps_fault
    not_full = or_else_r _ _ (or_else_r _ _ no_fault)

    held : Passed pair_in
    held = files_passed judged

    new : NewSound job d
    new = question_sound task job held.sound question

    room : Room job d
    room = (full_room job d).0 not_full

    place : PlaceSound job d x
    place = asked_sound job places d new room x held.sound answer

    -- 'With no commit between, an asked place is always booked'
    pub asked_file_booked : commit_files file plan (booking_of task x) ≡ placed (longer job places d x)
    unfolding commit_files steps_fault
    asked_file_booked =
        let same = same_description task job question x in
        let reads = booking_reads task job question x held.sound place in
        go_on _ _ (or_else_i _ _ judged (or_else_i _ _ reads (ap (full_fault job) same ∙ not_full)))
        ∙ ap (λ y. commit job places y (booked_place (booking_of task x) job)) same
        ∙ ap (commit job places d) (same_place task job question x held.sound place)
        ∙ asked_booked job places d new room held.sound held.passed x answer

    -- 'a plan that was the planner's own is then the planner's plan of the longer job'
    pub asked_file_own : planner job ≡ placed places → planner (longer_job job d) ≡ placed (longer_plan job places x)
    asked_file_own own = asked_own job places d new room held.sound own x answer

  -- what a commit hands back is the longer pair, which reads well and passes the judge
  module _ (booking : List ℕ) (b : Booked) (h : commit_files file plan booking ≡ placed b) where
    abbrev added : Description
    added = new_in file booking

    no_commit_fault : commit_fault file plan booking ≡ none
    unfolding commit_files
    no_commit_fault = (not_refused _ _ b h).0

    pub commit_judged : judge_files file plan ≡ none
    unfolding steps_fault
    commit_judged = or_else_l _ _ no_commit_fault

    was_passed : Passed pair_in
    was_passed = files_passed commit_judged

    pub booking_let : Let pair_in added (booked_place booking (job_at file))
    unfolding steps_fault
    booking_let =
        let reads = booking_sound booking (job_at file) was_passed.sound (or_else_l _ _ (or_else_r _ _ no_commit_fault)) in
        record { new = reads.0; room = (full_room (job_at file) added).0 (or_else_r _ _ (or_else_r _ _ no_commit_fault)); place = reads.1 }

    books : commit (job_at file) (plan_in file plan) added (booked_place booking (job_at file)) ≡ placed b
    unfolding commit_files
    books = (not_refused _ _ b h).1

    pub booked_file_passes : Passed b
    booked_file_passes = booked_passes pair_in was_passed added _ booking_let b books

    pub booked_file_is : longer (job_at file) (plan_in file plan) added (booked_place booking (job_at file)) ≡ b
    booked_file_is = booked_longer (job_at file) (plan_in file plan) added _ b books
