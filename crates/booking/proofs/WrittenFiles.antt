-- What a commit that answers 0 has written: the files of the longer pair, which read back as it, and which the judge passes.
use Prim.Native.Nat.{ℕ, ◌≤◌}
use native.Mathlib.Omega.{arith}
use mathlib.Core.Path.{◌≡◌, refl, sym, ap, ap₂, ◌∙◌, subst}
use mathlib.Core.List.{List}
use mathlib.Core.Option.{none}
use lib.ListN.{length}
use lib.Seq.{take_at}
use borrow.Author.Tests.{le-leb}
use Rattle.reader.specs.declared.job.Job.{Job}
use Rattle.reader.specs.declared.plan.Place.{Place}
use Rattle.std.specs.Prelude.{Ok}
use Rattle.reader.specs.Entries.{nodes, tasks, links}
use Rattle.reader.specs.Refusals.{answered, result_number}
use Rattle.reader.specs.Sound.{Sound, PlanSound}
use Rattle.reader.specs.JobFile.{job_length, job_fault, job_at}
use Rattle.reader.specs.PlanFile.{plan_length, plan_at}
use Rattle.reader.proofs.Promise.{job_sound}
use Rattle.reader.proofs.TestLaws.{never}
use Rattle.reader.proofs.FirstLaws.{or_else_l, or_else_i, none_unless}
use Rattle.reader.proofs.RefusalLaws.{answered_done}
use Rattle.reader.proofs.PackingLaws.{result_done}
use Rattle.writer.specs.Write.{job_bytes, plan_bytes, room_fault}
use Rattle.writer.proofs.SoundReads.{sound_job_reads, sound_plan_reads}
use Rattle.writer.proofs.SoundWrites.{sound_plan_length}
use Rattle.writer.proofs.FilledJob.{RunFilled, task_filled, read_filled}
use Rattle.rules.specs.declared.Description.{Description}
use Rattle.rules.specs.Description.{Room}
use Rattle.rules.specs.Judge.{judge}
use Rattle.rules.specs.Attempts.{Attempt, refused, placed}
use Rattle.rules.specs.Longer.{longer_job, longer_plan}
use Rattle.rules.specs.Asking.{Booked, longer}
use Rattle.rules.specs.Held.{Passed}
use Rattle.asking.specs.DescriptionFile.{description_at, booked_place}
use Rattle.seqopchi.specs.Files.{plan_in, files_fault, judge_files}
use Rattle.booking.specs.Asks.{new_in, rooms_fault, commit_files, books, commit_into}
use Rattle.booking.specs.HeldFiles.{Files, FilesPass, job_need, plan_need, commits, written}
use Rattle.booking.proofs.LongerFiles.{longer_job_reread, longer_plan_reread, job_bytes_length}
use Rattle.booking.proofs.AskedFiles.{commit_judged, booking_let, booked_file_passes, booked_file_is}

-- a commit that answers 0 was not refused, and both buffers had room
done_booked : (c : Attempt Booked) (out_job out_plan : List ℕ) → (books c out_job out_plan).answer ≡ Ok tt
    → (b : Booked) × (c ≡ placed b) × (rooms_fault b out_job out_plan ≡ none)
unfolding books
done_booked (refused r) out_job out_plan h = never (cc)
done_booked (placed b) out_job out_plan h = (b, refl, (answered_done _).0 h)

module _ (a : Files) (booking : List ℕ) (b : Booked) (is : commit_files a.job a.plan booking ≡ placed b) where
  abbrev job : Job
  job = job_at a.job

  abbrev d : Description
  d = new_in a.job booking

  abbrev x : Place
  x = booked_place booking job

  pub booked_passed : Passed b
  booked_passed = booked_file_passes a.job a.plan booking b is

  longer_is : longer job (plan_in a.job a.plan) d x ≡ b
  longer_is = booked_file_is a.job a.plan booking b is

  job_is : longer_job job d ≡ b.job
  unfolding longer
  job_is = ap (λ y. y.job) longer_is

  plan_is : longer_plan job (plan_in a.job a.plan) x ≡ b.plan
  unfolding longer
  plan_is = ap (λ y. y.plan) longer_is

  -- both read back from their own bytes
  job_fine : job_fault a.job ≡ none
  unfolding judge_files files_fault
  job_fine = or_else_l _ _ (or_else_l _ _ (commit_judged a.job a.plan booking b is))

  new_filled : RunFilled (nodes job) d.task
  unfolding description_at
  new_filled = task_filled job.version booking 0 (nodes job) (job_sound a.job job_fine).nodes_most

  room : Room job d
  room = (booking_let a.job a.plan booking b is).room

  pub job_back : job_at (job_bytes b.job) ≡ b.job
  job_back =
      subst (λ y. job_at (job_bytes y) ≡ y) job_is
      (longer_job_reread job d room (subst Sound (sym job_is) booked_passed.sound) (read_filled a.job job_fine) new_filled)

  pub plan_back : plan_at (plan_bytes b.plan) (tasks b.job) ≡ b.plan
  plan_back =
      let sound = subst Sound (sym job_is) booked_passed.sound in
      let planned = subst (λ j. PlanSound j b.plan) (sym job_is) booked_passed.planned in
      subst (λ j. plan_at (plan_bytes b.plan) (tasks j) ≡ b.plan) job_is
      (subst (λ p. plan_at (plan_bytes p) (tasks (longer_job job d)) ≡ p) plan_is
      (longer_plan_reread job d room sound (plan_in a.job a.plan) x (subst (PlanSound (longer_job job d)) (sym plan_is) planned)))

  abbrev pub bytes_of : Files
  bytes_of = record { job = job_bytes b.job; plan = plan_bytes b.plan }

  pub bytes_pass : judge_files bytes_of.job bytes_of.plan ≡ none
  unfolding judge_files files_fault judge
  bytes_pass =
      let sound = booked_passed.sound in
      or_else_i _ _
      (or_else_i _ _ (sound_job_reads b.job sound) (rw job_back (sound_plan_reads b.job b.plan sound booked_passed.planned)))
      (rw (job_back, plan_back) ((answered_done _).0 booked_passed.passed))

  -- as long as said
  pub job_need_lem : job_need a booking ≡ length (job_bytes b.job)
  unfolding longer_job
  job_need_lem = ap (λ y. job_length y.version (nodes y) (tasks y) (links y)) job_is ∙ job_bytes_length b.job booked_passed.sound job_back

  pub plan_need_lem : plan_need a ≡ length (plan_bytes b.plan)
  unfolding longer_job
  plan_need_lem = ap (λ y. plan_length (tasks y)) job_is ∙ sound_plan_length b.job b.plan booked_passed.sound booked_passed.planned

  -- where there is room, these are written
  module _ (out_job out_plan : List ℕ) where
    pub are_written : rooms_fault b out_job out_plan ≡ none → written a booking (commits a booking out_job out_plan) ≡ bytes_of
    unfolding commit_into books
    are_written fits =
        rw (is, fits)
        (ap₂ (λ j p. record { job = j; plan = p }) (take_at (job_bytes b.job) _ (job_need a booking) (sym job_need_lem))
        (take_at (plan_bytes b.plan) _ (plan_need a) (sym plan_need_lem)))

    pub rooms : job_need a booking ≤ length out_job → plan_need a ≤ length out_plan → result_number (commits a booking out_job out_plan).answer ≡ 0
    unfolding commit_into books rooms_fault room_fault
    rooms h k =
        let fits : rooms_fault b out_job out_plan ≡ none =
        or_else_i _ _ (none_unless _ _ (le-leb (length (job_bytes b.job)) (length out_job) (omega (arith, job_need_lem))))
        (none_unless _ _ (le-leb (length (plan_bytes b.plan)) (length out_plan) (omega (arith, plan_need_lem)))) in
        rw (is, fits)

-- of a call that answers 0
module _ (a : Files) (booking out_job out_plan : List ℕ) (done : result_number (commits a booking out_job out_plan).answer ≡ 0) where
  pub booked : (b : Booked) × (commit_files a.job a.plan booking ≡ placed b) × (rooms_fault b out_job out_plan ≡ none)
  unfolding commit_into
  booked = done_booked _ out_job out_plan (result_done _ done)

  pub written_are : written a booking (commits a booking out_job out_plan) ≡ bytes_of a booking booked.0 booked.1
  written_are = are_written a booking booked.0 booked.1 out_job out_plan booked.2

  pub written_pass : FilesPass (written a booking (commits a booking out_job out_plan))
  written_pass =
      subst FilesPass (sym written_are) (ap (λ o. result_number (answered o)) (bytes_pass a booking booked.0 booked.1))
