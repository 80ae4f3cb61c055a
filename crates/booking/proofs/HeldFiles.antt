-- After every sequence of asks and commits the files held pass the judge; asked places are booked, and the planner's own plan stays its own.
use Prim.Native.Nat.{ℕ, ◌≤◌}
use native.Mathlib.Omega.{arith}
use mathlib.Core.Path.{◌≡◌, sym, ap, ◌∙◌, subst}
use mathlib.Core.List.{List}
use mathlib.Core.Option.{Option, none}
use lib.ListN.{length, replicate, length-replicate}
use borrow.Author.Tests.{le-leb}
use Rattle.reader.specs.declared.plan.Place.{Place}
use Rattle.reader.specs.declared.plan.Plan.{Plan}
use Rattle.reader.specs.Limits.{max_plan_length}
use Rattle.reader.specs.Entries.{tasks}
use Rattle.std.specs.Prelude.{Ok}
use Rattle.reader.specs.Refusals.{answered, result_number}
use Rattle.reader.specs.JobFile.{job_fault, job_at}
use Rattle.reader.specs.PlanFile.{plan_length, plan_at}
use Rattle.reader.proofs.FirstLaws.{or_else_i, none_unless}
use Rattle.reader.proofs.RefusalLaws.{answered_done}
use Rattle.reader.proofs.PackingLaws.{result_done}
use Rattle.writer.specs.Write.{plan_bytes, room_fault}
use Rattle.writer.proofs.SoundReads.{sound_job_reads}
use Rattle.rules.specs.declared.Loss.{Loss}
use Rattle.rules.specs.Attempts.{placed}
use Rattle.rules.specs.Planner.{planner}
use Rattle.rules.specs.Asking.{longer}
use Rattle.seqopchi.specs.Files.{plan_in, refusal_of, plan_or, plan_file_fault, plan_file, replay_files}
use Rattle.booking.specs.Asks.{new_in, ask_files, booking_of}
use Rattle.seqopchi.specs.Demand.{FilesSurvive}
use Rattle.booking.specs.HeldFiles.{Files, FilesPass, FilesOwn, job_need, plan_need, commits, written}
use Rattle.booking.specs.HeldFiles.{FileCall, asks, declined, books, FileCalls, begin, next, FilesAgreed, start, agree}
use Rattle.seqopchi.proofs.PlannedFiles.{read_back, found, written as planned}
use Rattle.seqopchi.proofs.PassedFiles.{passed_bytes_survive}
use Rattle.booking.proofs.AskedFiles.{files_passed, asked_file_booked, asked_file_own}
use Rattle.booking.proofs.WrittenFiles.{job_back, booked_passed, rooms, booked, written_are, written_pass}

call_passes : (b c : Files) → FileCall b c → FilesPass b → FilesPass c
call_passes b c (asks task) p = p
call_passes b c (declined booking out_job out_plan h) p = p
call_passes b c (books booking out_job out_plan h) p = written_pass b booking out_job out_plan h

-- 'After every sequence of asks and commits the plan held passes the judge'
pub held_files_pass : (a c : Files) → FileCalls a c → FilesPass a → FilesPass c
held_files_pass a c begin p = p
held_files_pass a c (next {b} s call) p = call_passes b c call (held_files_pass a b s p)

-- and so survives any one loss, as replay's bytes show, with every list of times and with none
pub held_files_survive : (a c : Files) → FileCalls a c → FilesPass a → (loss : Loss) (list : Option (List ℕ)) (out : List ℕ)
    → result_number (replay_files c.job c.plan loss list out).answer ≡ 0 → FilesSurvive c.job c.plan loss list out
held_files_survive a c s p loss list out h = passed_bytes_survive c.job c.plan loss list out (held_files_pass a c s p) h

-- 'With no commit between, an asked place is always booked': the call of its booking answers 0, where there is room
pub asked_commits : (a : Files) (task : List ℕ) (x : Place) → ask_files a.job a.plan task ≡ placed x → (out_job out_plan : List ℕ)
    → job_need a (booking_of task x) ≤ length out_job → plan_need a ≤ length out_plan
    → result_number (commits a (booking_of task x) out_job out_plan).answer ≡ 0
asked_commits a task x h out_job out_plan = rooms a (booking_of task x) _ (asked_file_booked a.job a.plan task x h) out_job out_plan

placed_same : {A : Type 0} {x y : A} → placed x ≡ placed y → x ≡ y
placed_same e = cc

-- the planner's own plan, as a value and as files
own_value : (a : Files) → FilesPass a → FilesOwn a → planner (job_at a.job) ≡ placed (plan_in a.job a.plan)
own_value a p own =
    let job = job_at a.job in
    let sound = (files_passed a.job a.plan ((answered_done _).0 (result_done _ p))).sound in
    let out : List ℕ = replicate max_plan_length 0 in
    let w = own out (omega (arith, sound.tasks_most, length-replicate {A = ℕ} max_plan_length 0)) in
    let done = result_done _ w.0 in
    let is_found = found a.job out done in
    let same : a.plan ≡ plan_bytes (plan_or (planner job)) = sym w.1 ∙ planned a.job out done in
    is_found ∙ ap placed (sym (ap (λ s. plan_at s (tasks job)) same ∙ read_back job sound _ is_found))

module _ (file : List ℕ) (plan : Plan) (fine : job_fault file ≡ none) (own : planner (job_at file) ≡ placed plan) where
  no_fault : (out : List ℕ) → plan_length (tasks (job_at file)) ≤ length out → plan_file_fault file out ≡ none
  unfolding plan_file_fault room_fault
  no_fault out room =
      or_else_i _ _ fine
      (or_else_i _ _ (none_unless _ _ (le-leb (plan_length (tasks (job_at file))) (length out) room)) (ap refusal_of own))

  value_own : FilesOwn (record { job = file; plan = plan_bytes plan })
  unfolding plan_file
  value_own out room =
      let done : (plan_file file out).answer ≡ (Ok tt) = ap answered (no_fault out room) in
      (ap result_number done, planned file out done ∙ ap (λ a. plan_bytes (plan_or a)) own)

-- a commit of what was asked
agreed_step : (b : Files) (task out_job out_plan : List ℕ) (x : Place) → ask_files b.job b.plan task ≡ placed x
    → result_number (commits b (booking_of task x) out_job out_plan).answer ≡ 0 → FilesPass b → FilesOwn b
    → FilesOwn (written b (booking_of task x) (commits b (booking_of task x) out_job out_plan))
unfolding longer
agreed_step b task out_job out_plan x h done p own =
    let booking = booking_of task x in
    let w = booked b booking out_job out_plan done in
    let same : longer (job_at b.job) (plan_in b.job b.plan) (new_in b.job task) x ≡ w.0 =
    placed_same (sym (asked_file_booked b.job b.plan task x h) ∙ w.1) in
    let now_own : planner w.0.job ≡ placed w.0.plan =
    subst (λ y. planner y.job ≡ placed y.plan) same (asked_file_own b.job b.plan task x h (own_value b p own)) in
    let back = job_back b booking w.0 w.1 in
    subst FilesOwn (sym (written_are b booking out_job out_plan done))
    (value_own _ _ (sound_job_reads w.0.job (booked_passed b booking w.0 w.1).sound) (ap planner back ∙ now_own))

-- 'a plan that was the planner's own is then the planner's plan of the longer job'
pub agreed_files_own : (a c : Files) → FilesAgreed a c → FilesPass a → FilesOwn a → FilesPass c × FilesOwn c
agreed_files_own a c start p own = (p, own)
agreed_files_own a c (agree {b} task out_job out_plan x s h done) p own =
    let w = agreed_files_own a b s p own in
    (written_pass b (booking_of task x) out_job out_plan done, agreed_step b task out_job out_plan x h done w.0 w.1)
