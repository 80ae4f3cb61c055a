-- Laws of asking and committing on files: each step behind those that passed, then the last one.
use Prim.Native.Nat.{ℕ}
use native.Mathlib.Omega.{arith}
use mathlib.Core.Path.{◌≡◌, refl, sym, ap, ap₂, ◌∙◌, subst}
use mathlib.Core.List.{List, [], ◌∷◌}
use mathlib.Core.Option.{Option, none, some}
use lib.ListN.{set, length}
use Rattle.reader.specs.declared.job.Job.{Job}
use Rattle.reader.specs.declared.plan.Place.{Place}
use Rattle.reader.specs.declared.plan.Plan.{Plan}
use Rattle.reader.specs.declared.refusal.Refusal.{Refusal}
use Rattle.std.specs.Prelude.{Result, Ok, Err, IsErrAnd}
use Rattle.reader.specs.First.{fill}
use Rattle.reader.specs.Entries.{nodes, tasks}
use Rattle.reader.specs.Refusals.{Answer, resulted, answered, result_number}
use Rattle.reader.specs.Reads.{Reads}
use Rattle.reader.specs.Sound.{Sound}
use Rattle.reader.specs.JobFile.{job_at}
use Rattle.reader.proofs.TestLaws.{never}
use Rattle.reader.proofs.FirstLaws.{or_else_i}
use Rattle.reader.proofs.NumberLaws.{is_none, is_value, is_fault}
use Rattle.reader.proofs.Chain.{pass, stop, reads_none, reads_some}
use Rattle.writer.specs.Write.{place_numbers}
use Rattle.rules.specs.declared.Description.{Description}
use Rattle.rules.specs.Description.{NewSound, full_fault}
use Rattle.rules.specs.Attempts.{Attempt, refused, placed}
use Rattle.rules.specs.Asking.{ask, commit}
use Rattle.asking.specs.Calls.{Asking, Committing, asked, committed, with_job}
use Rattle.asking.specs.Sizes.{Sizes}
use Rattle.asking.specs.DescriptionFile.{description_at, question_fault, booking_fault, booked_place}
use Rattle.asking.proofs.DescriptionLaws.{question_sound, booking_sound}
use Rattle.rules.proofs.RoomLaws.{full_room}
use Rattle.seqopchi.specs.Files.{plan_in, judge_files, refusal_of}
use Rattle.booking.specs.Asks.{new_in, unless_refused, steps_fault, ask_files, commit_files, places_after}
use Rattle.booking.proofs.AskedFiles.{go_on, files_passed}

-- what `?` hands on is the refusal
pub err_is : {A : Type 0} {r : Refusal} (w : Result A Refusal) → IsErrAnd w (λ e. e ≡ r) → w ≡ Err r
err_is (Ok x) h = absurd h
err_is (Err s) h = ap Err h

-- a plan and the job beside it, as a pair
module _ {w : Result Plan Refusal} (job : Job) where
  pub paired : {plan : Plan} → w ≡ Ok plan → ◌≡◌ {A = Result (Job × Plan) Refusal} (with_job w job) (Ok (job, plan))
  paired q = ap (λ x. with_job x job) q

  pub refused_pair : {r : Refusal} → w ≡ Err r → ◌≡◌ {A = Result (Job × Plan) Refusal} (with_job w job) (Err r)
  refused_pair q = ap (λ x. with_job x job) q

-- the last step of either call: no fault before it, where `bad` are those of the third file, and this is what was read
pub record Ready (bad : List ℕ → Job → Option Refusal) (file plan task : List ℕ) (job : Job) (places : Plan) (d : Description) : Type 0 where
  pub files : judge_files file plan ≡ none
  pub reads : bad task (job_at file) ≡ none
  pub room : full_fault (job_at file) (new_in file task) ≡ none
  pub job_is : job ≡ job_at file
  pub plan_is : places ≡ plan_in file plan
  pub new_is : d ≡ new_in file task

-- both files were read and judged, then the third was read, and then there was room
module _ (file plan : List ℕ) {w : Result (Job × Plan) Refusal}
    (is : ◌≡◌ {A = Result (Job × Plan) Refusal} w (resulted (judge_files file plan) (job_at file, plan_in file plan))) where
  module _ {x : Job × Plan} (done : w ≡ Ok x) where
    fine : judge_files file plan ≡ none
    fine = is_none _ _ _ is done

    is_job : x.0 ≡ job_at file
    is_job = ap (λ y. y.0) (is_value _ _ _ is done)

    held_sound : Sound x.0
    held_sound = subst Sound (sym is_job) (files_passed file plan fine).sound

    pub held_sizes : Sizes (nodes x.0) (tasks x.0)
    held_sizes =
        let sound = held_sound in
        record { nodes_least = sound.nodes_least; nodes_most = sound.nodes_most; tasks_least = sound.tasks_least; tasks_most = sound.tasks_most }

  module _ (bad : List ℕ → Job → Option Refusal) (task : List ℕ) where
    pub files_stop : {r : Refusal} → w ≡ Err r → steps_fault bad file plan task ≡ some r
    unfolding steps_fault
    files_stop q = stop _ (is_fault _ _ _ is q)

    module _ {x : Job × Plan} (done : w ≡ Ok x) {D : Type 0} {b : Result D Refusal} {good : D → Type 0} (read : Reads (bad task x.0) b good) where
      in_file : bad task (job_at file) ≡ bad task x.0
      in_file = ap (bad task) (sym (is_job done))

      pub read_stops : {r : Refusal} → b ≡ Err r → steps_fault bad file plan task ≡ some r
      unfolding steps_fault
      read_stops q = pass _ (fine done) ∙ stop _ (in_file ∙ reads_some read q)

      module _ {v : D} (ok : b ≡ Ok v) {d : Description} (new : d ≡ description_at task x.0) {n : Answer}
          (told : n ≡ answered (full_fault x.0 d)) where
        new_is : d ≡ new_in file task
        new_is = new ∙ ap (description_at task) (is_job done)

        full_is : n ≡ answered (full_fault (job_at file) (new_in file task))
        full_is = told ∙ ap₂ (λ j y. answered (full_fault j y)) (is_job done) new_is

        pub full_stops : {r : Refusal} → n ≡ Err r → steps_fault bad file plan task ≡ some r
        unfolding steps_fault
        full_stops q = pass _ (fine done) ∙ pass _ (in_file ∙ reads_none read ok) ∙ is_fault _ _ _ full_is q

        pub ready : n ≡ Ok tt → Ready bad file plan task x.0 x.1 d
        ready q = record {
          files = fine done;
          reads = in_file ∙ reads_none read ok;
          room = is_none _ _ _ full_is q;
          job_is = is_job done;
          plan_is = ap (λ y. y.1) (is_value _ _ _ is done);
          new_is = new_is;
        }

stops : {A : Type 0} {o : Option Refusal} {r : Refusal} (x : Attempt A) → o ≡ some r → unless_refused o x ≡ refused r
unfolding unless_refused
stops x e = rw e

-- what the last step rests on
module _ {bad : List ℕ → Job → Option Refusal} {file plan task : List ℕ} {job : Job} {places : Plan} {d : Description}
    (done : Ready bad file plan task job places d) where
  no_fault : steps_fault bad file plan task ≡ none
  unfolding steps_fault
  no_fault = or_else_i _ _ done.files (or_else_i _ _ done.reads done.room)

  file_sound : Sound (job_at file)
  file_sound = (files_passed file plan done.files).sound

  with_new : NewSound (job_at file) (new_in file task) → Asking job places d
  with_new new =
      let held = files_passed file plan done.files in
      rw (done.job_is, done.plan_is, done.new_is)
      (record { sound = held.sound; planned = held.planned; new = new; room = (full_room (job_at file) (new_in file task)).0 done.room })

-- asking
module _ (file plan task : List ℕ) where
  ask_is : ask_files file plan task ≡ unless_refused (steps_fault question_fault file plan task) (ask (job_at file) (plan_in file plan) (new_in file task))
  unfolding ask_files
  ask_is = refl

  pub ask_stops : {r : Refusal} → steps_fault question_fault file plan task ≡ some r → (w : Result Place Refusal) → IsErrAnd w (λ e. e ≡ r)
      → w ≡ asked (ask_files file plan task)
  unfolding asked
  ask_stops e w h = err_is w h ∙ sym (ap asked (ask_is ∙ stops _ e))

  -- 20 comes 'once the description .. and the tail are read': none of their faults hides behind it
  pub ask_before_full : {r : Refusal} → judge_files file plan ≡ none → question_fault task (job_at file) ≡ some r
      → ask_files file plan task ≡ refused r
  unfolding steps_fault
  ask_before_full h e = ask_is ∙ stops _ (pass _ h ∙ stop _ e)

  module _ {job : Job} {places : Plan} {d : Description} (done : Ready question_fault file plan task job places d) where
    pub asking : Asking job places d
    asking = with_new done (question_sound task (job_at file) (file_sound done) done.reads)

    pub ask_done : {w : Result Place Refusal} → w ≡ asked (ask job places d) → w ≡ asked (ask_files file plan task)
    ask_done h = h ∙ ap asked (rw (done.job_is, done.plan_is, done.new_is) (sym (ask_is ∙ go_on _ _ (no_fault done))))

-- committing, at the place that was read
module _ (file plan booking : List ℕ) where
  commit_is : commit_files file plan booking
      ≡ unless_refused (steps_fault booking_fault file plan booking)
      (commit (job_at file) (plan_in file plan) (new_in file booking) (booked_place booking (job_at file)))
  unfolding commit_files
  commit_is = refl

  pub commit_stops : {r : Refusal} → steps_fault booking_fault file plan booking ≡ some r
      → (w : Result Plan Refusal) → IsErrAnd w (λ e. e ≡ r) → (job : Job) → with_job w job ≡ committed (commit_files file plan booking)
  unfolding committed
  commit_stops e w h job = refused_pair job (err_is w h) ∙ sym (ap committed (commit_is ∙ stops _ e))

  -- and the four numbers are read before it too
  pub commit_before_full : {r : Refusal} → judge_files file plan ≡ none → booking_fault booking (job_at file) ≡ some r
      → commit_files file plan booking ≡ refused r
  unfolding steps_fault
  commit_before_full h e = commit_is ∙ stops _ (pass _ h ∙ stop _ e)

  module _ {job : Job} {places : Plan} {d : Description} {x : Place} (done : Ready booking_fault file plan booking job places d)
      (there : x ≡ booked_place booking job) where
    pub committing : Committing job places d x
    committing =
        let sound = booking_sound booking (job_at file) (file_sound done) done.reads in
        record { asking = with_new done sound.0; place = rw (there, done.job_is, done.new_is) sound.1 }

    pub commit_done : {w : Result (Job × Plan) Refusal} → w ≡ committed (commit job places d x) → w ≡ committed (commit_files file plan booking)
    commit_done h =
        h ∙ ap committed (rw (there, done.job_is, done.plan_is, done.new_is) (sym (commit_is ∙ go_on _ _ (no_fault done))))

-- what a result says of the attempt behind it
ask_refused : (t : Attempt Place) (x : Result Place Refusal) {r : Refusal} → x ≡ asked t → x ≡ Err r → t ≡ refused r
unfolding asked
ask_refused (refused s) x {r} e q = cc
ask_refused (placed y) x {r} e q = never (cc)

ask_placed : (t : Attempt Place) (x : Result Place Refusal) {z : Place} → x ≡ asked t → x ≡ Ok z → t ≡ placed z
unfolding asked
ask_placed (refused s) x {z} e q = never (cc)
ask_placed (placed y) x {z} e q = cc

-- four numbers over four others
all_four : (out : List ℕ) → length out ≡ 4 → (a b c d : ℕ) → a ∷ b ∷ c ∷ d ∷ [] ≡ set (set (set (set out 0 a) 1 b) 2 c) 3 d
all_four (p ∷ q ∷ r ∷ s ∷ []) h a b c d = refl
all_four [] h a b c d = absurd (let z : ⊥ = omega arith in z)
all_four (p ∷ []) h a b c d = absurd (let z : ⊥ = omega arith in z)
all_four (p ∷ q ∷ []) h a b c d = absurd (let z : ⊥ = omega arith in z)
all_four (p ∷ q ∷ r ∷ []) h a b c d = absurd (let z : ⊥ = omega arith in z)
all_four (p ∷ q ∷ r ∷ s ∷ (_ ∷ _)) h a b c d = absurd (let z : ⊥ = omega arith in z)

-- C is given the answer's result, and the four numbers
module _ (t : Attempt Place) {x : Result Place Refusal} (is : x ≡ asked t) (out : List ℕ) where
  pub no_places : {r : Refusal} {n : ℕ} → x ≡ Err r → n ≡ result_number (Err r)
      → (n ≡ result_number (answered (refusal_of t))) × (out ≡ places_after t out)
  no_places q e = rw (ask_refused t x is q) (e, refl)

  pub places_are : length out ≡ 4 → {y : Place} → x ≡ Ok y → (0 ≡ result_number (answered (refusal_of t)))
      × (y.primary_node ∷ y.primary_start ∷ y.backup_node ∷ y.backup_start ∷ [] ≡ places_after t out)
  unfolding fill place_numbers
  places_are four {y} q = rw (ask_placed t x is q) (refl, all_four out four y.primary_node y.primary_start y.backup_node y.backup_start)
