-- Laws of the calls: each step behind those that passed, and what is written.
use Prim.Native.Nat.{ℕ, ◌*◌, ◌≤◌, ◌<◌}
use mathlib.Core.Path.{◌≡◌, refl, sym, ap, ◌∙◌, subst}
use mathlib.Core.List.{List, [], ◌∷◌, ◌++◌}
use mathlib.Core.Option.{none, some}
use lib.Dec.{leb}
use lib.ListN.{length, drop}
use borrow.Author.Tests.{le-leb}
use native.Mathlib.Nat.{mul-le-mul}
use native.Mathlib.Omega.{arith}
use Rattle.reader.specs.declared.job.Job.{Job}
use Rattle.reader.specs.declared.refusal.Refusal.{Refusal}
use Rattle.reader.specs.declared.refusal.Refusal.TheVariants.{ShortBuffer}
use Rattle.std.specs.Prelude.{Result, Ok, Err, IsErrAnd, ⊤}
use Rattle.reader.specs.Refusals.{Answer, answered}
use Rattle.reader.proofs.NumberLaws.{is_none, is_value, is_fault}
use Rattle.writer.proofs.WriteLaws.{hands_on}
use Rattle.reader.specs.Limits.{max_nodes, max_tasks}
use Rattle.reader.specs.Entries.{nodes, tasks, run}
use Rattle.reader.specs.Reads.{Reads}
use Rattle.reader.specs.Sound.{Sound}
use Rattle.reader.specs.JobFile.{job_at, job_fault, read_job}
use Rattle.reader.proofs.Accepted.{job_good}
use Rattle.reader.proofs.Chain.{pass, stop, reads_none, reads_some, reads_value}
use Rattle.reader.proofs.FirstLaws.{none_unless}
use Rattle.reader.proofs.LengthLaws.{job_length_lem}
use Rattle.reader.proofs.Promise.{job_sound as job_promise}
use Rattle.writer.specs.Write.{pack, job_bytes, room_fault, Written, writes, write_job}
use Rattle.writer.specs.Puts.{Puts}
use Rattle.writer.proofs.SameNumbers.{flat_same}
use Rattle.writer.proofs.SoundReads.{sound_job_length}
use Rattle.writer.proofs.SoundWrites.{sound_job_written}
use Rattle.seqopchi.proofs.ReadLaws.{short}
use Rattle.seqopchi.proofs.PlanLaws.{put_front}
use Rattle.history.specs.Log.{log_fault}
use Rattle.history.specs.Times.{log_time, table_numbers, table_length, renewed}
use Rattle.history.specs.Calls.{call_fault, table_fault, table_bytes, run_times, renew_fault, renewed_in, renew_job}
use Rattle.history.proofs.RenewedLaws.{run_renewed, renewed_sound, time_within}

-- a job that was read
module _ (job : List ℕ) {read : Result Job Refusal} (is : read ≡ read_job job) {value : Job} (ok : read ≡ Ok value) where
  job_fine : job_fault job ≡ none
  unfolding read_job
  job_fine = is_none _ _ _ is ok

  job_is : value ≡ job_at job
  unfolding read_job
  job_is = is_value _ _ _ is ok

  pub job_sound : Sound value
  job_sound = rw job_is (job_promise job job_fine)

  -- the table's bytes
  pub table_asks : table_length value ≡ table_length (job_at job)
  table_asks = ap table_length job_is

-- a job that was read, room that was asked for, and a log that was read after it: a call that needs so many bytes and would write s
module _ (job log out : List ℕ) (need : ℕ) (s : List ℕ) where
  abbrev call : Written
  call = writes (call_fault job log out need) s out

  -- a refusal that is handed on leaves the buffer
  refuses : {r : Refusal} (a : Answer) → IsErrAnd a (λ e. e ≡ r) → call_fault job log out need ≡ some r
      → call ≡ record { answer = a; buffer = out }
  refuses a told q = hands_on a told (rw q)

  module _ (read : Result Job Refusal) (is : read ≡ read_job job) where
    pub job_refused : {r : Refusal} (a : Answer) → read ≡ Err r → IsErrAnd a (λ e. e ≡ r) → call ≡ record { answer = a; buffer = out }
    unfolding call_fault read_job
    job_refused a q told = refuses a told (stop _ (is_fault _ _ _ is q))

    module _ (value : Job) (ok : read ≡ Ok value) where
      -- the room that the code asks for is that which the call needs
      module _ (n : ℕ) (asks : n ≡ need) where
        pub no_room : length out < n → call ≡ record { answer = Err (ShortBuffer n); buffer = out }
        unfolding call_fault
        no_room h =
            let room : room_fault out need ≡ some (ShortBuffer n) = subst (λ m. room_fault out m ≡ some (ShortBuffer n)) asks (short out n h) in
            refuses _ refl (pass _ (job_fine job is ok) ∙ stop _ room)

        module _ (room : Answer) (told : room ≡ answered (room_fault out n)) where
          pub room_refused : {r : Refusal} (a : Answer) → room ≡ Err r → IsErrAnd a (λ e. e ≡ r) → call ≡ record { answer = a; buffer = out }
          unfolding call_fault
          room_refused {r} a q handed =
              let less : room_fault out need ≡ some r = rw asks at (is_fault _ _ _ told q) in
              refuses a handed (pass _ (job_fine job is ok) ∙ stop _ less)

          module _ {u : ⊤} (fits : room ≡ Ok u) (new : Result Job Refusal)
              (reads : Reads (log_fault log value) new (λ x. x ≡ renewed value (log_time value log))) where
            to_log : call_fault job log out need ≡ log_fault log value
            unfolding call_fault
            to_log =
                let enough : room_fault out need ≡ none = rw asks at (is_none _ _ _ told fits) in
                pass _ (job_fine job is ok) ∙ pass _ enough ∙ ap (log_fault log) (sym (job_is job is ok))

            pub log_refused : {r : Refusal} (a : Answer) → new ≡ Err r → IsErrAnd a (λ e. e ≡ r) → call ≡ record { answer = a; buffer = out }
            log_refused a q handed = refuses a handed (to_log ∙ reads_some reads q)

            pub no_fault : {x : Job} → new ≡ Ok x → call_fault job log out need ≡ none
            no_fault q = to_log ∙ reads_none reads q

-- both calls are such
module _ (job log out : List ℕ) where
  pub table_is : run_times job log out ≡ writes (call_fault job log out (table_length (job_at job))) (table_bytes job log) out
  unfolding run_times table_fault
  table_is = refl

  pub renew_is : renew_job job log out ≡ writes (call_fault job log out (length job)) (job_bytes (renewed_in job log)) out
  unfolding renew_job renew_fault
  renew_is = refl

pub table_small : (job : Job) → Sound job → nodes job * tasks job ≤ 1024
table_small job sound = mul-le-mul sound.nodes_most sound.tasks_most

-- the table of the renewed job is that of the times
table_renewed : (job : Job) (time : ℕ → ℕ → ℕ) → Sound job → table_numbers (renewed job time) (run (renewed job time)) ≡ table_numbers job time
unfolding table_numbers renewed
table_renewed job time sound =
    flat_same (tasks job) _ _ (λ j p. flat_same (nodes job) _ _ (λ n q. ap (λ v. v ∷ []) (run_renewed job time sound j n p q)))

module _ (job new : Job) (time : ℕ → ℕ → ℕ) (sound : Sound job) (is : new ≡ renewed job time) where
  pub table_needs : (size : ℕ) → table_length job ≤ size → (tasks new ≤ max_tasks) × (nodes new ≤ max_nodes) × (table_length new ≤ size)
  unfolding renewed
  table_needs size room = rw is (sound.tasks_most, sound.nodes_most, room)

  table_put : {out d : List ℕ} {end : ℕ} → Puts out 0 (table_numbers new (run new)) d end
      → pack (table_numbers job time) ++ drop (length (pack (table_numbers job time))) out ≡ d
  table_put {out} {d} puts =
      let numbers : table_numbers new (run new) ≡ table_numbers job time = rw is (table_renewed job time sound) in
      subst (λ vs. pack vs ++ drop (length (pack vs)) out ≡ d) numbers (put_front puts)

-- the renewed job is a sound one, of the length of the job
module _ (job log : List ℕ) (fine : job_fault job ≡ none) (read : log_fault log (job_at job) ≡ none) where
  pub new_sound : Sound (renewed_in job log)
  new_sound = let sound = job_promise job fine in renewed_sound (job_at job) _ sound (time_within log (job_at job) sound read)

  pub new_length : length (job_bytes (renewed_in job log)) ≡ length job
  unfolding renewed job_at
  new_length = sym (sound_job_length (renewed_in job log) new_sound) ∙ job_length_lem job (job_good job fine)

module _ (job log out : List ℕ) (fine : job_fault job ≡ none) (read : log_fault log (job_at job) ≡ none) (room : length job ≤ length out) where
  renew_writes : write_job (renewed_in job log) out ≡ writes none (job_bytes (renewed_in job log)) out
  unfolding write_job room_fault
  renew_writes =
      let written = sound_job_written (renewed_in job log) out (new_sound job log fine read) in
      let n = length (job_bytes (renewed_in job log)) in
      let enough : room_fault out n ≡ none =
      none_unless (leb n (length out)) (ShortBuffer n) (le-leb n (length out) (omega (arith, new_length job log fine read))) in
      rw (written, enough)

-- both calls, where the log was read
module _ (job log out : List ℕ) (read : Result Job Refusal) (is : read ≡ read_job job) (value : Job) (ok : read ≡ Ok value)
    (n : ℕ) (room : Answer) (told : room ≡ answered (room_fault out n)) {u : ⊤} (fits : room ≡ Ok u)
    (new : Result Job Refusal) (reads : Reads (log_fault log value) new (λ x. x ≡ renewed value (log_time value log)))
    (x : Job) (q : new ≡ Ok x) where
  same : value ≡ job_at job
  same = job_is job is ok

  pub table_written : n ≡ table_length value → {d : List ℕ} {end : ℕ} → Puts out 0 (table_numbers x (run x)) d end
      → run_times job log out ≡ record { answer = Ok tt; buffer = d }
  unfolding table_bytes
  table_written asks {d} puts =
      let bytes = table_bytes job log in
      let need : n ≡ table_length (job_at job) = asks ∙ table_asks job is ok in
      let fine = no_fault job log out _ bytes read is value ok n need room told fits new reads q in
      let put = table_put value x _ (job_sound job is ok) (reads_value reads q) puts in
      let numbers : bytes ≡ pack (table_numbers value (log_time value log)) = rw same in
      table_is job log out ∙ rw (fine, numbers) (ap (λ b. record { answer = Ok tt; buffer = b }) put)

  pub renew_written : n ≡ length job → length job ≤ length out → {a : Answer} {d : List ℕ} → write_job x out ≡ record { answer = a; buffer = d }
      → renew_job job log out ≡ record { answer = a; buffer = d }
  unfolding renew_job renew_fault
  renew_written asks enough wrote =
      let fine = no_fault job log out _ (job_bytes (renewed_in job log)) read is value ok n asks room told fits new reads q in
      let log_fine : log_fault log (job_at job) ≡ none = rw same at (reads_none reads q) in
      let new_is : x ≡ renewed_in job log = reads_value reads q ∙ rw same in
      rw fine (sym (renew_writes job log out (job_fine job is ok) log_fine enough)
      ∙ ap (λ y. write_job y out) (sym new_is) ∙ wrote)
