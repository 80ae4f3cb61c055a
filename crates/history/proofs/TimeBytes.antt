-- What the calls write where they answer 0: the time of task j on node n stands at 4 * (P * j + n), and the renewed job reads back.
use Prim.Native.Nat.{ℕ, ◌+◌, ◌*◌, ◌^◌, ◌≤◌, ◌<◌}
use mathlib.Core.List.{List, [], ◌∷◌}
use mathlib.Core.Option.{none, some}
use mathlib.Core.Path.{◌≡◌, refl, sym, ap, ◌∙◌, subst}
use lib.ListN.{length, get_or, take, drop}
use lib.Seq.{take_at}
use native.Mathlib.Nat.{mul-suc, mul-le-mul_left}
use native.Mathlib.Omega.{arith}
use Rattle.reader.specs.declared.refusal.Refusal.{Refusal}
use Rattle.reader.specs.Entries.{nodes, tasks}
use Rattle.reader.specs.Number.{number_at}
use Rattle.reader.specs.Refusals.{tell, result_number, FaultFits}
use Rattle.reader.specs.Sound.{Sound}
use Rattle.reader.specs.JobFile.{job_fault, job_at}
use Rattle.reader.proofs.FirstLaws.{or_else_l, or_else_r}
use Rattle.reader.proofs.FitLaws.{fits_or_else, fits_first, value_fits, node_fits, job_fits}
use Rattle.reader.proofs.LengthLaws.{job_most}
use Rattle.reader.proofs.PackingLaws.{result_done}
use Rattle.reader.proofs.Promise.{job_sound}
use Rattle.reader.proofs.RefusalLaws.{answered_done}
use Rattle.writer.specs.Write.{flat, job_bytes, writes}
use Rattle.writer.proofs.FilledJob.{read_filled, filled_job_reread}
use Rattle.writer.proofs.SoundReads.{sound_job_reads}
use Rattle.writer.proofs.WriteFits.{room_fits}
use Rattle.replay.proofs.BytesSurvive.{number_front}
use Rattle.replay.proofs.PackLaws.{length_rows, flat_at, row_number}
use Rattle.seqopchi.specs.Unpacks.{Unpacks}
use Rattle.seqopchi.proofs.Unpacked.{unpacks}
use Rattle.seqopchi.proofs.KeptBytes.{refused_kept, done_beyond}
use Rattle.history.specs.Log.{timing_fault, records, log_fault}
use Rattle.history.specs.Times.{log_time, table_numbers, table_length}
use Rattle.history.specs.Calls.{call_fault, table_fault, table_bytes, run_times, renew_fault, renewed_in, renew_job}
use Rattle.history.specs.Newest.{RenewedFile}
use Rattle.history.proofs.TableLaws.{length_row}
use Rattle.history.proofs.RenewedLaws.{renewed_filled, time_within}
use Rattle.history.proofs.CallLaws.{table_small, new_sound, new_length}

singles_at : (p : ℕ) (f : ℕ → ℕ) (n : ℕ) → n < p → get_or (flat p (λ i. f i ∷ [])) n 0 ≡ f n
singles_at p f n q =
    ap (λ k. get_or (flat p (λ i. f i ∷ [])) k 0) (let e : n ≡ 1 * n + 0 = omega arith in e)
    ∙ flat_at 1 (λ i. f i ∷ []) (λ i. refl) p n 0 q (omega arith)

pub table_length_lem : (job log : List ℕ) → length (table_bytes job log) ≡ table_length (job_at job)
unfolding table_bytes table_numbers
table_length_lem job log = length_rows (nodes (job_at job)) _ (λ j. length_row (nodes (job_at job)) (log_time (job_at job) log j)) (tasks (job_at job))

-- neither call writes on a refusal, nor beyond its output
module _ (job log out : List ℕ) where
  pub times_refused_keeps : (result_number (run_times job log out).answer ≡ 0 → ⊥) → (run_times job log out).buffer ≡ out
  unfolding run_times
  times_refused_keeps = refused_kept (table_fault job log out) (table_bytes job log) out

  pub times_keeps_beyond : let need = table_length (job_at job) in
      result_number (run_times job log out).answer ≡ 0 → drop need (run_times job log out).buffer ≡ drop need out
  unfolding run_times
  times_keeps_beyond = done_beyond (table_fault job log out) (table_bytes job log) out _ (table_length_lem job log)

  pub renew_refused_keeps : (result_number (renew_job job log out).answer ≡ 0 → ⊥) → (renew_job job log out).buffer ≡ out
  unfolding renew_job
  renew_refused_keeps = refused_kept (renew_fault job log out) (job_bytes (renewed_in job log)) out

-- no call that answers 0 found a fault
module _ (job log out : List ℕ) (need : ℕ) (s : List ℕ) (done : result_number (writes (call_fault job log out need) s out).answer ≡ 0) where
  none_at_all : call_fault job log out need ≡ none
  none_at_all = (answered_done (call_fault job log out need)).0 (result_done _ done)

  job_fine : job_fault job ≡ none
  unfolding call_fault
  job_fine = or_else_l _ _ none_at_all

  log_fine : log_fault log (job_at job) ≡ none
  unfolding call_fault
  log_fine = or_else_r _ _ (or_else_r _ _ none_at_all)

-- the table
module _ (job log out : List ℕ) (done : result_number (run_times job log out).answer ≡ 0) where
  pub time_bytes : (j n : ℕ) → j < tasks (job_at job) → n < nodes (job_at job)
      → number_at (run_times job log out).buffer (4 * (nodes (job_at job) * j + n)) ≡ log_time (job_at job) log j n
  unfolding run_times table_fault table_bytes table_numbers
  time_bytes j n p q =
      let s = table_bytes job log in
      let w = nodes (job_at job) in
      let time = log_time (job_at job) log in
      let sound : Sound (job_at job) = job_sound job (job_fine job log out _ s done) in
      let small = time_within log (job_at job) sound (log_fine job log out _ s done) j n p q in
      let there : get_or (flat w (λ i. time j i ∷ [])) n 0 ≡ time j n = singles_at w (time j) n q in
      ap (λ o. number_at (writes o s out).buffer (4 * (w * j + n))) (none_at_all job log out _ s done)
      ∙ number_front s _ (4 * (w * j + n)) (omega (arith, table_length_lem job log, mul-suc w j, mul-le-mul_left w p))
      ∙ row_number w (λ j. flat w (λ i. time j i ∷ [])) (λ j. length_row w (time j)) (tasks (job_at job)) j n p q (omega (arith, there, small))
      ∙ there

-- the renewed job
module _ (job log out : List ℕ) (done : result_number (renew_job job log out).answer ≡ 0) where
  pub renew_keeps_beyond : drop (length job) (renew_job job log out).buffer ≡ drop (length job) out
  unfolding renew_job renew_fault
  renew_keeps_beyond =
      let s = job_bytes (renewed_in job log) in
      done_beyond (renew_fault job log out) s out _ (new_length job log (job_fine job log out _ s done) (log_fine job log out _ s done)) done

  pub renewed_file : RenewedFile job log (take (length job) (renew_job job log out).buffer)
  unfolding renew_job renew_fault
  renewed_file =
      let s = job_bytes (renewed_in job log) in
      let fine = job_fine job log out _ s done in
      let read = log_fine job log out _ s done in
      let sound = new_sound job log fine read in
      let whole : take (length job) (writes (call_fault job log out (length job)) s out).buffer ≡ s =
      ap (λ o. take (length job) (writes o s out).buffer) (none_at_all job log out _ s done) ∙ take_at s _ (length job) (new_length job log fine read) in
      let filled = renewed_filled (job_at job) (log_time (job_at job) log) (job_sound job fine) (read_filled job fine) in
      subst (RenewedFile job log) (sym whole)
      (record { reads = sound_job_reads (renewed_in job log) sound; is = filled_job_reread (renewed_in job log) sound filled })

-- number and both places of every refusal can be taken back out of the result, for a log of up to 8 bytes less than 4 GiB
module _ (job log out : List ℕ) (short : length log + 8 ≤ 2 ^ 32) where
  log_fits : FaultFits (log_fault log (job_at job))
  unfolding log_fault timing_fault records
  log_fits =
      fits_first _ _ (λ k p.
      fits_or_else _ _ (value_fits log (12 * k) _ _ (omega arith)) (λ _.
      fits_or_else _ _ (node_fits log (12 * k + 4) _ _ (omega arith)) (λ _.
      value_fits log (12 * k + 8) _ _ (omega arith))))

  call_fits : (need : ℕ) → (job_fault job ≡ none → need < 2 ^ 32) → FaultFits (call_fault job log out need)
  unfolding call_fault
  call_fits need small = fits_or_else _ _ (job_fits job) (λ fine. fits_or_else _ _ (room_fits out need (small fine)) (λ _. log_fits))

  pub times_unpacks : (r : Refusal) → table_fault job log out ≡ some r → Unpacks (tell r) (result_number (run_times job log out).answer)
  unfolding run_times table_fault
  times_unpacks r e = unpacks _ (call_fits _ (λ fine. omega (arith, table_small (job_at job) (job_sound job fine)))) r e

  pub renew_unpacks : (r : Refusal) → renew_fault job log out ≡ some r → Unpacks (tell r) (result_number (renew_job job log out).answer)
  unfolding renew_job renew_fault
  renew_unpacks r e = unpacks _ (call_fits _ (λ fine. omega (arith, job_most job fine))) r e
