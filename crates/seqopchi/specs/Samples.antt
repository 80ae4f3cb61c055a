-- The starred samples of document 01 at the level of bytes: each question of their table put to a call as files.
use Rattle.std.specs.Prelude.{ℕ, List, [], ◌∷◌, ◌++◌, length, drop, replicate}
use Rattle.std.proofs.Math.Option.{Option, none, some}
use Rattle.reader.specs.Entries.{tasks}
use Rattle.reader.specs.Refusals.{answered, packed, result_number}
use Rattle.writer.specs.Write.{pack, job_bytes, plan_bytes, Written}
use Rattle.rules.specs.Samples.{Question, plans, judges, replays, replays_times, is_strong, times_of, Outcome, planned, passed, declined, ran, is, Sample}
use Rattle.replay.specs.TimesFile.{times_bytes}
use Rattle.seqopchi.specs.Files.{judge_files, plan_file, replay_files}

-- what a call gives: its 8-byte result, and the buffer
pub record Given : Type 0 where
  pub number : ℕ
  pub buffer : List ℕ

abbrev pub gave : ℕ → List ℕ → Option Given
gave n buffer = some (record { number = n; buffer = buffer })

-- the buffer that is lent: two bytes more than the output of two tasks needs
abbrev pub lent : Question → List ℕ
lent (plans job) = replicate 42 165
lent (judges job plan) = []
lent (replays job plan loss) = replicate 26 165
lent (replays_times job plan l loss) = replicate 26 165
lent (is_strong job plan k) = []

abbrev pub written : Written → Option Given
written w = gave (result_number w.answer) w.buffer

-- the call of a question; none tells of a single link
abbrev pub called : Question → Option Given
called (plans job) = written (plan_file (job_bytes job) (lent (plans job)))
called (judges job plan) = gave (result_number (answered (judge_files (job_bytes job) (plan_bytes plan)))) []
called (replays job plan loss) = written (replay_files (job_bytes job) (plan_bytes plan) loss none (lent (replays job plan loss)))
called (replays_times job plan l loss) =
    let list = times_bytes (times_of l) (tasks job) in
    written (replay_files (job_bytes job) (plan_bytes plan) loss (some list) (lent (replays_times job plan l loss)))
called (is_strong job plan k) = none

-- an output, and the bytes behind it as they were
abbrev pub over : List ℕ → List ℕ → List ℕ
over out s = s ++ drop (length s) out

-- what the answer of the table is as a result and a buffer
abbrev pub due : Question → Outcome → Option Given
due q (planned plan) = gave 0 (over (lent q) (plan_bytes plan))
due q passed = gave 0 (lent q)
due q (declined t) = gave (packed t) (lent q)
due q (ran a b) = gave 0 (over (lent q) (pack (a.primary ∷ a.backup ∷ a.finish ∷ b.primary ∷ b.backup ∷ b.finish ∷ [])))
due q (is b) = none

abbrev pub calls : List Sample → List (Option Given)
calls [] = []
calls (s ∷ l) = called s.question ∷ calls l

abbrev pub dues : List Sample → List (Option Given)
dues [] = []
dues (s ∷ l) = due s.question s.answer ∷ dues l
