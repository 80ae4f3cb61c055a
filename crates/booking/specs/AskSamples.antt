-- The samples of request (iii) at the level of bytes: descriptions of a third task after J and its plan of sample 1, and bookings of it.
use Rattle.std.specs.Prelude.{ℕ, List, [], ◌∷◌}
use Rattle.reader.specs.declared.plan.Place.{Place}
use Rattle.reader.specs.Samples.{J, plan1}
use Rattle.writer.specs.Write.{pack, job_bytes, plan_bytes}
use Rattle.rules.specs.Attempts.{Attempt}
use Rattle.rules.specs.Asking.{Booked}
use Rattle.booking.specs.Asks.{ask_files, commit_files}

-- a task of run 2 on each of three nodes, fed by both others: its deadline, run times, link count, and from and delay of each link
abbrev pub third_file : ℕ → List ℕ
third_file deadline = pack (deadline ∷ 2 ∷ 2 ∷ 2 ∷ 2 ∷ 0 ∷ 1 ∷ 1 ∷ 3 ∷ [])

-- asked about, and booked, after the files of J and of that plan
abbrev pub ask_j : List ℕ → Attempt Place
ask_j task = ask_files (job_bytes J) (plan_bytes plan1) task

abbrev pub commit_j : List ℕ → Attempt Booked
commit_j booking = commit_files (job_bytes J) (plan_bytes plan1) booking
