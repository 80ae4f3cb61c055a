-- What the trial's call answers, for any bytes.
use Rattle.std.specs.Prelude.{ℕ, List, ◌⊎◌, ◌≡◌}
use Rattle.std.proofs.Math.Option.{Option, none, some}
use Rattle.reader.specs.declared.refusal.Refusal.{Refusal}
use Rattle.std.specs.Prelude.{Err}
use Rattle.reader.specs.Refusals.{told, packed, result_number}
use Rattle.reader.specs.JobFile.{job_at}
use Rattle.rules.specs.Trial.{Trial}
use Rattle.seqopchi.specs.Files.{plan_in, files_fault}

-- the result that says no: number 0 and first place 1, which is 256
abbrev pub says_no : ℕ
says_no = packed (told 0 1 0)

-- the result of a question: the fault of reading; else 0 where what is asked is so, and that of no where it is not
unfoldable pub Answers : Option Refusal → Type 0 → ℕ → Type 0
Answers (some f) asked r = r ≡ result_number (Err f)
Answers none asked r = ((r ≡ 0) × asked) ⊎ ((r ≡ says_no) × (asked → ⊥))

-- 'Unreadable files are refused as the judge does.' Of others it is asked whether the trial says yes
abbrev pub TrialAnswers : List ℕ → List ℕ → ℕ → Type 0
TrialAnswers job plan r = Answers (files_fault job plan) (Trial (job_at job) (plan_in job plan)) r
