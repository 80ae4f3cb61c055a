-- Laws of both files, read and judged, the job where it lies: a refusal, or the plan of it.
use Prim.Native.Nat.{ℕ}
use mathlib.Core.Path.{◌≡◌, sym, ap, ap₂, ◌∙◌}
use mathlib.Core.List.{List}
use mathlib.Core.Option.{some}
use Rattle.std.specs.Prelude.{Result, Ok, Err, IsErrAnd}
use Rattle.reader.specs.declared.job.Job.{Job}
use Rattle.reader.specs.declared.plan.Plan.{Plan}
use Rattle.reader.specs.declared.refusal.Refusal.{Refusal}
use Rattle.reader.specs.Refusals.{Answer, resulted}
use Rattle.reader.specs.JobFile.{job_at}
use Rattle.reader.proofs.NumberLaws.{is_none, is_fault}
use Rattle.reader.proofs.Chain.{stop, given}
use Rattle.rules.specs.Judge.{judge}
use Rattle.seqopchi.specs.Files.{plan_in, files_fault, judge_files}
use Rattle.seqopchi.proofs.ReadLaws.{FilesDone, judged}
use Rattle.asking.specs.Calls.{with_job}
use Rattle.booking.proofs.AskCalls.{err_is, refused_pair}

module _ (file plan : List ℕ) where
  abbrev Passed : Result Plan Refusal → Job → Type 0
  Passed w job = ◌≡◌ {A = Result (Job × Plan) Refusal} (with_job w job) (resulted (judge_files file plan) (job_at file, plan_in file plan))

  bad : {r : Refusal} → judge_files file plan ≡ some r → (w : Result Plan Refusal) → IsErrAnd w (λ e. e ≡ r) → (job : Job) → Passed w job
  bad q w h job = refused_pair job (err_is w h) ∙ sym (ap (λ o. resulted o (job_at file, plan_in file plan)) q)

  pub unread : {r : Refusal} → files_fault file plan ≡ some r → (w : Result Plan Refusal) → IsErrAnd w (λ e. e ≡ r) → (job : Job) → Passed w job
  unfolding judge_files
  unread q = bad (stop _ q)

  module _ {job : Job} {x : Plan} (d : FilesDone file plan job x) {a : Answer} (is : a ≡ judge job x) where
    pub unpassed : {r : Refusal} → a ≡ Err r → (w : Result Plan Refusal) → IsErrAnd w (λ e. e ≡ r) → (held : Job) → Passed w held
    unpassed q = bad (is_fault _ _ _ (judged _ _ _ _ d _ is) q)

    pub passed : a ≡ Ok tt → Passed (Ok x) job
    passed q = given _ (is_none _ _ _ (judged _ _ _ _ d _ is) q) (ap₂ (λ j p. (j, p)) d.job_is d.plan_is)
