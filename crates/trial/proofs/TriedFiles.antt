-- The trial at the level of bytes: what its call answers, and beside it what the judge's call does.
use Prim.Native.Nat.{ℕ}
use mathlib.Core.Bool.{Bool, true, false}
use mathlib.Core.List.{List}
use mathlib.Core.Logic.{◌↔◌, inl, inr, ⊎_elim}
use mathlib.Core.Option.{none, some}
use mathlib.Core.Path.{◌≡◌, refl, sym, ◌∙◌, ap, subst}
use native.Mathlib.Omega.{arith}
use Rattle.reader.specs.declared.job.Job.{Job}
use Rattle.reader.specs.declared.plan.Plan.{Plan}
use Rattle.reader.specs.declared.refusal.Refusal.{Refusal}
use Rattle.std.specs.Prelude.{Ok, Err}
use Rattle.reader.specs.JobFile.{job_at}
use Rattle.reader.specs.Refusals.{tell, packed, answered, result_number}
use Rattle.reader.specs.Sound.{Sound, PlanSound}
use Rattle.reader.proofs.TestLaws.{clash}
use Rattle.reader.proofs.PackingLaws.{result_done}
use Rattle.reader.proofs.Chain.{pass, stop}
use Rattle.rules.specs.Judge.{judge}
use Rattle.rules.specs.Trial.{Trial, NoSharing}
use Rattle.rules.proofs.TrialAgrees.{passed_trial, trial_agrees, trial_refused}
use Rattle.seqopchi.specs.Files.{plan_in, files_fault, judge_files}
use Rattle.seqopchi.specs.Unpacks.{Unpacks}
use Rattle.seqopchi.proofs.ReadLaws.{FilesDone, files_sound}
use Rattle.seqopchi.proofs.Unpacked.{judge_unpacks}
use Rattle.trial.specs.Calls.{Answers, TrialAnswers}

-- a file is refused, and that is handed on
pub tried_stops : (file plan : List ℕ) {r : Refusal} (n : ℕ) → files_fault file plan ≡ some r → n ≡ result_number (Err r)
    → TrialAnswers file plan n
unfolding Answers
tried_stops file plan n bad e = rw bad e

-- both read well, and the plan is tried
pub tried_good : (file plan : List ℕ) (job : Job) (places : Plan) → FilesDone file plan job places → {v : Bool} → (v ≡ true) ↔ Trial job places
    → (v ≡ true) ↔ Trial (job_at file) (plan_in file plan)
tried_good file plan job places d {v} is =
    subst (λ p. (v ≡ true) ↔ Trial (job_at file) p) d.plan_is (subst (λ j. (v ≡ true) ↔ Trial j places) d.job_is is)

module _ (file plan : List ℕ) (fine : files_fault file plan ≡ none) {v : Bool} (good : (v ≡ true) ↔ Trial (job_at file) (plan_in file plan)) where
  pub tried_yes : v ≡ true → TrialAnswers file plan 0
  unfolding Answers
  tried_yes e = rw fine (inl (refl, good.0 e))

  pub tried_no : v ≡ false → TrialAnswers file plan 256
  unfolding Answers packed
  tried_no e = rw fine (inr (refl, λ t. clash _ (good.1 t) e))

-- what both calls answer to one pair of files
module _ (file plan : List ℕ) (n : ℕ) (answers : TrialAnswers file plan n) where
  abbrev judged : ℕ
  judged = result_number (answered (judge_files file plan))

  -- 'Unreadable files are refused as the judge does.'
  pub refused_alike : (r : Refusal) → files_fault file plan ≡ some r → n ≡ result_number (answered (judge_files file plan))
  unfolding Answers judge_files
  refused_alike r bad = (rw bad at answers) ∙ sym (ap (λ f. result_number (answered f)) (stop _ bad))

  -- so number and both places of a refusal can be taken back out of the result
  pub tried_unpacks : (r : Refusal) → files_fault file plan ≡ some r → Unpacks (tell r) n
  unfolding judge_files
  tried_unpacks r bad = subst (Unpacks (tell r)) (sym (refused_alike r bad)) (judge_unpacks file plan r (stop _ bad))

  module _ (fine : files_fault file plan ≡ none) where
    -- 0 exactly if the trial says yes
    pub yes_is : (n ≡ 0) ↔ Trial (job_at file) (plan_in file plan)
    unfolding Answers packed
    yes_is =
        ⊎_elim
        (λ w. (λ e. w.1, λ t. w.0))
        (λ w. (λ e. absurd (let z : ⊥ = omega (arith, w.0) in z), λ t. absurd (w.1 t)))
        (rw fine at answers)

    -- and the judge's call 0 exactly if it passes the plan
    passed_is : (judged ≡ 0) ↔ (judge (job_at file) (plan_in file plan) ≡ Ok tt)
    unfolding judge_files judge
    passed_is = (
      λ e. sym (ap answered (pass _ fine)) ∙ result_done _ e,
      λ e. ap result_number (ap answered (pass _ fine) ∙ e),
    )

    abbrev sound : Sound (job_at file) × PlanSound (job_at file) (plan_in file plan)
    sound = files_sound file plan fine

    -- 'On plans in which no primary overlaps any backup placed on the same node, the trial and the judge must agree, yes for yes and no for no.'
    pub calls_agree : NoSharing (job_at file) (plan_in file plan) → (n ≡ 0) ↔ (result_number (answered (judge_files file plan)) ≡ 0)
    calls_agree apart =
        let agrees = trial_agrees _ _ sound.0 sound.1 apart in
        (λ e. passed_is.1 (agrees.0 (yes_is.0 e)), λ e. yes_is.1 (agrees.1 (passed_is.0 e)))

    -- whatever shares time: what the judge's call passes the trial's does
    pub passed_tried : result_number (answered (judge_files file plan)) ≡ 0 → n ≡ 0
    passed_tried e = yes_is.1 (passed_trial _ _ sound.0 sound.1 (passed_is.0 e))

    -- and where the trial's call says yes the judge's refuses 14 alone
    pub tried_refused : n ≡ 0 → (r : Refusal) → judge_files file plan ≡ some r → (tell r).number ≡ 14
    unfolding judge_files judge
    tried_refused e r h = trial_refused _ _ sound.0 sound.1 (yes_is.0 e) r (ap answered (sym (pass _ fine) ∙ h))
