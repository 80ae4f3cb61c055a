-- The trial and the judge agree where no primary and backup share time; elsewhere the judge refuses what the trial accepts only as overlap.
use Prim.Native.Nat.{ℕ, ◌<◌}
use mathlib.Core.Path.{◌≡◌, refl, ◌∙◌, ap}
use mathlib.Core.Logic.{◌↔◌}
use native.Mathlib.Omega.{arith}
use native.Mathlib.Decide.{dec_lt}
use Rattle.reader.specs.declared.job.Job.{Job}
use Rattle.reader.specs.declared.plan.Plan.{Plan}
use Rattle.reader.specs.declared.refusal.Refusal.{Refusal}
use Rattle.std.specs.Prelude.{Ok, Err}
use Rattle.reader.specs.Entries.{tasks}
use Rattle.reader.specs.Refusals.{tell}
use Rattle.reader.specs.Sound.{Sound, PlanSound}
use Rattle.reader.proofs.TestLaws.{clash, never, not_true, and_l, and_r, and_i, not_i}
use Rattle.rules.specs.declared.Loss.{Loss}
use Rattle.rules.specs.declared.Loss.TheVariants.{NoLoss}
use Rattle.rules.specs.Rules.{Row, rows, rule_g, rule_g_primary, rule_g_backup}
use Rattle.rules.specs.Judge.{judge}
use Rattle.rules.specs.Attempts.{placed}
use Rattle.rules.specs.Planner.{planner}
use Rattle.rules.specs.Replay.{started, TaskRun, replay}
use Rattle.rules.specs.Breach.{Everywhere, check, rule_number, Kept}
use Rattle.rules.specs.Survival.{primary, Survives}
use Rattle.rules.specs.Trial.{GoodRun, Trial, NoSharing, alike_apart, KeptApart}
use Rattle.rules.proofs.CopyLaws.{overlap_sym}
use Rattle.rules.proofs.FaultSetLaws.{rows_faults}
use Rattle.rules.proofs.JudgeLaws.{eight, found_none, found_some, judge_done, judge_refused}
use Rattle.rules.proofs.RunLaws.{early_finished}
use Rattle.rules.proofs.GoodKeeps.{good_kept}
use Rattle.rules.proofs.PassedSurvives.{planned_runs, passed_survives}
use Rattle.rules.proofs.PlannedPasses.{planned_sound, planned_passes}
use Rattle.rules.proofs.TrialMoments.{planned_loss}

-- where no primary and backup share time, all rules are kept
apart_kept : (job : Job) (plan : Plan) → NoSharing job plan → KeptApart job (rows job plan) → Kept job (rows job plan)
unfolding rule_g rule_g_primary rule_g_backup alike_apart
apart_kept job plan apart k =
    record {
      a = k.a;
      ready = k.ready;
      b = k.b;
      c = k.c;
      d = k.d;
      e = k.e;
      f = k.f;
      g = λ i j p q.
          let pi : i < tasks job = omega arith in
          let alike = k.g i j p q in
          and_i _ _
          (and_i _ _ (and_l _ _ alike) (not_i _ (not_true _ (λ h. clash _ (overlap_sym _ _ ∙ h) (apart j i q pi)))))
          (and_i _ _ (not_i _ (apart i j pi q)) (and_r _ _ alike));
    }

-- the rules before G hold everywhere
apart_checks : (job : Job) (t : ℕ → Row) → KeptApart job t → (n : ℕ) → n < 8 → n < 7 → Everywhere job (check job t n)
apart_checks job t k =
    eight (λ n. n < 7 → Everywhere job (check job t n))
    (λ p. k.a) (λ p. k.ready) (λ p. k.b) (λ p. k.c) (λ p. k.d) (λ p. k.e) (λ p. k.f) (λ p. absurd (let z : ⊥ = omega arith in z))

-- a run that is survived is good
survives_good : (job : Job) (t : ℕ → Row) (loss : Loss) (x : ℕ → TaskRun) → Survives job t loss x → GoodRun job t loss x
survives_good job t loss x s = record { done = s.finish_least; by_deadline = s.finish_most; apart = s.apart }

module _ (job : Job) (plan : Plan) (sound : Sound job) (plan_sound : PlanSound job plan) where
  -- a plan that the trial accepts keeps all rules, but that a primary and a backup may share time
  pub trial_keeps : Trial job plan → KeptApart job (rows job plan)
  unfolding replay
  trial_keeps w =
      good_kept job sound (rows job plan) (rows_faults job sound plan) (planned_runs job plan plan_sound)
      w.primaries (w.good NoLoss tt) (λ j p. w.good _ (planned_loss job plan plan_sound j p))

  -- one that the judge passes is accepted, whatever shares time
  pub passed_trial : judge job plan ≡ Ok tt → Trial job plan
  unfolding replay started
  passed_trial h =
      let k = (judge_done job plan).0 h in
      record {
        primaries = λ j p.
            early_finished job sound (rows job plan) NoLoss (rows job plan j).primary.finish (λ m pm le. refl)
            (λ m pm. planned_runs job plan plan_sound m primary pm) k.ready k.d j p (omega arith);
        good = λ loss o. survives_good job _ loss _ (passed_survives job plan sound plan_sound h loss o);
      }

  -- 'On plans in which no primary overlaps any backup placed on the same node, the trial and the judge must agree, yes for yes and no for no.'
  pub trial_agrees : NoSharing job plan → Trial job plan ↔ (judge job plan ≡ Ok tt)
  trial_agrees apart = (λ w. (judge_done job plan).1 (apart_kept job plan apart (trial_keeps w)), passed_trial)

  -- what the trial accepts and the judge does not is refused as overlap
  pub trial_refused : Trial job plan → (r : Refusal) → judge job plan ≡ Err r → (tell r).number ≡ 14
  trial_refused w r refused =
      let b = (judge_refused job plan r).0 refused in
      elim (dec_lt b.rule 7) [
        | yes below ↦
            let holds = apart_checks job _ (trial_keeps w) b.rule (omega arith) below in
            let None-found = (found_none job (check job (rows job plan) b.rule)).1 holds in
            let some_found = (found_some job (check job (rows job plan) b.rule) r).1 b.broken in
            never (cc)
        | no not_below ↦ let e : b.rule ≡ 7 = omega (arith, b.known) in b.number ∙ ap rule_number e
      ]

-- so the planner's plans are accepted
pub planned_trial : (job : Job) → Sound job → (plan : Plan) → planner job ≡ placed plan → Trial job plan
planned_trial job sound plan h = passed_trial job plan sound (planned_sound job sound plan h) (planned_passes job sound plan h)
