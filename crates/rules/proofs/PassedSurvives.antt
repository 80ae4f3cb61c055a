-- A plan that the judge passes survives any one loss: demand 3.
use Prim.Native.Nat.{ℕ, ◌<◌}
use mathlib.Core.Bool.{Bool}
use mathlib.Core.Path.{◌≡◌, refl, ap}
use borrow.Author.Tests.{leb-true, eq-eqb}
use native.Mathlib.Omega.{arith}
use Rattle.reader.specs.declared.job.Job.{Job}
use Rattle.reader.specs.declared.plan.Plan.{Plan}
use Rattle.std.specs.Prelude.{Ok}
use Rattle.reader.specs.Entries.{tasks, link}
use Rattle.reader.specs.Sound.{Sound, PlanSound}
use Rattle.reader.proofs.TestLaws.{clash, and_l, and_r, imp_e, not_e}
use Rattle.rules.specs.declared.Loss.{Loss}
use Rattle.rules.specs.Copies.{copy, domain}
use Rattle.rules.specs.Rules.{Row, strong, fault_set, rows, rule_a, rule_b, rule_c, rule_d, rule_e, rule_f, rule_g}
use Rattle.rules.specs.Judge.{judge}
use Rattle.rules.specs.Replay.{replay}
use Rattle.rules.specs.Survival.{LossOf, Role, primary, backup, copy_of, Survives}
use Rattle.rules.specs.Breach.{KeptWith, Kept}
use Rattle.rules.specs.Firm.{Firm, Clear}
use Rattle.rules.proofs.FaultSetLaws.{rows_faults, faults_here, faults_over, row_primary, row_backup}
use Rattle.rules.proofs.JudgeLaws.{judge_done}
use Rattle.rules.proofs.LossLaws.{struck_both, from_start, called_apart}
use Rattle.rules.proofs.FirmSurvives.{firm_survives}

-- rows that keep the rules of tasks and links are firm
pub kept_firm : {pair : Row → Row → Bool} (job : Job) (t : ℕ → Row)
    → ((j : ℕ) → j < tasks job → (t j).faults ≡ fault_set job t j (t j).primary)
    → ((j : ℕ) (a : Role) → j < tasks job → (copy_of a (t j)).start < (copy_of a (t j)).finish)
    → Sound job → KeptWith job pair t → Firm job t (λ j. (t j).faults) 0
unfolding rule_b rule_c rule_d rule_e rule_f strong
kept_firm job t own runs sound k =
    record {
      here = λ j p m. rw (own j p) (faults_here job t j (t j).primary _ (eq-eqb (domain job (t j).primary.node) _ refl));
      away = λ j p. not_e _ (k.f j p);
      carried = λ m q pm h late. rw (own _ (sound.into m pm)) (faults_over job t _ _ q m pm (eq-eqb (link job m).to _ refl) late h);
      feeds_primary = k.d;
      feeds_backup = λ m pm. and_l _ _ (k.e m pm);
      backup_feeds = λ m loss pm of_job h g. imp_e _ _ (and_r _ _ (k.e m pm)) (struck_both job sound loss _ _ of_job h g);
      ready = k.ready;
      detected = k.b;
      primary_runs = λ j p. runs j primary p;
      backup_runs = λ j p. runs j backup p;
      primary_by = λ j p. let run = runs j backup p in let b = k.b j p in let c = k.c j p in omega (arith, leb-true);
      backup_by = λ j p. let c = k.c j p in omega (arith, leb-true);
    }

-- and those that keep G too are clear
pub kept_clear : (job : Job) → Sound job → (t : ℕ → Row) → Kept job t → Clear job t (λ j. (t j).faults)
unfolding rule_a rule_g
kept_clear job sound t k =
    record {
      between = λ i j a b loss p q of_job h g.
          let rule = k.g i j p q in
          called_apart job sound _ _ a b loss of_job (and_l _ _ rule) (and_r _ _ rule) h g;
      alone = λ j p e. clash _ (eq-eqb (domain job (t j).primary.node) _ (ap (domain job) e)) (not_e _ (k.a j p));
    }

-- the copies of a plan that reads well run
pub planned_runs : (job : Job) (plan : Plan) → PlanSound job plan
    → (j : ℕ) (a : Role) → j < tasks job → (copy_of a (rows job plan j)).start < (copy_of a (rows job plan j)).finish
unfolding copy
planned_runs job plan s j primary p = rw (row_primary job plan (tasks job) j p) (omega (arith, s.primary_able j p))
planned_runs job plan s j backup p = rw (row_backup job plan (tasks job) j p) (omega (arith, s.backup_able j p))

-- a plan that reads well and is passed is firm
pub passed_firm : (job : Job) (plan : Plan) → Sound job → PlanSound job plan → judge job plan ≡ Ok tt
    → Firm job (rows job plan) (λ j. (rows job plan j).faults) 0
passed_firm job plan sound plan_sound passed =
    kept_firm job _ (rows_faults job sound plan) (planned_runs job plan plan_sound) sound ((judge_done job plan).0 passed)

pub passed_clear : (job : Job) (plan : Plan) → Sound job → judge job plan ≡ Ok tt → Clear job (rows job plan) (λ j. (rows job plan j).faults)
passed_clear job plan sound passed = kept_clear job sound _ ((judge_done job plan).0 passed)

-- so it survives: with no loss, and with any group of the job lost at any tick
pub passed_survives : (job : Job) (plan : Plan) → Sound job → PlanSound job plan → judge job plan ≡ Ok tt
    → (loss : Loss) → LossOf job loss → Survives job (rows job plan) loss (replay job plan loss)
unfolding replay
passed_survives job plan sound plan_sound passed loss of_job =
    firm_survives job sound (rows job plan) _ 0 (passed_firm job plan sound plan_sound passed) loss of_job (from_start loss)
    (passed_clear job plan sound passed)
